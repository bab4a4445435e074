-- `writing::put::put_bytes` meets its contract: the part copied into the output is the text written; of no bytes nothing is written. Assumes
-- nothing.
use Prim.Native.Nat.{ℕ}
use mathlib.Core.Path.{sym, ap, ◌∙◌}
use lib.ListN.{take}
use Rattle.writing.specs.Put.{put}
use Rattle.writing.proofs.Laws.Put.{put-nothing, put-copied}
use Rattle.writing.proofs.put.put_bytes.Goals as goal

pub returns-then-n-eq0-clause-out_after : goal.returns-then-n-eq0-clause-out_after
returns-then-n-eq0-clause-out_after c =
    put-nothing _ _ ∙ ap (λ (k : ℕ). put c.args.at (take k c.args.s.now) c.args.out.now) (sym c.if-n-eq0.true)

pub returns-clause-out_after : goal.returns-clause-out_after
returns-clause-out_after c = put-copied _ _ _ _ c.requires.n_in_bounds c.copy_from_slice.ensures.after
