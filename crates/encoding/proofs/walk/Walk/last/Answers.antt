-- `encoding::walk::Walk::last` meets its contract: what is walked to the place and from before it to the end is walked to the end.
-- Assumes nothing.
use Prim.Native.Nat.{◌-◌}
use mathlib.Core.Path.{sym, ◌∙◌}
use native.Mathlib.Nat.{le_refl}
use native.Mathlib.Omega.{arith}
use lib.ListN.{length}
use Rattle.encoding.proofs.Laws.Walked.{walked_to}
use Rattle.encoding.proofs.walk.Walk.last.Goals as goal

pub invariant_of-result : goal.invariant_of-result
invariant_of-result g c =
    let s = c.args.self in
    let w = s.word.now in
    let n = length w in
    record {
      begun = omega (arith, c.requires.long);
      within = le_refl n;
      over = walked_to w s.at (n - g.row.N) g.row.N n (omega (arith, c.requires.few)) (omega (arith, c.requires.long)) s.over (sym c.all_follow.ensures ∙ c.if-all_follow.true);
    }
