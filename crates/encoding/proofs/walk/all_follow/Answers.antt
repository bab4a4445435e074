-- `encoding::walk::all_follow` meets its contract. The loop's invariant: what passed so far and the walk from the place are the walk from
-- the start. Assumes nothing.
use Prim.Native.Nat.{ℕ, ◌+◌}
use mathlib.Core.Path.{◌∙◌, ap}
use native.Mathlib.Nat.{add-sub_cancel_left}
use native.Mathlib.Omega.{arith}
use lib.ListN.{drop}
use Rattle.encoding.specs.Walked.{byte_before, short_next}
use Rattle.encoding.proofs.Laws.Walked.{next-at, next-end}
use Rattle.encoding.proofs.walk.all_follow.Goals as goal

pub loop-i-init : goal.loop-i-init
loop-i-init g c =
    let w = c.args.w.now in
    let i = c.args.from in
    ap (λ (n : ℕ). short_next n (byte_before w i) (drop i w)) (add-sub_cancel_left i g.row.N)

pub loop-i-preserved : goal.loop-i-preserved
loop-i-preserved g c =
    let l = c.loop-i in
    next-at c.args.w.now l.i (c.args.from + g.row.N) l.ok _ (omega arith) c.loop-i-test.true c.requires.in_bounds c.may_follow-ok.ensures ∙ l.invariant

pub returns : goal.returns
returns g c = let l = c.loop-i in next-end l.i (c.args.from + g.row.N) _ _ l.ok c.loop-i-test.false ∙ l.invariant
