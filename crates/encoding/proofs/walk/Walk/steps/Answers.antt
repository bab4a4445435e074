-- `encoding::walk::Walk::steps` meets its contract: each step is a walk on from the last. Assumes nothing.
use Prim.Native.Nat.{◌+◌}
use mathlib.Core.Path.{refl, sym, ◌∙◌}
use native.Mathlib.Nat.{le_refl}
use native.Mathlib.Omega.{arith}
use Rattle.encoding.proofs.Laws.Walked.{walked_to}
use Rattle.encoding.proofs.walk.Walk.steps.Goals as goal

pub invariant_of-skip : goal.invariant_of-skip
invariant_of-skip g c =
    let k = c.loop-walk.walk in
    let n = g.row.N in
    record {
      begun = omega (arith, k.begun);
      within = omega (arith, c.left.ensures, c.loop-walk-test.true, c.requires, k.begun);
      over = walked_to k.word.now k.at k.at n (k.at + n) (le_refl k.at) refl k.over (sym c.all_follow.ensures ∙ c.if-all_follow.true);
    }
