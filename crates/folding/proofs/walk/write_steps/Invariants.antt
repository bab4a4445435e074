-- `folding::walk::write_steps` meets its contract. The loop's invariant: the fold of what was passed is written, `at` is its end, and there is room
-- for the rest. The measure is what is left of the word. Assumes nothing.
use Prim.Native.Nat.{◌-◌, ◌≤◌}
use mathlib.Core.Path.{◌≡◌}
use lib.ListN.{length}
use Rattle.folding.proofs.Laws.Walks.{Reached}
use Rattle.folding.proofs.walk.write_steps.Given as goal

abbrev pub invariant-loop-i : goal.invariant-loop-i
invariant-loop-i l = (l.i ≤ length l.w) × (length l.out ≡ length l.initial.out) × Reached l.w l.initial.out l.out l.at l.i

abbrev pub decreases-loop-i : goal.decreases-loop-i
decreases-loop-i l = length l.w - l.i
