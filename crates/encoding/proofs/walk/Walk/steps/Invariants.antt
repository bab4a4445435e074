-- `encoding::walk::Walk::steps` meets its contract. The loop's invariant: the word is the same. The measure is what is left of it.
-- Assumes nothing.
use Prim.Native.Nat.{◌-◌}
use mathlib.Core.Path.{◌≡◌}
use lib.ListN.{length}
use Rattle.encoding.proofs.walk.Walk.steps.Given as goal

abbrev pub invariant-loop-walk : goal.invariant-loop-walk
invariant-loop-walk g l = l.walk.word.now ≡ l.self.word.now

abbrev pub decreases-loop-walk : goal.decreases-loop-walk
decreases-loop-walk g l = length l.walk.word.now - l.walk.at
