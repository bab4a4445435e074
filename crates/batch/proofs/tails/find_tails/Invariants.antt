-- `batch::tails::find_tails` meets its contract. The loop's invariant: what is found of the lines before the place and what the rest has are
-- what all have. The measure is what is left of the slice. Assumes nothing.
use Prim.Native.Nat.{◌-◌}
use lib.ListN.{length}
use Rattle.batch.proofs.Laws.Tails.{Found}
use Rattle.batch.proofs.tails.find_tails.Given as goal

abbrev pub invariant-loop-at : goal.invariant-loop-at
invariant-loop-at l = Found l.slice l.ends l.count l.longest l.short l.at

abbrev pub decreases-loop-at : goal.decreases-loop-at
decreases-loop-at l = length l.slice - l.at
