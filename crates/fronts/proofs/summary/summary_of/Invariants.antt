-- `fronts::summary::summary_of` meets its contract. The loop's invariant: it has passed some of the front's characters, the record stands behind
-- them, and the summary is theirs. The measure is what is left of the front's bytes. Assumes nothing.
use Prim.Native.Nat.{◌-◌}
use lib.ListN.{length}
use Rattle.fronts.proofs.Laws.Summaries.{Passed}
use Rattle.fronts.proofs.summary.summary_of.Given as goal

abbrev pub invariant-loop-p : goal.invariant-loop-p
invariant-loop-p l = Passed l.front l.s l.c

abbrev pub decreases-loop-p : goal.decreases-loop-p
decreases-loop-p l = length l.front - l.c.cursor
