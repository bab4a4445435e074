-- `batch::tails::line_at` meets its contract. The loop's invariant: what remains of the line ends where the line ends, and has the
-- characters that are not counted yet. The measure is what is left of the slice. Assumes nothing.
use Prim.Native.Nat.{◌-◌}
use lib.ListN.{length}
use Rattle.batch.proofs.Laws.Tails.{Remains}
use Rattle.batch.proofs.tails.line_at.Given as goal

abbrev pub invariant-loop-at : goal.invariant-loop-at
invariant-loop-at l = Remains l.w l.from l.at l.chars

abbrev pub decreases-loop-at : goal.decreases-loop-at
decreases-loop-at l = length l.w - l.at
