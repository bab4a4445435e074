-- `encoding::plain::skip_plain` meets its contract. The loop's invariant: the run from the place on ends where the run from the start does.
-- The measure is what is left of the word. Assumes nothing.
use Prim.Native.Nat.{◌-◌, ◌≤◌}
use mathlib.Core.Path.{◌≡◌}
use lib.ListN.{length}
use Rattle.encoding.specs.PlainRuns.{run_end_of}
use Rattle.encoding.proofs.plain.skip_plain.Given as goal

abbrev pub invariant-loop-i : goal.invariant-loop-i
invariant-loop-i g l = record { within : l.i ≤ length l.w; same_run : run_end_of l.w l.i ≡ run_end_of l.w l.from }

abbrev pub decreases-loop-i : goal.decreases-loop-i
decreases-loop-i g l = length l.w - l.i
