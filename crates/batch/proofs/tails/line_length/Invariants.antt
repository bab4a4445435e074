-- `batch::tails::line_length` meets its contract. The loop's invariant: the bytes passed are none, so the line is as many longer than the one
-- from there on. Assumes nothing.
use Prim.Native.Nat.{◌+◌}
use mathlib.Core.Path.{◌≡◌}
use lib.ListN.{length, drop}
use Rattle.batch.specs.Tails.{line_of}
use Rattle.batch.proofs.tails.line_length.Given as goal

abbrev pub invariant-loop-i : goal.invariant-loop-i
invariant-loop-i l = l.i + length (line_of (drop l.i l.rest)) ≡ length (line_of l.rest)
