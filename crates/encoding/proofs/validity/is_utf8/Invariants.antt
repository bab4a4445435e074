-- `encoding::validity::is_utf8` meets its contract. The loop's invariant: the check of the rest is the check of the word. The measure is
-- the rest's length. Assumes nothing.
use mathlib.Core.Path.{◌≡◌}
use lib.ListN.{length}
use Rattle.encoding.specs.Validity.{is_text}
use Rattle.encoding.proofs.validity.is_utf8.Given as goal

abbrev pub invariant-loop-rest : goal.invariant-loop-rest
invariant-loop-rest l = is_text l.rest ≡ is_text l.w

abbrev pub decreases-loop-rest : goal.decreases-loop-rest
decreases-loop-rest l = length l.rest
