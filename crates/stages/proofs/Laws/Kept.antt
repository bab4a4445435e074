-- The text that the stage keeps lies within the word. Assumes nothing.
use Prim.Native.Nat.{ℕ, ◌≤◌}
use mathlib.Core.Path.{◌≡◌}
use mathlib.Core.List.{List}
use lib.ListN.{length, take, length-take}
use native.Mathlib.Omega.{arith}
use Rattle.utf8.proofs.Laws.Characters.{back-le}
use Rattle.turkish.specs.Calls.{chars}
use Rattle.theorems.specs.Simple.Stage.{stage, kept_length}
use Rattle.stages.specs.declared.stage.Outcome.{Outcome}
use Rattle.stages.specs.Outcome.{outcome_of}

-- the text kept is within the word
pub kept-le : (w : List ℕ) (s : Outcome) → s ≡ outcome_of w → s.kept ≤ length w
unfolding outcome_of kept_length
kept-le w s q = rw q (back-le w (length w) (stage (chars w)).removed)

-- and as long as the stage says
pub kept-length-take : (w : List ℕ) (s : Outcome) → s ≡ outcome_of w → s.kept ≡ length (take s.kept w)
kept-length-take w s q = omega (arith, length-take s.kept w, kept-le w s q)
