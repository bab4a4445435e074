-- `vowels::walk::last_vowel` meets its contract. The walk's invariant: what is left to walk has the last vowel of all of it. The
-- measure is the place. Assumes nothing.
use Prim.Native.Nat.{◌≤◌}
use mathlib.Core.Path.{◌≡◌}
use Rattle.vowels.specs.LastVowel.{last_vowel_answer}
use Rattle.vowels.proofs.walk.last_vowel.Given as goal

abbrev pub invariant-gopast : goal.invariant-gopast
invariant-gopast l = (l.at ≤ l.c) × (last_vowel_answer l.w l.at ≡ last_vowel_answer l.w l.c)

abbrev pub decreases-gopast : goal.decreases-gopast
decreases-gopast l = l.at
