-- `vowels::harmony::check_vowel_harmony` meets its contract. The first loop's invariant: what is found from here on is what is found from
-- c on; the second's: what is sought from here on, with what was skipped so far, is what is found from c on, and v is the vowel with its
-- partners. The measure is the place. Assumes nothing.
use Prim.Native.Nat.{◌≤◌}
use mathlib.Core.Path.{◌≡◌}
use Rattle.std.specs.Prelude.{Some}
use Rattle.theorems.specs.Simple.Harmony.{partner}
use Rattle.vowels.specs.Vowel.{vowel_of}
use Rattle.vowels.specs.Harmony.{harmony_before}
use Rattle.vowels.proofs.Laws.Found.{seeks}
use Rattle.vowels.proofs.harmony.check_vowel_harmony.Given as goal

-- ---- to the last vowel ----

abbrev pub invariant-goto : goal.invariant-goto
invariant-goto l = (l.at ≤ l.c) × (harmony_before l.w l.at ≡ harmony_before l.w l.c)

abbrev pub decreases-goto : goal.decreases-goto
decreases-goto l = l.at

-- ---- to one of its partners ----

abbrev pub invariant-goto-2 : goal.invariant-goto-2
invariant-goto-2 l =
    (l.at ≤ l.c) × (vowel_of l.v.ch ≡ Some l.v) × (seeks (partner l.v.ch) l.w l.last l.skips l.at ≡ harmony_before l.w l.c)

abbrev pub decreases-goto-2 : goal.decreases-goto-2
decreases-goto-2 l = l.at
