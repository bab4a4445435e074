-- What a harmony test found, as the code gives it. Assumes nothing.
use Rattle.std.specs.Prelude.{ℕ, List, Option, Some, None}
use Rattle.utf8.specs.declared.cursor.Cursor.{Cursor}
use Rattle.utf8.specs.Characters.{before, back}
use Rattle.utf8.specs.Behind.{behind, back_by}
use Rattle.theorems.specs.Simple.Harmony.{Found, nowhere, at, harmony_found, skips_vowel}
use Rattle.vowels.specs.declared.harmony.Harmony.{Harmony}

-- what is found from a place on: where the last vowel and its partner start, and whether a vowel was skipped between them
unfoldable pub harmony_from : List ℕ → ℕ → Found → Option Harmony
harmony_from w c nowhere = None
harmony_from w c (at last partner) =
    Some (record { last = back w c last; partner = back w c partner; skips = skips_vowel (before w c) last partner })

unfoldable pub harmony_before : List ℕ → ℕ → Option Harmony
harmony_before w c = harmony_from w c (harmony_found (before w c))

-- what is found from a record on; this is also what a mark passes on, nothing where it tests no harmony
unfoldable pub heard_of : List ℕ → Cursor → Found → Option Harmony
heard_of w c nowhere = None
heard_of w c (at last partner) =
    Some (record { last = (back_by w c last).cursor; partner = (back_by w c partner).cursor; skips = skips_vowel (behind w c) last partner })

unfoldable pub harmony_at : List ℕ → Cursor → Option Harmony
harmony_at w c = heard_of w c (harmony_found (behind w c))
