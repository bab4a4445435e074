-- The last vowel before a place of a word and where it starts, as the code gives it. Assumes nothing.
use Rattle.std.specs.Prelude.{ℕ, List, cond, Option, Some, None}
use Rattle.utf8.specs.Characters.{before, back}
use Rattle.turkish.specs.Letters.{any}
use Rattle.turkish.specs.Vowels.{vowel, last_vowel_of}
use Rattle.theorems.specs.Simple.Harmony.{to_first}
use Rattle.vowels.specs.declared.walk.LastVowel.{LastVowel}

-- none where no vowel stands before the place
unfoldable pub last_vowel_answer : List ℕ → ℕ → Option LastVowel
last_vowel_answer w c =
    let cs = before w c in
    cond (any vowel cs) (Some (record { ch = last_vowel_of cs; at = back w c (to_first vowel cs) })) None
