-- The vowels, and a text's last one with what stands before it (document 01, "Vowels" and "Words of demand 3"). Assumes nothing.
use Rattle.std.specs.Prelude.{ℕ, Bool, cond, List, [], ◌∷◌}
use Rattle.turkish.specs.Letters.{text, has}
use Rattle.turkish.specs.Source as Source

-- the eight vowels
unfoldable pub vowels : List ℕ
vowels = text Source.vowel

unfoldable pub vowel : ℕ → Bool
vowel c = has vowels c

-- the vowel nearest the cursor (0 where there is none), and what stands before it
unfoldable pub last_vowel_of : List ℕ → ℕ
last_vowel_of [] = 0
last_vowel_of (c ∷ cs) = cond (vowel c) c (last_vowel_of cs)

unfoldable pub before_last_vowel : List ℕ → List ℕ
before_last_vowel [] = []
before_last_vowel (c ∷ cs) = cond (vowel c) cs (before_last_vowel cs)
