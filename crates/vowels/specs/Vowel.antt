-- A code point as a vowel with its number and its partners, as the code holds it. Assumes nothing.
use Rattle.std.specs.Prelude.{ℕ, zero, suc, cond, List, [], ◌∷◌, take, drop, eqb, Option, Some, None}
use Rattle.turkish.specs.Vowels.{vowels, vowel}
use Rattle.theorems.specs.Simple.Harmony.{partners_in, partner_table, to_first}
use Rattle.vowels.specs.declared.vowel.Vowel.{Vowel}

-- four partners: the last one again where there are fewer
unfoldable pub four_of : List ℕ → List ℕ
four_of [] = 0 ∷ 0 ∷ 0 ∷ 0 ∷ []
four_of (a ∷ []) = a ∷ a ∷ a ∷ a ∷ []
four_of (a ∷ b ∷ []) = a ∷ b ∷ b ∷ b ∷ []
four_of (a ∷ b ∷ c ∷ []) = a ∷ b ∷ c ∷ c ∷ []
four_of (a ∷ b ∷ c ∷ d ∷ ps) = a ∷ b ∷ c ∷ d ∷ []

-- the vowel that a code point is, if it is one; a vowel's number is its place among the vowels, from 1
unfoldable pub vowel_of : ℕ → Option Vowel
vowel_of ch =
    cond (vowel ch) (Some (record { ch = ch; number = to_first (eqb ch) vowels; partners = four_of (partners_in partner_table ch) })) None

-- the vowel of a number; none for any other number
unfoldable pub vowel_numbered : ℕ → List ℕ
vowel_numbered zero = []
vowel_numbered (suc k) = take 1 (drop k vowels)

-- the vowel that the first of some code points is
unfoldable pub first_vowel_of : List ℕ → Option Vowel
first_vowel_of [] = None
first_vowel_of (c ∷ cs) = vowel_of c

-- so of the vowel of a number
unfoldable pub numbered_vowel_of : ℕ → Option Vowel
numbered_vowel_of n = first_vowel_of (vowel_numbered n)

-- the most bytes of a vowel
unfoldable pub most_vowel_bytes : ℕ
most_vowel_bytes = 2
