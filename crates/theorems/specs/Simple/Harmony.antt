-- Vowel harmony with what it finds, and the syllable check, in the simple form (document 01, "Harmony" and "Syllable check"; document 02,
-- request 5). Assumes nothing.
use Rattle.std.specs.Prelude.{ℕ, suc, ◌+◌, ◌-◌, Bool, true, false, cond, List, [], ◌∷◌, take, drop, eqb}
use Prim.Native.Char.{code}
use Rattle.turkish.specs.Letters.{text, any, has}
use Rattle.turkish.specs.Source.{vowel1, vowel2, vowel3, vowel4, vowel5, vowel6}
use Rattle.turkish.specs.Vowels.{vowel, last_vowel_of, before_last_vowel}

-- a vowel and its partners: what may stand earlier in harmony with it
pub record Partners : Type 0 where
  pub of : ℕ
  pub are : List ℕ

unfoldable pub partner_table : List Partners
partner_table =
    record { of = code "a"; are = text vowel1 }
    ∷ record { of = code "e"; are = text vowel2 }
    ∷ record { of = code "ı"; are = text vowel3 }
    ∷ record { of = code "i"; are = text vowel4 }
    ∷ record { of = code "o"; are = text vowel5 }
    ∷ record { of = code "ö"; are = text vowel6 }
    ∷ record { of = code "u"; are = text vowel5 }
    ∷ record { of = code "ü"; are = text vowel6 }
    ∷ []

unfoldable pub partners_in : List Partners → ℕ → List ℕ
partners_in [] v = []
partners_in (p ∷ ps) v = cond (eqb v p.of) p.are (partners_in ps v)

unfoldable pub partner : ℕ → ℕ → Bool
partner v c = has (partners_in partner_table v) c

-- how many characters there are up to the first that passes a test, and with it; all of them where none does
unfoldable pub to_first : (ℕ → Bool) → List ℕ → ℕ
to_first f [] = 0
to_first f (c ∷ cs) = suc (cond (f c) 0 (to_first f cs))

-- what a harmony test finds: nothing, or how many characters back the last vowel starts and its nearest partner does
pub data Found : Type 0 where
  nowhere : Found
  at : ℕ → ℕ → Found

-- the last vowel, and the nearest of its partners before it, other vowels being skipped
unfoldable pub harmony_found : List ℕ → Found
harmony_found cs =
    let last = to_first vowel cs in
    let partners = partner (last_vowel_of cs) in
    let front = before_last_vowel cs in
    cond (any partners front) (at last (last + to_first partners front)) nowhere

unfoldable pub is_found : Found → Bool
is_found nowhere = false
is_found (at last partner) = true

-- its yes or no
unfoldable pub harmony : List ℕ → Bool
harmony cs = is_found (harmony_found cs)

-- some vowel was skipped between the two
unfoldable pub skips_vowel : List ℕ → ℕ → ℕ → Bool
skips_vowel cs last partner = any vowel (take (partner - last - 1) (drop last cs))

-- two or more vowels
unfoldable pub more_than_one_syllable : List ℕ → Bool
more_than_one_syllable cs = any vowel (before_last_vowel cs)
