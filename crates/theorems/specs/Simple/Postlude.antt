-- The postlude in the simple form (document 01, "Postlude"). Assumes nothing.
use Rattle.std.specs.Prelude.{ℕ, Bool, false, cond, not, ◌&&◌, ◌||◌, List, [], ◌∷◌, map, eqb}
use Prim.Native.Char.{code}
use Rattle.utf8.specs.Steps.{same}
use Rattle.turkish.specs.Letters.{text, from_end, has, starts}
use Rattle.turkish.specs.Vowels.{last_vowel_of}

-- exactly `ad` or `soyad`
unfoldable pub reserved : List ℕ → Bool
reserved cs = same cs (from_end "ad") || same cs (from_end "soyad")

-- the vowel that a final d or g gains after a last vowel; 0 where there is no vowel
unfoldable pub gained : ℕ → ℕ
gained v =
    cond (has (text "aı") v) (code "ı")
    (cond (has (text "ei") v) (code "i")
    (cond (has (text "ou") v) (code "u")
    (cond (has (text "öü") v) (code "ü") 0)))

-- a final d or g with some vowel before it
unfoldable pub appends : List ℕ → Bool
appends [] = false
appends (c ∷ cs) = has (text "dg") c && not (eqb (gained (last_vowel_of cs)) 0)

-- gains a vowel
unfoldable pub append_U : List ℕ → List ℕ
append_U [] = []
append_U (c ∷ cs) = cond (appends (c ∷ cs)) (gained (last_vowel_of cs) ∷ c ∷ cs) (c ∷ cs)

-- a consonant that hardens, as a key from its end, and what it becomes
pub record Hardening : Type 0 where
  pub key : List ℕ
  pub becomes : ℕ

-- A_23, in the Rust's order
unfoldable pub hardenings : List Hardening
hardenings =
    record { key = from_end "b"; becomes = code "p" }
    ∷ record { key = from_end "c"; becomes = code "ç" }
    ∷ record { key = from_end "d"; becomes = code "t" }
    ∷ record { key = from_end "ğ"; becomes = code "k" }
    ∷ []

-- its keys, a table like the marks'
unfoldable pub hard_keys : List (List ℕ)
hard_keys = map (λ (h : Hardening). h.key) hardenings

-- what the first key that is the character makes of it; where none is, it stays
unfoldable pub hard_in : List Hardening → ℕ → ℕ
hard_in [] c = c
hard_in (h ∷ hs) c = cond (starts h.key (c ∷ [])) h.becomes (hard_in hs c)

-- b, c, d, ğ become p, ç, t, k; all else stays
unfoldable pub hard : ℕ → ℕ
hard c = hard_in hardenings c

-- a final b, c, d or ğ hardens
unfoldable pub harden : List ℕ → List ℕ
harden [] = []
harden (c ∷ cs) = hard c ∷ cs

-- a reserved word stays and the answer is no
unfoldable pub postlude : List ℕ → List ℕ
postlude cs = cond (reserved cs) cs (harden (append_U cs))

unfoldable pub postlude_yes : List ℕ → Bool
postlude_yes cs = not (reserved cs)
