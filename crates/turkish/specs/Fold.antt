-- The fold of capital letters (document 01, "Fold"; document 02, request 2), an addition to turkish.sbl. Assumes nothing.
use Rattle.std.specs.Prelude.{ℕ, ◌+◌, cond, ◌&&◌, List, [], ◌∷◌, map, eqb, leb}
use Prim.Native.Char.{Char, code}

-- a capital letter and its small one
pub record Letter : Type 0 where
  pub capital : ℕ
  pub small : ℕ

-- a row of such letters, as it is written below
abbrev pub letter : Char → Char → Letter
letter c s = record { capital = code c; small = code s }

-- document 01's letters beside A to Z
unfoldable pub capitals01 : List Letter
capitals01 = letter "Ç" "ç" ∷ letter "Ğ" "ğ" ∷ letter "Ö" "ö" ∷ letter "Ş" "ş" ∷ letter "Ü" "ü" ∷ []

-- and before them I and İ (document 02, request 2)
unfoldable pub capitals : List Letter
capitals = letter "I" "ı" ∷ letter "İ" "i" ∷ capitals01

-- one character folded: a capital of the rows becomes its small letter, any other of A to Z its own, and every other character stays
unfoldable pub fold_by : List Letter → ℕ → ℕ
fold_by [] c = cond (leb (code "A") c && leb c (code "Z")) (c + 0x20) c
fold_by (l ∷ ls) c = cond (eqb c l.capital) l.small (fold_by ls c)

-- by all rows above
unfoldable pub fold_char : ℕ → ℕ
fold_char c = fold_by capitals c

-- all of a text's
unfoldable pub fold : List ℕ → List ℕ
fold cs = map fold_char cs
