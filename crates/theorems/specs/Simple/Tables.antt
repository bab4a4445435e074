-- The tables of keys (turkish.rs, A_0 to A_23, the literals `ken` and `ki`, and the grouping U), each with its width, and a test on one:
-- no key is longer than the width or has a 0, with which the code fills it up.
-- Assumes nothing.
use Rattle.std.specs.Prelude.{ℕ, Bool, true, ◌&&◌, List, [], ◌∷◌, length, ltb, leb}
use Rattle.theorems.specs.Simple.Grammar.{Mark}
use Rattle.theorems.specs.Simple.Marks.{yUm, sUn, yUz, sUnUz, lAr, nUz, DUr, cAsInA, yDU, ysA, ymUs, yken}
use Rattle.theorems.specs.Simple.NounMarks.{possessives, sU, lArI, nU, nUn, yA, nA, DA, ndA, DAn, ndAn, ylA, ki, ncA}
use Rattle.theorems.specs.Simple.Postlude.{hard_keys}

-- the keys, from their ends, and the characters of the longest
pub record Table : Type 0 where
  pub width : ℕ
  pub keys : List (List ℕ)

-- a mark's table, and A_23
abbrev pub table_of : ℕ → Mark → Table
table_of width m = record { width = width; keys = m.keys }

abbrev pub hard_table : Table
hard_table = record { width = 1; keys = hard_keys }

-- all of them: the suffix stage's and the postlude's in the Rust's order, then the noun stage's, sU's keys being the grouping U's letters
unfoldable pub tables : List Table
tables =
    table_of 2 yUm ∷ table_of 3 sUn ∷ table_of 2 yUz ∷ table_of 5 sUnUz ∷ table_of 3 lAr ∷ table_of 3 nUz ∷ table_of 3 DUr
    ∷ table_of 6 cAsInA ∷ table_of 3 yDU ∷ table_of 3 ysA ∷ table_of 3 ymUs ∷ table_of 3 yken ∷ hard_table
    ∷ table_of 3 possessives ∷ table_of 1 sU ∷ table_of 4 lArI ∷ table_of 2 nU ∷ table_of 2 nUn ∷ table_of 1 yA ∷ table_of 2 nA ∷ table_of 2 DA
    ∷ table_of 3 ndA ∷ table_of 3 DAn ∷ table_of 4 ndAn ∷ table_of 2 ylA ∷ table_of 2 ki ∷ table_of 2 ncA ∷ []

-- no character of the key is 0
unfoldable pub nonzero : List ℕ → Bool
nonzero [] = true
nonzero (c ∷ cs) = ltb 0 c && nonzero cs

-- no key of the table has a 0 or more than `width` characters
unfoldable pub whole : ℕ → List (List ℕ) → Bool
whole width [] = true
whole width (k ∷ ks) = leb (length k) width && nonzero k && whole width ks
