-- Groups of marks as the code tries them, and the last letters with which a branch may begin. Assumes nothing.
use Rattle.std.specs.Prelude.{ℕ, Bool, ◌||◌, eqb}
use Prim.Native.Char.{code}
use Rattle.theorems.specs.Simple.Grammar.{Command, mark, ◌or◌}
use Rattle.theorems.specs.Simple.Marks.{yUm, sUn, yUz, sUnUz, lAr, DUr, yDU, ysA, ymUs}
use Rattle.keys.specs.Ends.{is_U_of, is_a, is_kmn_of}

-- a person's ending (lines 316 and 327), and one without lAr (line 325)
abbrev pub person_mark : Command
person_mark = mark sUnUz or mark lAr or mark yUm or mark sUn or mark yUz

abbrev pub person_alone_of : Command
person_alone_of = mark sUnUz or mark yUz or mark sUn or mark yUm

-- what may follow lAr (line 319), and what must follow nUz (line 323)
abbrev pub after_lAr_of : Command
after_lAr_of = mark DUr or mark yDU or mark ysA or mark ymUs

abbrev pub after_nUz_of : Command
after_nUz_of = mark yDU or mark ysA

-- the last letters of the marks with which the first branch begins, and the fifth
unfoldable pub first_ends_of : ℕ → Bool
first_ends_of a = (is_U_of a || is_kmn_of a) || (is_a a || eqb a (code "ş"))

unfoldable pub fifth_ends : ℕ → Bool
fifth_ends a = eqb a (code "z") || (eqb a (code "n") || eqb a (code "m"))
