-- The noun stage's answer on a word, as the code gives it, and its alternatives by their parts. Assumes nothing.
use Rattle.std.specs.Prelude.{ℕ, ◌+◌, List, drop, Option, Some, None}
use Rattle.utf8.specs.declared.cursor.Cursor.{Cursor}
use Rattle.utf8.specs.Characters.{before}
use Rattle.utf8.specs.Behind.{back_by}
use Rattle.theorems.specs.Simple.Grammar.{mark_of}
use Rattle.theorems.specs.Simple.Marks.{lAr}
use Rattle.theorems.specs.Simple.NounMarks.{possessives, lArI, yU, nU, nUn, yA, DA, ndAn, ylA}
use Rattle.theorems.specs.Simple.Nouns.{Taking, both, either, perhaps, plural, possessed, owned, owned_by_sU_of, chain, after_ndAn_of, after_DAn_of, after_nUn_of, after_DA_of, pronominal, after_pronominal_of}
use Rattle.theorems.specs.Simple.Nouns.{Rest, whole, cut, parted, cut_by, parted_by, noun_rest}
use Rattle.nouns.specs.declared.stage.Uninflected.{Uninflected}

-- ---- the parts of the alternatives ----

-- before ncA in the word (lines 366 to 370)
unfoldable pub near_ncA_of : Taking
near_ncA_of = either (mark_of lArI) (either (owned chain) (plural chain))

-- before ndA or nA (lines 376 and 378)
unfoldable pub near_pronominal_of : Taking
near_pronominal_of = either (mark_of lArI) (owned_by_sU_of chain)

-- ndAn or nU (line 384)
unfoldable pub ndAn_or_nU_of : Taking
ndAn_or_nU_of = either (mark_of ndAn) (mark_of nU)

-- before DAn (lines 388 to 392)
unfoldable pub near_DAn_of : Taking
near_DAn_of = either (possessed chain) (either (plural chain) chain)

-- nUn or ylA (line 396), before lAr (lines 398 and 400), and before nUn or ylA (lines 398 to 402)
unfoldable pub nUn_or_ylA_of : Taking
nUn_or_ylA_of = either (mark_of nUn) (mark_of ylA)

unfoldable pub near_lAr : Taking
near_lAr = either chain (owned chain)

unfoldable pub lost_lAr_of : Taking
lost_lAr_of = both (mark_of lAr) (perhaps near_lAr)

unfoldable pub near_nUn_of : Taking
near_nUn_of = either lost_lAr_of (either (owned chain) chain)

-- line 410: DA, yU or yA; possessives or lAr before it in the word; and the chain before that
unfoldable pub DA_or_yU_or_yA_of : Taking
DA_or_yU_or_yA_of = either (mark_of DA) (either (mark_of yU) (mark_of yA))

unfoldable pub possessives_and_lAr_of : Taking
possessives_and_lAr_of = both (mark_of possessives) (perhaps (mark_of lAr))

unfoldable pub possessives_or_lAr_of : Taking
possessives_or_lAr_of = either possessives_and_lAr_of (mark_of lAr)

unfoldable pub near_DA_of : Taking
near_DA_of = both possessives_or_lAr_of (perhaps chain)

-- lines 384 to 412
unfoldable pub later_lines_of : Taking
later_lines_of =
    either after_ndAn_of (either after_DAn_of (either after_nUn_of (either (mark_of lArI) (either chain (either after_DA_of (owned chain))))))

-- lines 374 to 380
unfoldable pub pronominal_rest : List ℕ → Rest
pronominal_rest cs = cut_by (after_pronominal_of cs) (parted_by (pronominal cs) (λ j. chain (drop j cs)) whole)

-- ---- what is left ----

-- another text that the stage leaves of the text before a record, if it does
unfoldable pub left_at : List ℕ → Cursor → Rest → Option Uninflected
left_at w c whole = None
left_at w c (cut k) = Some (record { front = (back_by w c k).cursor; from = c.cursor })
left_at w c (parted j k) = Some (record { front = (back_by w c (j + k)).cursor; from = (back_by w c j).cursor })

-- of the first n bytes of a word
unfoldable pub uninflected_of : List ℕ → ℕ → Option Uninflected
uninflected_of w n = left_at w (record { cursor = n; limit = n; limit_backward = 0 }) (noun_rest (before w n))
