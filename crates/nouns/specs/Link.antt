-- One turn of the chain before `ki` in the simple form, and as the code holds it: what it takes, and whether the chain is called behind it.
-- Assumes nothing.
use Rattle.std.specs.Prelude.{ℕ, ◌+◌, true, List, drop, Option, Some, None}
use Rattle.utf8.specs.declared.cursor.Cursor.{Cursor}
use Rattle.utf8.specs.Behind.{back_by}
use Rattle.theorems.specs.Simple.Grammar.{Out, fail, took, more, mark_of}
use Rattle.theorems.specs.Simple.Marks.{lAr}
use Rattle.theorems.specs.Simple.NounMarks.{possessives, sU, lArI, nUn, DA, ki}
use Rattle.theorems.specs.Simple.Nouns.{chain, perhaps}
use Rattle.nouns.specs.declared.link.Link.{Link}
use Rattle.nouns.specs.declared.link.Link.TheVariants.{Ends, Calls}

-- it does not fit; it takes so many characters and ends the chain; it takes so many and the chain is called
pub data Turn : Type 0 where
  unfit : Turn
  ends : ℕ → Turn
  calls : ℕ → Turn

-- so many characters taken before it
unfoldable pub later : ℕ → Turn → Turn
later k unfit = unfit
later k (ends j) = ends (k + j)
later k (calls j) = calls (k + j)

-- a turn behind what a mark takes, and another one where the mark fails
unfoldable pub or_turn : Out → (ℕ → Turn) → Turn → Turn
or_turn fail q r = r
or_turn (took k f) q r = later k (q k)

-- lines 339 and 346, before a possessive or sU in the word
unfoldable pub before_lAr : List ℕ → Turn
before_lAr cs = or_turn (mark_of lAr cs) (λ k. calls 0) (ends 0)

-- lines 337 to 339, before DA
unfoldable pub before_DA_of : List ℕ → Turn
before_DA_of cs = or_turn (mark_of lAr cs) (λ k. calls 0) (or_turn (mark_of possessives cs) (λ k. before_lAr (drop k cs)) (ends 0))

-- lines 344 to 348, before nUn
unfoldable pub before_nUn_of : List ℕ → Turn
before_nUn_of cs =
    or_turn (mark_of lArI cs) (λ k. ends 0)
    (or_turn (mark_of possessives cs) (λ k. before_lAr (drop k cs))
    (or_turn (mark_of sU cs) (λ k. before_lAr (drop k cs)) (calls 0)))

-- lines 336 and 343, before `ki`
unfoldable pub before_ki : List ℕ → Turn
before_ki cs = or_turn (mark_of DA cs) (λ k. before_DA_of (drop k cs)) (or_turn (mark_of nUn cs) (λ k. before_nUn_of (drop k cs)) unfit)

unfoldable pub link_of : List ℕ → Turn
link_of cs = or_turn (mark_of ki cs) (λ k. before_ki (drop k cs)) unfit

-- what the chain takes, by its first turn
unfoldable pub closed : Turn → List ℕ → Out
closed unfit cs = fail
closed (ends k) cs = took k true
closed (calls k) cs = more k true (perhaps chain (drop k cs))

-- a turn from a record
unfoldable pub linked : List ℕ → Cursor → Turn → Option Link
linked w c unfit = None
linked w c (ends k) = Some (Ends (back_by w c k).cursor)
linked w c (calls k) = Some (Calls (back_by w c k).cursor)
