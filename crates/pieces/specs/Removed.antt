-- The pieces made of the marks that the stage keeps, as the code makes them. Assumes nothing.
use Rattle.std.specs.Prelude.{ℕ, ◌-◌, ◌≤◌, ◌<◌, ◌≡◌, cond, List, [], ◌∷◌, length, get_or, eqb, Option, Some, None, is_some}
use Rattle.turkish.specs.declared.endings.Piece.{Piece}
use Rattle.turkish.specs.declared.endings.Removed.{Removed}
use Rattle.turkish.specs.PieceCalls.{unused}
use Rattle.kinds.specs.Kinds.{kind_at}
use Rattle.marks.specs.declared.marked.Mark.{Mark}
use Rattle.marks.specs.declared.marked.Mark.TheVariants.{YUm, SUn, YUz, SUnUz, LAr, NUz, DUr, CAsInA, YDU, YsA, YmUs, Yken}
use Rattle.stages.specs.declared.trail.Stop.{Stop}
use Rattle.stages.specs.declared.trail.Trail.{Trail}
use Rattle.stages.specs.Outcome.{outcome_of}

-- a mark's number
unfoldable pub number_of : Mark → ℕ
number_of YUm = 1
number_of SUn = 2
number_of YUz = 3
number_of SUnUz = 4
number_of LAr = 5
number_of NUz = 6
number_of DUr = 7
number_of CAsInA = 8
number_of YDU = 9
number_of YsA = 10
number_of YmUs = 11
number_of Yken = 12

-- a mark kept stands in the word, before place `end`
pub record Stands (w : List ℕ) (s : Option (Stop Mark)) (end : ℕ) : Type 0 where
  pub before : (x : Stop Mark) → s ≡ Some x → x.at < end
  pub within : end ≤ length w

unfoldable pub piece_of : List ℕ → Option (Stop Mark) → ℕ → Piece
piece_of w None end = unused
piece_of w (Some s) end =
    record { kind = kind_at (number_of s.kind) (eqb (get_or w s.at 0) 0x79); first = s.at; last = end - 1 }

-- where a mark kept begins, 0 where there is none
unfoldable pub start_of : Option (Stop Mark) → ℕ
start_of None = 0
start_of (Some s) = s.at

unfoldable pub count_of : Trail Mark → ℕ
count_of t = cond (is_some t.first) (cond (is_some t.second) (cond (is_some t.third) 3 2) 1) 0

-- from the word's end inward
unfoldable pub entries_of : List ℕ → Trail Mark → List Piece
entries_of w t =
    piece_of w t.first (length w) ∷ piece_of w t.second (start_of t.first) ∷ piece_of w t.third (start_of t.second) ∷ []

unfoldable pub removed_of : List ℕ → Removed
removed_of w =
    let o = outcome_of w in
    record { length = o.kept; count = count_of o.way.trail; pieces = entries_of w o.way.trail }
