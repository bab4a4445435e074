-- A mark's answer as the code gives it: the record moved back over all that it takes, which mark it is and what its harmony test found, or that
-- it fails. Assumes nothing.
use Rattle.std.specs.Prelude.{ℕ, cond, List, [], ◌∷◌, eqb, Option, Some, None, option_map}
use Rattle.utf8.specs.declared.cursor.Cursor.{Cursor}
use Rattle.utf8.specs.Steps.{move_to}
use Rattle.utf8.specs.Behind.{back_by}
use Rattle.theorems.specs.Simple.Pieces.{Taken, Trace, none, keeps, total}
use Rattle.vowels.specs.declared.harmony.Harmony.{Harmony}
use Rattle.vowels.specs.Harmony.{heard_of, harmony_at}
use Rattle.marks.specs.declared.marked.Mark.{Mark}
use Rattle.marks.specs.declared.marked.Mark.TheVariants.{YUm, SUn, YUz, SUnUz, LAr, NUz, DUr, CAsInA, YDU, YsA, YmUs, Yken}
use Rattle.marks.specs.declared.marked.Marked.{Marked}

-- the answer of a mark of either stage: its kind is one of the twelve, or none
abbrev pub Answer : Type 0
Answer = Marked (Option Mark)

-- the mark with a number; none has any other, as 0, which those of the noun stage have
unfoldable pub mark_numbered : ℕ → Option Mark
mark_numbered n =
    cond (eqb n 1) (Some YUm)
    (cond (eqb n 2) (Some SUn)
    (cond (eqb n 3) (Some YUz)
    (cond (eqb n 4) (Some SUnUz)
    (cond (eqb n 5) (Some LAr)
    (cond (eqb n 6) (Some NUz)
    (cond (eqb n 7) (Some DUr)
    (cond (eqb n 8) (Some CAsInA)
    (cond (eqb n 9) (Some YDU)
    (cond (eqb n 10) (Some YsA)
    (cond (eqb n 11) (Some YmUs)
    (cond (eqb n 12) (Some Yken) None)))))))))))

-- the first mark taken
unfoldable pub leading : List Taken → Option Mark
leading [] = None
leading (t ∷ ts) = mark_numbered t.kind

-- and what it passes on
unfoldable pub leading_heard : List ℕ → Cursor → List Taken → Option Harmony
leading_heard w c [] = None
leading_heard w c (t ∷ ts) = heard_of w c t.found

unfoldable pub reach : List ℕ → Cursor → Trace → Option Answer
reach w c none = None
reach w c (keeps ts f) = Some (record { before = back_by w c (total ts); kind = leading ts; heard = leading_heard w c ts })

-- ---- a mark by its parts ----

-- how far its key and what joins it go is p: it is kept where they fit, and, if it tests harmony, where that holds too
unfoldable pub kept : {K : Type 0} → Cursor → K → Option ℕ → Option (Marked K)
kept c kind p = option_map (λ at. record { before = move_to c at; kind = kind; heard = None }) p

unfoldable pub kept_in_harmony_of : {K : Type 0} → List ℕ → Cursor → K → Option ℕ → Option (Marked K)
kept_in_harmony_of w c kind None = None
kept_in_harmony_of w c kind (Some at) = option_map (λ h. record { before = move_to c at; kind = kind; heard = Some h }) (harmony_at w c)

-- how far an answer goes alone
unfoldable pub place_of : {K : Type 0} → Option (Marked K) → Option ℕ
place_of m = option_map (λ r. r.before.cursor) m
