-- The marks that a branch keeps, and what the first of them found that tests harmony, as the code gives them. Assumes nothing.
use Rattle.std.specs.Prelude.{ℕ, List, [], ◌∷◌, Option, Some, None, option_map}
use Rattle.std.specs.Option.{option_or}
use Rattle.utf8.specs.declared.cursor.Cursor.{Cursor}
use Rattle.utf8.specs.Behind.{back_by, deleted}
use Rattle.theorems.specs.Simple.Pieces.{Taken, Trace, none, keeps, total}
use Rattle.vowels.specs.declared.harmony.Harmony.{Harmony}
use Rattle.vowels.specs.Harmony.{heard_of}
use Rattle.marks.specs.declared.marked.Mark.{Mark}
use Rattle.marks.specs.Reach.{Answer, mark_numbered}
use Rattle.stages.specs.declared.trail.Stop.{Stop}
use Rattle.stages.specs.declared.trail.Trail.{Trail}
use Rattle.stages.specs.declared.trail.Way.{Way}
use Rattle.stages.specs.declared.trail.Branch.{Branch}

-- what a branch of the suffix stage keeps: its marks are of the twelve
abbrev pub Kept : Type 0
Kept = Way Mark

-- a mark that begins at a place
unfoldable pub stop_at : {K : Type 0} → Option K → ℕ → Option (Stop K)
stop_at kind at = option_map (λ k. record { kind = k; at = at }) kind

-- no mark kept
unfoldable pub no_trail : {K : Type 0} → Trail K
no_trail = record { first = None; second = None; third = None }

-- marks kept behind one more
unfoldable pub behind_trail : {K : Type 0} → Option (Stop K) → Trail K → Trail K
behind_trail s t = record { first = s; second = t.first; third = t.second }

-- the marks taken from a record on, one behind the other
unfoldable pub trail_of : List ℕ → Cursor → List Taken → Trail Mark
trail_of w c [] = no_trail
trail_of w c (t ∷ ts) = behind_trail (stop_at (mark_numbered t.kind) (back_by w c t.size).cursor) (trail_of w (back_by w c t.size) ts)

-- what the first of them found that tests harmony
unfoldable pub heard_along : List ℕ → Cursor → List Taken → Option Harmony
heard_along w c [] = None
heard_along w c (t ∷ ts) = option_or (heard_of w c t.found) (heard_along w (back_by w c t.size) ts)

-- both
unfoldable pub way_of : List ℕ → Cursor → List Taken → Kept
way_of w c ts = record { trail = trail_of w c ts; heard = heard_along w c ts }

-- neither
unfoldable pub no_way : {K : Type 0} → Way K
no_way = record { trail = no_trail; heard = None }

-- both behind one more mark and what that one found
unfoldable pub behind_way : {K : Type 0} → Option K → ℕ → Option Harmony → Way K → Way K
behind_way kind at told y = record { trail = behind_trail (stop_at kind at) y.trail; heard = option_or told y.heard }

-- a branch's answer: the record moved back over all that it takes
unfoldable pub along : List ℕ → Cursor → Trace → Option Branch
along w c none = None
along w c (keeps ts f) = Some (record { end = back_by w c (total ts); way = way_of w c ts })

-- the same with all from there on deleted
unfoldable pub cut_to : List ℕ → Cursor → Trace → Option Branch
cut_to w c none = None
cut_to w c (keeps ts f) = Some (record { end = deleted (back_by w c (total ts)); way = way_of w c ts })

-- ---- an answer by its parts ----

-- of one mark alone
unfoldable pub one_mark : Answer → Branch
one_mark m = record { end = m.before; way = behind_way m.kind m.before.cursor m.heard no_way }

-- behind one more mark
unfoldable pub behind_branch : Answer → Branch → Branch
behind_branch m b = record { end = b.end; way = behind_way m.kind m.before.cursor m.heard b.way }

-- with all from its record on deleted
unfoldable pub cut : Branch → Branch
cut b = record { end = deleted b.end; way = b.way }
