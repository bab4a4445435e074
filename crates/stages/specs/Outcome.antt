-- The suffix stage's answer on a word, as the code gives it. Assumes nothing.
use Rattle.std.specs.Prelude.{ℕ, Bool, true, List, length}
use Rattle.utf8.specs.declared.cursor.Cursor.{Cursor}
use Rattle.theorems.specs.Simple.Stage.{stage, kept_length}
use Rattle.theorems.specs.Simple.Pieces.{stage_marks}
use Rattle.turkish.specs.Calls.{chars}
use Rattle.stages.specs.declared.stage.Outcome.{Outcome}
use Rattle.stages.specs.declared.trail.Branch.{Branch}
use Rattle.stages.specs.Trail.{way_of}

-- the record at the word's end
unfoldable pub whole : List ℕ → Cursor
whole w = record { cursor = length w; limit = length w; limit_backward = 0 }

-- what a branch leaves, with the flag
unfoldable pub outcome : Branch → Bool → Outcome
outcome b f = record { kept = b.end.limit; yes = true; flag = f; way = b.way }

unfoldable pub outcome_of : List ℕ → Outcome
outcome_of w =
    let s = stage (chars w) in
    record { kept = kept_length w; yes = s.yes; flag = s.flag; way = way_of w (whole w) (stage_marks (chars w)) }
