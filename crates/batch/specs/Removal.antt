-- What the stage removes of a word of bytes, as the batch's code takes it. Assumes nothing.
use Rattle.std.specs.Prelude.{ℕ, ◌+◌, ◌-◌, List, length}
use Rattle.turkish.specs.Calls.{limit}
use Rattle.stages.specs.Outcome.{outcome_of}
use Rattle.fronts.specs.StandIn.{stand_in_room}
use Rattle.batch.specs.declared.entries.Removal.{Removal}

unfoldable pub removal_of : List ℕ → Removal
removal_of w =
    let o = outcome_of w in
    record { bytes = length w - o.kept; yes = o.yes; flag = o.flag }

-- the bytes of a stand-in and a tail
unfoldable pub word_room : ℕ
word_room = stand_in_room + limit
