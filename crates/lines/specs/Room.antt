-- The room that a line takes in an output. Assumes nothing.
use Rattle.std.specs.Prelude.{ℕ, ◌+◌, ◌*◌}
use Rattle.turkish.specs.Calls.{limit}

-- room for any line, in bytes: four times the limit and fifteen; the longest has one fewer
unfoldable pub line_room : ℕ
line_room = 4 * limit + 15
