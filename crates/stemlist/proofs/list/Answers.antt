-- `stemlist::list` has an output with the room that the listing asks for. Assumes nothing.
use Rattle.std.proofs.Common.{arith}
use Rattle.lines.specs.Room.{line_room}
use Rattle.listing.specs.Feed.{limit}
use Rattle.stemlist.proofs.list.Goals as goal

pub list_stream-requires : goal.list_stream-requires
unfolding line_room limit
list_stream-requires g c = omega arith
