-- `stemlist::list_stream`: what was read so far makes the line held and what was written.
use Rattle.std.proofs.Common.{◌≡◌, ℕ, List, [], length}
use Rattle.std.specs.Io.KnownBytes.{Appends, Consumes}
use Rattle.listing.specs.Feed.{fed_line, fed_out}
use Rattle.stemlist.proofs.list_stream.Given as goal

abbrev pub invariant-loop : goal.invariant-loop
invariant-loop g l =
    (length l.out ≡ length l.fn.out) × (length l.block ≡ length l.fn.block)
    × ((read : List ℕ) × Consumes (g.R.Read.remaining l.fn.from) (g.R.Read.remaining l.from) read
    × (l.held ≡ fed_line [] read)
    × Appends (g.W.Write.contents l.fn.to) (g.W.Write.contents l.to) (fed_out l.folded [] read))
