-- `stemlist::drain`: what is left of the block gives, with the line held, the line that the whole block gives, and what was written and
-- what is left gives make the lines of the whole block. A turn takes some of the block, so what is left of it is the measure.
use Rattle.std.proofs.Common.{length, ◌-◌, ◌≡◌, ◌≤◌, drop, ℕ, List, ◌++◌}
use Rattle.std.specs.Io.KnownBytes.{Appends}
use Rattle.listing.specs.Feed.{fed_line, fed_out}
use Rattle.stemlist.proofs.drain.Given as goal

abbrev pub invariant-loop-used : goal.invariant-loop-used
invariant-loop-used g l = record {
  out_len : length l.out ≡ length l.fn.out;
  within : l.used ≤ length l.block;
  line : fed_line l.held (drop l.used l.block) ≡ fed_line l.fn.held l.block;
  lines : (written : List ℕ) × (written ++ fed_out l.folded l.held (drop l.used l.block) ≡ fed_out l.folded l.fn.held l.block)
      × Appends (g.W.Write.contents l.fn.to) (g.W.Write.contents l.to) written;
}

abbrev pub decreases-loop-used : goal.decreases-loop-used
decreases-loop-used g l = length l.block - l.used
