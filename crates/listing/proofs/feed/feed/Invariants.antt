-- `listing::feed::feed`: what is left to feed leaves what all of it leaves, and what is written is within the output.
use Prim.Native.Nat.{◌≤◌}
use mathlib.Core.Path.{◌≡◌}
use lib.ListN.{length, drop}
use Rattle.listing.specs.Fed.{standing, feed_bytes, feeding}
use Rattle.listing.proofs.feed.feed.Given as goal

abbrev pub invariant-loop-i : goal.invariant-loop-i
invariant-loop-i l =
    (l.written ≤ length l.out)
    × (feed_bytes l.folded (drop l.i l.block) (standing l.i l.held l.out l.written) ≡ feeding l.folded l.block l.from l.initial.held l.initial.out)
