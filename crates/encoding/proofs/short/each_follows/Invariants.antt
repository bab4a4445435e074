-- `encoding::short::each_follows` meets its contract: the loop's invariant: what passed so far and the walk from the place are the walk
-- from the start. Assumes nothing.
use mathlib.Core.Bool.{◌&&◌}
use mathlib.Core.Path.{◌≡◌}
use lib.ListN.{drop}
use Rattle.encoding.specs.Neighbours.{short_after}
use Rattle.encoding.proofs.short.each_follows.Given as goal

abbrev pub invariant-loop-x : goal.invariant-loop-x
invariant-loop-x l = l.ok && short_after l.a (drop l.x-index l.w) ≡ short_after 0 l.w
