-- `encoding::validity::each_follows` meets its contract: the loop's invariant: what passed so far and the walk from the place are the
-- walk from the start. Assumes nothing.
use mathlib.Core.Bool.{◌&&◌}
use mathlib.Core.Path.{◌≡◌}
use lib.ListN.{drop}
use Rattle.encoding.specs.Neighbours.{text_after}
use Rattle.encoding.proofs.validity.each_follows.Given as goal

abbrev pub invariant-loop-x : goal.invariant-loop-x
invariant-loop-x l = l.ok && text_after l.a l.b l.c (drop l.x-index l.w) ≡ text_after 0 0 0 l.w
