-- `folding::plain::is_plain`: what passed so far and the test from the place on are the test of the word.
use mathlib.Core.Path.{◌≡◌}
use mathlib.Core.Bool.{◌&&◌}
use lib.ListN.{drop}
use Rattle.folding.specs.FoldBytes.{plain}
use Rattle.folding.proofs.plain.is_plain.Given as goal

abbrev pub invariant-loop-b : goal.invariant-loop-b
invariant-loop-b l = l.ok && plain (drop l.b-index l.w) ≡ plain l.w
