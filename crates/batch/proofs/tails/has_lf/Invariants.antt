-- `batch::tails::has_lf` meets its contract. The loop's invariant: what is found so far or in the bytes from the place on is what is found in
-- all of them. Assumes nothing.
use mathlib.Core.Path.{◌≡◌}
use mathlib.Core.Bool.{◌||◌}
use lib.ListN.{drop}
use Rattle.turkish.specs.Letters.{lf, has}
use Rattle.batch.proofs.tails.has_lf.Given as goal

abbrev pub invariant-loop-b : goal.invariant-loop-b
invariant-loop-b l = (l.found || has (drop l.b-index l.part) lf) ≡ has l.part lf
