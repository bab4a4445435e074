-- `batch::tails::has_lf` meets its contract. The loop's invariant: what is found so far or in the bytes from the place on is what is found in
-- all of them. Assumes nothing.
use mathlib.Core.Path.{refl, ◌∙◌}
use Rattle.turkish.specs.Letters.{lf}
use Rattle.batch.proofs.Laws.Tails.{has-next, has_last}
use Rattle.batch.proofs.tails.has_lf.Goals as goal

pub loop-b-init : goal.loop-b-init
loop-b-init c = refl

pub loop-b-preserved : goal.loop-b-preserved
unfolding lf
loop-b-preserved c = has-next c.args.part.now c.loop-b.b-index c.loop-b.found c.loop-b-test.true ∙ c.loop-b.invariant

pub returns : goal.returns
returns c = has_last c.args.part.now c.loop-b.b-index c.loop-b.found c.loop-b-test.false ∙ c.loop-b.invariant
