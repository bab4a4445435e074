-- `folding::step::fold_alone` meets its contract: its test is the definition's. Assumes nothing.
use borrow.Author.Tests.{eq-eqb, ne_eqb}
use Rattle.folding.specs.FoldBytes.{alone}
use Rattle.folding.proofs.step.fold_alone.Goals as goal

pub returns-then-b-eq73 : goal.returns-then-b-eq73
unfolding alone
returns-then-b-eq73 c = rw (eq-eqb _ 0x49 c.if-b-eq73.true)

pub returns : goal.returns
unfolding alone
returns c = rw (ne_eqb _ 0x49 c.if-b-eq73.false, c.small.ensures)
