-- `folding::step::fold_pair` meets its contract: its tests are the definition's. Assumes nothing.
use Rattle.folding.specs.FoldBytes.{pair}
use Rattle.folding.proofs.step.fold_pair.Goals as goal

pub returns-then-a-b : goal.returns-then-a-b
unfolding pair
returns-then-a-b c = rw c.if-a-b.true

pub returns : goal.returns
unfolding pair
returns c = rw (c.if-a-b.false, c.fold_second.ensures)
