-- `stages::stage::after_nUz` meets its contract: the first mark of the group that fits. Assumes nothing.
use Rattle.std.proofs.Common.{rules}
use Rattle.theorems.specs.Simple.Pieces.{trace}
use Rattle.stages.proofs.Laws.Branches.{reach-else}
use Rattle.stages.proofs.stage.after_nUz.Goals as goal

pub returns : goal.returns
unfolding trace
returns c = reach-else _ _ _ _ c.mark_yDU.ensures c.or_else.ensures (λ k. search rules)
