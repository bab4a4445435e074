-- `stages::stage::ymUs_alone` meets its contract: one mark by itself. Assumes nothing.
use mathlib.Core.Path.{◌∙◌}
use Rattle.theorems.specs.Simple.Marks.{ymUs}
use Rattle.theorems.specs.Simple.Pieces.{trace}
use Rattle.marks.proofs.Laws.Marks.{reach-fails}
use Rattle.stages.proofs.Laws.Trails.{steps-mark, along-none, along-step}
use Rattle.stages.proofs.stage.ymUs_alone.Goals as goal

pub returns-in_err-m : goal.returns-in_err-m
unfolding trace
returns-in_err-m c = c.from_residual.ensures ∙ along-none _ _ _ (reach-fails _ _ _ c.mark_ymUs_.ensures c.in_err-m.was)

pub returns : goal.returns
unfolding trace
returns c = along-step _ _ (steps-mark _ _ ymUs c.mark_ymUs_.ensures c.in_ok-m.was) c.of.ensures
