-- `stages::stage::first_branch` meets its contract: the group of line 314, and all from where it leads on deleted. Assumes nothing.
use mathlib.Core.Path.{refl, ◌∙◌}
use Rattle.theorems.specs.Simple.Stage.{branch1}
use Rattle.marks.proofs.Laws.Marks.{reach-fails}
use Rattle.stages.proofs.Laws.Trails.{only_marks, steps-group, cut-none, cut_step}
use Rattle.stages.proofs.stage.first_branch.Goals as goal

pub returns-in_err-m : goal.returns-in_err-m
returns-in_err-m c = c.from_residual.ensures ∙ cut-none _ _ _ (reach-fails _ _ _ c.first_mark.ensures c.in_err-m.was)

pub returns : goal.returns
unfolding branch1 only_marks
returns c = cut_step _ _ (steps-group _ _ branch1 refl c.first_mark.ensures c.in_ok-m.was) c.of.ensures c.deleted.ensures
