-- `stages::stage::fourth_branch` meets its contract: what must follow nUz goes on from where that leads. Assumes nothing.
use mathlib.Core.Path.{refl, ◌∙◌}
use Rattle.theorems.specs.Simple.Marks.{nUz}
use Rattle.theorems.specs.Simple.Pieces.{trace}
use Rattle.theorems.specs.Simple.Stage.{branch4}
use Rattle.keys.proofs.Laws.Sees.{sees-made}
use Rattle.marks.proofs.Laws.Marks.{reach-fails}
use Rattle.stages.specs.Groups.{after_nUz_of}
use Rattle.stages.proofs.Laws.Trails.{only_marks, steps-mark, steps-group, cut-none, after_none, open_step, along-step, then-none, then-cut}
use Rattle.stages.proofs.Laws.Branches.{reach-seen}
use Rattle.stages.proofs.stage.fourth_branch.Goals as goal

pub returns-in_err-m : goal.returns-in_err-m
unfolding trace branch4
returns-in_err-m c = c.from_residual.ensures ∙ cut-none _ _ _ (after_none _ _ (reach-fails _ _ _ c.mark_nUz.ensures c.in_err-m.was))

pub look_back-requires : goal.look_back-requires
look_back-requires c = open_step _ _ (steps-mark _ _ nUz c.mark_nUz.ensures c.in_ok-m.was) c.requires.opens

pub after_nUz-requires : goal.after_nUz-requires
after_nUz-requires c = sees-made _ _ c.look_back.ensures (open_step _ _ (steps-mark _ _ nUz c.mark_nUz.ensures c.in_ok-m.was) c.requires.opens)

pub returns-in_err-n : goal.returns-in_err-n
unfolding trace branch4
returns-in_err-n c =
    let step = steps-mark _ _ nUz c.mark_nUz.ensures c.in_ok-m.was in
    let is = reach-seen _ _ (trace after_nUz_of) c.look_back.ensures c.after_nUz.ensures in
    c.from_residual-in_err-n.ensures ∙ cut-none _ _ _ (then-none _ _ step (trace after_nUz_of) (reach-fails _ _ _ is c.in_err-n.was))

pub returns : goal.returns
unfolding trace branch4 only_marks
returns c =
    let step = steps-mark _ _ nUz c.mark_nUz.ensures c.in_ok-m.was in
    let is = reach-seen _ _ (trace after_nUz_of) c.look_back.ensures c.after_nUz.ensures in
    let next = steps-group _ _ after_nUz_of refl is c.in_ok-n.was in
    then-cut _ _ step (trace after_nUz_of) (along-step _ _ next c.of.ensures) c.behind.ensures c.deleted.ensures
