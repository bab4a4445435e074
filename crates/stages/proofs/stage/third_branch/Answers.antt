-- `stages::stage::third_branch` meets its contract: what may follow lAr is tried from where that leads, after its deletion. Assumes nothing.
use mathlib.Core.Path.{refl, ◌∙◌}
use Rattle.theorems.specs.Simple.Grammar.{try}
use Rattle.theorems.specs.Simple.Marks.{lAr}
use Rattle.theorems.specs.Simple.Pieces.{trace}
use Rattle.theorems.specs.Simple.Stage.{branch3}
use Rattle.keys.proofs.Laws.Sees.{sees-made}
use Rattle.marks.proofs.Laws.Marks.{reach-fails}
use Rattle.stages.specs.Groups.{after_lAr_of}
use Rattle.stages.proofs.Laws.Trails.{only_marks, steps-mark, steps-group, cut-none, after_none, open-cut, along-step, try-cut, try-none}
use Rattle.stages.proofs.Laws.Branches.{cut-unset, reach-seen}
use Rattle.stages.proofs.stage.third_branch.Goals as goal

pub returns-in_err-m : goal.returns-in_err-m
unfolding trace branch3
returns-in_err-m c = c.from_residual.ensures ∙ cut-none _ _ _ (after_none _ _ (reach-fails _ _ _ c.mark_lAr.ensures c.in_err-m.was))

pub look_back-requires : goal.look_back-requires
look_back-requires c = open-cut _ _ (steps-mark _ _ lAr c.mark_lAr.ensures c.in_ok-m.was) c.deleted.ensures c.requires.opens

pub after_lAr-requires : goal.after_lAr-requires
after_lAr-requires c =
    sees-made _ _ c.look_back.ensures (open-cut _ _ (steps-mark _ _ lAr c.mark_lAr.ensures c.in_ok-m.was) c.deleted.ensures c.requires.opens)

pub returns-in_default : goal.returns-in_default
unfolding trace try branch3
returns-in_default c =
    let step = steps-mark _ _ lAr c.mark_lAr.ensures c.in_ok-m.was in
    let is = reach-seen _ _ (trace after_lAr_of) c.look_back.ensures c.after_lAr.ensures in
    try-none _ _ step (trace after_lAr_of) c.deleted.ensures c.requires.opens (reach-fails _ _ _ is c.in_default.is) c.of.ensures
    c.deleted-in_default.ensures
    ∙ cut-unset _ _ _ _

pub returns : goal.returns
unfolding trace try branch3 only_marks
returns c =
    let step = steps-mark _ _ lAr c.mark_lAr.ensures c.in_ok-m.was in
    let is = reach-seen _ _ (trace after_lAr_of) c.look_back.ensures c.after_lAr.ensures in
    let next = steps-group _ _ after_lAr_of refl is c.in-Some.is in
    try-cut _ _ step (trace after_lAr_of) c.deleted.ensures (along-step _ _ next c.of-2.ensures) c.behind.ensures c.deleted-2.ensures
    ∙ cut-unset _ _ _ _
