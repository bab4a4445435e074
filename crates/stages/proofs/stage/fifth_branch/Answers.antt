-- `stages::stage::fifth_branch` meets its contract: ymUs_ is tried from where a person's ending leads, after its deletion. Assumes nothing.
use mathlib.Core.Path.{refl, sym, ◌∙◌}
use Rattle.theorems.specs.Simple.Grammar.{try}
use Rattle.theorems.specs.Simple.Marks.{ymUs}
use Rattle.theorems.specs.Simple.Pieces.{trace_of, trace}
use Rattle.theorems.specs.Simple.Stage.{branch5}
use Rattle.keys.proofs.Laws.Sees.{sees-made}
use Rattle.marks.proofs.Laws.Marks.{reach-fails}
use Rattle.stages.specs.Groups.{person_alone_of}
use Rattle.stages.proofs.Laws.Trails.{only_marks, steps-group, along-unfit, cut-none, after_none, open-cut, try-cut, try-none}
use Rattle.stages.proofs.Laws.Branches.{along-seen}
use Rattle.stages.proofs.stage.fifth_branch.Goals as goal

pub returns-in_err-m : goal.returns-in_err-m
unfolding trace branch5
returns-in_err-m c = c.from_residual.ensures ∙ cut-none _ _ _ (after_none _ _ (reach-fails _ _ _ c.person_alone.ensures c.in_err-m.was))

pub look_back-requires : goal.look_back-requires
unfolding only_marks
look_back-requires c =
    open-cut _ _ (steps-group _ _ person_alone_of refl c.person_alone.ensures c.in_ok-m.was) c.deleted.ensures c.requires.opens

pub ymUs_alone-requires : goal.ymUs_alone-requires
unfolding only_marks
ymUs_alone-requires c =
    sees-made _ _ c.look_back.ensures
    (open-cut _ _ (steps-group _ _ person_alone_of refl c.person_alone.ensures c.in_ok-m.was) c.deleted.ensures c.requires.opens)

pub returns-in_default : goal.returns-in_default
unfolding trace try branch5 only_marks
returns-in_default c =
    let step = steps-group _ _ person_alone_of refl c.person_alone.ensures c.in_ok-m.was in
    let is = along-seen _ _ (trace_of ymUs) c.look_back.ensures c.ymUs_alone.ensures in
    try-none _ _ step (trace_of ymUs) c.deleted.ensures c.requires.opens (along-unfit _ _ _ is c.in_default.is) c.of.ensures
    c.deleted-in_default.ensures

pub returns : goal.returns
unfolding trace try branch5 only_marks
returns c =
    let step = steps-group _ _ person_alone_of refl c.person_alone.ensures c.in_ok-m.was in
    let is = along-seen _ _ (trace_of ymUs) c.look_back.ensures c.ymUs_alone.ensures in
    try-cut _ _ step (trace_of ymUs) c.deleted.ensures (sym c.in-Some.is ∙ is) c.behind.ensures c.deleted-2.ensures
