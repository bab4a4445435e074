-- `stages::stage::sixth_branch` meets its contract: a person's ending or nothing and ymUs_ are tried whole from where DUr leads, after its deletion.
-- Assumes nothing.
use mathlib.Core.Path.{sym, ◌∙◌}
use Rattle.theorems.specs.Simple.Grammar.{mark, ◌then◌, try}
use Rattle.theorems.specs.Simple.Marks.{DUr, ymUs}
use Rattle.theorems.specs.Simple.Pieces.{trace}
use Rattle.theorems.specs.Simple.Stage.{person, branch6}
use Rattle.keys.proofs.Laws.Sees.{sees-made}
use Rattle.marks.proofs.Laws.Marks.{reach-fails}
use Rattle.stages.proofs.Laws.Trails.{steps-mark, along-unfit, cut-none, after_none, open-cut, try-cut, try-none}
use Rattle.stages.proofs.Laws.Branches.{along-seen}
use Rattle.stages.proofs.stage.sixth_branch.Goals as goal

pub returns-in_err-m : goal.returns-in_err-m
unfolding trace branch6
returns-in_err-m c = c.from_residual.ensures ∙ cut-none _ _ _ (after_none _ _ (reach-fails _ _ _ c.mark_DUr.ensures c.in_err-m.was))

pub look_back-requires : goal.look_back-requires
look_back-requires c = open-cut _ _ (steps-mark _ _ DUr c.mark_DUr.ensures c.in_ok-m.was) c.deleted.ensures c.requires.opens

pub person_and_ymUs-requires : goal.person_and_ymUs-requires
person_and_ymUs-requires c =
    sees-made _ _ c.look_back.ensures (open-cut _ _ (steps-mark _ _ DUr c.mark_DUr.ensures c.in_ok-m.was) c.deleted.ensures c.requires.opens)

pub returns-in_default : goal.returns-in_default
unfolding trace try branch6
returns-in_default c =
    let step = steps-mark _ _ DUr c.mark_DUr.ensures c.in_ok-m.was in
    let is = along-seen _ _ (trace (person then mark ymUs)) c.look_back.ensures c.person_and_ymUs.ensures in
    try-none _ _ step (trace (person then mark ymUs)) c.deleted.ensures c.requires.opens (along-unfit _ _ _ is c.in_default.is) c.of.ensures
    c.deleted-in_default.ensures

pub returns : goal.returns
unfolding trace try branch6
returns c =
    let step = steps-mark _ _ DUr c.mark_DUr.ensures c.in_ok-m.was in
    let is = along-seen _ _ (trace (person then mark ymUs)) c.look_back.ensures c.person_and_ymUs.ensures in
    try-cut _ _ step (trace (person then mark ymUs)) c.deleted.ensures (sym c.in-Some.is ∙ is) c.behind.ensures c.deleted-2.ensures
