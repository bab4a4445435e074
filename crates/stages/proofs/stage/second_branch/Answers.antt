-- `stages::stage::second_branch` meets its contract: what follows cAsInA goes on from where that leads. Assumes nothing.
use mathlib.Core.Path.{sym, ◌∙◌}
use Rattle.theorems.specs.Simple.Grammar.{mark, ◌then◌}
use Rattle.theorems.specs.Simple.Marks.{cAsInA, ymUs}
use Rattle.theorems.specs.Simple.Pieces.{trace}
use Rattle.theorems.specs.Simple.Stage.{person, branch2}
use Rattle.keys.proofs.Laws.Sees.{sees-made}
use Rattle.marks.proofs.Laws.Marks.{reach-fails}
use Rattle.stages.proofs.Laws.Trails.{steps-mark, along-unfit, cut-none, after_none, open_step, then-none, then-cut}
use Rattle.stages.proofs.Laws.Branches.{along-seen}
use Rattle.stages.proofs.stage.second_branch.Goals as goal

pub returns-in_err-m : goal.returns-in_err-m
unfolding trace branch2
returns-in_err-m c = c.from_residual.ensures ∙ cut-none _ _ _ (after_none _ _ (reach-fails _ _ _ c.mark_cAsInA.ensures c.in_err-m.was))

pub look_back-requires : goal.look_back-requires
look_back-requires c = open_step _ _ (steps-mark _ _ cAsInA c.mark_cAsInA.ensures c.in_ok-m.was) c.requires.opens

pub person_and_ymUs-requires : goal.person_and_ymUs-requires
person_and_ymUs-requires c =
    sees-made _ _ c.look_back.ensures (open_step _ _ (steps-mark _ _ cAsInA c.mark_cAsInA.ensures c.in_ok-m.was) c.requires.opens)

pub returns-in_err-rest : goal.returns-in_err-rest
unfolding trace branch2
returns-in_err-rest c =
    let step = steps-mark _ _ cAsInA c.mark_cAsInA.ensures c.in_ok-m.was in
    let is = along-seen _ _ (trace (person then mark ymUs)) c.look_back.ensures c.person_and_ymUs.ensures in
    c.from_residual-in_err-rest.ensures
    ∙ cut-none _ _ _ (then-none _ _ step (trace (person then mark ymUs)) (along-unfit _ _ _ is c.in_err-rest.was))

pub returns : goal.returns
unfolding trace branch2
returns c =
    let step = steps-mark _ _ cAsInA c.mark_cAsInA.ensures c.in_ok-m.was in
    let is = along-seen _ _ (trace (person then mark ymUs)) c.look_back.ensures c.person_and_ymUs.ensures in
    then-cut _ _ step (trace (person then mark ymUs)) (sym c.in_ok-rest.was ∙ is) c.behind.ensures c.deleted.ensures
