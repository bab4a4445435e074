-- `stages::stage::person_and_ymUs` meets its contract: ymUs_ goes on from where a person's ending leads, and stands alone where none fits. Assumes
-- nothing.
use mathlib.Core.Path.{sym, ap, ◌∙◌}
use Rattle.theorems.specs.Simple.Marks.{ymUs}
use Rattle.theorems.specs.Simple.Pieces.{trace_of, trace}
use Rattle.keys.proofs.Laws.Sees.{sees-made}
use Rattle.marks.proofs.Laws.Marks.{reach-fails}
use Rattle.stages.specs.Trail.{along}
use Rattle.stages.proofs.Laws.Trails.{along-unfit, along-none, open_step, then-none, then-along}
use Rattle.stages.proofs.Laws.Branches.{steps-person, along-seen, person-absent}
use Rattle.stages.proofs.stage.person_and_ymUs.Goals as goal

pub returns-in_default : goal.returns-in_default
returns-in_default c = c.ymUs_alone.ensures ∙ sym (ap (along _ _) (person-absent _ (reach-fails _ _ _ c.person.ensures c.in_default.is)))

pub look_back-requires : goal.look_back-requires
look_back-requires c = open_step _ _ (steps-person _ _ c.person.ensures c.in-Some.is) c.requires.opens

pub ymUs_alone-requires-2 : goal.ymUs_alone-requires-2
ymUs_alone-requires-2 c = sees-made _ _ c.look_back.ensures (open_step _ _ (steps-person _ _ c.person.ensures c.in-Some.is) c.requires.opens)

pub returns-in_err-rest : goal.returns-in_err-rest
unfolding trace
returns-in_err-rest c =
    let step = steps-person _ _ c.person.ensures c.in-Some.is in
    let is = along-seen _ _ (trace_of ymUs) c.look_back.ensures c.ymUs_alone-2.ensures in
    c.from_residual.ensures ∙ along-none _ _ _ (then-none _ _ step (trace_of ymUs) (along-unfit _ _ _ is c.in_err-rest.was))

pub returns : goal.returns
unfolding trace
returns c =
    let step = steps-person _ _ c.person.ensures c.in-Some.is in
    let is = along-seen _ _ (trace_of ymUs) c.look_back.ensures c.ymUs_alone-2.ensures in
    then-along _ _ step (trace_of ymUs) (sym c.in_ok-rest.was ∙ is) c.behind.ensures
