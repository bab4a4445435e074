-- `nouns::stage::after_ncA` meets its contract: what may stand before ncA is tried from where that leads. Assumes nothing.
use Rattle.theorems.specs.Simple.Grammar.{mark_of}
use Rattle.theorems.specs.Simple.NounMarks.{ncA}
use Rattle.theorems.specs.Simple.Nouns.{after_ncA_of}
use Rattle.marks.proofs.Laws.Marks.{place-reach}
use Rattle.nouns.specs.Stage.{near_ncA_of}
use Rattle.nouns.proofs.Laws.Passing.{leads-open, step-sees, both-perhaps}
use Rattle.nouns.proofs.stage.after_ncA.Goals as goal

pub step_to-t-requires : goal.step_to-t-requires
step_to-t-requires c = leads-open _ _ _ (place-reach ncA _ _ c.mark_ncA.ensures c.place.ensures) c.requires.opens c.in_ok-place.was

pub near_ncA-requires : goal.near_ncA-requires
near_ncA-requires c = step-sees _ _ _ (place-reach ncA _ _ c.mark_ncA.ensures c.place.ensures) c.requires c.in_ok-place.was c.step_to-t.ensures

pub returns : goal.returns
unfolding after_ncA_of near_ncA_of
returns c =
    let p = place-reach ncA _ _ c.mark_ncA.ensures c.place.ensures in
    both-perhaps _ _ (mark_of ncA) near_ncA_of p c.in_ok-place.was c.step_to-t.ensures c.near_ncA.ensures c.unwrap_or.ensures
