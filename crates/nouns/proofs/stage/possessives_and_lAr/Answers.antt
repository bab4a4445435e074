-- `nouns::stage::possessives_and_lAr` meets its contract: lAr is tried from where possessives leads. Assumes nothing.
use Rattle.theorems.specs.Simple.Grammar.{mark_of}
use Rattle.theorems.specs.Simple.Marks.{lAr}
use Rattle.theorems.specs.Simple.NounMarks.{possessives}
use Rattle.marks.proofs.Laws.Marks.{place-reach}
use Rattle.nouns.specs.Stage.{possessives_and_lAr_of}
use Rattle.nouns.proofs.Laws.Passing.{leads-open, step-sees, both-perhaps}
use Rattle.nouns.proofs.stage.possessives_and_lAr.Goals as goal

pub step_to-t-requires : goal.step_to-t-requires
step_to-t-requires c = leads-open _ _ _ (place-reach possessives _ _ c.mark_possessives.ensures c.place.ensures) c.requires.opens c.in_ok-place.was

pub mark_lAr-requires : goal.mark_lAr-requires
mark_lAr-requires c = step-sees _ _ _ (place-reach possessives _ _ c.mark_possessives.ensures c.place.ensures) c.requires c.in_ok-place.was c.step_to-t.ensures

pub returns : goal.returns
unfolding possessives_and_lAr_of
returns c =
    let p = place-reach possessives _ _ c.mark_possessives.ensures c.place.ensures in
    let q = place-reach lAr _ _ c.mark_lAr.ensures c.place-2.ensures in
    both-perhaps _ _ (mark_of possessives) (mark_of lAr) p c.in_ok-place.was c.step_to-t.ensures q c.unwrap_or.ensures
