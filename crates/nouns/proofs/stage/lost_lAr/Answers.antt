-- `nouns::stage::lost_lAr` meets its contract: what may stand before lAr is tried from where that leads. Assumes nothing.
use Rattle.theorems.specs.Simple.Grammar.{mark_of}
use Rattle.theorems.specs.Simple.Marks.{lAr}
use Rattle.marks.proofs.Laws.Marks.{place-reach}
use Rattle.nouns.specs.Stage.{near_lAr, lost_lAr_of}
use Rattle.nouns.proofs.Laws.Passing.{leads-open, step-sees, both-perhaps}
use Rattle.nouns.proofs.stage.lost_lAr.Goals as goal

pub step_to-t-requires : goal.step_to-t-requires
step_to-t-requires c = leads-open _ _ _ (place-reach lAr _ _ c.mark_lAr.ensures c.place.ensures) c.requires.opens c.in_ok-place.was

pub near_lost_lAr-requires : goal.near_lost_lAr-requires
near_lost_lAr-requires c = step-sees _ _ _ (place-reach lAr _ _ c.mark_lAr.ensures c.place.ensures) c.requires c.in_ok-place.was c.step_to-t.ensures

pub returns : goal.returns
unfolding lost_lAr_of
returns c =
    let p = place-reach lAr _ _ c.mark_lAr.ensures c.place.ensures in
    both-perhaps _ _ (mark_of lAr) near_lAr p c.in_ok-place.was c.step_to-t.ensures c.near_lost_lAr.ensures c.unwrap_or.ensures
