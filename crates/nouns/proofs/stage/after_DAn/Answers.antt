-- `nouns::stage::after_DAn` meets its contract: what may stand before DAn is tried from where that leads. Assumes nothing.
use Rattle.theorems.specs.Simple.Grammar.{mark_of}
use Rattle.theorems.specs.Simple.NounMarks.{DAn}
use Rattle.theorems.specs.Simple.Nouns.{after_DAn_of}
use Rattle.marks.proofs.Laws.Marks.{place-reach}
use Rattle.nouns.specs.Stage.{near_DAn_of}
use Rattle.nouns.proofs.Laws.Passing.{leads-open, step-sees, both-perhaps}
use Rattle.nouns.proofs.stage.after_DAn.Goals as goal

pub step_to-t-requires : goal.step_to-t-requires
step_to-t-requires c = leads-open _ _ _ (place-reach DAn _ _ c.mark_DAn.ensures c.place.ensures) c.requires.opens c.in_ok-place.was

pub near_DAn-requires : goal.near_DAn-requires
near_DAn-requires c = step-sees _ _ _ (place-reach DAn _ _ c.mark_DAn.ensures c.place.ensures) c.requires c.in_ok-place.was c.step_to-t.ensures

pub returns : goal.returns
unfolding after_DAn_of near_DAn_of
returns c =
    let p = place-reach DAn _ _ c.mark_DAn.ensures c.place.ensures in
    both-perhaps _ _ (mark_of DAn) near_DAn_of p c.in_ok-place.was c.step_to-t.ensures c.near_DAn.ensures c.unwrap_or.ensures
