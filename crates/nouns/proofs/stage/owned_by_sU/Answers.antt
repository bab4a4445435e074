-- `nouns::stage::owned_by_sU` meets its contract: a plural is tried from where sU leads. Assumes nothing.
use Rattle.theorems.specs.Simple.Grammar.{mark_of}
use Rattle.theorems.specs.Simple.NounMarks.{sU}
use Rattle.theorems.specs.Simple.Nouns.{chain, plural, owned_by_sU_of}
use Rattle.marks.proofs.Laws.Marks.{place-reach}
use Rattle.nouns.proofs.Laws.Passing.{leads-open, step-sees, both-perhaps}
use Rattle.nouns.proofs.stage.owned_by_sU.Goals as goal

pub step_to-t-requires : goal.step_to-t-requires
step_to-t-requires c = leads-open _ _ _ (place-reach sU _ _ c.mark_sU.ensures c.place.ensures) c.requires.opens c.in_ok-place.was

pub plural-requires : goal.plural-requires
plural-requires c = step-sees _ _ _ (place-reach sU _ _ c.mark_sU.ensures c.place.ensures) c.requires c.in_ok-place.was c.step_to-t.ensures

pub returns : goal.returns
unfolding owned_by_sU_of
returns c =
    let p = place-reach sU _ _ c.mark_sU.ensures c.place.ensures in
    both-perhaps _ _ (mark_of sU) (plural chain) p c.in_ok-place.was c.step_to-t.ensures c.plural.ensures c.unwrap_or.ensures
