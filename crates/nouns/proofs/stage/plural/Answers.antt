-- `nouns::stage::plural` meets its contract: the chain is tried from where lAr leads. Assumes nothing.
use Rattle.theorems.specs.Simple.Grammar.{mark_of}
use Rattle.theorems.specs.Simple.Marks.{lAr}
use Rattle.theorems.specs.Simple.Nouns.{chain, plural}
use Rattle.marks.proofs.Laws.Marks.{place-reach}
use Rattle.nouns.proofs.Laws.Passing.{leads-open, step-sees, both-perhaps}
use Rattle.nouns.proofs.stage.plural.Goals as goal

pub step_to-t-requires : goal.step_to-t-requires
step_to-t-requires c = leads-open _ _ _ (place-reach lAr _ _ c.mark_lAr.ensures c.place.ensures) c.requires.opens c.in_ok-place.was

pub stem_suffix_chain_before_ki-requires : goal.stem_suffix_chain_before_ki-requires
stem_suffix_chain_before_ki-requires c = step-sees _ _ _ (place-reach lAr _ _ c.mark_lAr.ensures c.place.ensures) c.requires c.in_ok-place.was c.step_to-t.ensures

pub returns : goal.returns
unfolding plural
returns c =
    let p = place-reach lAr _ _ c.mark_lAr.ensures c.place.ensures in
    both-perhaps _ _ (mark_of lAr) chain p c.in_ok-place.was c.step_to-t.ensures c.stem_suffix_chain_before_ki.ensures c.unwrap_or.ensures
