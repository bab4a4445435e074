-- `nouns::stage::near_DA` meets its contract: the chain is tried from where possessives or lAr leads. Assumes nothing.
use Rattle.theorems.specs.Simple.Nouns.{chain}
use Rattle.nouns.specs.Stage.{possessives_or_lAr_of, near_DA_of}
use Rattle.nouns.proofs.Laws.Passing.{leads-open, step-sees, both-perhaps}
use Rattle.nouns.proofs.stage.near_DA.Goals as goal

pub step_to-before-requires : goal.step_to-before-requires
step_to-before-requires c = leads-open _ _ _ c.possessives_or_lAr.ensures c.requires.opens c.in_ok-possessives_or_lAr.was

pub stem_suffix_chain_before_ki-requires : goal.stem_suffix_chain_before_ki-requires
stem_suffix_chain_before_ki-requires c = step-sees _ _ _ c.possessives_or_lAr.ensures c.requires c.in_ok-possessives_or_lAr.was c.step_to-before.ensures

pub returns : goal.returns
unfolding near_DA_of
returns c = both-perhaps _ _ possessives_or_lAr_of chain c.possessives_or_lAr.ensures c.in_ok-possessives_or_lAr.was c.step_to-before.ensures c.stem_suffix_chain_before_ki.ensures c.unwrap_or.ensures
