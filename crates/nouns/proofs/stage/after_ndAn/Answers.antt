-- `nouns::stage::after_ndAn` meets its contract: sU is asked for where ndAn or nU leads. Assumes nothing.
use Rattle.theorems.specs.Simple.Nouns.{chain, owned_by_sU_of, after_ndAn_of}
use Rattle.nouns.specs.Stage.{ndAn_or_nU_of}
use Rattle.nouns.proofs.Laws.Passing.{leads-open, step-sees, both-then}
use Rattle.nouns.proofs.stage.after_ndAn.Goals as goal

pub step_to-t-requires : goal.step_to-t-requires
step_to-t-requires c = leads-open _ _ _ c.ndAn_or_nU.ensures c.requires.opens c.in_ok-ndAn_or_nU.was

pub owned_by_sU-requires : goal.owned_by_sU-requires
owned_by_sU-requires c = step-sees _ _ _ c.ndAn_or_nU.ensures c.requires c.in_ok-ndAn_or_nU.was c.step_to-t.ensures

pub returns : goal.returns
unfolding after_ndAn_of ndAn_or_nU_of
returns c = both-then _ _ ndAn_or_nU_of (owned_by_sU_of chain) c.ndAn_or_nU.ensures c.in_ok-ndAn_or_nU.was c.step_to-t.ensures c.owned_by_sU.ensures
