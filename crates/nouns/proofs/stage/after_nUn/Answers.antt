-- `nouns::stage::after_nUn` meets its contract: what may stand before nUn or ylA is tried from where that leads. Assumes nothing.
use mathlib.Core.Path.{◌∙◌}
use Rattle.theorems.specs.Simple.Nouns.{perhaps, after_nUn_of}
use Rattle.nouns.specs.Stage.{near_nUn_of, nUn_or_ylA_of, lost_lAr_of, near_lAr}
use Rattle.nouns.proofs.Laws.Passing.{leads-open, step-sees, both-none, both-perhaps}
use Rattle.nouns.proofs.stage.after_nUn.Goals as goal

pub returns-in_err-nUn_or_ylA : goal.returns-in_err-nUn_or_ylA
unfolding after_nUn_of nUn_or_ylA_of near_nUn_of lost_lAr_of near_lAr
returns-in_err-nUn_or_ylA c = c.from_residual.ensures ∙ both-none _ _ nUn_or_ylA_of (perhaps near_nUn_of) c.nUn_or_ylA.ensures c.in_err-nUn_or_ylA.was

pub step_to-t-requires : goal.step_to-t-requires
step_to-t-requires c = leads-open _ _ _ c.nUn_or_ylA.ensures c.requires.opens c.in_ok-nUn_or_ylA.was

pub near_nUn-requires : goal.near_nUn-requires
near_nUn-requires c = step-sees _ _ _ c.nUn_or_ylA.ensures c.requires c.in_ok-nUn_or_ylA.was c.step_to-t.ensures

pub returns : goal.returns
unfolding after_nUn_of nUn_or_ylA_of near_nUn_of lost_lAr_of near_lAr
returns c = both-perhaps _ _ nUn_or_ylA_of near_nUn_of c.nUn_or_ylA.ensures c.in_ok-nUn_or_ylA.was c.step_to-t.ensures c.near_nUn.ensures c.unwrap_or.ensures
