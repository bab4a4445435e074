-- `nouns::stage::after_DA` meets its contract: what may stand before DA, yU or yA is tried from where that leads. Assumes nothing.
use mathlib.Core.Path.{◌∙◌}
use Rattle.theorems.specs.Simple.Nouns.{perhaps, after_DA_of}
use Rattle.nouns.specs.Stage.{DA_or_yU_or_yA_of, near_DA_of, possessives_or_lAr_of, possessives_and_lAr_of}
use Rattle.nouns.proofs.Laws.Passing.{leads-open, step-sees, both-none, both-perhaps}
use Rattle.nouns.proofs.stage.after_DA.Goals as goal

pub returns-in_err-DA_or_yU_or_yA : goal.returns-in_err-DA_or_yU_or_yA
unfolding after_DA_of DA_or_yU_or_yA_of near_DA_of possessives_or_lAr_of possessives_and_lAr_of
returns-in_err-DA_or_yU_or_yA c = c.from_residual.ensures ∙ both-none _ _ DA_or_yU_or_yA_of (perhaps near_DA_of) c.DA_or_yU_or_yA.ensures c.in_err-DA_or_yU_or_yA.was

pub step_to-t-requires : goal.step_to-t-requires
step_to-t-requires c = leads-open _ _ _ c.DA_or_yU_or_yA.ensures c.requires.opens c.in_ok-DA_or_yU_or_yA.was

pub near_DA-requires : goal.near_DA-requires
near_DA-requires c = step-sees _ _ _ c.DA_or_yU_or_yA.ensures c.requires c.in_ok-DA_or_yU_or_yA.was c.step_to-t.ensures

pub returns : goal.returns
unfolding after_DA_of DA_or_yU_or_yA_of near_DA_of possessives_or_lAr_of possessives_and_lAr_of
returns c = both-perhaps _ _ DA_or_yU_or_yA_of near_DA_of c.DA_or_yU_or_yA.ensures c.in_ok-DA_or_yU_or_yA.was c.step_to-t.ensures c.near_DA.ensures c.unwrap_or.ensures
