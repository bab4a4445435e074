-- `nouns::stage::after_pronominal` meets its contract: what is cut from where ndA or nA leads, or the chain before them where nothing is.
-- Assumes nothing.
use mathlib.Core.Path.{◌∙◌}
use Rattle.nouns.proofs.Laws.Passing.{leads-open, step-sees}
use Rattle.nouns.proofs.Laws.Lines.{pronominal-fails, pronominal-cut, pronominal-parted}
use Rattle.nouns.proofs.stage.after_pronominal.Goals as goal

pub returns-in_err-pronominal : goal.returns-in_err-pronominal
returns-in_err-pronominal c = c.from_residual.ensures ∙ pronominal-fails _ _ c.pronominal.ensures c.in_err-pronominal.was

pub step_to-t-requires : goal.step_to-t-requires
step_to-t-requires c = leads-open _ _ _ c.pronominal.ensures c.requires.opens c.in_ok-pronominal.was

pub near_pronominal-requires : goal.near_pronominal-requires
near_pronominal-requires c = step-sees _ _ _ c.pronominal.ensures c.requires c.in_ok-pronominal.was c.step_to-t.ensures

pub returns-in-Some : goal.returns-in-Some
returns-in-Some c =
    pronominal-cut _ _ c.pronominal.ensures c.in_ok-pronominal.was c.step_to-t.ensures c.near_pronominal.ensures c.in-Some.is

pub stem_suffix_chain_before_ki-requires : goal.stem_suffix_chain_before_ki-requires
stem_suffix_chain_before_ki-requires c = step-sees _ _ _ c.pronominal.ensures c.requires c.in_ok-pronominal.was c.step_to-t.ensures

pub returns-in_err-front : goal.returns-in_err-front
returns-in_err-front c =
    c.from_residual-in_err-front.ensures
    ∙ pronominal-parted _ _ c.pronominal.ensures c.in_ok-pronominal.was c.step_to-t.ensures c.near_pronominal.ensures c.in_default.is c.in_err-front.ensures

pub returns : goal.returns
returns c =
    pronominal-parted _ _ c.pronominal.ensures c.in_ok-pronominal.was c.step_to-t.ensures c.near_pronominal.ensures c.in_default.is c.in_ok-front.ensures
