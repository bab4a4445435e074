-- `words::stage::stage_numbers` meets its contract: the refusal found, or none, says which case of `stage_call` holds. Assumes nothing.
use Rattle.refusals.proofs.Laws.Refusals.{raised}
use Rattle.words.proofs.Laws.WordCalls.{stage_call-refused, stage_call-given}
use Rattle.words.proofs.stage.stage_numbers.Goals as goal

pub returns-in_err-new : goal.returns-in_err-new
returns-in_err-new c = rw (raised _ _ c.from_residual.ensures) (stage_call-refused _ _ c.in_err-new.ensures.number)

pub returns : goal.returns
returns c = stage_call-given _ c.in_ok-new.ensures.number c.stem_nominal_verb_suffixes.ensures c.told.ensures
