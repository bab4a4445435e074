-- `words::syllable::check_syllables` meets its contract: the refusal found, or none, says which case of `syllable_call` holds. Assumes
-- nothing.
use Rattle.refusals.proofs.Laws.Refusals.{raised}
use Rattle.words.proofs.Laws.WordCalls.{syllable_call-refused, syllable_call-given}
use Rattle.words.proofs.syllable.check_syllables.Goals as goal

pub returns-in_err-new : goal.returns-in_err-new
returns-in_err-new c = rw (raised _ _ c.from_residual.ensures) (syllable_call-refused _ _ c.in_err-new.ensures.number)

pub returns : goal.returns
returns c = syllable_call-given _ c.in_ok-new.ensures.number c.more_than_one_syllable_word.ensures
