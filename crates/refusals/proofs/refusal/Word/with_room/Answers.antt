-- `refusals::refusal::Word::with_room` meets its contract: the word's own refusal comes first, and then the room is tested.
-- Assumes nothing.
use mathlib.Core.Path.{refl}
use Rattle.turkish.proofs.OneToOne.{refusal_number-some}
use Rattle.refusals.proofs.Laws.Refusals.{raised, refusal_short_of-word, refusal_short_of-room, refusal_short_of-none}
use Rattle.refusals.proofs.refusal.Word.with_room.Goals as goal

pub returns-in_err-word-clause-number : goal.returns-in_err-word-clause-number
returns-in_err-word-clause-number c =
    rw (raised _ _ c.from_residual.ensures) (refusal_short_of-word _ _ _ _ _ c.in_err-word.ensures.number (refusal_number-some _))

pub returns-then-room-need-clause-number : goal.returns-then-room-need-clause-number
returns-then-room-need-clause-number c = refusal_short_of-room _ _ _ _ _ c.in_ok-word.ensures.number refl c.if-room-need.true

pub returns-clause-number : goal.returns-clause-number
returns-clause-number c = refusal_short_of-none _ _ _ _ _ c.in_ok-word.ensures.number refl c.if-room-need.false
