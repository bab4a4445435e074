-- `refusals::refusal::refusal_short` meets its contract: the word's own number comes first, and then the room is tested.
-- Assumes nothing.
use mathlib.Core.Path.{refl}
use native.Mathlib.Omega.{arith}
use Rattle.turkish.proofs.OneToOne.{refusal_number-some}
use Rattle.refusals.proofs.Laws.Refusals.{refusal_short_of-word, refusal_short_of-room, refusal_short_of-none}
use Rattle.refusals.proofs.refusal.refusal_short.Goals as goal

pub returns-in-Err : goal.returns-in-Err
returns-in-Err c =
    let a = c.args in
    omega (arith, c.from.ensures, refusal_short_of-word a.number a.w.now a.need a.room _ c.in-Err.ensures.number (refusal_number-some _))

pub returns-in-Ok : goal.returns-in-Ok
returns-in-Ok c = refusal_short_of-room _ _ _ _ _ c.in-Ok.ensures.number refl c.if-room-need.true

pub returns-in-Ok-2 : goal.returns-in-Ok-2
returns-in-Ok-2 c =
    let a = c.args in
    omega (arith, refusal_short_of-none a.number a.w.now a.need a.room 0 c.in-Ok.ensures.number refl c.if-room-need.false)
