-- `utf8::characters::read_short_back` meets its contract: one byte below 128, or two of which the second goes on; any other character is
-- `read_back`'s. Assumes nothing.
use mathlib.Core.Path.{refl, sym, ◌∙◌}
use mathlib.Core.Bool.{not}
use native.Mathlib.Omega.{arith}
use Rattle.encoding.proofs.Laws.Booleans.{and_left, and_right, not-eq-false}
use Rattle.utf8.proofs.Laws.ReadBack.{read_back_of-ascii, read_back_of-two}
use Rattle.utf8.proofs.characters.read_short_back.Goals as goal

pub returns-then-b-lt128 : goal.returns-then-b-lt128
returns-then-b-lt128 c =
    read_back_of-ascii c.args.w.now c.args.c _ (omega arith) c.requires refl c.if-b-lt128.true

pub returns-then-is_continuation : goal.returns-then-is_continuation
returns-then-is_continuation c =
    let t = c.if-is_continuation.true in
    let on = c.is_continuation in
    let off = c.is_continuation-then-c-ge2 in
    read_back_of-two c.args.w.now c.args.c _ _ _ c.if-c-ge2.true c.requires refl refl
    (sym on.ensures ∙ and_left on.result (not off.result) t)
    (sym off.ensures ∙ not-eq-false off.result (and_right on.result (not off.result) t)) c.decode_two.ensures
