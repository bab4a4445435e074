-- `utf8::characters::read_back` meets its contract: one byte below 128, two bytes of which the second goes on, and any other character by its
-- width. Assumes nothing.
use mathlib.Core.Bool.{not}
use Rattle.utf8.proofs.Laws.Characters.{last_width_of-le, last_width_of-pos, last_width_of-four}
use Rattle.utf8.proofs.Laws.ReadBack.{read_back_of-zero, read_back_of-made, read_back_of-ascii, read_back_of-two}
use Rattle.encoding.proofs.Laws.Booleans.{and_left, and_right, not-eq-false}
use native.Mathlib.Omega.{arith}
use mathlib.Core.Path.{refl, sym, ◌∙◌}
use Rattle.utf8.proofs.characters.read_back.Goals as goal

pub returns-then-c-eq0 : goal.returns-then-c-eq0
returns-then-c-eq0 c = read_back_of-zero c.args.w.now _ c.if-c-eq0.true

pub returns-then-b-lt128 : goal.returns-then-b-lt128
returns-then-b-lt128 c = read_back_of-ascii c.args.w.now c.args.c _ (omega arith) c.requires refl c.if-b-lt128.true

pub returns-then-is_continuation : goal.returns-then-is_continuation
returns-then-is_continuation c =
    let t = c.if-is_continuation.true in
    let on = c.is_continuation.result in
    let off = c.is_continuation-then-c-ge2.result in
    read_back_of-two c.args.w.now c.args.c _ _ _ c.if-c-ge2.true c.requires refl refl
    (sym c.is_continuation.ensures ∙ and_left on (not off) t) (sym c.is_continuation-then-c-ge2.ensures ∙ not-eq-false off (and_right on (not off) t))
    c.decode_two.ensures

pub overflow_sub-at : goal.overflow_sub-at
overflow_sub-at c = omega (arith, last_width_of-le c.args.w.now c.args.c (omega arith))

pub char_at-requires : goal.char_at-requires
char_at-requires c =
    let w = c.args.w.now in
    omega (arith, last_width_of-le w c.args.c (omega arith), last_width_of-pos w c.args.c, last_width_of-four w c.args.c)

pub returns : goal.returns
returns c =
    read_back_of-made c.args.w.now c.args.c _ _ (omega arith) c.last_width-n.ensures c.char_at.ensures
