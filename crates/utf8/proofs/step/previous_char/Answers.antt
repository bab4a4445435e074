-- `utf8::step::previous_char` meets its contract: the tests that led to each `return` are the laws' hypotheses; a width is one to
-- four bytes within the word. Assumes nothing.
use Rattle.utf8.proofs.Laws.Steps.{stands-within, previous_char_of-out, previous_char_of-stays, previous_char_of-made}
use Rattle.utf8.proofs.Laws.Characters.{last_width_of-pos, last_width_of-four}
use native.Mathlib.Omega.{arith}
use mathlib.Core.Path.{sym, ◌∙◌}
use Rattle.utf8.proofs.step.previous_char.Goals as goal

pub returns-then-not-stands_in : goal.returns-then-not-stands_in
returns-then-not-stands_in c = sym (previous_char_of-out _ _ (sym c.stands_in.ensures ∙ c.if-not-stands_in.true))

pub last_width-n-requires : goal.last_width-n-requires
last_width-n-requires c = omega (arith, stands-within _ _ (sym c.stands_in.ensures ∙ c.if-not-stands_in.false))

pub overflow_sub-c : goal.overflow_sub-c
overflow_sub-c c = omega (arith, stands-within _ _ (sym c.stands_in.ensures ∙ c.if-not-stands_in.false))

pub returns-then-c-r : goal.returns-then-c-r
returns-then-c-r c =
    let within = stands-within _ _ (sym c.stands_in.ensures ∙ c.if-not-stands_in.false) in
    sym (previous_char_of-stays c.args.w.now c.args.r (omega (arith, within.low, within.high)))

pub char_at-requires : goal.char_at-requires
char_at-requires c =
    let a = c.args in
    let i = a.r.cursor in
    let within = stands-within _ _ (sym c.stands_in.ensures ∙ c.if-not-stands_in.false) in
    omega (arith, last_width_of-pos a.w.now i, last_width_of-four a.w.now i, within)

pub returns : goal.returns
returns c =
    let a = c.args in
    let stood = sym c.stands_in.ensures ∙ c.if-not-stands_in.false in
    let within = stands-within _ _ stood in
    previous_char_of-made a.w.now a.r _ _ _ stood c.last_width-n.ensures (omega (arith, within.low, within.high)) c.char_at.ensures c.moved_to.ensures
