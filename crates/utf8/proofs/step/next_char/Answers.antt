-- `utf8::step::next_char` meets its contract: the tests that led to each `return` are the laws' hypotheses; a width is one to
-- four bytes within the word. Assumes nothing.
use Rattle.utf8.proofs.Laws.Steps.{stands-within, next_char_of-out, next_char_of-stays, next_char_of-made}
use Rattle.utf8.proofs.Laws.Characters.{first_width_of-pos, first_width_of-four}
use native.Mathlib.Omega.{arith}
use mathlib.Core.Path.{sym, ◌∙◌}
use Rattle.utf8.proofs.step.next_char.Goals as goal

pub returns-then-not-stands_in : goal.returns-then-not-stands_in
returns-then-not-stands_in c = sym (next_char_of-out _ _ (sym c.stands_in.ensures ∙ c.if-not-stands_in.true))

pub first_width-n-requires : goal.first_width-n-requires
first_width-n-requires c = omega (arith, stands-within _ _ (sym c.stands_in.ensures ∙ c.if-not-stands_in.false))

pub overflow_sub-r : goal.overflow_sub-r
overflow_sub-r c = omega (arith, stands-within _ _ (sym c.stands_in.ensures ∙ c.if-not-stands_in.false))

pub returns-then-r-c : goal.returns-then-r-c
returns-then-r-c c =
    let within = stands-within _ _ (sym c.stands_in.ensures ∙ c.if-not-stands_in.false) in
    sym (next_char_of-stays c.args.w.now c.args.r (omega (arith, within.low, within.high)))

pub char_at-requires : goal.char_at-requires
char_at-requires c =
    let a = c.args in
    let i = a.r.cursor in
    let within = stands-within _ _ (sym c.stands_in.ensures ∙ c.if-not-stands_in.false) in
    omega (arith, first_width_of-pos a.w.now i, first_width_of-four a.w.now i, within)

pub returns : goal.returns
returns c =
    let a = c.args in
    let stood = sym c.stands_in.ensures ∙ c.if-not-stands_in.false in
    let within = stands-within _ _ stood in
    next_char_of-made a.w.now a.r _ _ _ stood c.first_width-n.ensures (omega (arith, within.low, within.high)) c.char_at.ensures c.moved_to.ensures
