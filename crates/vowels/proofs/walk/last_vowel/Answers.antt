-- `vowels::walk::last_vowel` meets its contract. The walk's invariant: what is left to walk has the last vowel of all of it. The
-- measure is the place. Assumes nothing.
use mathlib.Core.Path.{refl, sym, ◌∙◌}
use native.Mathlib.Omega.{arith}
use Rattle.vowels.proofs.Laws.Walk.{last_width_of-bounds, before-char_at}
use Rattle.vowels.proofs.Laws.LastVowel.{last_vowel_answer-skips, last_vowel_answer-stops, last_vowel_answer-none}
use Rattle.vowels.proofs.walk.last_vowel.Goals as goal

pub gopast-init : goal.gopast-init
gopast-init c = (omega arith, refl)

pub overflow_sub-at : goal.overflow_sub-at
overflow_sub-at c = omega (arith, last_width_of-bounds _ _ _ c.if-at-eq0.false c.last_width-n.ensures)

pub char_at-ch-requires : goal.char_at-ch-requires
char_at-ch-requires c = omega (arith, last_width_of-bounds _ _ _ c.if-at-eq0.false c.last_width-n.ensures)

pub gopast-smaller : goal.gopast-smaller
gopast-smaller c =
    omega (arith, last_width_of-bounds _ _ _ c.if-at-eq0.false c.last_width-n.ensures)

pub gopast-preserved : goal.gopast-preserved
gopast-preserved c =
    let width = c.last_width-n.ensures in
    let step = before-char_at _ _ _ _ c.if-at-eq0.false width c.char_at-ch.ensures in
    let other = sym c.is_vowel.ensures ∙ c.if-is_vowel.false in
    (omega arith, last_vowel_answer-skips _ _ _ _ width step other ∙ c.gopast.invariant.1)

pub returns-then-at-eq0 : goal.returns-then-at-eq0
returns-then-at-eq0 c = last_vowel_answer-none _ _ c.if-at-eq0.true ∙ c.gopast.invariant.1

pub returns : goal.returns
returns c =
    let width = c.last_width-n.ensures in
    let step = before-char_at _ _ _ _ c.if-at-eq0.false width c.char_at-ch.ensures in
    let is = sym c.is_vowel.ensures ∙ c.if-is_vowel.true in
    last_vowel_answer-stops _ _ _ _ width step is ∙ c.gopast.invariant.1
