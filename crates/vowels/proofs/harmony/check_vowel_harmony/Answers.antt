-- `vowels::harmony::check_vowel_harmony` meets its contract. The first loop's invariant: what is found from here on is what is found from
-- c on; the second's: what is sought from here on, with what was skipped so far, is what is found from c on, and v is the vowel with its
-- partners. The measure is the place. Assumes nothing.
use mathlib.Core.Path.{refl, sym, ap, ◌∙◌}
use native.Mathlib.Omega.{arith}
use Rattle.vowels.specs.Vowel.{vowel_of}
use Rattle.vowels.proofs.Laws.Vowel.{vowel_of-none, vowel_of-vowel, vowel_of-ch, partner-vowels}
use Rattle.vowels.proofs.Laws.Walk.{last_width_of-bounds, before-char_at}
use Rattle.vowels.proofs.Laws.Found.{seeks-skips, seeks-passes, seeks-stops, seeks-none, partner-no, harmony_before-skips, harmony_before-stops, harmony_before-none}
use Rattle.vowels.proofs.harmony.check_vowel_harmony.Goals as goal

pub goto-init : goal.goto-init
goto-init c = (omega arith, refl)

pub returns-then-at-eq0 : goal.returns-then-at-eq0
returns-then-at-eq0 c = harmony_before-none _ _ c.if-at-eq0.true ∙ c.goto.invariant.1

pub overflow_sub-at : goal.overflow_sub-at
overflow_sub-at c = omega (arith, last_width_of-bounds _ _ _ c.if-at-eq0.false c.last_width-n.ensures)

pub char_at-ch-requires : goal.char_at-ch-requires
char_at-ch-requires c = omega (arith, last_width_of-bounds _ _ _ c.if-at-eq0.false c.last_width-n.ensures)

pub goto-smaller : goal.goto-smaller
goto-smaller c =
    omega (arith, last_width_of-bounds _ _ _ c.if-at-eq0.false c.last_width-n.ensures)

-- ---- to one of its partners ----
pub goto-preserved : goal.goto-preserved
goto-preserved c =
    let step = before-char_at _ _ _ _ c.if-at-eq0.false c.last_width-n.ensures c.char_at-ch.ensures in
    let other = vowel_of-none _ (sym c.of.ensures ∙ c.in_default.is) in
    (omega arith, harmony_before-skips _ _ _ _ c.last_width-n.ensures step other ∙ c.goto.invariant.1)

pub goto-2-init : goal.goto-2-init
goto-2-init c =
    let step = before-char_at _ _ _ _ c.if-at-eq0.false c.last_width-n.ensures c.char_at-ch.ensures in
    let found = sym c.of.ensures ∙ c.in-Some.is in
    let is = vowel_of-ch _ _ found in
    let stops = harmony_before-stops _ _ _ _ c.last_width-n.ensures step is (vowel_of-vowel _ _ found) in
    (omega arith, ap vowel_of is ∙ found, stops ∙ c.goto.invariant.1)

pub returns-then-at-eq0-2 : goal.returns-then-at-eq0-2
returns-then-at-eq0-2 c = seeks-none _ _ _ _ _ c.if-at-eq0-2.true ∙ c.goto-2.invariant.2

pub overflow_sub-at-in-goto-2 : goal.overflow_sub-at-in-goto-2
overflow_sub-at-in-goto-2 c = omega (arith, last_width_of-bounds _ _ _ c.if-at-eq0-2.false c.last_width-n-in-goto-2.ensures)

pub char_at-ch-requires-in-goto-2 : goal.char_at-ch-requires-in-goto-2
char_at-ch-requires-in-goto-2 c = omega (arith, last_width_of-bounds _ _ _ c.if-at-eq0-2.false c.last_width-n-in-goto-2.ensures)

pub goto-2-smaller-in_default-of : goal.goto-2-smaller-in_default-of
goto-2-smaller-in_default-of c =
    omega (arith, last_width_of-bounds _ _ _ c.if-at-eq0-2.false c.last_width-n-in-goto-2.ensures)

pub goto-2-preserved-in_default-of : goal.goto-2-preserved-in_default-of
goto-2-preserved-in_default-of c =
    let l = c.goto-2 in
    let step = before-char_at _ _ _ _ c.if-at-eq0-2.false c.last_width-n-in-goto-2.ensures c.char_at-ch-in-goto-2.ensures in
    let none = vowel_of-none _ (sym c.of-in-goto-2.ensures ∙ c.in_default-of.is) in
    (omega arith, l.invariant.1, seeks-skips _ _ _ _ _ _ _ c.last_width-n-in-goto-2.ensures step (partner-no _ _ none) none ∙ l.invariant.2)

pub goto-2-smaller : goal.goto-2-smaller
goto-2-smaller c =
    omega (arith, last_width_of-bounds _ _ _ c.if-at-eq0-2.false c.last_width-n-in-goto-2.ensures)

pub goto-2-preserved : goal.goto-2-preserved
goto-2-preserved c =
    let l = c.goto-2 in
    let step = before-char_at _ _ _ _ c.if-at-eq0-2.false c.last_width-n-in-goto-2.ensures c.char_at-ch-in-goto-2.ensures in
    let found = sym c.of-in-goto-2.ensures ∙ c.in-Some-of.is in
    let other = partner-vowels _ _ _ _ l.invariant.1 found ∙ sym c.has_partner.ensures ∙ c.if-has_partner.false in
    (omega arith, l.invariant.1, seeks-passes _ _ _ _ _ _ _ c.last_width-n-in-goto-2.ensures step other (vowel_of-vowel _ _ found) ∙ l.invariant.2)

pub returns : goal.returns
returns c =
    let l = c.goto-2 in
    let step = before-char_at _ _ _ _ c.if-at-eq0-2.false c.last_width-n-in-goto-2.ensures c.char_at-ch-in-goto-2.ensures in
    let found = sym c.of-in-goto-2.ensures ∙ c.in-Some-of.is in
    let is = partner-vowels _ _ _ _ l.invariant.1 found ∙ sym c.has_partner.ensures ∙ c.if-has_partner.true in
    seeks-stops _ _ _ _ _ _ _ c.last_width-n-in-goto-2.ensures step is ∙ l.invariant.2
