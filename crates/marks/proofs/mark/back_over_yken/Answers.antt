-- `marks::mark::back_over_yken` meets its contract: the steps of the lent record decide it, by the laws of Laws/Yken. Assumes nothing.
use mathlib.Core.Path.{sym, ◌∙◌}
use mathlib.Core.Bool.{true, false}
use native.Mathlib.Omega.{arith}
use borrow.Author.Tests.{not-true, not-false}
use Rattle.marks.proofs.Laws.Yken.{yken-keyless, yken-first, yken-bytes, yken-joined, yken-apart, yken-alone}
use Rattle.marks.proofs.mark.back_over_yken.Goals as goal

pub returns-then-not-k : goal.returns-then-not-k
returns-then-not-k c = yken-keyless _ _ c.requires c.back_over-k.ensures (not-true _ c.if-not-k.true)

pub returns-in_default : goal.returns-in_default
returns-in_default c = yken-first _ _ c.requires c.back_over-k.ensures (not-false _ c.if-not-k.false) c.in_default.is

pub overflow_sub-here : goal.overflow_sub-here
overflow_sub-here c = omega (arith, (yken-bytes _ _ c.requires c.back_over-k.ensures (not-false _ c.if-not-k.false) c.in-Some.is).0)

pub char_at-v-requires : goal.char_at-v-requires
char_at-v-requires c = yken-bytes _ _ c.requires c.back_over-k.ensures (not-false _ c.if-not-k.false) c.in-Some.is

pub returns-then-not-is_vowel : goal.returns-then-not-is_vowel
returns-then-not-is_vowel c =
    yken-joined _ _ c.requires c.back_over-k.ensures (not-false _ c.if-not-k.false) c.in-Some.is c.if-k.true c.char_at-v.ensures
    false (sym c.is_vowel.ensures ∙ c.if-not-is_vowel.true)

pub returns-then-k : goal.returns-then-k
returns-then-k c =
    yken-joined _ _ c.requires c.back_over-k.ensures (not-false _ c.if-not-k.false) c.in-Some.is c.if-k.true c.char_at-v.ensures
    true (sym c.is_vowel.ensures ∙ c.if-not-is_vowel.false)

pub returns-in_default-previous_char : goal.returns-in_default-previous_char
returns-in_default-previous_char c =
    yken-alone _ _ c.requires c.back_over-k.ensures (not-false _ c.if-not-k.false) c.in-Some.is c.if-k.false c.in_default-previous_char.ensures

pub returns-then-not-is_vowel-2 : goal.returns-then-not-is_vowel-2
returns-then-not-is_vowel-2 c =
    yken-apart _ _ c.requires c.back_over-k.ensures (not-false _ c.if-not-k.false) c.in-Some.is c.if-k.false c.in-Some-previous_char.ensures
    false (sym c.is_vowel-2.ensures ∙ c.if-not-is_vowel-2.true)

pub returns : goal.returns
returns c =
    yken-apart _ _ c.requires c.back_over-k.ensures (not-false _ c.if-not-k.false) c.in-Some.is c.if-k.false c.in-Some-previous_char.ensures
    true (sym c.is_vowel-2.ensures ∙ c.if-not-is_vowel-2.false)
