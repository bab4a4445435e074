-- `repairs::postlude::append_U_to_stems_ending_with_d_or_g` meets its contract: where the character seen last is d or g, the vowel is
-- the one gained after the last vowel before it. Assumes nothing.
use mathlib.Core.Path.{refl, sym, ap, ◌∙◌}
use native.Mathlib.Omega.{arith}
use Rattle.turkish.specs.Letters.{text, any, has}
use Rattle.theorems.specs.Simple.Postlude.{gained}
use Rattle.vowels.proofs.Laws.LastVowel.{last-ch, last_vowel_answer-zero}
use Rattle.repairs.specs.Repairs.{gain}
use Rattle.repairs.proofs.Laws.Repairs.{one-le, appended-after, appended-not, gain-zero}
use Rattle.repairs.proofs.postlude.append_U_to_stems_ending_with_d_or_g.Goals as goal

pub last_vowel-requires : goal.last_vowel-requires
last_vowel-requires c = omega (arith, one-le c.args.w.now c.args.n c.args.s c.requires.s_value)

pub returns-in_err-last : goal.returns-in_err-last
returns-in_err-last c =
    let none = last_vowel_answer-zero _ _ (sym c.last_vowel.ensures ∙ c.in_err-last.was) in
    c.from_residual.ensures
    ∙ gain-zero _ (sym (appended-after _ _ _ c.requires.s_value 0 c.if-s.true (sym none)) ∙ unfold gained has any text in refl)

pub returns-then-s : goal.returns-then-s
returns-then-s c =
    let last = last-ch _ _ _ (sym c.last_vowel.ensures ∙ c.in_ok-last.was) in
    c.gained_after.ensures ∙ ap gain (appended-after _ _ _ c.requires.s_value _ c.if-s.true last)

pub returns : goal.returns
returns c = gain-zero _ (sym (appended-not _ _ _ c.requires.s_value c.if-s.false))
