-- `stages::syllable::more_than_one_syllable_word` meets its contract: a vowel stands before the last one. Assumes nothing.
use mathlib.Core.Path.{sym, ap, ◌∙◌}
use native.Mathlib.Omega.{arith}
use Rattle.std.specs.Prelude.{is_some}
use Rattle.vowels.proofs.Laws.LastVowel.{last-at-le, last_vowel_answer-alone, last_vowel_answer-other}
use Rattle.stages.proofs.syllable.more_than_one_syllable_word.Goals as goal

pub returns-in_default : goal.returns-in_default
returns-in_default c = last_vowel_answer-alone _ _ (sym c.last_vowel.ensures ∙ c.in_default.is)

pub last_vowel-requires-2 : goal.last_vowel-requires-2
last_vowel-requires-2 c = omega (arith, last-at-le _ _ _ (sym c.last_vowel.ensures ∙ c.in-Some.is))

pub returns : goal.returns
returns c =
    c.is_some.ensures ∙ ap is_some c.last_vowel-2.ensures ∙ last_vowel_answer-other _ _ _ (sym c.last_vowel.ensures ∙ c.in-Some.is)
