-- `fronts::summary::add` meets its contract. A character that is no vowel leaves the summary; a vowel has its number. Assumes nothing.
use mathlib.Core.Path.{sym, ◌∙◌}
use Rattle.vowels.proofs.Laws.Vowel.{vowel_of-none, vowel_of-vowel, vowel_of-number}
use Rattle.fronts.proofs.Laws.Summaries.{added_none, added-vowel}
use Rattle.fronts.proofs.summary.add.Goals as goal

pub returns-in_default : goal.returns-in_default
returns-in_default c =
    let a = c.args in
    added_none a.ch a.s (vowel_of-none a.ch (sym c.of.ensures ∙ c.in_default.is))

pub returns : goal.returns
returns c =
    let a = c.args in
    let found = sym c.of.ensures ∙ c.in-Some.is in
    added-vowel a.ch a.s _ _ (vowel_of-vowel a.ch _ found) (vowel_of-number a.ch _ found) c.raise.ensures
