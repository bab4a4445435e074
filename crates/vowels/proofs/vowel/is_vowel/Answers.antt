-- `vowels::vowel::is_vowel` meets its contract: what the code gives a vowel for is one. Assumes nothing.
use mathlib.Core.Path.{ap, ◌∙◌}
use Rattle.std.specs.Prelude.{is_some}
use Rattle.vowels.proofs.Laws.Vowel.{vowel_of-some}
use Rattle.vowels.proofs.vowel.is_vowel.Goals as goal

pub returns : goal.returns
returns c = c.is_some.ensures ∙ ap is_some c.of.ensures ∙ vowel_of-some c.args.ch
