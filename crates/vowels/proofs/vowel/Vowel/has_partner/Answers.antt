-- `vowels::vowel::Vowel::has_partner` meets its contract: what std finds among the partners is among them. Assumes nothing.
use mathlib.Core.Path.{◌∙◌}
use Rattle.vowels.proofs.Laws.Vowel.{list_any-has}
use Rattle.vowels.proofs.vowel.Vowel.has_partner.Goals as goal

pub returns : goal.returns
returns c = c.contains.ensures.value ∙ list_any-has _ _
