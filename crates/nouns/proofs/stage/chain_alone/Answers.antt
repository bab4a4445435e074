-- `nouns::stage::chain_alone` meets its contract: without `ki` the chain fails. Assumes nothing.
use mathlib.Core.Path.{◌∙◌}
use Rattle.theorems.specs.Simple.NounMarks.{ki}
use Rattle.marks.proofs.Laws.Marks.{place-reach}
use Rattle.nouns.proofs.Laws.Passing.{chain-kiless}
use Rattle.nouns.proofs.stage.chain_alone.Goals as goal

pub returns-in_err-place : goal.returns-in_err-place
returns-in_err-place c = c.from_residual.ensures ∙ chain-kiless _ _ (place-reach ki _ _ c.mark_ki.ensures c.place.ensures) c.in_err-place.was
