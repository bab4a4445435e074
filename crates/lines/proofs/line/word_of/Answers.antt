-- `lines::line::word_of` meets its contract: the word's refusal comes first, then the tab.
-- Assumes nothing.
use mathlib.Core.Path.{refl, sym, ◌∙◌}
use Rattle.turkish.proofs.OneToOne.{refusal_number-some}
use Rattle.refusals.proofs.Laws.Refusals.{raised}
use Rattle.lines.proofs.Laws.LineRefusals.{line_refusal_of-word, line_refusal_of-tab, line_refusal_of-none}
use Rattle.lines.proofs.line.word_of.Goals as goal

pub returns-in_err-word-clause-number : goal.returns-in_err-word-clause-number
returns-in_err-word-clause-number c =
    rw (raised _ _ c.from_residual.ensures) (line_refusal_of-word _ _ c.in_err-word.ensures.number (refusal_number-some _))

pub returns-then-has_tab-clause-number : goal.returns-then-has_tab-clause-number
returns-then-has_tab-clause-number c =
    line_refusal_of-tab _ _ c.in_ok-word.ensures.number refl (sym c.if-has_tab.true ∙ c.has_tab.ensures)

pub returns-clause-number : goal.returns-clause-number
returns-clause-number c = line_refusal_of-none _ _ c.in_ok-word.ensures.number refl (sym c.if-has_tab.false ∙ c.has_tab.ensures)
