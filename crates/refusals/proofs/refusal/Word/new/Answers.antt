-- `refusals::refusal::Word::new` meets its contract: each of its tests is one of the definition's.
-- Assumes nothing.
use mathlib.Core.Path.{sym, ◌∙◌}
use Rattle.turkish.specs.Calls.{limit}
use Rattle.theorems.proofs.Laws.Accepted.{accepted-iff, refusal-long, refusal-text, refusal-not-text}
use Rattle.refusals.proofs.refusal.Word.new.Goals as goal

pub returns-then-w-gt-LIMIT-clause-number : goal.returns-then-w-gt-LIMIT-clause-number
unfolding limit
returns-then-w-gt-LIMIT-clause-number c = refusal-long _ c.if-w-gt-LIMIT.true

pub invariant_of-result : goal.invariant_of-result
unfolding limit
invariant_of-result c =
    record { is_accepted = (accepted-iff _).1 (c.if-w-gt-LIMIT.false, sym c.is_utf8.ensures ∙ c.if-is_utf8.true) }

pub returns-then-is_utf8-clause-number : goal.returns-then-is_utf8-clause-number
unfolding limit
returns-then-is_utf8-clause-number c = refusal-text _ c.if-w-gt-LIMIT.false (sym c.is_utf8.ensures ∙ c.if-is_utf8.true)

pub returns-clause-number : goal.returns-clause-number
unfolding limit
returns-clause-number c = refusal-not-text _ c.if-w-gt-LIMIT.false (sym c.is_utf8.ensures ∙ c.if-is_utf8.false)
