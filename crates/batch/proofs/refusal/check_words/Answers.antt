-- `batch::refusal::check_words` meets its contract: each test's answer is a law of `words_refusal_of`. Assumes nothing.
use mathlib.Core.Path.{sym, ◌∙◌}
use native.Mathlib.Omega.{arith}
use Rattle.turkish.specs.Calls.{limit}
use Rattle.batch.proofs.Laws.Refusals.{is_text-tails, words-front-over, words-joined-over, words-front-no-text, words-tail-no-text, words-texts}
use Rattle.batch.proofs.Laws.Tails.{survey-longest}
use borrow.Author.Tests.{not-true, not-false}
use Rattle.batch.proofs.refusal.check_words.Goals as goal

pub returns-then-front-gt-LIMIT : goal.returns-then-front-gt-LIMIT
unfolding limit
returns-then-front-gt-LIMIT c = words-front-over _ _ c.if-front-gt-LIMIT.true

pub returns-then-front-s : goal.returns-then-front-s
unfolding limit
returns-then-front-s c =
    words-joined-over _ _ c.if-front-gt-LIMIT.false (omega (arith, survey-longest _ c.requires))

pub returns-then-not-is_utf8 : goal.returns-then-not-is_utf8
unfolding limit
returns-then-not-is_utf8 c =
    words-front-no-text _ _ c.if-front-gt-LIMIT.false (omega (arith, survey-longest _ c.requires)) (sym c.is_utf8.ensures ∙ not-true _ c.if-not-is_utf8.true-raw)

pub returns-then-not-is_utf8-2 : goal.returns-then-not-is_utf8-2
unfolding limit
returns-then-not-is_utf8-2 c =
    words-tail-no-text _ _ c.if-front-gt-LIMIT.false (omega (arith, survey-longest _ c.requires))
    (sym (is_text-tails _) ∙ sym c.is_utf8-2.ensures ∙ not-true _ c.if-not-is_utf8-2.true-raw)

pub returns : goal.returns
unfolding limit
returns c =
    words-texts _ _ c.if-front-gt-LIMIT.false (omega (arith, survey-longest _ c.requires))
    (sym c.is_utf8.ensures ∙ not-false _ c.if-not-is_utf8.false-raw)
    (sym (is_text-tails _) ∙ sym c.is_utf8-2.ensures ∙ not-false _ c.if-not-is_utf8-2.false-raw)
