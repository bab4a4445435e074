-- `batch::refusal::check_batch` meets its contract: the words' refusal, then that of the tails, then that of the rooms. Assumes nothing.
use mathlib.Core.Path.{refl, sym, ◌∙◌}
use native.Mathlib.Omega.{arith}
use Rattle.turkish.proofs.OneToOne.{refusal_number-some}
use Rattle.refusals.proofs.Laws.Refusals.{raised}
use Rattle.batches.specs.BatchCalls.{most_tails}
use Rattle.batch.proofs.Laws.Tails.{survey-count, survey-short}
use Rattle.batch.proofs.Laws.Refusals.{number-words, number-many, number_short, number-rooms}
use Rattle.batch.proofs.refusal.check_batch.Goals as goal

pub returns-in_err-check_words : goal.returns-in_err-check_words
returns-in_err-check_words c =
    rw (raised _ _ c.from_residual.ensures) (number-words _ _ _ _ _ _ c.in_err-check_words.ensures (refusal_number-some _))

pub returns-then-s-gt-TAILS : goal.returns-then-s-gt-TAILS
unfolding most_tails
returns-then-s-gt-TAILS c =
    number-many _ _ _ _ _ _ c.in_ok-check_words.ensures refl (omega (arith, survey-count _ c.requires))

pub returns-then-s : goal.returns-then-s
returns-then-s c =
    number_short _ _ _ _ _ _ c.in_ok-check_words.ensures refl (sym (survey-short _ c.requires) ∙ c.if-s.true)

pub returns : goal.returns
unfolding most_tails
returns c =
    c.check_rooms.ensures
    ∙ number-rooms _ _ _ _ _ _ c.in_ok-check_words.ensures refl (omega (arith, survey-count _ c.requires, c.if-s-gt-TAILS.false))
    (sym (survey-short _ c.requires) ∙ c.if-s.false)
