-- `folding::fold::fold_word` meets its contract: whether the word is refused decides, and then which of the two folds is made. Assumes nothing.
use Rattle.turkish.proofs.OneToOne.{refusal_number-some}
use Rattle.refusals.proofs.Laws.Refusals.{raised}
use Rattle.folding.proofs.Laws.FoldCall.{fold-refused, long_plain-plain}
use Rattle.folding.proofs.fold.fold_word.Goals as goal

pub returns-in_err-word : goal.returns-in_err-word
returns-in_err-word c =
    let p = fold-refused _ _ _ c.in_err-word.ensures.number (refusal_number-some _) in
    record { value = rw (raised _ _ c.from_residual.ensures) p.0; out_after = p.1 }

pub fold_plain-requires : goal.fold_plain-requires
fold_plain-requires c = long_plain-plain _ _ c.is_long_plain.ensures c.if-is_long_plain.true

pub returns-then-is_long_plain : goal.returns-then-is_long_plain
returns-then-is_long_plain c =
    let same = c.in_ok-word.ensures.same in
    record { value = rw (← same) c.fold_plain.ensures.value; out_after = rw (← same) c.fold_plain.ensures.out_after }

pub returns : goal.returns
returns c =
    let same = c.in_ok-word.ensures.same in
    record { value = rw (← same) c.fold_steps.ensures.value; out_after = rw (← same) c.fold_steps.ensures.out_after }
