-- `batch::call::batch_words` meets its contract: a refused batch gives its refusal and leaves the buffers; any other has an entry for each tail. Assumes
-- nothing.
use mathlib.Core.Path.{refl}
use Rattle.turkish.proofs.OneToOne.{refusal_number-some}
use Rattle.refusals.proofs.Laws.Refusals.{raised}
use Rattle.batches.specs.BatchCalls.{batch}
use Rattle.batch.proofs.Laws.Tails.{survey-count, tails-survey}
use Rattle.batch.proofs.Laws.Refusals.{call-refused, call-zero, call-answered}
use Rattle.batch.proofs.call.batch_words.Goals as goal

pub check_batch-requires : goal.check_batch-requires
check_batch-requires c = tails-survey _ c.find_tails-t.ensures

pub returns-in_err-check_batch : goal.returns-in_err-check_batch
returns-in_err-check_batch c =
    let s = c.args in
    let p = call-refused (batch s.front.now s.slice.now s.lengths.now s.answers.now s.flags.now) _ c.in_err-check_batch.ensures (refusal_number-some _) in
    record { value = rw (raised _ _ c.from_residual.ensures) p.0; lengths_after = p.1.0; answers_after = p.1.1.0; flags_after = p.1.1.1 }

pub put_entries-requires : goal.put_entries-requires
put_entries-requires c =
    let s = c.args in
    record {
      t_value = c.find_tails-t.ensures;
      flags_value = call-zero (batch s.front.now s.slice.now s.lengths.now s.answers.now s.flags.now) _ c.in_ok-check_batch.ensures refl;
    }

pub returns : goal.returns
returns c =
    let s = c.args in
    let lent = batch s.front.now s.slice.now s.lengths.now s.answers.now s.flags.now in
    record {
      value = call-answered lent _ c.in_ok-check_batch.ensures refl _ (survey-count _ (tails-survey _ c.find_tails-t.ensures));
      lengths_after = c.put_entries.ensures.lengths_after;
      answers_after = c.put_entries.ensures.answers_after;
      flags_after = c.put_entries.ensures.flags_after;
    }
