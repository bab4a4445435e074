-- `outputs::whole::whole_word` meets its contract: the refusal and the syllable answer say which case of `whole_call` and `whole_out` holds; the
-- run fits the output. Assumes nothing.
use mathlib.Core.Path.{refl, sym, ◌∙◌}
use borrow.Author.Tests.{not-true, not-false}
use Rattle.turkish.specs.Calls.{chars}
use Rattle.turkish.proofs.OneToOne.{refusal_number-some}
use Rattle.refusals.proofs.Laws.Refusals.{raised, into-accepted}
use Rattle.outputs.proofs.Laws.RepairCalls.{word_fits}
use Rattle.outputs.proofs.Laws.Writing.{copy_written}
use Rattle.outputs.proofs.Laws.Runs.{whole_text-short, whole_run_of-text, whole_run_of-fits}
use Rattle.outputs.proofs.Laws.RunCalls.{whole_call-whole_out-refused, whole_call-whole_out-given}
use Rattle.outputs.proofs.whole.whole_word.Goals as goal

pub returns-in_err-with_output : goal.returns-in_err-with_output
returns-in_err-with_output c =
    let p = whole_call-whole_out-refused _ _ _ c.in_err-with_output.ensures.number (refusal_number-some _) in
    record { value = rw (raised _ _ c.from_residual.ensures) p.0; out_after = p.1 }

pub copy-requires : goal.copy-requires
copy-requires c =
    word_fits _ _ _ c.in_ok-with_output.ensures.number refl

pub returns-then-not-more_than_one_syllable_word : goal.returns-then-not-more_than_one_syllable_word
unfolding chars
returns-then-not-more_than_one_syllable_word c =
    let found = c.in_ok-with_output.ensures.number in
    let one = sym c.more_than_one_syllable_word.ensures ∙ not-true _ c.if-not-more_than_one_syllable_word.true-raw in
    let p = whole_call-whole_out-given _ _ _ found refl _ (sym (whole_text-short _ (into-accepted _ _ _ _ found refl) one)) _ _
    c.copy.ensures.value
    (c.copy.ensures.out_after ∙ copy_written _ _) in
    record { value = p.0; out_after = p.1 }

pub write_run-requires : goal.write_run-requires
write_run-requires c =
    let room = c.in_ok-with_output.ensures.fits in
    let p = whole_run_of-fits _ _ room _ c.whole_of-r.ensures in
    record { keep_in_bounds = p.0; from_le_upto = p.1.0; upto_in_bounds = p.1.1.0; from_in_bounds = p.1.1.1 }

pub returns : goal.returns
unfolding chars
returns c =
    let found = c.in_ok-with_output.ensures.number in
    let more = sym c.more_than_one_syllable_word.ensures ∙ not-false _ c.if-not-more_than_one_syllable_word.false-raw in
    let p = whole_call-whole_out-given _ _ _ found refl _ (whole_run_of-text _ (into-accepted _ _ _ _ found refl) more _ c.whole_of-r.ensures) _ _
    c.write_run.ensures.value
    c.write_run.ensures.out_after in
    record { value = p.0; out_after = p.1 }
