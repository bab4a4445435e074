-- `outputs::noun::noun_word` meets its contract: the refusal found, or none, says which case of `noun_call` and `noun_out` holds; what is left
-- fits the output. Assumes nothing.
use mathlib.Core.Path.{refl}
use Rattle.turkish.proofs.OneToOne.{refusal_number-some}
use Rattle.refusals.proofs.Laws.Refusals.{raised}
use Rattle.outputs.proofs.Laws.Runs.{left_run-fits}
use Rattle.outputs.proofs.Laws.RunCalls.{noun_call-noun_out-refused, noun_call-noun_out-given}
use Rattle.outputs.proofs.noun.noun_word.Goals as goal

pub returns-in_err-with_output : goal.returns-in_err-with_output
returns-in_err-with_output c =
    let p = noun_call-noun_out-refused _ _ _ c.in_err-with_output.ensures.number (refusal_number-some _) in
    record { value = rw (raised _ _ c.from_residual.ensures) p.0; out_after = p.1 }

pub write_run-length-requires : goal.write_run-length-requires
write_run-length-requires c =
    let p = left_run-fits _ _ c.in_ok-with_output.ensures.fits _ c.stem_noun_suffixes-u.ensures _ c.left.ensures in
    record { keep_in_bounds = p.0; from_le_upto = p.1.0; upto_in_bounds = p.1.1.0; from_in_bounds = p.1.1.1 }

pub returns : goal.returns
returns c =
    let p = noun_call-noun_out-given _ _ _ c.in_ok-with_output.ensures.number refl _
    c.stem_noun_suffixes-u.ensures _
    c.left.ensures c.is_some.ensures _ _
    c.write_run-length.ensures.value
    c.write_run-length.ensures.out_after in
    record { value = p.0; out_after = p.1 }
