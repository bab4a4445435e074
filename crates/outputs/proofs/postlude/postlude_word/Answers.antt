-- `outputs::postlude::postlude_word` meets its contract: the refusal found, or none, says which case of `postlude_call` and `postlude_out`
-- holds; the repair fits the output. Assumes nothing.
use mathlib.Core.Path.{refl}
use native.Mathlib.Omega.{arith}
use Rattle.turkish.proofs.OneToOne.{refusal_number-some}
use Rattle.refusals.proofs.Laws.Refusals.{raised}
use Rattle.outputs.proofs.Laws.RepairCalls.{repair-fits, postlude_call-postlude_out-refused, postlude_call-postlude_out-given}
use Rattle.outputs.proofs.postlude.postlude_word.Goals as goal

pub returns-in_err-with_output : goal.returns-in_err-with_output
returns-in_err-with_output c =
    let p = postlude_call-postlude_out-refused _ _ _ c.in_err-with_output.ensures.number (refusal_number-some _) in
    record { value = rw (raised _ _ c.from_residual.ensures) p.0; out_after = p.1 }

pub write_repair-length-requires : goal.write_repair-length-requires
write_repair-length-requires c =
    let fits = repair-fits _ _ _ _ c.postlude-r.ensures (omega arith) c.in_ok-with_output.ensures.fits in
    record { keep_in_bounds = fits.0; more_in_bounds = fits.1 }

pub returns : goal.returns
returns c =
    let p = postlude_call-postlude_out-given _ _ _ c.in_ok-with_output.ensures.number refl _
    c.postlude-r.ensures _ _
    c.write_repair-length.ensures.value
    c.write_repair-length.ensures.out_after in
    record { value = p.0; out_after = p.1 }
