-- `lines::listed::put_folded` meets its contract: whether the fold is refused says which of the two lines it is.
-- Assumes nothing.
use mathlib.Core.Path.{refl, sym, ap}
use native.Mathlib.Omega.{arith}
use lib.Seq.{length-take-le}
use Rattle.turkish.specs.Calls.{limit}
use Rattle.turkish.proofs.OneToOne.{refusal_number-some}
use Rattle.writing.proofs.Laws.Put.{put-equal}
use Rattle.lines.specs.Line.{list_line}
use Rattle.lines.proofs.Laws.Listed.{call-refused, call_fits, call-text}
use Rattle.lines.proofs.listed.put_folded.Goals as goal

pub slice_bounds-text-end : goal.slice_bounds-text-end
unfolding limit
slice_bounds-text-end c = call_fits _ _ _ _ (omega arith) (c.in-Ok.ensures.value, c.in-Ok.ensures.out_after) refl

pub slice_bounds-put_line-end : goal.slice_bounds-put_line-end
unfolding limit
slice_bounds-put_line-end c =
    sym (length-take-le _ _ (call_fits _ _ _ _ (omega arith) (c.in-Ok.ensures.value, c.in-Ok.ensures.out_after) refl))

pub returns-in-Ok : goal.returns-in-Ok
unfolding limit
returns-in-Ok c =
    let p = put-equal _ _ (ap list_line (call-text _ _ _ _ (omega arith) (c.in-Ok.ensures.value, c.in-Ok.ensures.out_after) refl)) (c.put_line.ensures.value, c.put_line.ensures.out_after) in
    record { value = p.0; out_after = p.1 }

pub returns-in-Err : goal.returns-in-Err
unfolding limit
returns-in-Err c =
    let p = put-equal _ _ (ap list_line (call-refused _ _ _ _ (omega arith) (c.in-Err.ensures.value, c.in-Err.ensures.out_after) (refusal_number-some _))) (c.put_line-in-Err.ensures.value, c.put_line-in-Err.ensures.out_after) in
    record { value = p.0; out_after = p.1 }
