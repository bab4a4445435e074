-- `lines::line::put_whole` meets its contract: the whole run gives the word or the text of its run, by the syllable answer.
-- Assumes nothing.
use native.Mathlib.Omega.{arith}
use native.Mathlib.Nat.{le_refl}
use borrow.Author.Tests.{not-true, not-false}
use Rattle.outputs.proofs.Laws.Runs.{whole_run_of-fits}
use Rattle.writing.proofs.Laws.Put.{put-equal, wrote_nothing, wrote-whole, wrote-all}
use Rattle.lines.proofs.Laws.LineText.{whole_text-one, whole_text-run}
use Rattle.lines.proofs.line.put_whole.Goals as goal

pub returns-then-not-syllable : goal.returns-then-not-syllable
returns-then-not-syllable c =
    let p = wrote-all (whole_text-one _ c.args.word.is_accepted _ c.requires.syllable_value (not-true _ c.if-not-syllable.true-raw))
    (wrote-whole c.args.word.bytes.now (wrote_nothing (omega arith)) (c.put_bytes.ensures.value, c.put_bytes.ensures.out_after)) in
    record { value = p.0; out_after = p.1 }

pub put_run-requires : goal.put_run-requires
put_run-requires c =
    let f = whole_run_of-fits _ _ (le_refl _) _ c.whole_of.ensures in
    record { keep_in_bounds = f.0; from_le_upto = f.1.0; upto_in_bounds = f.1.1.0; from_in_bounds = omega arith }

pub returns : goal.returns
returns c =
    let pre = c.requires in let p = put-equal _ _
    (whole_text-run _ c.args.word.is_accepted _ pre.syllable_value (not-false _ c.if-not-syllable.false-raw) _ c.whole_of.ensures)
    (c.put_run.ensures.value, c.put_run.ensures.out_after) in
    record { value = p.0; out_after = p.1 }
