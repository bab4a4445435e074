-- `lines::line::put_pass` meets its contract: the pass gives the word, the text kept or the repair of that, by the two tests.
-- Assumes nothing.
use native.Mathlib.Omega.{arith}
use native.Mathlib.Nat.{le_refl}
use borrow.Author.Tests.{not-true, not-false}
use Rattle.stages.proofs.Laws.Kept.{kept-le}
use Rattle.outputs.proofs.Laws.RepairCalls.{repair-fits}
use Rattle.writing.proofs.Laws.Put.{put-equal, wrote_nothing, wrote-bytes, wrote-whole, wrote-all}
use Rattle.lines.proofs.Laws.LineText.{pass_text-short, pass_text-cut, pass_text-repaired}
use Rattle.lines.proofs.line.put_pass.Goals as goal

pub returns-then-not-syllable : goal.returns-then-not-syllable
returns-then-not-syllable c =
    let p = wrote-all (pass_text-short _ c.args.word.is_accepted _ c.requires.syllable_value (not-true _ c.if-not-syllable.true-raw))
    (wrote-whole c.args.word.bytes.now (wrote_nothing (omega arith)) (c.put_bytes.ensures.value, c.put_bytes.ensures.out_after)) in
    record { value = p.0; out_after = p.1 }

pub put_bytes-requires-then-not-s : goal.put_bytes-requires-then-not-s
put_bytes-requires-then-not-s c =
    let k = kept-le _ _ c.requires.s_value in
    record { n_in_bounds = k; n_in_bounds_2 = omega arith }

pub returns-then-not-s : goal.returns-then-not-s
returns-then-not-s c =
    let pre = c.requires in
    let p = wrote-all (pass_text-cut _ c.args.word.is_accepted _ pre.syllable_value _ pre.s_value (not-false _ c.if-not-syllable.false-raw) (not-true _ c.if-not-s.true))
    (wrote-bytes _ _ (kept-le _ _ pre.s_value) (wrote_nothing (omega (arith, kept-le _ _ pre.s_value))) (c.put_bytes-then-not-s.ensures.value, c.put_bytes-then-not-s.ensures.out_after)) in
    record { value = p.0; out_after = p.1 }

pub postlude-requires : goal.postlude-requires
postlude-requires c = kept-le _ _ c.requires.s_value

pub put_repair-requires : goal.put_repair-requires
put_repair-requires c =
    let pre = c.requires in
    let f = repair-fits _ _ _ _ c.postlude.ensures (kept-le _ _ pre.s_value) (le_refl _) in
    record { keep_in_bounds = f.0; more_in_bounds = omega arith }

pub returns : goal.returns
returns c =
    let pre = c.requires in
    let short = not-false _ c.if-not-syllable.false-raw in let p = put-equal _ _
    (pass_text-repaired _ c.args.word.is_accepted _ pre.syllable_value _ pre.s_value short (not-false _ c.if-not-s.false) _ c.postlude.ensures)
    (c.put_repair.ensures.value, c.put_repair.ensures.out_after) in
    record { value = p.0; out_after = p.1 }
