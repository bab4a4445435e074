-- `outputs::pass::pass_word` meets its contract: the refusal, the syllable answer and the flag say which case of `pass_call` and
-- `pass_out` holds. Assumes nothing.
use Rattle.turkish.proofs.OneToOne.{refusal_number-some}
use Rattle.refusals.proofs.Laws.Refusals.{raised}
use Rattle.outputs.proofs.Laws.RepairCalls.{word_fits, front_fits, repair-fits}
use Rattle.outputs.proofs.Laws.RepairCalls.{pass_call-pass_out-refused, pass_call-pass_out-short, pass_call-pass_out-kept, pass_call-pass_out-repaired}
use Rattle.outputs.proofs.Laws.Writing.{copy_written}
use Rattle.stages.proofs.Laws.Kept.{kept-le, kept-length-take}
use Rattle.turkish.specs.Calls.{chars}
use borrow.Author.Tests.{not-true, not-false}
use mathlib.Core.Path.{refl, sym, ◌∙◌}
use borrow.Author.Rules.{rules}
use Rattle.outputs.proofs.pass.pass_word.Goals as goal

pub returns-in_err-with_output : goal.returns-in_err-with_output
returns-in_err-with_output c =
    let p = pass_call-pass_out-refused _ _ _ c.in_err-with_output.ensures.number (refusal_number-some _) in
    record { value = rw (raised _ _ c.from_residual.ensures) p.0; out_after = p.1 }

pub copy-length-requires : goal.copy-length-requires
copy-length-requires c =
    word_fits _ _ _ c.in_ok-with_output.ensures.number refl

pub returns-then-not-more_than_one_syllable_word : goal.returns-then-not-more_than_one_syllable_word
unfolding chars
returns-then-not-more_than_one_syllable_word c =
    let no = sym c.more_than_one_syllable_word.ensures ∙ not-true _ c.if-not-more_than_one_syllable_word.true-raw in
    let p = pass_call-pass_out-short _ _ _ c.in_ok-with_output.ensures.number refl no _ _
    c.copy-length.ensures.value
    (c.copy-length.ensures.out_after ∙ copy_written _ _) in
    record { value = p.0; out_after = p.1 }

pub slice_bounds-copy-end : goal.slice_bounds-copy-end
slice_bounds-copy-end c = kept-length-take _ _ c.stem_nominal_verb_suffixes-s.ensures

pub copy-length-requires-then-not-s : goal.copy-length-requires-then-not-s
copy-length-requires-then-not-s c =
    front_fits _ _ _ c.in_ok-with_output.ensures.number refl c.stem_nominal_verb_suffixes-s.result.kept

pub returns-then-not-s : goal.returns-then-not-s
unfolding chars
returns-then-not-s c =
    let yes = sym c.more_than_one_syllable_word.ensures ∙ not-false _ c.if-not-more_than_one_syllable_word.false-raw in
    let p = pass_call-pass_out-kept _ _ _ c.in_ok-with_output.ensures.number refl yes _
    c.stem_nominal_verb_suffixes-s.ensures
    (not-true _ c.if-not-s.true) _ _
    c.copy-length-then-not-s.ensures.value
    (c.copy-length-then-not-s.ensures.out_after ∙ copy_written _ _) in
    record { value = p.0; out_after = p.1 }

pub postlude-r-requires : goal.postlude-r-requires
postlude-r-requires c = kept-le _ _ c.stem_nominal_verb_suffixes-s.ensures

pub write_repair-length-requires : goal.write_repair-length-requires
write_repair-length-requires c =
    let room = c.in_ok-with_output.ensures.fits in
    let front = kept-le _ _ c.stem_nominal_verb_suffixes-s.ensures in
    let fits = repair-fits _ _ _ _ c.postlude-r.ensures front room in
    search rules

pub returns : goal.returns
unfolding chars
returns c =
    let yes = sym c.more_than_one_syllable_word.ensures ∙ not-false _ c.if-not-more_than_one_syllable_word.false-raw in
    let p = pass_call-pass_out-repaired _ _ _ c.in_ok-with_output.ensures.number refl yes _
    c.stem_nominal_verb_suffixes-s.ensures
    (not-false _ c.if-not-s.false) _
    c.postlude-r.ensures _ _
    c.write_repair-length.ensures.value
    c.write_repair-length.ensures.out_after in
    record { value = p.0; out_after = p.1 }
