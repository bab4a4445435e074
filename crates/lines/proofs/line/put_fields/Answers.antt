-- `lines::line::put_fields` meets its contract: the parts written one after the other are the fields, and they fit.
-- Assumes nothing.
use mathlib.Core.Path.{refl}
use native.Mathlib.Omega.{arith}
use Rattle.turkish.specs.Letters.{tab, lf}
use Rattle.turkish.specs.Calls.{chars, pass_text, whole_text}
use Rattle.lines.specs.Room.{line_room}
use Rattle.writing.proofs.Laws.Put.{wrote_nothing, wrote-text, wrote-byte, wrote-bytes, wrote-whole, wrote-all}
use Rattle.lines.proofs.Laws.LineText.{length-answers, fields-parts, fields-sizes}
use Rattle.lines.proofs.line.put_fields.Goals as goal

pub put_bytes-a-requires : goal.put_bytes-a-requires
unfolding line_room
put_bytes-a-requires c =
    let sizes = fields-sizes _ _ c.args.word.is_accepted c.stem_nominal_verb_suffixes-s.ensures in
    record { n_in_bounds = omega arith; n_in_bounds_2 = omega arith }

pub put_answers-b-requires : goal.put_answers-b-requires
unfolding line_room
put_answers-b-requires c =
    let sizes = fields-sizes _ _ c.args.word.is_accepted c.stem_nominal_verb_suffixes-s.ensures in
    omega arith

pub put_bytes-c-requires : goal.put_bytes-c-requires
unfolding line_room
put_bytes-c-requires c =
    let sizes = fields-sizes _ _ c.args.word.is_accepted c.stem_nominal_verb_suffixes-s.ensures in
    record { n_in_bounds = omega arith; n_in_bounds_2 = omega arith }

pub put_byte-d-requires : goal.put_byte-d-requires
unfolding line_room
put_byte-d-requires c =
    let sizes = fields-sizes _ _ c.args.word.is_accepted c.stem_nominal_verb_suffixes-s.ensures in
    omega (arith, c.requires)

pub put_pass-e-requires : goal.put_pass-e-requires
unfolding chars line_room
put_pass-e-requires c =
    let sizes = fields-sizes _ _ c.args.word.is_accepted c.stem_nominal_verb_suffixes-s.ensures in
    record {
      syllable_value = c.more_than_one_syllable_word-syllable.ensures;
      s_value = c.stem_nominal_verb_suffixes-s.ensures;
      w_in_bounds = omega (arith, c.requires);
    }

pub put_byte-f-requires : goal.put_byte-f-requires
unfolding line_room
put_byte-f-requires c =
    let sizes = fields-sizes _ _ c.args.word.is_accepted c.stem_nominal_verb_suffixes-s.ensures in
    omega (arith, c.requires)

pub put_whole-g-requires : goal.put_whole-g-requires
unfolding chars line_room
put_whole-g-requires c =
    let sizes = fields-sizes _ _ c.args.word.is_accepted c.stem_nominal_verb_suffixes-s.ensures in
    record {
      syllable_value = c.more_than_one_syllable_word-syllable.ensures;
      s_value = c.stem_nominal_verb_suffixes-s.ensures;
      w_in_bounds = omega (arith, c.requires);
    }

pub put_byte-requires : goal.put_byte-requires
unfolding line_room
put_byte-requires c =
    let sizes = fields-sizes _ _ c.args.word.is_accepted c.stem_nominal_verb_suffixes-s.ensures in
    omega (arith, c.requires)

pub returns : goal.returns
unfolding chars tab lf line_room
returns c =
    let w = c.args.word.bytes.now in
    let q = c.stem_nominal_verb_suffixes-s.ensures in
    let sizes = fields-sizes _ _ c.args.word.is_accepted q in
    let p = wrote-all (fields-parts _ _ _ c.args.word.is_accepted c.more_than_one_syllable_word-syllable.ensures q)
    (wrote-byte _
    (wrote-text (whole_text w) _ refl
    (wrote-byte _
    (wrote-text (pass_text w) _ refl
    (wrote-byte _
    (wrote-bytes _ _ sizes.1
    (wrote-text _ 7 (length-answers _ _ _) (wrote-whole w (wrote_nothing (omega arith)) (c.put_bytes-a.ensures.value, c.put_bytes-a.ensures.out_after)) (c.put_answers-b.ensures.value, c.put_answers-b.ensures.out_after))
    (c.put_bytes-c.ensures.value, c.put_bytes-c.ensures.out_after))
    (c.put_byte-d.ensures.value, c.put_byte-d.ensures.out_after))
    (c.put_pass-e.ensures.value, c.put_pass-e.ensures.out_after))
    (c.put_byte-f.ensures.value, c.put_byte-f.ensures.out_after))
    (c.put_whole-g.ensures.value, c.put_whole-g.ensures.out_after))
    (c.put_byte.ensures.value, c.put_byte.ensures.out_after)) in
    record { value = p.0; out_after = p.1 }
