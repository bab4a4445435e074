-- Whole answers of each call, answered and refused (document 01, "Whose fault a refusal is"), and the outputs after it, computed from turkish.sbl's
-- own commands. Those of the fold stand in `FoldWords`, and of the calls on pieces in `PieceWords`. Assumes nothing.
use Prim.Native.Nat.{ℕ}
use mathlib.Core.Path.{◌≡◌, refl}
use mathlib.Core.Bool.{true, false}
use mathlib.Core.List.{List, [], ◌∷◌}
use Rattle.encoding.specs.Encoding.{encode, encode_all, decode, continuation}
use Rattle.encoding.specs.Validity.{table37, due, refused, lead_in, lead, next, accepts, is_text}
use Rattle.utf8.specs.Characters.{width, goes_on_of, last_width_of, char_at, last_char, before_within, before}
use Rattle.utf8.specs.Steps.{same}
use Rattle.turkish.specs.Letters.{text, from_end, any, has, starts}
use Rattle.turkish.specs.Vowels.{vowels, vowel}
use Rattle.turkish.specs.Snowball.{ahead, place, limit as text_limit, move_to, with_slice, with_flag, with_strlen, with_found, with_text, and_then, or_else, tested, negated, either_way}
use Rattle.turkish.specs.Snowball.{carried_out, read_if, is_left, is_in, is_outside, letters, longer, longest, key_ahead, fits, go_past, one_turn, at_least, deep, place_after, slice_from}
use Rattle.turkish.specs.Snowball.{shifted, inserted, turned, turned_back, enough, run}
use Rattle.turkish.specs.Source.{check_vowel_harmony, mark_suffix_with_optional_n_consonant, mark_suffix_with_optional_s_consonant, mark_suffix_with_optional_y_consonant}
use Rattle.turkish.specs.Source.{mark_suffix_with_optional_U_vowel, mark_possessives, mark_sU, mark_lArI, mark_yU, mark_nU, mark_nUn, mark_yA, mark_nA, mark_DA, mark_ndA}
use Rattle.turkish.specs.Source.{mark_DAn, mark_ndAn, mark_ylA, mark_ki, mark_ncA, stem_suffix_chain_before_ki, stem_noun_suffixes}
use Rattle.turkish.specs.Source.{mark_yUm, mark_sUn, mark_yUz, mark_sUnUz, mark_lAr, mark_nUz, mark_DUr, mark_cAsInA, mark_yDU, mark_ysA, mark_ymUs_, mark_yken}
use Rattle.turkish.specs.Source.{stem_nominal_verb_suffixes, post_process_last_consonants, append_U_to_stems_ending_with_d_or_g, more_than_one_syllable_word, is_reserved_word}
use Rattle.turkish.specs.Source.{postlude, stem}
use Rattle.turkish.specs.Answers.{entered, called, succeeded, left, syllable_check, stemmed, suffix_stage, repaired, postlude_of, uninflected, noun_stage, whole_run}
use Rattle.turkish.specs.Heard.{is_heard, or_heard, loan_in}
use Rattle.turkish.specs.Pieces.{kind_names, number_from, kind_of, blank, read_then, read_after, read_or, stopped_at, heard_by, one_mark, read_in}
use Rattle.turkish.specs.Pieces.{reading, kept_marks, first_heard, stage_heard}
use Rattle.turkish.specs.WordPass.{pass_stage, pass}
use Rattle.turkish.specs.Calls.{chars, bytes, offset, limit, refusal, refusal_short_of, accepted, syllable_call, stage_text, stage_part_of, last_offset, partner_offset, stage_call}
use Rattle.turkish.specs.Calls.{written, postlude_text, postlude_refusal, postlude_call, postlude_out, pass_text, pass_refusal, pass_call, pass_out}
use Rattle.turkish.specs.Calls.{noun_text, noun_refusal, noun_call, noun_out, whole_text, whole_refusal, whole_call, whole_out}
use Rattle.turkish.proofs.Starred.{word}

-- a byte that is not UTF-8
unfoldable pub invalid : List ℕ
invalid = 0xFF ∷ []

-- answered: the outputs are as long as must be
abbrev pub AnsweredMet : Type 0
AnsweredMet =
    (syllable_call (word "evler") ≡ record { refusal = 0; yes = true })
    × (stage_call (word "evler") ≡ record { refusal = 0; length = 2; yes = true; flag = false; harmonic = true; last = 3; partner = 0; loan = false })
    × (stage_part_of (word "evler") ≡ word "ev")
    × (postlude_call (word "kanad") 7 ≡ record { refusal = 0; length = 7; yes = true })
    × (pass_call (word "kanaddır") 11 ≡ record { refusal = 0; length = 7; syllable = true; yes = true; flag = true })
    × (noun_call (word "evler") 5 ≡ record { refusal = 0; length = 2; yes = true })
    × (whole_call (word "evler") 7 ≡ record { refusal = 0; length = 2 })

-- refused: a byte that is not UTF-8 where nothing is written, and elsewhere the same words with outputs a byte short
abbrev pub RefusedMet : Type 0
RefusedMet =
    (syllable_call invalid ≡ record { refusal = 2; yes = false })
    × (stage_call invalid ≡ record { refusal = 2; length = 0; yes = false; flag = false; harmonic = false; last = 0; partner = 0; loan = false })
    × (stage_part_of invalid ≡ [])
    × (postlude_call (word "kanad") 6 ≡ record { refusal = 3; length = 0; yes = false })
    × (pass_call (word "kanaddır") 10 ≡ record { refusal = 3; length = 0; syllable = false; yes = false; flag = false })
    × (noun_call (word "evler") 4 ≡ record { refusal = 3; length = 0; yes = false })
    × (whole_call (word "evler") 6 ≡ record { refusal = 3; length = 0 })

-- outputs after such calls, all stars before them: the text and the stars past it, or all the stars
abbrev pub OutputsMet : Type 0
OutputsMet =
    (postlude_out (word "kanad") (word "********") ≡ word "kanadı*") × (postlude_out (word "kanad") (word "******") ≡ word "******")
    × (pass_out (word "kanaddır") (word "***********") ≡ word "kanadı****") × (pass_out (word "kanaddır") (word "**********") ≡ word "**********")
    × (noun_out (word "evler") (word "*****") ≡ word "ev***") × (noun_out (word "evler") (word "****") ≡ word "****")
    × (whole_out (word "evler") (word "*******") ≡ word "ev*****") × (whole_out (word "evler") (word "******") ≡ word "******")

-- every call has its answer and its output
pub calls-met : AnsweredMet × RefusedMet × OutputsMet
unfolding invalid word postlude_out pass_out noun_out whole_out written
    syllable_call stage_call stage_part_of stage_text postlude_call postlude_text postlude_refusal pass_call pass_text pass_refusal noun_call noun_text noun_refusal whole_call whole_text whole_refusal
    last_offset partner_offset offset refusal_short_of accepted refusal limit chars bytes stage_heard first_heard is_heard or_heard loan_in
    encode_all encode decode is_text accepts next lead lead_in table37 due refused before before_within last_char char_at last_width_of width goes_on_of continuation
    pass pass_stage syllable_check suffix_stage stemmed postlude_of repaired noun_stage whole_run uninflected entered called succeeded left
    kept_marks reading read_in one_mark heard_by stopped_at read_or read_after read_then blank kind_of number_from kind_names same
    run enough ahead place text_limit move_to with_slice with_flag with_strlen with_found with_text and_then or_else tested negated either_way carried_out
    read_if is_left is_in is_outside letters longer longest key_ahead fits go_past one_turn at_least deep place_after slice_from shifted inserted turned turned_back
    check_vowel_harmony mark_suffix_with_optional_n_consonant mark_suffix_with_optional_s_consonant mark_suffix_with_optional_y_consonant mark_suffix_with_optional_U_vowel
    mark_possessives mark_sU mark_lArI mark_yU mark_nU mark_nUn mark_yA mark_nA mark_DA mark_ndA mark_DAn mark_ndAn mark_ylA mark_ki mark_ncA
    stem_suffix_chain_before_ki stem_noun_suffixes mark_yUm mark_sUn mark_yUz mark_sUnUz mark_lAr mark_nUz mark_DUr mark_cAsInA mark_yDU mark_ysA mark_ymUs_ mark_yken
    stem_nominal_verb_suffixes post_process_last_consonants append_U_to_stems_ending_with_d_or_g more_than_one_syllable_word is_reserved_word postlude stem
    vowel vowels starts has any from_end text
calls-met = ((refl, refl, refl, refl, refl, refl, refl), (refl, refl, refl, refl, refl, refl, refl), (refl, refl, refl, refl, refl, refl, refl, refl))
