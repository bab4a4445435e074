-- Document 01's two lines of `stemlist`, each with its last field, and lines of headings, by computation over the definitions. Assumes
-- nothing.
use mathlib.Core.Path.{◌≡◌, refl}
use mathlib.Core.Bool.{true, false}
use Rattle.encoding.specs.Encoding.{encode, encode_all, decode, continuation}
use Rattle.encoding.specs.Validity.{table37, due, refused, lead_in, lead, next, accepts, is_text}
use Rattle.utf8.specs.Characters.{width, goes_on_of, last_width_of, char_at, last_char, before_within, before}
use Rattle.turkish.specs.Letters.{text, from_end, tab, lf, any, has, starts}
use Rattle.turkish.specs.Snowball.{ahead, place, limit as text_limit, move_to, with_slice, with_flag, with_strlen, with_found, with_text, and_then, or_else, tested, negated, either_way}
use Rattle.turkish.specs.Snowball.{carried_out, read_if, is_left, is_in, is_outside, letters, longer, longest, key_ahead, fits, go_past, one_turn, at_least, deep, place_after, slice_from}
use Rattle.turkish.specs.Snowball.{shifted, inserted, turned, turned_back, enough, run}
use Rattle.turkish.specs.Source.{check_vowel_harmony, mark_suffix_with_optional_y_consonant, mark_yUm, mark_sUn, mark_yUz, mark_sUnUz, mark_lAr, mark_nUz, mark_DUr, mark_cAsInA}
use Rattle.turkish.specs.Source.{mark_yDU, mark_ysA, mark_ymUs_, mark_yken, stem_nominal_verb_suffixes, post_process_last_consonants, append_U_to_stems_ending_with_d_or_g}
use Rattle.turkish.specs.Source.{more_than_one_syllable_word, is_reserved_word, postlude}
use Rattle.turkish.specs.Source.{mark_suffix_with_optional_n_consonant, mark_suffix_with_optional_s_consonant, mark_suffix_with_optional_U_vowel, mark_possessives, mark_sU}
use Rattle.turkish.specs.Source.{mark_lArI, mark_yU, mark_nU, mark_nUn, mark_yA, mark_nA, mark_DA, mark_ndA, mark_DAn, mark_ndAn, mark_ylA, mark_ki, mark_ncA}
use Rattle.turkish.specs.Source.{stem_suffix_chain_before_ki, stem_noun_suffixes, stem}
use Rattle.turkish.specs.Answers.{entered, called, succeeded, left, syllable_check, stemmed, suffix_stage, repaired, postlude_of as repair_of_source, whole_run}
use Rattle.turkish.specs.WordPass.{pass_stage, pass}
use Rattle.turkish.specs.Fold.{capitals01, capitals, fold_by, fold_char, fold}
use Rattle.turkish.specs.Calls.{chars, bytes, limit, refusal, accepted, stage_text, pass_text, whole_text, fold_text}
use Rattle.lines.specs.Line.{line_refusal_of, yes_no, one_zero, answers, fields, refused_line, list_line}
use Rattle.lines.specs.Listed.{listed}
use Rattle.turkish.specs.Lines.{unclosed, lines_from}
use Rattle.listing.specs.Listing.{list_all, listing}

-- the input lines `evler` and `siniz` give document 01's two lines and a field more, the second ended by three tabs; and asked for folded
-- forms, two headings give the lines of their folded texts, and one with a tab is refused
pub example-lines : (listing false (text "evler\nsiniz\n") ≡ text "evler\tY\tY\t0\tev\tev\tev\nsiniz\tY\tY\t1\t\t\t\n")
    × (listing true (encode_all (text "IŞIKLAR\nİZLERDİR\nA\tB\n")) ≡ encode_all (text "ışıklar\tY\tY\t0\tışık\tışık\tışık\nizlerdir\tY\tY\t1\tizler\tizler\tiz\n!\t4\n"))
unfolding tab lf line_refusal_of yes_no one_zero answers fields refused_line list_line listed unclosed lines_from list_all listing
    stage_text pass_text whole_text fold_text accepted refusal limit chars bytes fold fold_char fold_by capitals capitals01
    encode_all encode decode is_text accepts next lead lead_in table37 due refused before before_within last_char char_at last_width_of width goes_on_of continuation
    pass pass_stage whole_run syllable_check suffix_stage stemmed repair_of_source repaired entered called succeeded left
    run enough ahead place text_limit move_to with_slice with_flag with_strlen with_found with_text and_then or_else tested negated either_way carried_out
    read_if is_left is_in is_outside letters longer longest key_ahead fits go_past one_turn at_least deep place_after slice_from shifted inserted turned turned_back
    check_vowel_harmony mark_suffix_with_optional_y_consonant mark_yUm mark_sUn mark_yUz mark_sUnUz mark_lAr mark_nUz mark_DUr mark_cAsInA mark_yDU mark_ysA mark_ymUs_ mark_yken
    mark_suffix_with_optional_n_consonant mark_suffix_with_optional_s_consonant mark_suffix_with_optional_U_vowel
    mark_possessives mark_sU mark_lArI mark_yU mark_nU mark_nUn mark_yA mark_nA mark_DA mark_ndA mark_DAn mark_ndAn mark_ylA mark_ki mark_ncA
    stem_suffix_chain_before_ki stem_noun_suffixes stem
    stem_nominal_verb_suffixes post_process_last_consonants append_U_to_stems_ending_with_d_or_g more_than_one_syllable_word is_reserved_word postlude
    starts has any from_end text
example-lines = (refl, refl)
