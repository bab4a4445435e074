-- The words that document 01 marks for proof ("Words with their outcome"), as one table, and a second one of the words that tell its
-- plausible misreadings apart, both proved over the definitions that the calls' contracts cite. Assumes nothing.
use Prim.Native.Nat.{ℕ, ◌+◌}
use Prim.Native.String.{String}
use mathlib.Core.Path.{◌≡◌, refl}
use mathlib.Core.Bool.{Bool, true, false}
use mathlib.Core.List.{List, [], ◌∷◌, map}
use lib.ListN.{length}
use Rattle.encoding.specs.Encoding.{encode, encode_all, decode, continuation}
use Rattle.encoding.specs.Validity.{table37, due, refused, lead_in, lead, next, accepts, is_text}
use Rattle.utf8.specs.Characters.{width, goes_on_of, last_width_of, char_at, last_char, before_within, before}
use Rattle.turkish.specs.declared.answer.TextAnswer.{TextAnswer}
use Rattle.turkish.specs.declared.answer.PassAnswer.{PassAnswer}
use Rattle.turkish.specs.Letters.{text, from_end, any, has, starts}
use Rattle.turkish.specs.Snowball.{ahead, place, limit as text_limit, move_to, with_slice, with_flag, with_strlen, with_found, with_text, and_then, or_else, tested, negated, either_way, carried_out, read_if, is_left, is_in, letters, longer, longest, key_ahead, fits, go_past, one_turn, at_least, place_after, slice_from, shifted, inserted, turned, turned_back, enough, run}
use Rattle.turkish.specs.Source.{check_vowel_harmony, mark_suffix_with_optional_y_consonant, mark_yUm, mark_sUn, mark_yUz, mark_sUnUz, mark_lAr, mark_nUz, mark_DUr, mark_cAsInA, mark_yDU, mark_ysA, mark_ymUs_, mark_yken, stem_nominal_verb_suffixes, post_process_last_consonants, append_U_to_stems_ending_with_d_or_g, more_than_one_syllable_word, is_reserved_word, postlude}
use Rattle.turkish.specs.Answers.{entered, called, succeeded, left, syllable_check, stemmed, suffix_stage, repaired, postlude_of as repair_of_source}
use Rattle.turkish.specs.WordPass.{pass_stage, pass}
use Rattle.turkish.specs.Calls.{chars, bytes, limit, refusal, refusal_short_of, accepted, stage_text, stage_part_of, stage_call, postlude_text, postlude_refusal, postlude_call, pass_text, pass_refusal, pass_call}

-- a word of bytes, written as text
unfoldable pub word : String → List ℕ
word s = encode_all (text s)

-- a row: the stage of a word, with the text kept, yes or no, the flag; its postlude, with the text, yes or no; its pass, with the text,
-- the syllable check, the stage's yes or no, the flag. Postlude and pass have an output of n + 2 bytes.
pub data Row : Type 0 where
  stage_of : String → String → Bool → Bool → Row
  postlude_of : String → String → Bool → Row
  pass_of : String → String → Bool → Bool → Bool → Row

-- what a call gives: its answer, the stage's as far as document 01 knows it, and its text
pub data Given : Type 0 where
  by_stage : ℕ → ℕ → Bool → Bool → List ℕ → Given
  by_postlude : TextAnswer → List ℕ → Given
  by_pass : PassAnswer → List ℕ → Given

-- what the call of a row gives
unfoldable pub found : Row → Given
found (stage_of w t y f) = let a = stage_call (word w) in by_stage a.refusal a.length a.yes a.flag (stage_part_of (word w))
found (postlude_of w t y) = by_postlude (postlude_call (word w) (length (word w) + 2)) (postlude_text (word w))
found (pass_of w t s y f) = by_pass (pass_call (word w) (length (word w) + 2)) (pass_text (word w))

-- and what document 01 says of it
unfoldable pub expected : Row → Given
expected (stage_of w t y f) = by_stage 0 (length (word t)) y f (word t)
expected (postlude_of w t y) = by_postlude (record { refusal = 0; length = length (word t); yes = y }) (word t)
expected (pass_of w t s y f) = by_pass (record { refusal = 0; length = length (word t); syllable = s; yes = y; flag = f }) (word t)

-- the starred words
unfoldable pub table : List Row
table =
    stage_of "" "" false true
    ∷ stage_of "siniz" "" true true
    ∷ stage_of "sinizdir" "siniz" true true
    ∷ stage_of "evler" "ev" true false
    ∷ stage_of "lar" "lar" false true
    ∷ stage_of "kalemlar" "kalem" true false
    ∷ stage_of "saatler" "saatler" false true
    ∷ stage_of "arabayken" "araba" true true
    ∷ stage_of "evyken" "evyken" false true
    ∷ postlude_of "ad" "ad" false
    ∷ postlude_of "soyad" "soyad" false
    ∷ postlude_of "kanad" "kanadı" true
    ∷ postlude_of "bd" "bt" true
    ∷ postlude_of "bg" "bg" true
    ∷ pass_of "kanaddır" "kanadı" true true true
    ∷ []

-- what a misreading would get wrong ("Plausible, yet not Turkish as turkish.sbl has it"): branch 2's cut kept where ymUs_ fails, a
-- flag cleared wherever lAr fits, ğ repaired by the d/g rule, the postlude run after branch 3; the other two are starred. Besides
-- `abken`, which joins without a y, `lar`, whose one vowel is no two syllables, and `aa`, of vowels alone
unfoldable pub misread : List Row
misread =
    stage_of "evcesine" "evcesine" false true
    ∷ stage_of "ablardır" "ablar" true true
    ∷ stage_of "evmişlerdir" "ev" true true
    ∷ stage_of "abken" "ab" true true
    ∷ postlude_of "ayağ" "ayak" true
    ∷ pass_of "kitablar" "kitab" true true false
    ∷ pass_of "lar" "lar" false false true
    ∷ pass_of "aa" "aa" true false true
    ∷ []

-- each row has what is expected
abbrev pub Met : List Row → Type 0
Met rows = map found rows ≡ map expected rows

-- every word of both tables has its outcome, computed from turkish.sbl's own commands
pub outcomes : Met table × Met misread
unfolding table misread found expected word
    stage_call stage_part_of stage_text postlude_call postlude_text postlude_refusal pass_call pass_text pass_refusal refusal_short_of accepted refusal limit chars bytes
    encode_all encode decode is_text accepts next lead lead_in table37 due refused before before_within last_char char_at last_width_of width goes_on_of continuation
    pass pass_stage syllable_check suffix_stage stemmed repair_of_source repaired entered called succeeded left
    run enough ahead place text_limit move_to with_slice with_flag with_strlen with_found with_text and_then or_else tested negated either_way carried_out
    read_if is_left is_in letters longer longest key_ahead fits go_past one_turn at_least place_after slice_from shifted inserted turned turned_back
    check_vowel_harmony mark_suffix_with_optional_y_consonant mark_yUm mark_sUn mark_yUz mark_sUnUz mark_lAr mark_nUz mark_DUr mark_cAsInA mark_yDU mark_ysA mark_ymUs_ mark_yken
    stem_nominal_verb_suffixes post_process_last_consonants append_U_to_stems_ending_with_d_or_g more_than_one_syllable_word is_reserved_word postlude
    starts has any from_end text
outcomes = (refl, refl)
