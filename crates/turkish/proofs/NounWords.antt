-- Words of the noun stage and of the whole run with their outcome (document 02, request 4), computed from turkish.sbl's own commands by the
-- calls' definitions: a row for each line of the noun stage and of the chain that can be told from what might stand in its place, as
-- line 351, 384's lArI and 402's chain behind 398's deletion cannot, which are dead. Assumes nothing.
use Prim.Native.Nat.{ℕ, ◌+◌}
use Prim.Native.String.{String}
use mathlib.Core.Path.{◌≡◌, refl}
use mathlib.Core.Bool.{Bool, true, false}
use mathlib.Core.List.{List, [], ◌∷◌, map}
use lib.ListN.{length}
use Rattle.encoding.specs.Encoding.{encode, encode_all, decode, continuation}
use Rattle.encoding.specs.Validity.{table37, due, refused, lead_in, lead, next, accepts, is_text}
use Rattle.utf8.specs.Characters.{width, goes_on_of, last_width_of, char_at, last_char, before_within, before}
use Rattle.turkish.specs.declared.answer.TextAnswer.{TextAnswer}
use Rattle.turkish.specs.declared.answer.LengthAnswer.{LengthAnswer}
use Rattle.turkish.specs.Letters.{text, from_end, any, has, starts}
use Rattle.turkish.specs.Snowball.{ahead, place, limit as text_limit, move_to, with_slice, with_flag, with_strlen, with_found, with_text, and_then, or_else, tested, negated, either_way}
use Rattle.turkish.specs.Snowball.{carried_out, read_if, is_left, is_in, is_outside, letters, longer, longest, key_ahead, fits, go_past, one_turn, at_least, deep, place_after, slice_from}
use Rattle.turkish.specs.Snowball.{shifted, inserted, turned, turned_back, enough, run}
use Rattle.turkish.specs.Source.{check_vowel_harmony, mark_suffix_with_optional_n_consonant, mark_suffix_with_optional_s_consonant, mark_suffix_with_optional_y_consonant}
use Rattle.turkish.specs.Source.{mark_suffix_with_optional_U_vowel, mark_possessives, mark_sU, mark_lArI, mark_yU, mark_nU, mark_nUn, mark_yA, mark_nA, mark_DA, mark_ndA}
use Rattle.turkish.specs.Source.{mark_DAn, mark_ndAn, mark_ylA, mark_ki, mark_ncA, stem_suffix_chain_before_ki, stem_noun_suffixes}
use Rattle.turkish.specs.Source.{mark_yUm, mark_sUn, mark_yUz, mark_sUnUz, mark_lAr, mark_nUz, mark_DUr, mark_cAsInA, mark_yDU, mark_ysA, mark_ymUs_, mark_yken}
use Rattle.turkish.specs.Source.{stem_nominal_verb_suffixes, post_process_last_consonants, append_U_to_stems_ending_with_d_or_g, more_than_one_syllable_word, is_reserved_word}
use Rattle.turkish.specs.Source.{postlude, stem}
use Rattle.turkish.specs.Answers.{entered, called, succeeded, left, uninflected, noun_stage, whole_run}
use Rattle.turkish.specs.Calls.{chars, bytes, limit, refusal, refusal_short_of, accepted, noun_text, noun_refusal, noun_call, whole_text, whole_refusal, whole_call}
use Rattle.turkish.proofs.Starred.{word}

-- a row: the noun stage of a word, with the text and its yes or no; the whole run of a word, with the text. Their outputs are of n bytes
-- and of n + 2.
pub data Row : Type 0 where
  noun_of : String → String → Bool → Row
  whole_of : String → String → Row

-- what a call gives: its answer and its text
pub data Given : Type 0 where
  by_noun : TextAnswer → List ℕ → Given
  by_whole : LengthAnswer → List ℕ → Given

-- what the call of a row gives
unfoldable pub found : Row → Given
found (noun_of w t y) = by_noun (noun_call (word w) (length (word w))) (noun_text (word w))
found (whole_of w t) = by_whole (whole_call (word w) (length (word w) + 2)) (whole_text (word w))

-- and what the Rust says of it
unfoldable pub expected : Row → Given
expected (noun_of w t y) = by_noun (record { refusal = 0; length = length (word t); yes = y }) (word t)
expected (whole_of w t) = by_whole (record { refusal = 0; length = length (word t) }) (word t)

-- the noun stage, by the lines that the words are for; `again` where the chain is called and cuts more, `kept` where it fails and what was
-- deleted before it stays deleted
unfoldable pub nouns : List Row
nouns =
    noun_of "evdekiler" "ev" true  -- 362, again
    ∷ noun_of "evler" "ev" true  -- 362, kept
    ∷ noun_of "evdekilerince" "evdeki" true  -- 366: lArI before sU and lAr; joined by n
    ∷ noun_of "evdekilerimce" "ev" true  -- 368, again; joined by U, and without n
    ∷ noun_of "evlerimce" "ev" true  -- 368, kept
    ∷ noun_of "evdekilerce" "ev" true  -- 370, again
    ∷ noun_of "evdekilerine" "evdeki" true  -- 376: lArI before sU and lAr
    ∷ noun_of "arabasına" "araba" true  -- 378; joined by s
    ∷ noun_of "gözdekilerüne" "göz" true  -- 378, again; joined without s
    ∷ noun_of "adakina" "ana" true  -- 380: the letters behind the cut stay
    ∷ noun_of "adakinda" "anda" true  -- 380
    ∷ noun_of "evinkine" "evne" true  -- 380
    ∷ noun_of "evinkinde" "evnde" true  -- 380
    ∷ noun_of "arabasını" "araba" true  -- 384: nU before yU
    ∷ noun_of "arabasından" "araba" true  -- 384: ndAn before DAn
    ∷ noun_of "evdekilerini" "ev" true  -- 384, again
    ∷ noun_of "evdekilerimden" "ev" true  -- 388, again
    ∷ noun_of "evdekilerden" "ev" true  -- 390, again
    ∷ noun_of "evdekiden" "ev" true  -- 392
    ∷ noun_of "evlerle" "ev" true  -- 398, kept; joined without y
    ∷ noun_of "evimlerle" "ev" true  -- 400, on what 398 left
    ∷ noun_of "evlerinin" "ev" true  -- 400, kept: sU, and lAr before it
    ∷ noun_of "evinkiyle" "ev" true  -- 402; joined by y
    ∷ noun_of "evdekileri" "evdeki" true  -- 406: lArI before yU and lAr
    ∷ noun_of "evdekilerdekilerdeki" "ev" true  -- 408; 337, again and again
    ∷ noun_of "evlerimdeki" "ev" true  -- 339, kept
    ∷ noun_of "evdekilerimdeki" "ev" true  -- 339, again
    ∷ noun_of "evdekilerininki" "evdeki" true  -- 344: lArI before sU and lAr
    ∷ noun_of "evleriminki" "ev" true  -- 346, kept
    ∷ noun_of "evdekileriminki" "ev" true  -- 346, again
    ∷ noun_of "evinkininki" "ev" true  -- 348, again
    ∷ noun_of "evdekilerimde" "ev" true  -- 410, again
    ∷ noun_of "arabayı" "araba" true  -- 410: yU before sU
    ∷ noun_of "evdekilerim" "ev" true  -- 412, again
    ∷ noun_of "arabam" "araba" true  -- 412; joined without U
    ∷ noun_of "duam" "duam" false  -- 162: no m joins behind two vowels
    ∷ noun_of "im" "im" false  -- 160: nor behind a U at the word's start
    ∷ noun_of "saatde" "saatde" false  -- 211: no harmony
    ∷ []

-- the whole run: the flag down after lAr, and so neither the noun stage nor the postlude; one syllable; nothing left; both stages; a
-- consonant hardened; a reserved word left
unfoldable pub wholes : List Row
wholes =
    whole_of "evler" "ev"
    ∷ whole_of "evimler" "evim"
    ∷ whole_of "kitablar" "kitab"
    ∷ whole_of "lar" "lar"
    ∷ whole_of "siniz" ""
    ∷ whole_of "arabadaydı" "araba"
    ∷ whole_of "kitaba" "kitap"
    ∷ whole_of "adda" "ad"
    ∷ []

-- each row has what is expected
abbrev pub Met : List Row → Type 0
Met rows = map found rows ≡ map expected rows

-- every word of both tables has its outcome
pub outcomes : Met nouns × Met wholes
unfolding nouns wholes found expected word
    noun_call noun_text noun_refusal whole_call whole_text whole_refusal refusal_short_of accepted refusal limit chars bytes
    encode_all encode decode is_text accepts next lead lead_in table37 due refused before before_within last_char char_at last_width_of width goes_on_of continuation
    noun_stage uninflected whole_run entered called succeeded left
    run enough ahead place text_limit move_to with_slice with_flag with_strlen with_found with_text and_then or_else tested negated either_way carried_out
    read_if is_left is_in is_outside letters longer longest key_ahead fits go_past one_turn at_least deep place_after slice_from shifted inserted turned turned_back
    check_vowel_harmony mark_suffix_with_optional_n_consonant mark_suffix_with_optional_s_consonant mark_suffix_with_optional_y_consonant mark_suffix_with_optional_U_vowel
    mark_possessives mark_sU mark_lArI mark_yU mark_nU mark_nUn mark_yA mark_nA mark_DA mark_ndA mark_DAn mark_ndAn mark_ylA mark_ki mark_ncA
    stem_suffix_chain_before_ki stem_noun_suffixes
    mark_yUm mark_sUn mark_yUz mark_sUnUz mark_lAr mark_nUz mark_DUr mark_cAsInA mark_yDU mark_ysA mark_ymUs_ mark_yken
    stem_nominal_verb_suffixes post_process_last_consonants append_U_to_stems_ending_with_d_or_g more_than_one_syllable_word is_reserved_word postlude stem
    starts has any from_end text
outcomes = (refl, refl)
