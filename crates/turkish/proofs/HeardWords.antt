-- Words with what the suffix stage answers of the harmony test that counts (document 02, request 5), computed from turkish.sbl's own
-- commands. Assumes nothing.
use Prim.Native.Nat.{ℕ}
use Prim.Native.String.{String}
use mathlib.Core.Path.{◌≡◌, refl}
use mathlib.Core.Bool.{Bool, true, false}
use mathlib.Core.List.{List, [], ◌∷◌, map}
use Rattle.encoding.specs.Encoding.{encode, encode_all, decode, continuation}
use Rattle.encoding.specs.Validity.{lead, next, accepts, is_text}
use Rattle.utf8.specs.Characters.{width, goes_on_of, last_width_of, char_at, last_char, before_within, before}
use Rattle.utf8.specs.Steps.{same}
use Rattle.turkish.specs.Letters.{text, from_end, any, has, starts}
use Rattle.turkish.specs.Vowels.{vowels, vowel}
use Rattle.turkish.specs.Snowball.{ahead, place, move_to, with_slice, with_flag, with_text, and_then, or_else}
use Rattle.turkish.specs.Snowball.{tested, negated, read_if, is_left, is_in, letters, longer, longest, key_ahead, fits, go_past, place_after, slice_from, enough, run}
use Rattle.turkish.specs.Source.{check_vowel_harmony, mark_suffix_with_optional_y_consonant, mark_yUm, mark_sUn, mark_yUz, mark_sUnUz, mark_lAr}
use Rattle.turkish.specs.Source.{mark_nUz, mark_DUr, mark_cAsInA, mark_yDU, mark_ysA, mark_ymUs_, mark_yken, stem_nominal_verb_suffixes}
use Rattle.turkish.specs.Answers.{entered}
use Rattle.turkish.specs.Heard.{is_heard, or_heard, loan_in}
use Rattle.turkish.specs.Pieces.{kind_names, number_from, kind_of, blank, read_then, read_after, read_or, stopped_at, heard_by, one_mark, read_in}
use Rattle.turkish.specs.Pieces.{reading, kept_marks, first_heard, stage_heard}
use Rattle.turkish.specs.Calls.{chars, offset, limit, refusal, accepted, last_offset, partner_offset, stage_call}
use Rattle.turkish.proofs.Starred.{word}

-- a word, and whether a mark of its ending tested harmony; the offsets at which the last vowel and its nearest partner start, for the first
-- mark that did; and whether a vowel stands between them
pub record Row : Type 0 where
  pub of : String
  pub harmonic : Bool
  pub last : ℕ
  pub partner : ℕ
  pub loan : Bool

-- a word with such a mark
unfoldable pub found : String → ℕ → ℕ → Bool → Row
found w l p b = record { of = w; harmonic = true; last = l; partner = p; loan = b }

-- and one without: no ending, or sUnUz, ysA or yken alone
unfoldable pub unheard : String → Row
unheard w = record { of = w; harmonic = false; last = 0; partner = 0; loan = false }

-- each of the keys' six vowels is the last one somewhere; vowels of two bytes, and characters of two and of three before and between them
unfoldable pub table : List Row
table =
    unheard ""
    ∷ unheard "saatler"
    ∷ unheard "evcesine"
    ∷ unheard "siniz"
    ∷ unheard "doktorsunuz"
    ∷ unheard "arabaysa"
    ∷ unheard "arabayken"
    ∷ found "evler" 3 0 false
    ∷ found "kalemlar" 6 1 true
    ∷ found "doktorum" 6 4 false
    ∷ found "geldiniz" 6 4 false
    ∷ found "arabaydınız" 10 7 false
    ∷ found "görmüştür" 10 5 false
    ∷ found "evsinizdir" 8 5 false
    ∷ found "evmişlerdir" 10 7 false
    ∷ found "aymışsınızcasına" 3 0 false
    ∷ found "aktörlar" 7 0 true
    ∷ found "menüsin" 6 1 true
    ∷ found "ev€ler" 6 0 false
    ∷ found "€kalemlar" 9 4 true
    ∷ []

-- what the stage answers in a row's place
unfoldable pub answered : Row → Row
answered r =
    let a = stage_call (word r.of) in
    record { of = r.of; harmonic = a.harmonic; last = a.last; partner = a.partner; loan = a.loan }

-- each row is what the stage answers
abbrev pub Met : List Row → Type 0
Met rows = map answered rows ≡ rows

-- a byte that is not UTF-8 is refused, and nothing is told of it
abbrev pub RefusedMet : Type 0
RefusedMet =
    stage_call (0xFF ∷ [])
    ≡ record { refusal = 2; length = 0; yes = false; flag = false; harmonic = false; last = 0; partner = 0; loan = false }

-- every word has its outcome, computed from turkish.sbl's own commands
pub outcomes : Met table × RefusedMet
unfolding table found unheard answered word
    stage_call last_offset partner_offset offset accepted refusal limit chars stage_heard first_heard is_heard or_heard loan_in
    encode_all encode decode is_text accepts next lead before before_within last_char char_at last_width_of width goes_on_of continuation
    entered kept_marks reading read_in one_mark heard_by stopped_at read_or read_after read_then blank kind_of number_from kind_names same
    run enough ahead place move_to with_slice with_flag with_text and_then or_else tested negated
    read_if is_left is_in letters longer longest key_ahead fits go_past place_after slice_from
    check_vowel_harmony mark_suffix_with_optional_y_consonant mark_yUm mark_sUn mark_yUz mark_sUnUz mark_lAr mark_nUz mark_DUr mark_cAsInA mark_yDU mark_ysA mark_ymUs_ mark_yken
    stem_nominal_verb_suffixes vowel vowels starts has any from_end text
outcomes = (refl, refl)
