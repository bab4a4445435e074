-- Words with the pieces of their endings, both forms of these, what the calls answer and the entries that tell the pieces, computed from
-- turkish.sbl's own commands; and the kinds with their numbers. Assumes nothing.
use Prim.Native.Nat.{ℕ}
use Prim.Native.String.{String}
use mathlib.Core.Path.{◌≡◌, refl}
use mathlib.Core.List.{List, [], ◌∷◌, map}
use Rattle.encoding.specs.Encoding.{encode, encode_all, decode, continuation}
use Rattle.encoding.specs.Validity.{table37, due, refused, lead_in, lead, next, accepts, is_text}
use Rattle.utf8.specs.Characters.{width, goes_on_of, last_width_of, char_at, last_char, before_within, before}
use Rattle.utf8.specs.Steps.{same}
use Rattle.turkish.specs.declared.answer.PiecesAnswer.{PiecesAnswer}
use Rattle.turkish.specs.declared.answer.LengthAnswer.{LengthAnswer}
use Rattle.turkish.specs.declared.endings.Joining.TheVariants.{WithY, AfterVowel}
use Rattle.turkish.specs.declared.endings.Kind.{Kind}
use Rattle.turkish.specs.declared.endings.Kind.TheVariants.{YUm, SUn, YUz, SUnUz, LAr, NUz, DUr, CAsInA, YDU, YsA, YmUs, Yken}
use Rattle.turkish.specs.declared.endings.Piece.{Piece}
use Rattle.turkish.specs.Letters.{text, from_end, tab, lf, any, has, starts}
use Rattle.turkish.specs.Snowball.{ahead, place, limit as text_limit, move_to, with_slice, with_flag, with_strlen, with_found, with_text, and_then, or_else, tested, negated, read_if, is_left, is_in, letters, longer, longest, key_ahead, fits, go_past, place_after, slice_from, enough, run}
use Rattle.turkish.specs.Source.{check_vowel_harmony, mark_suffix_with_optional_y_consonant, mark_yUm, mark_sUn, mark_yUz, mark_sUnUz, mark_lAr, mark_nUz, mark_DUr, mark_cAsInA, mark_yDU, mark_ysA, mark_ymUs_, mark_yken, stem_nominal_verb_suffixes}
use Rattle.turkish.specs.Answers.{entered, called, succeeded, left, stemmed, suffix_stage}
use Rattle.turkish.specs.Pieces.{kind_names, number_from, kind_of, name_from, kind_name, Joined, alone, with_y, after_vowel, blank, or_joined, read_then, read_after, read_or, stopped_at, joint_of, heard_by, one_mark, read_in, reading, kept_marks}
use Rattle.turkish.specs.Calls.{chars, bytes, limit, refusal, refusal_short_of, stage_text, offset}
use Rattle.turkish.specs.PieceCalls.{Span, span_of, spans_of, letters_of, piece_refusal, joined_of, kind_number, kind_joined, told, unused, pieces_room, buffer, buffer_of, pieces_refusal, pieces_call}
use Rattle.turkish.specs.PieceCalls.{text_room, piece_line, text_of, pieces_text_refusal, pieces_text_call}
use Rattle.turkish.proofs.Starred.{word}

-- a word and its pieces in order of running
pub record Row : Type 0 where
  pub of : String
  pub pieces : List Span

-- a piece: its kind, how it joined, and the offsets of its first and its last byte
unfoldable pub span : ℕ → Joined → ℕ → ℕ → Span
span k j f l = record { kind = k; joined = j; first = f; last = l }

unfoldable pub row : String → List Span → Row
row w ps = record { of = w; pieces = ps }

-- every kind stands somewhere, the six that may join both with a y and without one
unfoldable pub table : List Row
table =
    row "" []
    ∷ row "saatler" []
    ∷ row "evcesine" []
    ∷ row "arabayım" (span 1 with_y 5 8 ∷ [])
    ∷ row "doktorum" (span 1 after_vowel 6 7 ∷ [])
    ∷ row "doktorsun" (span 2 alone 6 8 ∷ [])
    ∷ row "arabayız" (span 3 with_y 5 8 ∷ [])
    ∷ row "doktoruz" (span 3 after_vowel 6 7 ∷ [])
    ∷ row "doktorsunuz" (span 4 alone 6 10 ∷ [])
    ∷ row "evler" (span 5 alone 2 4 ∷ [])
    ∷ row "geldiniz" (span 6 alone 5 7 ∷ span 9 after_vowel 3 4 ∷ [])
    ∷ row "arabaydınız" (span 6 alone 9 12 ∷ span 9 with_y 5 8 ∷ [])
    ∷ row "evlerdir" (span 7 alone 5 7 ∷ [])
    ∷ row "evmişlerdir" (span 7 alone 9 11 ∷ span 5 alone 6 8 ∷ span 11 after_vowel 2 5 ∷ [])
    ∷ row "aymışsınızcasına" (span 8 alone 14 20 ∷ span 4 alone 7 13 ∷ span 11 with_y 1 6 ∷ [])
    ∷ row "gelse" (span 10 after_vowel 3 4 ∷ [])
    ∷ row "arabaysa" (span 10 with_y 5 7 ∷ [])
    ∷ row "arabayken" (span 12 with_y 5 8 ∷ [])
    ∷ row "abken" (span 12 after_vowel 2 4 ∷ [])
    ∷ []

-- each word has the pieces beside it
abbrev pub Pieced : List Row → Type 0
Pieced rows = map (λ (r : Row). spans_of (word r.of)) rows ≡ map (λ (r : Row). r.pieces) rows

-- ---- the forms ----

-- a word with the bytes of its buffer and the text of its lines, in order of running
pub record Form : Type 0 where
  pub of : String
  pub entries : List ℕ
  pub lines : String

unfoldable pub form : String → List ℕ → String → Form
form w es ls = record { of = w; entries = es; lines = ls }

unfoldable pub forms : List Form
forms =
    form "saatler" [] ""
    ∷ form "evler" (5 ∷ 0 ∷ 2 ∷ []) "lAr\tler\n"
    ∷ form "arabayken" (12 ∷ 0 ∷ 3 ∷ []) "yken\tyken\n"
    ∷ form "evmişlerdir" (7 ∷ 7 ∷ 9 ∷ 5 ∷ 4 ∷ 6 ∷ 11 ∷ 0 ∷ 3 ∷ []) "DUr\tdir\nlAr\tler\nymUs_\tmiş\n"
    ∷ []

-- each word has its forms
abbrev pub Formed : List Form → Type 0
Formed fs =
    (map (λ (f : Form). buffer_of (word f.of) (spans_of (word f.of))) fs ≡ map (λ (f : Form). f.entries) fs)
    × (map (λ (f : Form). text_of (word f.of) (spans_of (word f.of))) fs ≡ map (λ (f : Form). word f.lines) fs)

-- ---- the calls ----

-- what the two calls answer for a word of bytes and a buffer of so many
pub record Answered : Type 0 where
  pub pieces : PiecesAnswer
  pub lines : LengthAnswer

unfoldable pub answered : List ℕ → ℕ → ℕ → Answered
answered w room textroom = record { pieces = pieces_call w room; lines = pieces_text_call w textroom }

unfoldable pub answer : ℕ → ℕ → ℕ → ℕ → Answered
answer number length count textlength =
    record { pieces = record { refusal = number; length = length; count = count }; lines = record { refusal = number; length = textlength } }

-- rooms that just suffice and that are a byte short, no ending, and a byte that is not UTF-8 with rooms that are short
abbrev pub AnswersMet : Type 0
AnswersMet =
    (answered (word "evmişlerdir") 9 96 ≡ answer 0 2 3 27) × (answered (word "evmişlerdir") 8 95 ≡ answer 5 0 0 0)
    × (answered (word "saatler") 9 96 ≡ answer 0 7 0 0) × (answered (word "saatler") 8 95 ≡ answer 5 0 0 0)
    × (answered (0xFF ∷ []) 8 95 ≡ answer 2 0 0 0)

-- ---- the list for Rattle callers ----

abbrev piece : Kind → ℕ → ℕ → Piece
piece k f l = record { kind = k; first = f; last = l }

-- entries with a kind, a first and a last byte, which tell the pieces of a word
abbrev pub ToldMet : Type 0
ToldMet = map told (piece DUr 9 11 ∷ piece LAr 6 8 ∷ piece (YmUs AfterVowel) 2 5 ∷ []) ≡ spans_of (word "evmişlerdir")

-- ---- all of them ----

-- every word has its pieces, its forms, its answers and its entries, computed from turkish.sbl's own commands
pub words-met : Pieced table × Formed forms × AnswersMet × ToldMet
unfolding table row span word forms form answered answer told kind_number kind_joined joined_of
    pieces_call pieces_refusal pieces_room buffer_of buffer pieces_text_call pieces_text_refusal text_room text_of piece_line letters_of piece_refusal refusal_short_of refusal limit stage_text bytes
    is_text accepts next lead lead_in table37 due refused suffix_stage stemmed called succeeded left
    spans_of span_of offset kept_marks reading read_in one_mark heard_by stopped_at joint_of read_or read_after read_then or_joined blank kind_of number_from kind_name name_from kind_names same tab lf
    chars encode_all encode decode before before_within last_char char_at last_width_of width goes_on_of continuation entered
    run enough ahead place text_limit move_to with_slice with_flag with_strlen with_found with_text and_then or_else tested negated
    read_if is_left is_in letters longer longest key_ahead fits go_past place_after slice_from
    check_vowel_harmony mark_suffix_with_optional_y_consonant mark_yUm mark_sUn mark_yUz mark_sUnUz mark_lAr mark_nUz mark_DUr mark_cAsInA mark_yDU mark_ysA mark_ymUs_ mark_yken
    stem_nominal_verb_suffixes starts has any from_end text
words-met = (refl, (refl, refl), (refl, refl, refl, refl, refl), refl)

-- ---- the kinds ----

-- the eighteen cases of a kind, each with its number and how it joined; and an entry that is not used
abbrev pub KindsMet : Type 0
KindsMet =
    (map kind_number (YUm WithY ∷ SUn ∷ YUz WithY ∷ SUnUz ∷ LAr ∷ NUz ∷ DUr ∷ CAsInA ∷ YDU WithY ∷ YsA WithY ∷ YmUs WithY ∷ Yken WithY ∷ [])
    ≡ 1 ∷ 2 ∷ 3 ∷ 4 ∷ 5 ∷ 6 ∷ 7 ∷ 8 ∷ 9 ∷ 10 ∷ 11 ∷ 12 ∷ [])
    × (map kind_number (YUm AfterVowel ∷ YUz AfterVowel ∷ YDU AfterVowel ∷ YsA AfterVowel ∷ YmUs AfterVowel ∷ Yken AfterVowel ∷ [])
    ≡ 1 ∷ 3 ∷ 9 ∷ 10 ∷ 11 ∷ 12 ∷ [])
    × (map kind_joined (YUm WithY ∷ YUz WithY ∷ YDU WithY ∷ YsA WithY ∷ YmUs WithY ∷ Yken WithY ∷ [])
    ≡ with_y ∷ with_y ∷ with_y ∷ with_y ∷ with_y ∷ with_y ∷ [])
    × (map kind_joined (YUm AfterVowel ∷ YUz AfterVowel ∷ YDU AfterVowel ∷ YsA AfterVowel ∷ YmUs AfterVowel ∷ Yken AfterVowel ∷ [])
    ≡ after_vowel ∷ after_vowel ∷ after_vowel ∷ after_vowel ∷ after_vowel ∷ after_vowel ∷ [])
    × (map kind_joined (SUn ∷ SUnUz ∷ LAr ∷ NUz ∷ DUr ∷ CAsInA ∷ []) ≡ alone ∷ alone ∷ alone ∷ alone ∷ alone ∷ alone ∷ [])
    × (told unused ≡ span 1 with_y 0 0)

-- every kind has its number and its joining
pub kinds-met : KindsMet
unfolding kind_number kind_joined joined_of told unused span
kinds-met = (refl, refl, refl, refl, refl, refl)
