-- Fronts with their tails and what a call gives of them (document 02, request 7), computed from turkish.sbl's own commands: answers, each number
-- of a refusal, and which of two comes first. And summaries of fronts. Assumes nothing.
use Prim.Native.Nat.{ℕ, zero, suc}
use Prim.Native.String.{String}
use mathlib.Core.Path.{◌≡◌, refl}
use mathlib.Core.List.{List, [], ◌∷◌, ◌++◌, map}
use lib.ListN.{length, take, replicate}
use Rattle.encoding.specs.Encoding.{encode, encode_all, decode, continuation}
use Rattle.encoding.specs.Validity.{lead, lead_in, table37, due, refused, next, accepts, is_text}
use Rattle.utf8.specs.Characters.{width, goes_on_of, last_width_of, char_at, last_char, before_within, before}
use Rattle.turkish.specs.declared.answer.BatchAnswer.{BatchAnswer}
use Rattle.turkish.specs.Letters.{text, from_end, lf, any, has, starts}
use Rattle.turkish.specs.Lines.{unclosed, lines_from}
use Rattle.turkish.specs.Vowels.{vowels, vowel, last_vowel_of, before_last_vowel}
use Rattle.turkish.specs.Snowball.{ahead, place, move_to, with_slice, with_flag, with_text, and_then, or_else}
use Rattle.turkish.specs.Snowball.{tested, negated, read_if, is_left, is_in, letters, longer, longest, key_ahead, fits, go_past, place_after, slice_from, enough, run}
use Rattle.turkish.specs.Source.{check_vowel_harmony, mark_suffix_with_optional_y_consonant, mark_yUm, mark_sUn, mark_yUz, mark_sUnUz, mark_lAr}
use Rattle.turkish.specs.Source.{mark_nUz, mark_DUr, mark_cAsInA, mark_yDU, mark_ysA, mark_ymUs_, mark_yken, stem_nominal_verb_suffixes}
use Rattle.turkish.specs.Answers.{entered, called, succeeded, left, stemmed, suffix_stage}
use Rattle.theorems.specs.Simple.Harmony.{to_first}
use Rattle.turkish.specs.Calls.{chars, bytes, limit, refusal, accepted, written, stage_text, stage_call}
use Rattle.theorems.specs.Fronts.{end_length, long}
use Rattle.batches.specs.Summary.{vowel_number, times, summary_from, summary}
use Rattle.batches.specs.BatchCalls.{Batch, batch, most_tails, tails_in, joined_words, some, refused_under, words_refusal_of, tails_refusal, rooms_refusal_of, first_refusal, number_of}
use Rattle.batches.specs.BatchCalls.{batch_refusal, batch_call, entries_after, bit, lengths_after, answers_after, flags_after}
use Rattle.turkish.proofs.Starred.{word}

-- ---- answers ----

-- a front, its slice of tails, the answer, and the first entries of the three buffers after the call, which held 7 in each before it
pub record Row : Type 0 where
  pub front : String
  pub tails : String
  pub answer : BatchAnswer
  pub lengths : List ℕ
  pub answers : List ℕ
  pub flags : List ℕ

-- tails of 16 characters and more; the last entry is one that is not used. Behind `e` and `a` one tail fares otherwise, and behind no vowel as
-- behind `a`
unfoldable pub table : List Row
table =
    record {
      front = "mikrodenetleyici";
      tails = "programlayıcısın\nprogramlayıcılar\nprogramlayıcıymışsınız";
      answer = record { refusal = 0; count = 3 };
      lengths = 31 ∷ 31 ∷ 31 ∷ 7 ∷ [];
      answers = 1 ∷ 1 ∷ 1 ∷ 7 ∷ [];
      flags = 1 ∷ 0 ∷ 1 ∷ 7 ∷ [];
    }
    ∷ record { front = "ebcd"; tails = "bcdfghklmnprsler\n"; answer = record { refusal = 0; count = 1 }; lengths = 17 ∷ 7 ∷ []; answers = 1 ∷ 7 ∷ []; flags = 0 ∷ 7 ∷ [] }
    ∷ record { front = "abcd"; tails = "bcdfghklmnprsler\n"; answer = record { refusal = 0; count = 1 }; lengths = 20 ∷ 7 ∷ []; answers = 0 ∷ 7 ∷ []; flags = 1 ∷ 7 ∷ [] }
    ∷ record { front = "bcd"; tails = "bcdfghklmnprsler"; answer = record { refusal = 0; count = 1 }; lengths = 19 ∷ 7 ∷ []; answers = 0 ∷ 7 ∷ []; flags = 1 ∷ 7 ∷ [] }
    ∷ record { front = "ev"; tails = ""; answer = record { refusal = 0; count = 0 }; lengths = 7 ∷ []; answers = 7 ∷ []; flags = 7 ∷ [] }
    ∷ []

-- a call on these words, with buffers of so many entries
unfoldable pub lent : List ℕ → List ℕ → ℕ → ℕ → ℕ → Batch
lent front tails l a f = batch front tails (replicate l 7) (replicate a 7) (replicate f 7)

unfoldable pub found : Row → Row
found r =
    let b = lent (word r.front) (word r.tails) 64 64 64 in
    record {
      front = r.front;
      tails = r.tails;
      answer = batch_call b;
      lengths = take (length r.lengths) (lengths_after b);
      answers = take (length r.answers) (answers_after b);
      flags = take (length r.flags) (flags_after b);
    }

-- each row is what the call gives
abbrev pub Met : List Row → Type 0
Met rows = map found rows ≡ rows

pub answers-met : Met table
unfolding table found lent word batch_call lengths_after answers_after flags_after entries_after batch_refusal number_of first_refusal rooms_refusal_of tails_refusal words_refusal_of
    refused_under some joined_words tails_in most_tails bit lines_from unclosed lf long end_length
    stage_call stage_text written accepted refusal limit chars bytes
    encode_all encode decode is_text accepts next lead lead_in table37 due refused before before_within last_char char_at last_width_of width goes_on_of continuation
    suffix_stage stemmed entered called succeeded left
    run enough ahead place move_to with_slice with_flag with_text and_then or_else tested negated
    read_if is_left is_in letters longer longest key_ahead fits go_past place_after slice_from
    check_vowel_harmony mark_suffix_with_optional_y_consonant mark_yUm mark_sUn mark_yUz mark_sUnUz mark_lAr mark_nUz mark_DUr mark_cAsInA mark_yDU mark_ysA mark_ymUs_ mark_yken
    stem_nominal_verb_suffixes vowel vowels starts has any from_end text
answers-met = refl

-- ---- refusals ----

-- a text over and over
unfoldable pub repeated : ℕ → List ℕ → List ℕ
repeated zero w = []
repeated (suc n) w = w ++ repeated n w

-- a tail of 16 letters with its line feed, and one of 15
unfoldable pub sixteen : List ℕ
sixteen = word "aaaaaaaaaaaaaaaa\n"

unfoldable pub fifteen : List ℕ
fifteen = word "aaaaaaaaaaaaaaa\n"

-- the number of a batch with these rooms
unfoldable pub number : List ℕ → List ℕ → ℕ → ℕ → ℕ → ℕ
number front tails l a f = batch_refusal (lent front tails l a f)

-- 80 letters and 16 are 96 bytes and pass, 81 and 16 do not, nor 97 alone, nor a 65th tail that is too long; a byte that is not UTF-8, in the
-- front, in the 65th tail, and a character that the tail would complete; 15 characters, of one byte and of two, and 16 of two, which pass; an empty
-- tail; 64 tails, which pass, and 65; a room of 63 in each place; and the order of the four
abbrev pub RefusalsMet : Type 0
RefusalsMet =
    number (repeated 80 (word "a")) sixteen 64 64 64
    ∷ number (repeated 81 (word "a")) sixteen 64 64 64
    ∷ number (repeated 97 (word "a")) [] 64 64 64
    ∷ number (word "a") (repeated 64 sixteen ++ repeated 96 (word "b")) 64 64 64
    ∷ number (0xFF ∷ []) sixteen 64 64 64
    ∷ number (word "a") (repeated 64 sixteen ++ (0xFF ∷ [])) 64 64 64
    ∷ number (0xC3 ∷ []) (0xBC ∷ sixteen) 64 64 64
    ∷ number (word "a") fifteen 64 64 64
    ∷ number (word "a") (repeated 15 (word "ü")) 64 64 64
    ∷ number (word "a") (repeated 16 (word "ü")) 64 64 64
    ∷ number (word "a") (word "\n") 64 64 64
    ∷ number (word "a") (repeated 64 sixteen) 64 64 64
    ∷ number (word "a") (repeated 65 sixteen) 64 64 64
    ∷ number (word "a") sixteen 63 64 64
    ∷ number (word "a") sixteen 64 63 64
    ∷ number (word "a") [] 64 64 63
    ∷ number (repeated 97 (word "a")) (0xFF ∷ []) 0 0 0
    ∷ number (word "a") (0xFF ∷ []) 0 0 0
    ∷ number (word "a") fifteen 0 0 0
    ∷ []
    ≡ 0 ∷ 1 ∷ 1 ∷ 1 ∷ 2 ∷ 2 ∷ 2 ∷ 6 ∷ 6 ∷ 0 ∷ 6 ∷ 0 ∷ 6 ∷ 3 ∷ 3 ∷ 3 ∷ 1 ∷ 2 ∷ 6 ∷ []

-- a room of 63 again, with the whole answer
abbrev pub RefusedMet : Type 0
RefusedMet = batch_call (lent (word "a") sixteen 63 64 64) ≡ record { refusal = 3; count = 0 }

pub refusals-met : RefusalsMet × RefusedMet
unfolding batch_call number lent sixteen fifteen repeated word batch_refusal number_of first_refusal rooms_refusal_of tails_refusal words_refusal_of
    refused_under some joined_words tails_in most_tails lines_from unclosed lf long end_length refusal limit chars
    encode_all encode decode is_text accepts next lead lead_in table37 due refused before before_within last_char char_at last_width_of width goes_on_of continuation text
refusals-met = (refl, refl)

-- ---- summaries ----

-- a front without a vowel, one with all eight in the order of their numbers, the last of which is not counted, and one with vowels more than once
abbrev pub SummariesMet : Type 0
SummariesMet =
    map (λ (s : String). summary (word s)) ("bcd" ∷ "aeıioöuü" ∷ "mikrodenetleyici" ∷ [])
    ≡ record { last = 0; counts = replicate 8 0 }
    ∷ record { last = 8; counts = replicate 7 1 ++ (0 ∷ []) }
    ∷ record { last = 4; counts = 0 ∷ 3 ∷ 0 ∷ 2 ∷ 1 ∷ 0 ∷ 0 ∷ 0 ∷ [] }
    ∷ []

pub summaries-met : SummariesMet
unfolding word summary summary_from times vowel_number to_first last_vowel_of before_last_vowel chars
    encode_all encode decode before before_within last_char char_at last_width_of width goes_on_of continuation vowel vowels has any text
summaries-met = refl
