-- What each call gives for a word of bytes, refused calls included, and what its lent output holds after it (document 01, "Whose
-- fault a refusal is" and "Syllable check, postlude, folding, word pass"; document 02, requests 2, 4, 5 and 6). The contracts cite these.
-- Assumes nothing.
use Rattle.std.specs.Prelude.{ℕ, ◌+◌, Bool, false, cond, List, [], ◌++◌, reverse, length, take, drop, ltb, eqb}
use Rattle.encoding.specs.Encoding.{encode_all}
use Rattle.encoding.specs.Validity.{is_text}
use Rattle.utf8.specs.Characters.{before}
use Rattle.turkish.specs.declared.answer.SyllableAnswer.{SyllableAnswer}
use Rattle.turkish.specs.declared.answer.StageAnswer.{StageAnswer}
use Rattle.turkish.specs.declared.answer.TextAnswer.{TextAnswer}
use Rattle.turkish.specs.declared.answer.LengthAnswer.{LengthAnswer}
use Rattle.turkish.specs.declared.answer.PassAnswer.{PassAnswer}
use Rattle.turkish.specs.Answers.{syllable_check, suffix_stage, postlude_of, noun_stage, whole_run}
use Rattle.turkish.specs.Heard.{Heard, unheard, heard, is_heard, loan_in}
use Rattle.turkish.specs.Pieces.{stage_heard}
use Rattle.turkish.specs.Fold.{fold}
use Rattle.turkish.specs.WordPass.{pass}

-- ---- a word as characters ----

-- the characters of a word of bytes, the last one first, and the bytes of such characters
unfoldable pub chars : List ℕ → List ℕ
chars w = before w (length w)

unfoldable pub bytes : List ℕ → List ℕ
bytes cs = encode_all (reverse cs)

-- the bytes before a place, which is told in characters
unfoldable pub offset : List ℕ → ℕ → ℕ
offset w p = length (encode_all (take p (reverse (chars w))))

-- ---- refusals ----

-- the longest word, in bytes (document 02, request 6)
unfoldable pub limit : ℕ
limit = 96

-- the word's author: 1 over the limit, 2 not UTF-8; 0 where neither applies
unfoldable pub refusal : List ℕ → ℕ
refusal w = cond (ltb limit (length w)) 1 (cond (is_text w) 0 2)

-- the host program: a number of its own where the output is shorter than the call needs
unfoldable pub refusal_short_of : ℕ → List ℕ → ℕ → ℕ → ℕ
refusal_short_of number w need room = cond (eqb (refusal w) 0) (cond (ltb room need) number 0) (refusal w)

-- 3 for an output
abbrev pub refusal_into_of : List ℕ → ℕ → ℕ → ℕ
refusal_into_of w need room = refusal_short_of 3 w need room

-- a word is accepted when neither number 1 nor number 2 applies to it
unfoldable pub accepted : List ℕ → Bool
accepted w = eqb (refusal w) 0

-- an output after a text was written to its front: the bytes past the text stay
unfoldable pub written : List ℕ → List ℕ → List ℕ
written s out = s ++ drop (length s) out

-- ---- syllable check ----

unfoldable pub syllable_call : List ℕ → SyllableAnswer
syllable_call w = cond (accepted w) (record { refusal = 0; yes = syllable_check (chars w) }) (record { refusal = refusal w; yes = false })

-- ---- suffix stage ----

-- the text that it leaves; that this is a front part of the word is a theorem
unfoldable pub stage_text : List ℕ → List ℕ
stage_text w = bytes (suffix_stage (chars w)).text

-- the part of the word handed back
unfoldable pub stage_part_of : List ℕ → List ℕ
stage_part_of w = cond (accepted w) (stage_text w) []

-- the offsets of the two vowels that harmony found, 0 where it was not tested
unfoldable pub last_offset : List ℕ → Heard → ℕ
last_offset w unheard = 0
last_offset w (heard last partner) = offset w last

unfoldable pub partner_offset : List ℕ → Heard → ℕ
partner_offset w unheard = 0
partner_offset w (heard last partner) = offset w partner

unfoldable pub stage_call : List ℕ → StageAnswer
stage_call w =
    let s = suffix_stage (chars w) in
    let h = stage_heard (chars w) in
    cond (accepted w)
    (record {
      refusal = 0;
      length = length (stage_text w);
      yes = s.yes;
      flag = s.flag;
      harmonic = is_heard h;
      last = last_offset w h;
      partner = partner_offset w h;
      loan = loan_in (chars w) h;
    })
    (record { refusal = refusal w; length = 0; yes = false; flag = false; harmonic = false; last = 0; partner = 0; loan = false })

-- ---- postlude: an output of n + 2 bytes ----

unfoldable pub postlude_text : List ℕ → List ℕ
postlude_text w = bytes (postlude_of (chars w)).text

unfoldable pub postlude_refusal : List ℕ → ℕ → ℕ
postlude_refusal w room = refusal_into_of w (length w + 2) room

unfoldable pub postlude_call : List ℕ → ℕ → TextAnswer
postlude_call w room =
    cond (eqb (postlude_refusal w room) 0)
    (record { refusal = 0; length = length (postlude_text w); yes = (postlude_of (chars w)).yes })
    (record { refusal = postlude_refusal w room; length = 0; yes = false })

unfoldable pub postlude_out : List ℕ → List ℕ → List ℕ
postlude_out w out = cond (eqb (postlude_refusal w (length out)) 0) (written (postlude_text w) out) out

-- ---- fold: an output as long as the folded text ----

unfoldable pub fold_text : List ℕ → List ℕ
fold_text w = bytes (fold (chars w))

unfoldable pub fold_refusal : List ℕ → ℕ → ℕ
fold_refusal w room = refusal_into_of w (length (fold_text w)) room

unfoldable pub fold_call : List ℕ → ℕ → LengthAnswer
fold_call w room =
    cond (eqb (fold_refusal w room) 0)
    (record { refusal = 0; length = length (fold_text w) })
    (record { refusal = fold_refusal w room; length = 0 })

unfoldable pub fold_out : List ℕ → List ℕ → List ℕ
fold_out w out = cond (eqb (fold_refusal w (length out)) 0) (written (fold_text w) out) out

-- ---- word pass: an output of n + 2 bytes ----

unfoldable pub pass_text : List ℕ → List ℕ
pass_text w = bytes (pass (chars w)).text

unfoldable pub pass_refusal : List ℕ → ℕ → ℕ
pass_refusal w room = refusal_into_of w (length w + 2) room

unfoldable pub pass_call : List ℕ → ℕ → PassAnswer
pass_call w room =
    cond (eqb (pass_refusal w room) 0)
    (record { refusal = 0; length = length (pass_text w); syllable = (pass (chars w)).syllable; yes = (pass (chars w)).yes; flag = (pass (chars w)).flag })
    (record { refusal = pass_refusal w room; length = 0; syllable = false; yes = false; flag = false })

unfoldable pub pass_out : List ℕ → List ℕ → List ℕ
pass_out w out = cond (eqb (pass_refusal w (length out)) 0) (written (pass_text w) out) out

-- ---- noun stage: an output of n bytes ----

unfoldable pub noun_text : List ℕ → List ℕ
noun_text w = bytes (noun_stage (chars w)).text

unfoldable pub noun_refusal : List ℕ → ℕ → ℕ
noun_refusal w room = refusal_into_of w (length w) room

unfoldable pub noun_call : List ℕ → ℕ → TextAnswer
noun_call w room =
    cond (eqb (noun_refusal w room) 0)
    (record { refusal = 0; length = length (noun_text w); yes = (noun_stage (chars w)).yes })
    (record { refusal = noun_refusal w room; length = 0; yes = false })

unfoldable pub noun_out : List ℕ → List ℕ → List ℕ
noun_out w out = cond (eqb (noun_refusal w (length out)) 0) (written (noun_text w) out) out

-- ---- whole run: an output of n + 2 bytes ----

unfoldable pub whole_text : List ℕ → List ℕ
whole_text w = bytes (whole_run (chars w))

unfoldable pub whole_refusal : List ℕ → ℕ → ℕ
whole_refusal w room = refusal_into_of w (length w + 2) room

unfoldable pub whole_call : List ℕ → ℕ → LengthAnswer
whole_call w room =
    cond (eqb (whole_refusal w room) 0)
    (record { refusal = 0; length = length (whole_text w) })
    (record { refusal = whole_refusal w room; length = 0 })

unfoldable pub whole_out : List ℕ → List ℕ → List ℕ
whole_out w out = cond (eqb (whole_refusal w (length out)) 0) (written (whole_text w) out) out
