-- The calls offered to a host as data, and their answers laid out, so that one sentence of document 01 ("Whose fault a refusal is") can be said of
-- every call. That on a front and its tails is laid out in the crate `batches`; the UTF-8 check refuses nothing. Assumes nothing.
use Rattle.std.specs.Prelude.{ℕ, ◌≡◌, Bool, false}
use mathlib.Core.List.{List, [], ◌∷◌, Memᴰ}
use Rattle.turkish.specs.Calls.{refusal, syllable_call, stage_part_of, stage_call, postlude_refusal, postlude_call, fold_refusal, fold_call, pass_refusal, pass_call}
use Rattle.turkish.specs.Calls.{noun_refusal, noun_call, whole_refusal, whole_call}
use Rattle.turkish.specs.PieceCalls.{pieces_refusal, pieces_call, pieces_text_refusal, pieces_text_call}

-- a call with its word and, where it writes, with the length of its output
pub data Call : Type 0 where
  syllable : List ℕ → Call
  stage : List ℕ → Call
  postlude : List ℕ → ℕ → Call
  fold : List ℕ → ℕ → Call
  pass : List ℕ → ℕ → Call
  noun : List ℕ → ℕ → Call
  whole : List ℕ → ℕ → Call
  pieces : List ℕ → ℕ → Call
  pieces_text_of : List ℕ → ℕ → Call

-- the number under which it is refused, 0 where it is not
unfoldable pub refusal_from : Call → ℕ
refusal_from (syllable w) = refusal w
refusal_from (stage w) = refusal w
refusal_from (postlude w room) = postlude_refusal w room
refusal_from (fold w room) = fold_refusal w room
refusal_from (pass w room) = pass_refusal w room
refusal_from (noun w room) = noun_refusal w room
refusal_from (whole w room) = whole_refusal w room
refusal_from (pieces w room) = pieces_refusal w room
refusal_from (pieces_text_of w room) = pieces_text_refusal w room

-- an answer laid out: the refusal's number; the length and any other number or count; the yes/no answers with the flag; the part handed back
pub record Reply : Type 0 where
  pub number : ℕ
  pub numbers : List ℕ
  pub answers : List Bool
  pub part : List ℕ

-- each field of a call's answer in its place; the suffix stage's part is what its second call hands back, and no other call hands one back
unfoldable pub reply : Call → Reply
reply (syllable w) = let a = syllable_call w in record { number = a.refusal; numbers = []; answers = a.yes ∷ []; part = [] }
reply (stage w) =
    let a = stage_call w in
    record {
      number = a.refusal;
      numbers = a.length ∷ a.last ∷ a.partner ∷ [];
      answers = a.yes ∷ a.flag ∷ a.harmonic ∷ a.loan ∷ [];
      part = stage_part_of w;
    }
reply (postlude w room) = let a = postlude_call w room in record { number = a.refusal; numbers = a.length ∷ []; answers = a.yes ∷ []; part = [] }
reply (fold w room) = let a = fold_call w room in record { number = a.refusal; numbers = a.length ∷ []; answers = []; part = [] }
reply (pass w room) =
    let a = pass_call w room in
    record { number = a.refusal; numbers = a.length ∷ []; answers = a.syllable ∷ a.yes ∷ a.flag ∷ []; part = [] }
reply (noun w room) = let a = noun_call w room in record { number = a.refusal; numbers = a.length ∷ []; answers = a.yes ∷ []; part = [] }
reply (whole w room) = let a = whole_call w room in record { number = a.refusal; numbers = a.length ∷ []; answers = []; part = [] }
reply (pieces w room) = let a = pieces_call w room in record { number = a.refusal; numbers = a.length ∷ a.count ∷ []; answers = []; part = [] }
reply (pieces_text_of w room) = let a = pieces_text_call w room in record { number = a.refusal; numbers = a.length ∷ []; answers = []; part = [] }

-- an answer that gives a number and nothing else: length and any other number or count 0, every yes/no answer no, flag false, an empty part
pub record GivesOnly (number : ℕ) (r : Reply) : Type 0 where
  pub its-number : r.number ≡ number
  pub all-0 : {n : ℕ} → Memᴰ n r.numbers → n ≡ 0
  pub all-no : {b : Bool} → Memᴰ b r.answers → b ≡ false
  pub empty-part : r.part ≡ []
