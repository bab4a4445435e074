-- What the call on a front and its tails gives, refused calls included (document 02, request 7). The contracts cite these. Assumes nothing.
use Rattle.std.specs.Prelude.{ℕ, ◌≤◌, ◌≡◌, Bool, true, false, cond, not, ◌||◌, length, eqb, ltb}
use mathlib.Core.List.{List, [], ◌∷◌, ◌++◌, map, Memᴰ}
use Rattle.turkish.specs.declared.answer.BatchAnswer.{BatchAnswer}
use Rattle.turkish.specs.Lines.{lines_from}
use Rattle.turkish.specs.Calls.{refusal, accepted, written, stage_call}
use Rattle.theorems.specs.Fronts.{long}
use Rattle.theorems.specs.Replies.{Reply}

-- what a call is lent: the front, the slice of tails, and the three buffers as they are before it
pub record Batch : Type 0 where
  pub front : List ℕ
  pub tails : List ℕ
  pub lengths : List ℕ
  pub answers : List ℕ
  pub flags : List ℕ

-- in the order of the call's parameters
abbrev pub batch : List ℕ → List ℕ → List ℕ → List ℕ → List ℕ → Batch
batch front tails lengths answers flags = record { front = front; tails = tails; lengths = lengths; answers = answers; flags = flags }

-- the most tails, and the entries that each buffer must have
unfoldable pub most_tails : ℕ
most_tails = 64

-- the tails: the lines of the slice
unfoldable pub tails_in : List ℕ → List (List ℕ)
tails_in slice = lines_from [] slice

-- the joined words: the front with each tail
unfoldable pub joined_words : List ℕ → List (List ℕ) → List (List ℕ)
joined_words front ts = map (λ (t : List ℕ). front ++ t) ts

-- ---- refusals ----

-- some word passes a test
unfoldable pub some : (List ℕ → Bool) → List (List ℕ) → Bool
some f [] = false
some f (w ∷ ws) = f w || some f ws

-- some word is refused under a number
unfoldable pub refused_under : ℕ → List (List ℕ) → Bool
refused_under number ws = some (λ (w : List ℕ). eqb (refusal w) number) ws

-- the words' author: 1 and 2 over the front, the tails and the joined words
unfoldable pub words_refusal_of : List ℕ → List (List ℕ) → ℕ
words_refusal_of front ts =
    let ws = front ∷ ts ++ joined_words front ts in
    cond (refused_under 1 ws) 1 (cond (refused_under 2 ws) 2 0)

-- 6: more than 64 tails, or one under 16 characters
unfoldable pub tails_refusal : List (List ℕ) → ℕ
tails_refusal ts = cond (ltb most_tails (length ts) || some (λ (t : List ℕ). not (long t)) ts) 6 0

-- the host program: 3 where a buffer has under 64 entries
unfoldable pub rooms_refusal_of : ℕ → ℕ → ℕ → ℕ
rooms_refusal_of lengths answers flags = cond (ltb lengths most_tails || ltb answers most_tails || ltb flags most_tails) 3 0

-- the first number that is not 0
unfoldable pub first_refusal : ℕ → ℕ → ℕ
first_refusal m n = cond (eqb m 0) n m

-- of a front, its tails and the rooms of the three buffers
unfoldable pub number_of : List ℕ → List (List ℕ) → ℕ → ℕ → ℕ → ℕ
number_of front ts lengths answers flags =
    first_refusal (words_refusal_of front ts) (first_refusal (tails_refusal ts) (rooms_refusal_of lengths answers flags))

unfoldable pub batch_refusal : Batch → ℕ
batch_refusal b = number_of b.front (tails_in b.tails) (length b.lengths) (length b.answers) (length b.flags)

-- ---- the call ----

unfoldable pub batch_call : Batch → BatchAnswer
batch_call b =
    cond (eqb (batch_refusal b) 0)
    (record { refusal = 0; count = length (tails_in b.tails) })
    (record { refusal = batch_refusal b; count = 0 })

-- a buffer after it: an entry for each joined word in order; a refused call leaves it
unfoldable pub entries_after : (List ℕ → ℕ) → Batch → List ℕ → List ℕ
entries_after entry b before = cond (eqb (batch_refusal b) 0) (written (map entry (joined_words b.front (tails_in b.tails))) before) before

-- yes and true 1, no and false 0
unfoldable pub bit : Bool → ℕ
bit t = cond t 1 0

-- each entry is the stage's own answer on the joined word
unfoldable pub lengths_after : Batch → List ℕ
lengths_after b = entries_after (λ (w : List ℕ). (stage_call w).length) b b.lengths

unfoldable pub answers_after : Batch → List ℕ
answers_after b = entries_after (λ (w : List ℕ). bit (stage_call w).yes) b b.answers

unfoldable pub flags_after : Batch → List ℕ
flags_after b = entries_after (λ (w : List ℕ). bit (stage_call w).flag) b b.flags

-- ---- for the theorems ----

-- its answer laid out: the number, and how many tails were answered
unfoldable pub batch_reply : Batch → Reply
batch_reply b = let a = batch_call b in record { number = a.refusal; numbers = a.count ∷ []; answers = []; part = [] }

-- a batch that is answered: the front is accepted; each tail is, has 16 characters or more, and makes an accepted word with the front; there are
-- no more than 64 tails, and each buffer has as many entries
pub record Answered (b : Batch) : Type 0 where
  pub front : accepted b.front ≡ true
  pub tails : {t : List ℕ} → Memᴰ t (tails_in b.tails) → (accepted t ≡ true) × (accepted (b.front ++ t) ≡ true) × (long t ≡ true)
  pub few : length (tails_in b.tails) ≤ most_tails
  pub rooms : (most_tails ≤ length b.lengths) × (most_tails ≤ length b.answers) × (most_tails ≤ length b.flags)
