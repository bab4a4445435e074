-- The buffers after a batch: each entry of a tail, those past the last, and a refused batch; and its answer, refused or not. Assumes nothing.
use Prim.Native.Nat.{ℕ, zero, suc, ◌<◌}
use mathlib.Core.Path.{◌≡◌, refl, ap, ◌∙◌}
use mathlib.Core.Bool.{false}
use mathlib.Core.Logic.{inl, inr}
use mathlib.Mathlib.Data.Bool.Basic.{dichotomy}
use mathlib.Core.List.{List, [], ◌∷◌, ◌++◌, map}
use native.Mathlib.Omega.{arith}
use lib.ListN.{length, drop, get_or, get_or-append, length-map}
use lib.Seq.{drop-append_seam}
use lib.Dec.{eqb}
use borrow.Author.Tests.{eq-eqb, ne_eqb}
use Rattle.turkish.specs.Calls.{written}
use Rattle.theorems.specs.Replies.{GivesOnly}
use Rattle.theorems.proofs.Laws.Tests.{every}
use Rattle.theorems.proofs.Replies.{gives-only}
use Rattle.batches.specs.BatchCalls.{Batch, tails_in, joined_words, batch_refusal, batch_call, batch_reply, entries_after}

-- what a function makes of a list, at a place
get_or-mapped : (f : List ℕ → ℕ) (ws : List (List ℕ)) (i : ℕ) → i < length ws → get_or (map f ws) i 0 ≡ f (get_or ws i [])
get_or-mapped f [] i h = absurd (omega arith)
get_or-mapped f (w ∷ ws) zero h = refl
get_or-mapped f (w ∷ ws) (suc i) h = get_or-mapped f ws i (omega arith)

-- a joined word, at a place
get_or-joined : (f : List ℕ) (ts : List (List ℕ)) (i : ℕ) → i < length ts → get_or (joined_words f ts) i [] ≡ f ++ get_or ts i []
unfolding joined_words
get_or-joined f [] i h = absurd (omega arith)
get_or-joined f (t ∷ ts) zero h = refl
get_or-joined f (t ∷ ts) (suc i) h = get_or-joined f ts i (omega arith)

-- there are as many as tails
pub length-joined : (f : List ℕ) (ts : List (List ℕ)) → length (joined_words f ts) ≡ length ts
unfolding joined_words
length-joined f ts = length-map ts (λ t. f ++ t)

module _ (entry : List ℕ → ℕ) (b : Batch) (before : List ℕ) where
  abbrev ts : List (List ℕ)
  ts = tails_in b.tails

  -- the entries of the tails, in order
  entries : List ℕ
  entries = map entry (joined_words b.front ts)

  entries-length : length entries ≡ length ts
  unfolding entries
  entries-length = length-map (joined_words b.front ts) entry ∙ length-joined b.front ts

  -- a batch that is answered has the entry of each tail at the tail's place
  pub entry_at : batch_refusal b ≡ 0 → (i : ℕ) → i < length ts → get_or (entries_after entry b before) i 0 ≡ entry (b.front ++ get_or ts i [])
  unfolding entries_after written entries
  entry_at z i h =
      let l = entries-length in
      rw (eq-eqb (batch_refusal b) 0 z)
      (get_or-append entries (drop (length entries) before) 0 i (omega arith)
      ∙ get_or-mapped entry (joined_words b.front ts) i (omega (arith, length-joined b.front ts)) ∙ ap entry (get_or-joined b.front ts i h))

  -- entries past the last tail's stay, all of them where the batch is refused
  pub entries-stay : drop (batch_call b).count (entries_after entry b before) ≡ drop (batch_call b).count before
  unfolding entries_after batch_call written entries
  entries-stay =
      elim (dichotomy (eqb (batch_refusal b) 0)) [
        | inl e ↦ rw e
        | inr e ↦ rw (e, ← entries-length) (drop-append_seam entries (drop (length entries) before))
      ]

  -- a refused batch leaves the buffer
  pub entries-refused : eqb (batch_refusal b) 0 ≡ false → entries_after entry b before ≡ before
  unfolding entries_after
  entries-refused e = rw e

-- its answer gives its number and nothing else
pub refused-only : (b : Batch) → (batch_refusal b ≡ 0 → ⊥) → GivesOnly (batch_refusal b) (batch_reply b)
unfolding batch_reply batch_call every
refused-only b h = rw (ne_eqb (batch_refusal b) 0 h) (gives-only _ refl refl refl)

-- that of one that is answered number 0
pub answered-0 : (b : Batch) → batch_refusal b ≡ 0 → (batch_reply b).number ≡ 0
unfolding batch_reply batch_call
answered-0 b z = rw (eq-eqb (batch_refusal b) 0 z)
