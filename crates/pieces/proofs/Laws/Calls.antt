-- The calls on pieces: what a refused one gives and leaves, and what any other makes of the word's pieces. Assumes nothing.
use Prim.Native.Nat.{ℕ, ◌≤◌}
use mathlib.Core.Path.{◌≡◌, refl, ◌∙◌}
use mathlib.Core.Bool.{true}
use mathlib.Core.List.{List, [], map, Permᴰ}
use native.Mathlib.Omega.{arith}
use lib.ListN.{length, take}
use borrow.Author.Tests.{eq-eqb, ne_eqb}
use Rattle.turkish.specs.declared.answer.PiecesAnswer.{PiecesAnswer}
use Rattle.turkish.specs.declared.answer.LengthAnswer.{LengthAnswer}
use Rattle.turkish.specs.declared.endings.Removed.{Removed}
use Rattle.turkish.specs.Calls.{refusal, accepted, refusal_short_of, written, stage_call}
use Rattle.turkish.specs.PieceCalls.{Span, spans_of, InSomeOrder, piece_refusal, given, told, Lists, pieces_room, buffer, buffer_of, pieces_refusal, pieces_call, PiecesOut}
use Rattle.turkish.specs.PieceCalls.{text_room, text_of, pieces_text_refusal, pieces_text_call, PiecesTextOut}
use Rattle.theorems.proofs.PieceTheorems.{text-fits}
use Rattle.refusals.proofs.Laws.Refusals.{short-accepted, short-room}
use Rattle.pieces.specs.Removed.{removed_of}
use Rattle.pieces.proofs.Laws.Removed.{told-removed, counted-removed, length_removed, others-removed}

-- ---- the order that the code gives ----

-- nothing is written of no pieces
none-in-order : (form : List Span → List ℕ) → form [] ≡ [] → (out : List ℕ) → InSomeOrder form [] out out
unfolding written
none-in-order form e out = record { order = []; rearranged = mathlib.Core.List.Permᴰ.nil; holds = rw e }

-- the pieces as they are
as-they-are : (form : List Span → List ℕ) (ps : List Span) {before after : List ℕ} → after ≡ written (form ps) before → InSomeOrder form ps before after
as-they-are form ps e = record { order = ps; rearranged = mathlib.Core.List.Permᴰ.refl ps; holds = e }

-- ---- the list ----

-- a word that has no number is accepted
pub refusal-accepted : (w : List ℕ) → refusal w ≡ 0 → accepted w ≡ true
unfolding accepted
refusal-accepted w e = eq-eqb (refusal w) 0 e

-- the list of an accepted word
module _ (w : List ℕ) (a : accepted w ≡ true) {r : Removed} (m : r ≡ removed_of w) where
  -- has the kept text's length
  pub listed-length : r.length ≡ (stage_call w).length
  unfolding stage_call
  listed-length = rw (a, m) (length_removed w a)

  -- and the word's pieces
  pub listed-pieces : Lists (spans_of w) r.count r.pieces
  listed-pieces =
      let all : Permᴰ (spans_of w) (map told (take (removed_of w).count (removed_of w).pieces)) = rw (told-removed w a) (mathlib.Core.List.Permᴰ.refl (spans_of w)) in
      rw m (record { counted = counted-removed w a; rearranged = all; others = others-removed w })

-- ---- the buffer ----

module _ (w out : List ℕ) (n : ℕ) (e : n ≡ refusal_short_of 5 w 9 (length out)) where
  -- a refused call gives its number and leaves the buffer
  pub pieces_call-refused : (n ≡ 0 → ⊥)
      → (◌≡◌ {A = PiecesAnswer} (record { refusal = n; length = 0; count = 0 }) (pieces_call w (length out))) × PiecesOut w out out
  unfolding pieces_call pieces_refusal piece_refusal pieces_room given buffer_of buffer
  pieces_call-refused h =
      let no = ne_eqb n 0 h in
      (rw (← e, no), record { pieces = rw (← e, no) (none-in-order (buffer_of w) refl out) })

  -- any other gives the kept text's length and the count, and leaves the pieces written
  pub pieces_call-given : n ≡ 0 → {r : Removed} → r ≡ removed_of w → {last : List ℕ}
      → last ≡ written (buffer r.length (map told (take r.count r.pieces))) out
      → (◌≡◌ {A = PiecesAnswer} (record { refusal = 0; length = r.length; count = r.count }) (pieces_call w (length out))) × PiecesOut w out last
  unfolding pieces_call pieces_refusal piece_refusal pieces_room given buffer_of
  pieces_call-given z m o =
      let a = short-accepted 5 w 9 (length out) n (omega arith) e z in
      let kept = length_removed w a in
      (rw (← e, z, m, kept, counted-removed w a), record { pieces = rw (← e, z) (as-they-are (buffer_of w) (spans_of w) (o ∙ rw (m, kept, told-removed w a))) })

-- ---- the text ----

module _ (w out : List ℕ) (n : ℕ) (e : n ≡ refusal_short_of 5 w 96 (length out)) where
  -- a refused call gives its number and leaves the buffer
  pub pieces_text_call-refused : (n ≡ 0 → ⊥)
      → (◌≡◌ {A = LengthAnswer} (record { refusal = n; length = 0 }) (pieces_text_call w (length out))) × PiecesTextOut w out out
  unfolding pieces_text_call pieces_text_refusal piece_refusal text_room given text_of
  pieces_text_call-refused h =
      let no = ne_eqb n 0 h in
      (rw (← e, no), record { lines = rw (← e, no) (none-in-order (text_of w) refl out) })

  module _ (z : n ≡ 0) {r : Removed} (m : r ≡ removed_of w) where
    -- the lines have room
    pub lines_fit : length (text_of w (map told (take r.count r.pieces))) ≤ length out
    unfolding text_room
    lines_fit =
        let a = short-accepted 5 w 96 (length out) n (omega arith) e z in
        let fits = text-fits w a (mathlib.Core.List.Permᴰ.refl (spans_of w)) in
        rw (m, told-removed w a) (omega (arith, short-room 5 w 96 (length out) n (omega arith) e z))

    -- any other call gives the length of the lines, and leaves them written
    pub pieces_text_call-given : {k : ℕ} {last : List ℕ} → let t = text_of w (map told (take r.count r.pieces)) in k ≡ length t → last ≡ written t out
        → (◌≡◌ {A = LengthAnswer} (record { refusal = 0; length = k }) (pieces_text_call w (length out))) × PiecesTextOut w out last
    unfolding pieces_text_call pieces_text_refusal piece_refusal text_room given
    pieces_text_call-given l o =
        let a = short-accepted 5 w 96 (length out) n (omega arith) e z in
        let parts = told-removed w a in
        (rw (← e, z, l, m, parts), record { lines = rw (← e, z) (as-they-are (text_of w) (spans_of w) (o ∙ rw (m, parts))) })
