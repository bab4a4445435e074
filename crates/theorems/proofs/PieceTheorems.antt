-- The pieces of a word's ending: at most three, of a known kind each, end to end from the word's end to the kept text's, together what
-- was removed, and never more than their buffers hold. Assumes nothing.
use Prim.Native.Nat.{ℕ, ◌+◌, ◌-◌, ◌≤◌, ◌<◌}
use mathlib.Core.Path.{◌≡◌, sym, ap, ◌∙◌}
use mathlib.Core.Bool.{true}
use mathlib.Core.List.Memᴰ
use mathlib.Core.List.Permᴰ
use mathlib.Core.List.{List, ◌++◌, Memᴰ, Permᴰ}
use native.Mathlib.Omega.{arith}
use lib.ListN.{length, length-append, length-map}
use lib.Seq.{take-length}
use Rattle.turkish.specs.Pieces.{Kept, kept_marks}
use Rattle.theorems.specs.Simple.Pieces.{total, stage_marks}
use Rattle.turkish.specs.Calls.{chars, accepted, stage_text}
use Rattle.turkish.specs.PieceCalls.{Span, span_of, spans_of, most_pieces, pieces_room, buffer_of, text_room, text_of}
use Rattle.theorems.specs.PieceTerms.{EndToEnd, between, covering, spelled, most_bytes}
use Rattle.theorems.proofs.Laws.Members.{mem-perm}
use Rattle.theorems.proofs.Laws.Joints.{stage_marks-joined_as}
use Rattle.theorems.proofs.Laws.FirstLetters.{ToldByLetter, located-told}
use Rattle.theorems.proofs.Laws.Traces.{removed-total}
use Rattle.theorems.proofs.Laws.Leaves.{stage-within}
use Rattle.theorems.proofs.Laws.PieceCounts.{stage_marks-most, stage_marks-numbered, Placed, length-located, located-placed}
use Rattle.theorems.proofs.Laws.RemovedBytes.{stage_text-most}
use Rattle.theorems.proofs.Laws.Offsets.{offset-whole, offset-kept}
use Rattle.theorems.proofs.Laws.EndToEnd.{located-end_to_end, end_to_end-within, end_to_end-spelled}
use Rattle.theorems.proofs.Laws.Covering.{end_to_end-covering, covering-perm}
use Rattle.theorems.proofs.Laws.PieceForms.{buffer-below, length-perm, length-buffer_of, text_of-perm, text_of-most}
use Rattle.theorems.proofs.Sizes.{stage_text-front}
use Rattle.theorems.proofs.Source.KeptStage.{kept_marks-simple}

-- all that the stage's marks took is in the word
pub stage_marks-within : (cs : List ℕ) → total (stage_marks cs) ≤ length cs
stage_marks-within cs = rw (removed-total cs) at (stage-within cs)

-- ---- the marks ----

-- a word has at most three pieces
pub at-most-three-pieces : (w : List ℕ) → length (spans_of w) ≤ most_pieces
unfolding spans_of
at-most-three-pieces w =
    let cs = chars w in
    omega (arith, length-map (kept_marks cs) (span_of w), ap length (kept_marks-simple cs), length-located (length cs) (stage_marks cs), stage_marks-most cs)

-- each mark kept has a kind from 1 to 12, and stands in the word between two places of which the second is the nearer to the start
pub marks-placed : (cs : List ℕ) (k : Kept) → Memᴰ k (kept_marks cs) → Placed (length cs) k
marks-placed cs k i = located-placed (length cs) (stage_marks cs) (stage_marks-numbered cs) (stage_marks-within cs) k (rw (kept_marks-simple cs) at i)

-- so each piece has a kind from 1 to 12
pub kinds-1-to-12 : (w : List ℕ) (p : Span) → Memᴰ p (spans_of w) → (0 < p.kind) × (p.kind ≤ 12)
unfolding spans_of span_of
kinds-1-to-12 w p i =
    let k = Memᴰ.of_map (span_of w) (kept_marks (chars w)) i in
    let s = marks-placed (chars w) k.0 k.1 in
    let e : k.0.kind ≡ p.kind = ap (λ (q : Span). q.kind) k.2 in
    (omega arith, omega arith)

-- ---- their places ----

-- the pieces lie end to end, the first at the word's end and the last at the kept text's
pub end_to_end : (w : List ℕ) → accepted w ≡ true → EndToEnd (length w) (spans_of w) (length (stage_text w))
unfolding spans_of
end_to_end w a =
    let cs = chars w in
    rw (kept_marks-simple cs, ← offset-whole w a, ← offset-kept w, removed-total cs)
    (located-end_to_end w (length cs) (stage_marks cs) (stage_marks-numbered cs) (stage_marks-within cs) (omega arith))

-- together they are exactly what was removed
pub together-removed : (w : List ℕ) → accepted w ≡ true → stage_text w ++ spelled w (spans_of w) ≡ w
together-removed w a =
    ap (λ (t : List ℕ). t ++ spelled w (spans_of w)) (stage_text-front w a) ∙ end_to_end-spelled w (end_to_end w a) ∙ take-length w

-- so in every order each byte that was removed is in one piece, and no other byte in any
pub covered-once : (w : List ℕ) {ps : List Span} → accepted w ≡ true → Permᴰ (spans_of w) ps → (i : ℕ)
    → covering i ps ≡ between (length (stage_text w)) (length w) i
covered-once w a r i = sym (covering-perm i r) ∙ end_to_end-covering i (end_to_end w a)

-- so each piece has a byte, and lies within 20 bytes of the kept text's end
pub pieces-within : (w : List ℕ) (p : Span) → accepted w ≡ true → Memᴰ p (spans_of w)
    → (length (stage_text w) ≤ p.first) × (p.first ≤ p.last) × (p.last < length (stage_text w) + most_bytes)
pieces-within w p a i = let r = end_to_end-within (end_to_end w a) i in (r.0, r.1, omega (arith, stage_text-most w a))

-- how it joined is told by its kind and its first letter
pub joined-told : (w : List ℕ) (p : Span) → accepted w ≡ true → Memᴰ p (spans_of w) → ToldByLetter w p
unfolding spans_of
joined-told w p a i =
    let cs = chars w in
    let all : length cs ≡ length cs - 0 = omega arith in
    let marks = stage_marks cs in
    located-told w a 0 marks (stage_marks-numbered cs) (stage_marks-joined_as cs) (omega (arith, stage_marks-within cs)) p
    (rw (kept_marks-simple cs, all) at i)

-- and in the word
pub pieces-inside : (w : List ℕ) (p : Span) → accepted w ≡ true → Memᴰ p (spans_of w) → p.last < length w
pieces-inside w p a i = (end_to_end-within (end_to_end w a) i).2

-- ---- their forms ----

-- the letters of all pieces have at most 20 bytes
pub spelled-most : (w : List ℕ) → accepted w ≡ true → length (spelled w (spans_of w)) ≤ most_bytes
spelled-most w a =
    omega (arith, ap length (together-removed w a), length-append (stage_text w) (spelled w (spans_of w)), stage_text-most w a)

-- in every order the pieces fill no more of the buffer than there is
pub buffer-fits : (w : List ℕ) {ps : List Span} → Permᴰ (spans_of w) ps → length (buffer_of w ps) ≤ pieces_room
unfolding pieces_room most_pieces
buffer-fits w {ps} r = omega (arith, length-buffer_of w ps, length-perm r, at-most-three-pieces w)

-- of which every entry is a byte
pub buffer-bytes : (w : List ℕ) {ps : List Span} → accepted w ≡ true → Permᴰ (spans_of w) ps → (b : ℕ) → Memᴰ b (buffer_of w ps) → b < 256
unfolding buffer_of most_bytes
buffer-bytes w {ps} a r =
    buffer-below 256 (length (stage_text w)) ps λ p i.
    let m = mem-perm (Permᴰ.symm r) i in
    let within = pieces-within w p a m in
    (omega (arith, (kinds-1-to-12 w p m).1), omega (arith, within.1, within.2), omega (arith, within.2))

-- and no more of the text's
pub text-fits : (w : List ℕ) {ps : List Span} → accepted w ≡ true → Permᴰ (spans_of w) ps → length (text_of w ps) ≤ text_room
unfolding text_room most_pieces most_bytes
text-fits w {ps} a r = omega (arith, text_of-perm w r, text_of-most w (spans_of w), at-most-three-pieces w, spelled-most w a)
