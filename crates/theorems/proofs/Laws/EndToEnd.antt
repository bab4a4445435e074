-- Pieces that lie end to end: what their marks took lies so, each lies within the two ends, and together they spell what stands between
-- these. Assumes nothing.
use Prim.Native.Nat.{ℕ, ◌+◌, ◌-◌, ◌≤◌, ◌<◌}
use mathlib.Core.Path.{◌≡◌, refl, sym, ap, ◌∙◌}
use mathlib.Core.List.{List, [], ◌∷◌, ◌++◌, map, append-nil, append_assoc, Memᴰ}
use native.Mathlib.Omega.{arith}
use lib.ListN.{length, take, drop}
use lib.Seq.{take-add}
use Rattle.theorems.specs.Simple.Pieces.{Taken, total, kept_at, located}
use Rattle.turkish.specs.Calls.{chars, offset}
use Rattle.turkish.specs.PieceCalls.{Span, span_of, letters_of}
use Rattle.theorems.specs.PieceTerms.{EndToEnd, empty, onward, spelled}
use Rattle.theorems.proofs.Laws.PieceCounts.{Numbered, Each}
use Rattle.theorems.proofs.Laws.Offsets.{offset-mono}

-- ---- the marks that were taken ----

-- marks that took something lie end to end from the place at which the first was entered to that at which the last was left
pub located-end_to_end : (w : List ℕ) (n : ℕ) (ts : List Taken) → Each Numbered ts → total ts ≤ n → n ≤ length (chars w)
    → EndToEnd (offset w n) (map (span_of w) (located n ts)) (offset w (n - total ts))
unfolding total located span_of
located-end_to_end w n [] s h k = let e : n - 0 ≡ n = omega arith in rw e empty
located-end_to_end w n (t ∷ ts) s h k =
    let some = (s t (Memᴰ.head refl)).some in
    let grows : offset w (n - t.size) < offset w n = offset-mono w (n - t.size) n (omega arith) k in
    let left : n - (t.size + total ts) ≡ n - t.size - total ts = omega arith in
    let last : offset w n - 1 + 1 ≡ offset w n = omega arith in
    rw left
    (onward (span_of w (kept_at n t)) (omega arith) last
    (located-end_to_end w (n - t.size) ts (λ u i. s u (Memᴰ.tail i)) (omega arith) (omega arith)))

-- ---- any pieces ----

-- they lie from one end down to the other
pub end_to_end-le : {m n : ℕ} {ps : List Span} → EndToEnd n ps m → m ≤ n
end_to_end-le empty = omega arith
end_to_end-le (onward p a b r) = omega (arith, end_to_end-le r)

-- each lies between the ends, and has a byte
pub end_to_end-within : {m n : ℕ} {p : Span} {ps : List Span} → EndToEnd n ps m → Memᴰ p ps → (m ≤ p.first) × (p.first ≤ p.last) × (p.last < n)
end_to_end-within {p = p} (empty {n = n}) x5 = elim x5 [ ]
end_to_end-within (onward q a b r) (Memᴰ.head e) = rw e (end_to_end-le r, a, omega arith)
end_to_end-within (onward q a b r) (Memᴰ.tail i) = let x = end_to_end-within r i in (x.0, x.1, omega arith)

-- what stands before them and what they spell is what stands before their end
pub end_to_end-spelled : (w : List ℕ) {m n : ℕ} {ps : List Span} → EndToEnd n ps m → take m w ++ spelled w ps ≡ take n w
unfolding spelled letters_of
end_to_end-spelled w {m} empty = append-nil (take m w)
end_to_end-spelled w {m} {n} (onward p {ps} a b r) =
    let e : p.first + (p.last + 1 - p.first) ≡ n = omega arith in
    let here = take (p.last + 1 - p.first) (drop p.first w) in
    sym (append_assoc (take m w) (spelled w ps) here) ∙ ap (λ (v : List ℕ). v ++ here) (end_to_end-spelled w r)
    ∙ sym (take-add p.first (p.last + 1 - p.first) w) ∙ ap (λ (i : ℕ). take i w) e
