-- Pieces that lie end to end have each byte between their two ends once, and no other; in every order. Assumes nothing.
use Prim.Native.Nat.{ℕ, ◌+◌, ◌≤◌, ◌<◌}
use mathlib.Core.Path.{◌≡◌, refl, sym, ap, ◌∙◌}
use mathlib.Core.Bool.{Bool, true, false}
use mathlib.Core.List.{List, [], ◌∷◌, Permᴰ}
use native.Mathlib.Omega.{arith}
use lib.Dec.{ltb, leb}
use borrow.Author.Tests.{ltb-true, ltb-false, lt-ltb, le-ltb, le-leb, lt-leb}
use Rattle.encoding.proofs.Laws.Booleans.{and-false}
use Rattle.turkish.specs.PieceCalls.{Span}
use Rattle.theorems.specs.PieceTerms.{EndToEnd, empty, onward, between, covering}
use Rattle.theorems.proofs.Laws.PieceForms.{sum, sum-perm}
use Rattle.theorems.proofs.Laws.EndToEnd.{end_to_end-le}

-- none where it is less than m
between-low : (m n i : ℕ) → i < m → between m n i ≡ 0
unfolding between
between-low m n i h = rw (lt-leb m i h)

-- none where it is n or more
between-high : (m n i : ℕ) → n ≤ i → between m n i ≡ 0
unfolding between
between-high m n i h = rw (le-ltb i n h, and-false (leb m i))

-- one where it is neither
between_in : (m n i : ℕ) → m ≤ i → i < n → between m n i ≡ 1
unfolding between
between_in m n i h l = rw (le-leb m i h, lt-ltb i n l)

-- so none lies from a number up to itself
between_none : (n i : ℕ) → between n n i ≡ 0
between_none n i = go (ltb i n) refl
  where
    go : (b : Bool) → ltb i n ≡ b → between n n i ≡ 0
    go true e = between-low n n i (ltb-true i n e)
    go false e = between-high n n i (ltb-false i n e)

-- what lies from m up to n lies from m up to k or from k up to n
between_split : (m k n i : ℕ) → m ≤ k → k ≤ n → between k n i + between m k i ≡ between m n i
between_split m k n i h l = below (ltb i m) refl
  where
    above : (b : Bool) → ltb i n ≡ b → k ≤ i → between k n i + between m k i ≡ between m n i
    above true e g = let u = ltb-true i n e in omega (arith, between_in k n i g u, between-high m k i g, between_in m n i (omega arith) u)
    above false e g = let u = ltb-false i n e in omega (arith, between-high k n i u, between-high m k i g, between-high m n i u)

    middle : (b : Bool) → ltb i k ≡ b → m ≤ i → between k n i + between m k i ≡ between m n i
    middle true e g = let u = ltb-true i k e in omega (arith, between-low k n i u, between_in m k i g u, between_in m n i g (omega arith))
    middle false e g = above (ltb i n) refl (ltb-false i k e)

    below : (b : Bool) → ltb i m ≡ b → between k n i + between m k i ≡ between m n i
    below true e = let u = ltb-true i m e in omega (arith, between-low k n i (omega arith), between-low m k i u, between-low m n i u)
    below false e = middle (ltb i k) refl (ltb-false i m e)

-- the pieces that have a byte, piece by piece
covering-sum : (i : ℕ) (ps : List Span) → covering i ps ≡ sum (λ p. between p.first (p.last + 1) i) ps
unfolding covering sum
covering-sum i [] = refl
covering-sum i (p ∷ ps) = rw (covering-sum i ps)

-- pieces end to end have each byte between their ends once
pub end_to_end-covering : (i : ℕ) {m n : ℕ} {ps : List Span} → EndToEnd n ps m → covering i ps ≡ between m n i
unfolding covering
end_to_end-covering i {m} empty = sym (between_none m i)
end_to_end-covering i {m} {n} (onward p {ps} a b r) =
    ap (λ (k : ℕ). between p.first (p.last + 1) i + k) (end_to_end-covering i r)
    ∙ between_split m p.first (p.last + 1) i (end_to_end-le r) (omega arith) ∙ ap (λ (k : ℕ). between m k i) b

-- in every order
pub covering-perm : (i : ℕ) {ps qs : List Span} → Permᴰ ps qs → covering i ps ≡ covering i qs
covering-perm i {ps} {qs} r = covering-sum i ps ∙ sum-perm (λ p. between p.first (p.last + 1) i) r ∙ sym (covering-sum i qs)
