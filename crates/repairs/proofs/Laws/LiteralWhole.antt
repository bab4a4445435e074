-- A word's first bytes are exactly an ASCII literal where the characters before their end are exactly it, from its end. A byte at a
-- time, from the literal's end. Assumes nothing.
use Prim.Native.Nat.{ℕ, zero, suc, ◌-◌, ◌≤◌, ◌<◌}
use mathlib.Core.Path.{◌≡◌, refl, sym, ap, ◌∙◌}
use mathlib.Core.Bool.{Bool, true, false, ◌&&◌, and-true}
use mathlib.Core.List.{List, [], ◌∷◌, reverse_aux, reverse, reverse-reverse}
use native.Mathlib.Omega.{arith}
use lib.ListN.{length, take, get_or, length-reverse}
use lib.Seq.{length-take-le}
use Rattle.std.specs.Cmp.Lexicographic.{pointwise, unequal}
use lib.Dec.{ltb, eqb, eqb-suc-suc}
use borrow.Author.Tests.{ltb-true, eqb-true, eqb-false, ne_eqb}
use Rattle.utf8.specs.Characters.{last_width_of, last_char, before}
use Rattle.utf8.specs.Steps.{same, stands_at_of}
use Rattle.encoding.proofs.Laws.Booleans.{and_left, and_right, and-false}
use Rattle.utf8.proofs.Laws.Steps.{stands_at_of-cons, pointwise-same}
use Rattle.utf8.proofs.Laws.Characters.{before-zero, before-step}
use Rattle.keys.proofs.Laws.Literal.{ascii, ascii-reverse_aux, last_width_of-byte, last_char-byte, last_width_of-char}

-- ---- one character ----

module _ (w : List ℕ) (c : ℕ) (l : c < length w) where
  -- a test of it against an ASCII one, and then of the place before it, is a test of the byte at c
  last_char-eqb-byte : (b : ℕ) (f : ℕ → Bool) → b < 0x80
      → (eqb (last_char w (suc c)) b && f (suc c - last_width_of w (suc c))) ≡ (eqb (get_or w c 0) b && f c)
  last_char-eqb-byte b f h = go (eqb (get_or w c 0) b) refl
    where
      go : (t : Bool) → eqb (get_or w c 0) b ≡ t → (eqb (last_char w (suc c)) b && f (suc c - last_width_of w (suc c))) ≡ (t && f c)
      go true e =
          let k : get_or w c 0 ≡ b = eqb-true (get_or w c 0) b e in
          let o : last_width_of w (suc c) ≡ 1 = last_width_of-byte w c l (omega arith) in
          let i : suc c - 1 ≡ c = omega arith in
          rw (o, i, last_char-byte w c l o, e)
      go false e =
          rw (ne_eqb (last_char w (suc c)) b (λ k. eqb-false (get_or w c 0) b e (sym (last_char-byte w c l (last_width_of-char w c l (omega arith))) ∙ k)))

-- ---- the literal ----

-- the first of three tests may be made second
and-swap : (x y z : Bool) → (x && y && z) ≡ (y && (x && z))
and-swap true y z = refl
and-swap false y z = sym (and-false y)

-- a literal of the ASCII bytes r, from their end, and then the bytes s stands at the word's start with s at place c exactly where the
-- characters before c are exactly r and s stands at c
same-stands_at_of-around : (w r s : List ℕ) (c : ℕ) → ascii r ≡ true → c ≤ length w
    → (same (before w c) r && stands_at_of w c s) ≡ (eqb c (length r) && stands_at_of w 0 (reverse_aux r s))
unfolding same ascii
same-stands_at_of-around w [] s zero a l = rw (before-zero w)
same-stands_at_of-around w [] s (suc c) a l = rw (before-step w (suc c) (omega arith), ne_eqb (suc c) 0 (λ e. omega arith))
same-stands_at_of-around w (b ∷ r) s zero a l = rw (before-zero w, ne_eqb 0 (suc (length r)) (λ e. omega arith))
same-stands_at_of-around w (b ∷ r) s (suc c) a l =
    let h : b < 0x80 = ltb-true b 0x80 (and_left (ltb b 0x80) (ascii r) a) in
    rw (
      eqb-suc-suc c (length r),
      ← same-stands_at_of-around w r (b ∷ s) c (and_right (ltb b 0x80) (ascii r) a) (omega arith),
      stands_at_of-cons w c b s (omega arith),
      before-step w (suc c) (omega arith),
      last_char-eqb-byte w c (omega arith) b (λ i. same (before w i) r) h,
    ) (and-swap (eqb (get_or w c 0) b) (same (before w c) r) (stands_at_of w (suc c) s))

-- the first n bytes are exactly an ASCII literal where the characters before place n are exactly the literal's, from its end
pub same-stands_at_of : (w s : List ℕ) (n : ℕ) → ascii s ≡ true → n ≤ length w → same (before w n) (reverse s) ≡ (eqb n (length s) && stands_at_of w 0 s)
unfolding ascii stands_at_of same
same-stands_at_of w s n a l =
    let around = same-stands_at_of-around w (reverse s) [] n (ascii-reverse_aux s [] a refl) l in
    cc (length-reverse s, reverse-reverse s, around, and-true (same (before w n) (reverse s)))

-- so it comes to a comparison of the first n bytes with the literal
pub front-is : (w s : List ℕ) (n : ℕ) → ascii s ≡ true → n ≤ length w → pointwise eqb (take n w) s ≡ same (before w n) (reverse s)
unfolding stands_at_of
front-is w s n a l = go (eqb n (length s)) refl
  where
    go : (t : Bool) → eqb n (length s) ≡ t → pointwise eqb (take n w) s ≡ same (before w n) (reverse s)
    go true e =
        pointwise-same (take n w) s ∙ ap (λ (m : ℕ). same (take m w) s) (eqb-true n (length s) e) ∙ sym (same-stands_at_of w s n a l ∙ rw e)
    go false e =
        unequal eqb (take n w) s (λ h. eqb-false n (length s) e (sym (length-take-le n w l) ∙ h)) ∙ sym (same-stands_at_of w s n a l ∙ rw e)
