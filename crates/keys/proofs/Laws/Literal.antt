-- An ASCII literal stands before a place in bytes exactly where the characters before that place begin with it, from its end: a byte
-- below 0x80 is a character by itself, and no character of several bytes is below 0x80. Assumes nothing.
use Prim.Native.Nat.{ℕ, zero, suc, ◌-◌, ◌≤◌, ◌<◌}
use mathlib.Core.Path.{◌≡◌, refl, sym, ap, ◌∙◌}
use mathlib.Core.Bool.{Bool, true, false, ◌&&◌, and-true}
use mathlib.Core.List.{List, [], ◌∷◌, reverse_aux, reverse, reverse-reverse}
use native.Mathlib.Omega.{arith}
use lib.ListN.{length, take, drop, get_or, length-take, length-drop, length-reverse}
use lib.Dec.{leb, ltb, eqb, leb-zero, leb-suc-zero, leb-suc-suc}
use borrow.Author.Tests.{ltb-true, ltb-false, lt-leb, eqb-true, eqb-false, eq-eqb, ne_eqb}
use Rattle.encoding.specs.Encoding.{decode, continuation}
use Rattle.utf8.specs.Characters.{goes_on_of, last_width_of, last_char, char_at, before}
use Rattle.utf8.specs.Steps.{same, stands_at_of}
use Rattle.encoding.proofs.Laws.Booleans.{and_left, and_right, and-false}
use Rattle.utf8.proofs.Laws.Widths.{width_one}
use Rattle.utf8.proofs.Laws.CharAt.{char_at-one}
use Rattle.utf8.proofs.Laws.Steps.{stands_at_of-cons}
use Rattle.utf8.proofs.Laws.Characters.{last_width_of-pos, last_width_of-le, before-zero, before-step}
use Rattle.turkish.specs.Letters.{starts}

-- every byte is below 0x80
unfoldable pub ascii : List ℕ → Bool
ascii [] = true
ascii (b ∷ s) = ltb b 0x80 && ascii s

-- ---- one character ----

-- several bytes decode to nothing below 0x80
decode-several : (s : List ℕ) → 1 < length s → 0x80 ≤ decode s
unfolding decode
decode-several [] h = absurd (omega arith)
decode-several (a ∷ []) h = absurd (omega arith)
decode-several (a ∷ b ∷ []) h = omega arith
decode-several (a ∷ b ∷ c ∷ []) h = omega arith
decode-several (a ∷ b ∷ c ∷ d ∷ s) h = omega arith

-- the character that ends past place c, in a word that has a byte there
module _ (w : List ℕ) (c : ℕ) (l : c < length w) where
  -- a byte below 0x80 is a character by itself
  pub last_width_of-byte : get_or w c 0 < 0x80 → last_width_of w (suc c) ≡ 1
  unfolding last_width_of goes_on_of continuation
  last_width_of-byte h =
      let e : suc c - 1 ≡ c = omega arith in
      width_one _ _ _ (rw (e, lt-leb 0x80 (get_or w c 0) h) (and-false (ltb 1 (suc c))))

  -- a character of one byte is that byte
  pub last_char-byte : last_width_of w (suc c) ≡ 1 → last_char w (suc c) ≡ get_or w c 0
  unfolding last_char decode
  last_char-byte e =
      let i : suc c - last_width_of w (suc c) ≡ c = omega arith in
      char_at-one w (suc c - last_width_of w (suc c)) (last_width_of w (suc c)) e (omega arith) ∙ ap (λ (j : ℕ). get_or w j 0) i

  -- a character of several bytes is not below 0x80
  last_char-several : 1 < last_width_of w (suc c) → 0x80 ≤ last_char w (suc c)
  unfolding last_char char_at
  last_char-several h =
      let n : ℕ = last_width_of w (suc c) in
      let s : List ℕ = drop (suc c - n) w in
      decode-several (take n s) (omega (arith, length-take n s, length-drop (suc c - n) w, last_width_of-le w (suc c) (omega arith)))

  -- a character below 0x80 has one byte
  pub last_width_of-char : last_char w (suc c) < 0x80 → last_width_of w (suc c) ≡ 1
  last_width_of-char h = go (ltb 1 (last_width_of w (suc c))) refl
    where
      go : (t : Bool) → ltb 1 (last_width_of w (suc c)) ≡ t → last_width_of w (suc c) ≡ 1
      go true e = absurd (omega (arith, last_char-several (ltb-true 1 (last_width_of w (suc c)) e)))
      go false e = omega (arith, ltb-false, last_width_of-pos w (suc c))

  module _ (b : ℕ) (r : List ℕ) (h : b < 0x80) where
    -- where the byte at place c is an ASCII text's first, the rest of the text is sought before it
    starts-byte : get_or w c 0 ≡ b → starts (b ∷ r) (before w (suc c)) ≡ starts r (before w c)
    unfolding starts
    starts-byte e =
        let o : last_width_of w (suc c) ≡ 1 = last_width_of-byte (omega arith) in
        let i : suc c - 1 ≡ c = omega arith in
        rw (before-step w (suc c) (omega arith), eq-eqb b (last_char w (suc c)) (cc (last_char-byte o)), o, i)

    -- where it is not, the characters do not begin with the text
    starts-differs : (get_or w c 0 ≡ b → ⊥) → starts (b ∷ r) (before w (suc c)) ≡ false
    unfolding starts
    starts-differs d =
        rw (before-step w (suc c) (omega arith), ne_eqb b (last_char w (suc c)) (λ e. d (sym (last_char-byte (last_width_of-char (omega arith))) ∙ sym e)))

-- ---- the literal ----

-- an ASCII byte at place c is asked for alike as the first of the bytes that stand at c and as the nearest character before c + 1
literal-byte : (w r s : List ℕ) (c b : ℕ) → c < length w → b < 0x80
    → starts r (before w c) && stands_at_of w c (b ∷ s) ≡ starts (b ∷ r) (before w (suc c)) && stands_at_of w (suc c) s
literal-byte w r s c b l h =
    rw (stands_at_of-cons w c b s l)
    ((elim (eqb (get_or w c 0) b) as
    (λ t. eqb (get_or w c 0) b ≡ t → starts r (before w c) && (t && stands_at_of w (suc c) s) ≡ starts (b ∷ r) (before w (suc c)) && stands_at_of w (suc c) s) [
      | true ↦ λ e. rw (starts-byte w c l b r h (eqb-true (get_or w c 0) b e))
      | false ↦ λ e. rw (starts-differs w c l b r h (eqb-false (get_or w c 0) b e)) (and-false (starts r (before w c)))
    ])
    refl)

-- a literal of the ASCII bytes r, from their end, and then the bytes s has s at place c exactly where the characters before c begin
-- with r and s stands at c
literal-around : (w r s : List ℕ) (c : ℕ) → ascii r ≡ true → c ≤ length w
    → leb (length r) c && stands_at_of w (c - length r) (reverse_aux r s) ≡ starts r (before w c) && stands_at_of w c s
unfolding starts ascii
literal-around w [] s c a l = let e : c - 0 ≡ c = omega arith in rw (leb-zero c, e)
literal-around w (b ∷ r) s zero a l = rw (before-zero w, leb-suc-zero (length r))
literal-around w (b ∷ r) s (suc c) a l =
    let e : suc c - suc (length r) ≡ c - length r = omega arith in
    rw (leb-suc-suc (length r) c, e)
    (literal-around w r (b ∷ s) c (and_right (ltb b 0x80) (ascii r) a) (omega arith)
    ∙ literal-byte w r s c b (omega arith) (ltb-true b 0x80 (and_left (ltb b 0x80) (ascii r) a)))

-- bytes reversed are ASCII where they are
pub ascii-reverse_aux : (s r : List ℕ) → ascii s ≡ true → ascii r ≡ true → ascii (reverse_aux s r) ≡ true
unfolding ascii
ascii-reverse_aux [] r a q = q
ascii-reverse_aux (b ∷ s) r a q = ascii-reverse_aux s (b ∷ r) (and_right (ltb b 0x80) (ascii s) a) (rw (and_left (ltb b 0x80) (ascii s) a) q)

-- an ASCII literal ends at place c exactly where the characters before it begin with the literal from its end
pub literal-chars : (w s : List ℕ) (c : ℕ) → ascii s ≡ true → c ≤ length w
    → leb (length s) c && stands_at_of w (c - length s) s ≡ starts (reverse s) (before w c)
unfolding ascii stands_at_of same
literal-chars w s c a l =
    cc (length-reverse s, reverse-reverse s, literal-around w (reverse s) [] c (ascii-reverse_aux s [] a refl) l, and-true (starts (reverse s) (before w c)))
