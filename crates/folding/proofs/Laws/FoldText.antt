-- The fold step by step is a text's fold character by character. Assumes nothing.
use Prim.Native.Nat.{ℕ, ◌+◌, ◌/◌, ◌%◌, ◌≤◌}
use mathlib.Core.Path.{◌≡◌, refl, ◌∙◌}
use mathlib.Core.Bool.{Bool, true, false}
use mathlib.Core.List.Memᴰ
use mathlib.Core.List.{List, [], ◌∷◌, ◌++◌, reverse, reverse-reverse}
use native.Mathlib.Omega.{arith}
use lib.Dec.{eqb, leb}
use borrow.Author.Tests.{leb-true, eqb-true, eqb-false}
use Rattle.encoding.specs.Encoding.{encode, encode_all}
use Rattle.encoding.specs.Text.{TextOf}
use Rattle.encoding.proofs.Laws.Booleans.{and_left, and_right, cond_cases, lt-or-le}
use Rattle.encoding.proofs.Laws.Encoding.{two as two_bytes, encode-elim, encode_one}
use Rattle.utf8.proofs.TextCharacters.{before-whole}
use Rattle.turkish.specs.Fold.{capitals01, capitals, fold_by, fold_char, fold}
use Rattle.turkish.specs.Calls.{chars, bytes, fold_text}
use Rattle.theorems.proofs.Laws.Folding.{fold_by-elim, reverse-fold}
use Rattle.folding.specs.FoldBytes.{alone, second, pair, paired, fold_bytes}
use Rattle.folding.proofs.Laws.Steps.{fold_bytes-alone, fold_bytes-pair}
use Rattle.folding.proofs.Laws.Bytes.{small-capital, small-stays, fold_bytes-ascii, fold_bytes-stays, not-paired, Other, pair-stays}

-- ---- one character ----

-- a character that the fold leaves
pub record Left (c : ℕ) : Type 0 where
  pub not-a-to-z : 0x41 ≤ c → c ≤ 0x5A → ⊥
  pub İ : c ≡ 0x130 → ⊥
  pub Ç : c ≡ 0xC7 → ⊥
  pub Ğ : c ≡ 0x11E → ⊥
  pub Ö : c ≡ 0xD6 → ⊥
  pub Ş : c ≡ 0x15E → ⊥
  pub Ü : c ≡ 0xDC → ⊥

-- what holds of each folded character, and of each one left, holds of a character's fold
fold_char-elim : (P : ℕ → Type 0) (c : ℕ)
    → (c ≡ 0x49 → P 0x131)
    → (c ≡ 0x130 → P 0x69)
    → (c ≡ 0xC7 → P 0xE7)
    → (c ≡ 0x11E → P 0x11F)
    → (c ≡ 0xD6 → P 0xF6)
    → (c ≡ 0x15E → P 0x15F)
    → (c ≡ 0xDC → P 0xFC)
    → ((c ≡ 0x49 → ⊥) → 0x41 ≤ c → c ≤ 0x5A → P (c + 0x20))
    → (Left c → P c)
    → P (fold_char c)
unfolding fold_char fold_by capitals capitals01
fold_char-elim P c ı i ç ğ ö ş ü capital left =
    cond_cases P (eqb c 0x49) (λ e. ı (eqb-true c 0x49 e)) λ n.
    cond_cases P (eqb c 0x130) (λ e. i (eqb-true c 0x130 e)) λ n₀.
    cond_cases P (eqb c 0xC7) (λ e. ç (eqb-true c 0xC7 e)) λ n₁.
    cond_cases P (eqb c 0x11E) (λ e. ğ (eqb-true c 0x11E e)) λ n₂.
    cond_cases P (eqb c 0xD6) (λ e. ö (eqb-true c 0xD6 e)) λ n₃.
    cond_cases P (eqb c 0x15E) (λ e. ş (eqb-true c 0x15E e)) λ n₄.
    cond_cases P (eqb c 0xDC) (λ e. ü (eqb-true c 0xDC e)) λ n₅.
    fold_by-elim P [] c (λ l m e. absurd (Memᴰ.not-nil m)) (λ o. capital (eqb-false c 0x49 n))
    (λ o s. left
    (record {
      not-a-to-z = s;
      İ = eqb-false c 0x130 n₀;
      Ç = eqb-false c 0xC7 n₁;
      Ğ = eqb-false c 0x11E n₂;
      Ö = eqb-false c 0xD6 n₃;
      Ş = eqb-false c 0x15E n₄;
      Ü = eqb-false c 0xDC n₅;
    }))

-- a character whose two bytes are those of no letter that folds
left_other : (c : ℕ) → Left c → paired (0xC0 + c / 0x40) ≡ true → Other (0xC0 + c / 0x40) (0x80 + c % 0x40)
unfolding paired
left_other c l p =
    let low : 0xC3 ≤ 0xC0 + c / 0x40 = leb-true 0xC3 _ (and_left _ _ p) in
    let high : 0xC0 + c / 0x40 ≤ 0xC5 = leb-true _ 0xC5 (and_right (leb 0xC3 (0xC0 + c / 0x40)) _ p) in
    record {
      dotted = λ x y. l.İ (omega arith);
      after-C3 = λ x. (λ y. l.Ç (omega arith), λ y. l.Ö (omega arith), λ y. l.Ü (omega arith));
      after-others = λ x y. lt-or-le c 0x140 (λ h. l.Ğ (omega arith)) (λ h. l.Ş (omega arith));
    }

-- a further byte begins none
further-stays : (n : ℕ) (bs : List ℕ) → fold_bytes ((0x80 + n % 0x40) ∷ bs) ≡ (0x80 + n % 0x40) ∷ fold_bytes bs
further-stays n bs = fold_bytes-stays (0x80 + n % 0x40) bs (omega arith) (not-paired (0x80 + n % 0x40) (λ x y. omega arith))

-- nor does the first of three or four
first-stays : (b : ℕ) → 0xE0 ≤ b → (bs : List ℕ) → fold_bytes (b ∷ bs) ≡ b ∷ fold_bytes bs
first-stays b h bs = fold_bytes-stays b bs (omega arith) (not-paired b (λ x y. omega arith))

-- what follows a character
module _ (rest : List ℕ) where
  -- a character left that has two bytes
  two-stay : (c : ℕ) → Left c → 0x80 ≤ c → fold_bytes (two_bytes c ++ rest) ≡ two_bytes c ++ fold_bytes rest
  two-stay c l h = go (paired (0xC0 + c / 0x40)) refl
    where
      go : (t : Bool) → paired (0xC0 + c / 0x40) ≡ t → fold_bytes (two_bytes c ++ rest) ≡ two_bytes c ++ fold_bytes rest
      go true e =
          let stay = pair-stays (0xC0 + c / 0x40) (0x80 + c % 0x40) (left_other c l e) in
          fold_bytes-pair (0xC0 + c / 0x40) (0x80 + c % 0x40) rest e ∙ rw stay
      go false e = rw (fold_bytes-stays (0xC0 + c / 0x40) ((0x80 + c % 0x40) ∷ rest) (omega arith) e, further-stays c rest)

  -- one that has any number of bytes
  left-stays : (c : ℕ) → Left c → fold_bytes (encode c ++ rest) ≡ encode c ++ fold_bytes rest
  left-stays c l =
      encode-elim (λ bs. fold_bytes (bs ++ rest) ≡ bs ++ fold_bytes rest) c
      (λ h. fold_bytes-ascii c rest h (λ e. l.not-a-to-z (omega arith) (omega arith)) ∙ rw (small-stays c l.not-a-to-z))
      (λ h k. two-stay c l h)
      (λ h k. simp (first-stays (0xE0 + c / 0x1000) (omega arith), further-stays))
      (λ h. simp (first-stays (0xF0 + c / 0x40000) (omega arith), further-stays))

  -- a capital of A to Z
  capital-folds : (c : ℕ) → (c ≡ 0x49 → ⊥) → 0x41 ≤ c → c ≤ 0x5A → fold_bytes (encode c ++ rest) ≡ encode (c + 0x20) ++ fold_bytes rest
  capital-folds c n h k =
      rw (encode_one c (omega arith), encode_one (c + 0x20) (omega arith)) (fold_bytes-ascii c rest (omega arith) n ∙ rw (small-capital c h k))

  -- any character
  fold-char : (c : ℕ) → fold_bytes (encode c ++ rest) ≡ encode (fold_char c) ++ fold_bytes rest
  unfolding encode fold_bytes alone second pair paired
  fold-char c =
      fold_char-elim (λ d. fold_bytes (encode c ++ rest) ≡ encode d ++ fold_bytes rest) c
      (λ e. rw e (fold_bytes-alone 0x49 rest refl))
      (λ e. rw e)
      (λ e. rw e)
      (λ e. rw e)
      (λ e. rw e)
      (λ e. rw e)
      (λ e. rw e)
      (capital-folds c)
      (left-stays c)

-- ---- a text ----

-- the bytes of some characters
fold-chars : (cs : List ℕ) → fold_bytes (encode_all cs) ≡ encode_all (fold cs)
unfolding encode_all fold_bytes fold
fold-chars [] = refl
fold-chars (c ∷ cs) = fold-char (encode_all cs) c ∙ rw (fold-chars cs)

-- of a text, the fold step by step is its fold
pub fold_bytes-text : (w : List ℕ) → TextOf w → fold_bytes w ≡ fold_text w
unfolding fold_text bytes chars
fold_bytes-text w t =
    let all : fold_bytes (encode_all t.chars) ≡ encode_all (fold t.chars) = fold-chars t.chars in
    rw (before-whole w t, reverse-fold (reverse t.chars), reverse-reverse) (rw t.encoded at all)
