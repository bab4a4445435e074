-- The check on a character's bytes, whatever follows them: it goes on where the character is a scalar value, else it refuses.
-- Assumes nothing.
use Prim.Native.Nat.{ℕ, suc, ◌+◌, ◌/◌, ◌%◌, ◌≤◌, ◌<◌}
use mathlib.Core.Path.{◌≡◌, refl, ap, ◌∙◌}
use mathlib.Core.Bool.{false, ◌&&◌}
use mathlib.Core.List.{List, ◌∷◌, ◌++◌}
use native.Mathlib.Omega.{arith}
use lib.Dec.{leb}
use borrow.Author.Tests.{le-leb, lt-leb}
use Rattle.encoding.specs.Scalar.{scalar}
use Rattle.encoding.specs.Encoding.{encode}
use Rattle.encoding.specs.Validity.{table37, due, accepts, is_text}
use Rattle.encoding.proofs.Laws.Scalar.{is-scalar, is-surrogate, surrogate-not-scalar, above-not-scalar}
use Rattle.encoding.proofs.Laws.Encoding.{two, three, four, encode-elim}
use Rattle.encoding.proofs.Laws.Booleans.{lt-or-le}
use Rattle.encoding.proofs.Laws.Table37.{row_at, InRow}
use Rattle.encoding.proofs.Laws.Validity.{is_text-row, is_text-above, accepts-due, accepts-six}

-- with the first byte in row k, the row tests the second, and n more are due
is_text-second : (k n b b₁ : ℕ) (bs : List ℕ) → InRow k b → (row_at k).more ≡ suc n → is_text (b ∷ b₁ ∷ bs) ≡ leb (row_at k).low b₁ && leb b₁ (row_at k).high && accepts (due n 0x80 0xBF) bs
is_text-second k n b b₁ bs r e =
    is_text-row k b (b₁ ∷ bs) r ∙ ap (λ (m : ℕ). accepts (due m (row_at k).low (row_at k).high) (b₁ ∷ bs)) e
    ∙ accepts-due n (row_at k).low (row_at k).high b₁ bs

module _ (c : ℕ) (rest : List ℕ) where
  -- a scalar value whose second byte is in the row's range
  goes_on : (k n b b₁ : ℕ) (bs : List ℕ)
      → accepts (due n 0x80 0xBF) bs ≡ is_text rest
      → InRow k b × ((row_at k).more ≡ suc n) × ((row_at k).low ≤ b₁) × (b₁ ≤ (row_at k).high) × (c ≤ 0x10FFFF) × (0xD800 ≤ c → 0xDFFF < c)
      → is_text (b ∷ b₁ ∷ bs) ≡ scalar c && is_text rest
  goes_on k n b b₁ bs e f = is_text-second k n b b₁ bs f.0 f.1 ∙ rw (is-scalar c f.4 f.5, le-leb (row_at k).low b₁ f.2, le-leb b₁ (row_at k).high f.3) e

  -- no scalar value, its second byte above that range
  refuses : (k n b b₁ : ℕ) (bs : List ℕ)
      → InRow k b × ((row_at k).more ≡ suc n) × ((row_at k).low ≤ b₁) × ((row_at k).high < b₁)
      → scalar c ≡ false
      → is_text (b ∷ b₁ ∷ bs) ≡ scalar c && is_text rest
  refuses k n b b₁ bs f s = is_text-second k n b b₁ bs f.0 f.1 ∙ rw (s, le-leb (row_at k).low b₁ f.2, lt-leb b₁ (row_at k).high f.3)

  -- the last byte is taken
  last_one : accepts (due 1 0x80 0xBF) ((0x80 + c % 0x40) ∷ rest) ≡ is_text rest
  unfolding is_text
  last_one = accepts-six 0 c rest

  -- the last two bytes are taken
  last-two : accepts (due 2 0x80 0xBF) ((0x80 + c / 0x40 % 0x40) ∷ (0x80 + c % 0x40) ∷ rest) ≡ is_text rest
  last-two = accepts-six 1 (c / 0x40) _ ∙ last_one

  -- one byte
  is_text-one : c < 0x80 → is_text (c ∷ rest) ≡ scalar c && is_text rest
  unfolding table37 is_text
  is_text-one h = rw (is-scalar c (omega arith) (omega arith)) (is_text-row 0 c rest (omega arith))

  -- two bytes
  is_text-two : 0x80 ≤ c → c < 0x800 → is_text (two c ++ rest) ≡ scalar c && is_text rest
  unfolding table37 is_text
  is_text-two l h = goes_on 1 0 _ _ rest refl (omega arith)

  -- three bytes, by the rows from 0xE0 to 0xEF; the surrogates fall out of one of them
  is_text-three : 0x800 ≤ c → c < 0x10000 → is_text (three c ++ rest) ≡ scalar c && is_text rest
  unfolding table37
  is_text-three l h =
      lt-or-le c 0x1000 (λ h₁. goes_on 2 1 _ _ _ last_one (omega arith)) λ l₁.
      lt-or-le c 0xD000 (λ h₂. goes_on 3 1 _ _ _ last_one (omega arith)) λ l₂.
      lt-or-le c 0xD800 (λ h₃. goes_on 4 1 _ _ _ last_one (omega arith)) λ l₃.
      lt-or-le c 0xE000 (λ h₄. refuses 4 1 _ _ _ (omega arith) (surrogate-not-scalar c (is-surrogate c l₃ (omega arith)))) λ l₄.
      goes_on 5 1 _ _ _ last_one (omega arith)

  -- four bytes, by the rows from 0xF0 to 0xF4 and past them
  is_text-four : 0x10000 ≤ c → is_text (four c ++ rest) ≡ scalar c && is_text rest
  unfolding table37
  is_text-four l =
      lt-or-le c 0x40000 (λ h₁. goes_on 6 2 _ _ _ last-two (omega arith)) λ l₁.
      lt-or-le c 0x100000 (λ h₂. goes_on 7 2 _ _ _ last-two (omega arith)) λ l₂.
      lt-or-le c 0x110000 (λ h₃. goes_on 8 2 _ _ _ last-two (omega arith)) λ l₃.
      lt-or-le c 0x140000 (λ h₄. refuses 8 2 _ _ _ (omega arith) (above-not-scalar c l₃)) λ l₄.
      is_text-above _ _ (omega arith) ∙ rw (above-not-scalar c l₃)

  -- a character's bytes before others are accepted where it is a scalar value and the others are
  pub is_text-encode : is_text (encode c ++ rest) ≡ scalar c && is_text rest
  is_text-encode = encode-elim (λ bs. is_text (bs ++ rest) ≡ scalar c && is_text rest) c is_text-one is_text-two is_text-three is_text-four
