-- The characters seen from a place in any word of bytes: their widths, one to four bytes within the word; what stands before the
-- place, a character at a time; and the places characters back. Assumes nothing.
use Prim.Native.Nat.{ℕ, zero, suc, ◌+◌, ◌-◌, ◌≤◌, ◌<◌}
use mathlib.Core.Path.{◌≡◌, refl, ap, ◌∙◌}
use mathlib.Core.Bool.{Bool, true, false}
use mathlib.Core.List.{List, [], ◌∷◌}
use native.Mathlib.Omega.{arith}
use native.Mathlib.Nat.{zero-add, suc-add, zero-sub}
use lib.ListN.{length, drop, get_or}
use lib.Seq.{drop-nil}
use lib.Dec.{ltb}
use borrow.Author.Tests.{ltb-true}
use Rattle.encoding.specs.Encoding.{continuation}
use Rattle.utf8.specs.Characters.{width, goes_on_of, last_width_of, first_width_of, last_char, before_within, before, back}
use Rattle.encoding.proofs.Laws.Booleans.{and_left}

-- ---- width ----

-- what holds of each width, given the byte that asks for it, holds of the width
pub width-elim : (P : ℕ → Type 0) (r s t : Bool) → P 1 → (r ≡ true → P 2) → (s ≡ true → P 3) → (t ≡ true → P 4) → P (width r s t)
unfolding width
width-elim P false s t p₁ p₂ p₃ p₄ = p₁
width-elim P true false t p₁ p₂ p₃ p₄ = p₂ refl
width-elim P true true false p₁ p₂ p₃ p₄ = p₃ refl
width-elim P true true true p₁ p₂ p₃ p₄ = p₄ refl

-- a character has a byte
pub width-pos : (r s t : Bool) → 0 < width r s t
width-pos r s t = width-elim (λ n. 0 < n) r s t (omega arith) (λ h. omega arith) (λ h. omega arith) (λ h. omega arith)

-- and at most four
pub width_four : (r s t : Bool) → width r s t ≤ 4
width_four r s t = width-elim (λ n. n ≤ 4) r s t (omega arith) (λ h. omega arith) (λ h. omega arith) (λ h. omega arith)

-- ---- last_width_of ----

-- a byte that goes on is not the word's first
pub goes_on_of-lt : (w : List ℕ) (c k : ℕ) → goes_on_of w c k ≡ true → k < c
unfolding goes_on_of
goes_on_of-lt w c k e = ltb-true k c (and_left (ltb k c) (continuation (get_or w (c - k) 0)) e)

-- the character that ends at a place has a byte
pub last_width_of-pos : (w : List ℕ) (c : ℕ) → 0 < last_width_of w c
unfolding last_width_of
last_width_of-pos w c = width-pos _ _ _

-- and at most four
pub last_width_of-four : (w : List ℕ) (c : ℕ) → last_width_of w c ≤ 4
unfolding last_width_of
last_width_of-four w c = width_four _ _ _

-- and begins within the word
pub last_width_of-le : (w : List ℕ) (c : ℕ) → 0 < c → last_width_of w c ≤ c
unfolding last_width_of
last_width_of-le w c h = width-elim (λ n. n ≤ c) _ _ _ h (goes_on_of-lt w c 1) (goes_on_of-lt w c 2) (goes_on_of-lt w c 3)

-- ---- first_width_of ----

-- the character that begins at a place has a byte
pub first_width_of-pos : (w : List ℕ) (c : ℕ) → 0 < first_width_of w c
unfolding first_width_of
first_width_of-pos w c = width-pos _ _ _

-- and at most four
pub first_width_of-four : (w : List ℕ) (c : ℕ) → first_width_of w c ≤ 4
unfolding first_width_of
first_width_of-four w c = width_four _ _ _

-- ---- before ----

-- fuel that is enough: more of it changes nothing
pub before_within-enough : (f g : ℕ) (w : List ℕ) (c : ℕ) → c ≤ f → c ≤ g → before_within f w c ≡ before_within g w c
unfolding before_within
before_within-enough zero zero w c h k = refl
before_within-enough zero (suc g) w zero h k = refl
before_within-enough zero (suc g) w (suc c) h k = absurd (omega arith)
before_within-enough (suc f) zero w zero h k = refl
before_within-enough (suc f) zero w (suc c) h k = absurd (omega arith)
before_within-enough (suc f) (suc g) w zero h k = refl
before_within-enough (suc f) (suc g) w (suc c) h k =
    let p : 0 < last_width_of w (suc c) = last_width_of-pos w (suc c) in
    ap (λ (l : List ℕ). last_char w (suc c) ∷ l) (before_within-enough f g w (suc c - last_width_of w (suc c)) (omega arith) (omega arith))

-- nothing stands before the word's start
pub before-zero : (w : List ℕ) → before w 0 ≡ []
unfolding before before_within
before-zero w = refl

-- before any other place stands the character that ends there, and before it what stands before its first byte
pub before-step : (w : List ℕ) (c : ℕ) → 0 < c → before w c ≡ last_char w c ∷ before w (c - last_width_of w c)
unfolding before before_within
before-step w zero h = absurd (omega arith)
before-step w (suc c) h =
    let p : 0 < last_width_of w (suc c) = last_width_of-pos w (suc c) in
    ap (λ (l : List ℕ). last_char w (suc c) ∷ l) (before_within-enough c (suc c - last_width_of w (suc c)) w (suc c - last_width_of w (suc c)) (omega arith) (omega arith))

-- ---- back ----

-- back is never on
pub back-le : (w : List ℕ) (c n : ℕ) → back w c n ≤ c
unfolding back
back-le w c zero = omega arith
back-le w c (suc n) = omega (arith, back-le w (c - last_width_of w c) n)

-- the word's start is as far back as it goes
pub back-zero : (w : List ℕ) (n : ℕ) → back w 0 n ≡ 0
back-zero w n = omega (arith, back-le w 0 n)

-- n characters back and then m are n + m characters back
pub back-add : (w : List ℕ) (c n m : ℕ) → back w (back w c n) m ≡ back w c (n + m)
unfolding back
back-add w c zero m = rw zero-add
back-add w c (suc n) m = rw suc-add (back-add w (c - last_width_of w c) n m)

-- and less where there is a character to go back over
pub back-less : (w : List ℕ) (c n : ℕ) → 0 < n → n ≤ length (before w c) → back w c n < c
unfolding back
back-less w c zero h l = absurd (omega arith)
back-less w zero (suc n) h l = absurd (omega (arith, ap length (before-zero w)))
back-less w (suc c) (suc n) h l = omega (arith, last_width_of-pos w (suc c), back-le w (suc c - last_width_of w (suc c)) n)

-- before the last character's first byte stands all but that character
before-tail : (w : List ℕ) (c n : ℕ) → drop n (before w (c - last_width_of w c)) ≡ drop (suc n) (before w c)
before-tail w zero n = rw (zero-sub, before-zero) (drop-nil n)
before-tail w (suc c) n = rw (before-step w (suc c) (omega arith))

-- before the place n characters back stands all but the nearest n characters
pub before_back : (w : List ℕ) (c n : ℕ) → before w (back w c n) ≡ drop n (before w c)
unfolding back
before_back w c zero = refl
before_back w c (suc n) = before_back w (c - last_width_of w c) n ∙ before-tail w c n
