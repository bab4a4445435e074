-- The check's state after one byte more, by the tests that decide it, and the check as a walk over the bytes. Assumes nothing.
use Prim.Native.Nat.{ℕ, suc, ◌+◌, ◌%◌, ◌<◌}
use mathlib.Core.Path.{◌≡◌, refl, ◌∙◌}
use mathlib.Core.Bool.{Bool, true, false, cond, ◌&&◌}
use mathlib.Core.List.{List, ◌∷◌}
use native.Mathlib.Numerals.{sub-one}
use native.Mathlib.Omega.{arith}
use lib.Dec.{leb, eqb-suc-zero}
use borrow.Author.Tests.{le-leb, eq-eqb}
use Rattle.encoding.specs.Validity.{Due, due, refused, lead, next, accepts, is_text, table37}
use Rattle.encoding.proofs.Laws.Table37.{InRow, row_at, asked, lead-in, lead-none}

-- where nothing is due, the byte begins a character
pub next-lead : (d : Due) (b : ℕ) → d.need ≡ 0 → next d b ≡ lead b
unfolding next
next-lead d b n = rw (eq-eqb d.need 0 n)

-- a byte that is refused ends the walk
pub accepts-refused : (d d' : Due) (b : ℕ) (bs : List ℕ) → next d b ≡ d' → d'.ok ≡ false → accepts d (b ∷ bs) ≡ false
unfolding accepts
accepts-refused d d' b bs e f = rw (e, f)

-- a byte that is not takes it on
pub accepts-next : (d d' : Due) (b : ℕ) (bs : List ℕ) → next d b ≡ d' → d'.ok ≡ true → accepts d (b ∷ bs) ≡ accepts d' bs
unfolding accepts
accepts-next d d' b bs e t = rw (e, t)

-- ---- the walk as tests ----

-- the first byte finds its row
pub is_text-row : (k b : ℕ) (bs : List ℕ) → InRow k b → is_text (b ∷ bs) ≡ accepts (asked (row_at k)) bs
unfolding is_text due
is_text-row k b bs h = accepts-next (due 0 0x80 0xBF) (asked (row_at k)) b bs (next-lead (due 0 0x80 0xBF) b refl ∙ lead-in k b h.0 h.1 h.2 h.3) refl

-- above the last row's bytes nothing begins
pub is_text-above : (b : ℕ) (bs : List ℕ) → 0xF4 < b → is_text (b ∷ bs) ≡ false
unfolding is_text table37 refused due
is_text-above b bs h = accepts-refused (due 0 0x80 0xBF) refused b bs (next-lead (due 0 0x80 0xBF) b refl ∙ lead-none 9 b (omega arith) tt) refl

-- a byte that is due lies in its range, and the rest goes on
pub accepts-due : (n lo hi b : ℕ) (bs : List ℕ) → accepts (due (suc n) lo hi) (b ∷ bs) ≡ leb lo b && leb b hi && accepts (due n 0x80 0xBF) bs
unfolding accepts next due refused
accepts-due n lo hi b bs = rw (eqb-suc-zero n, sub-one) (go (leb lo b && leb b hi))
  where
    go : (t : Bool) → (cond t (due n 0x80 0xBF) refused).ok && accepts (cond t (due n 0x80 0xBF) refused) bs ≡ t && accepts (due n 0x80 0xBF) bs
    go true = refl
    go false = refl

-- six bits make a byte that may follow
pub accepts-six : (n x : ℕ) (bs : List ℕ) → accepts (due (suc n) 0x80 0xBF) ((0x80 + x % 0x40) ∷ bs) ≡ accepts (due n 0x80 0xBF) bs
accepts-six n x bs = accepts-due n 0x80 0xBF _ bs ∙ rw (le-leb 0x80 (0x80 + x % 0x40) (omega arith), le-leb (0x80 + x % 0x40) 0xBF (omega arith))
