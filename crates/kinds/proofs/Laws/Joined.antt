-- The kind that a mark's number and a y give joined as the mark did. Assumes nothing.
use Prim.Native.Nat.{ℕ, ◌≤◌, ◌<◌}
use mathlib.Core.Path.{◌≡◌, refl}
use mathlib.Core.Bool.{Bool, true, false, cond}
use native.Mathlib.Omega.{arith}
use Rattle.turkish.specs.declared.endings.Kind.{Kind}
use Rattle.turkish.specs.Pieces.{alone, with_y, after_vowel}
use Rattle.turkish.specs.PieceCalls.{joined_of, kind_joined}
use Rattle.theorems.proofs.Laws.Joints.{joins}
use Rattle.kinds.specs.Kinds.{joining_by, kind_at}
use Rattle.kinds.proofs.Laws.Kinds.{from-here}

-- a joining by a y, as the pieces tell it
joined_of-joining_by : (y : Bool) → joined_of (joining_by y) ≡ cond y with_y after_vowel
unfolding joined_of joining_by
joined_of-joining_by true = refl
joined_of-joining_by false = refl

-- the kind of a mark's number joined by the y where an optional y joins the mark, and alone where none does
pub kind_joined-kind_at : (n : ℕ) (y : Bool) → 0 < n → n ≤ 12 → kind_joined (kind_at n y) ≡ cond (joins n) (cond y with_y after_vowel) alone
unfolding kind_joined kind_at joins
kind_joined-kind_at n y l h =
    let P : Kind → Type 0 = λ k. kind_joined k ≡ cond (joins n) (cond y with_y after_vowel) alone in
    let q = joined_of-joining_by y in
    from-here P n 1 l (λ e. rw e q) (λ l2.
    from-here P n 2 l2 (λ e. rw e) (λ l3.
    from-here P n 3 l3 (λ e. rw e q) (λ l4.
    from-here P n 4 l4 (λ e. rw e) (λ l5.
    from-here P n 5 l5 (λ e. rw e) (λ l6.
    from-here P n 6 l6 (λ e. rw e) (λ l7.
    from-here P n 7 l7 (λ e. rw e) (λ l8.
    from-here P n 8 l8 (λ e. rw e) (λ l9.
    from-here P n 9 l9 (λ e. rw e q) (λ l10.
    from-here P n 10 l10 (λ e. rw e q) (λ l11.
    from-here P n 11 l11 (λ e. rw e q) (λ l12.
    let e : n ≡ 12 = omega arith in rw e q)))))))))))
