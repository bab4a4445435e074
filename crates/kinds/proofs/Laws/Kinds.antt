-- The kind that a mark's number and a y give: it has that number. Assumes nothing.
use Prim.Native.Nat.{ℕ, ◌+◌, ◌≤◌, ◌<◌}
use mathlib.Core.Path.{◌≡◌, sym}
use mathlib.Core.Bool.{Bool, cond}
use native.Mathlib.Omega.{arith}
use lib.Dec.{eqb}
use borrow.Author.Tests.{eqb-true, eqb-false}
use Rattle.encoding.proofs.Laws.Booleans.{cond_cases}
use Rattle.turkish.specs.declared.endings.Kind.{Kind}
use Rattle.turkish.specs.PieceCalls.{kind_number}
use Rattle.kinds.specs.Kinds.{kind_at}

-- what is chosen by a number that is k or more, which is k or more than k
pub from-here : {A : Type 0} (P : A → Type 0) (n k : ℕ) {x y : A} → k ≤ n → (n ≡ k → P x) → (k + 1 ≤ n → P y) → P (cond (eqb n k) x y)
from-here P n k h f g = cond_cases P (eqb n k) (λ e. f (eqb-true n k e)) (λ e. g (let d = eqb-false n k e in omega arith))

-- the kind of a mark's number has that number
pub kind_number-kind_at : (n : ℕ) (y : Bool) → 0 < n → n ≤ 12 → kind_number (kind_at n y) ≡ n
unfolding kind_number kind_at
kind_number-kind_at n y l h =
    let P : Kind → Type 0 = λ k. kind_number k ≡ n in
    from-here P n 1 l sym (λ l2.
    from-here P n 2 l2 sym (λ l3.
    from-here P n 3 l3 sym (λ l4.
    from-here P n 4 l4 sym (λ l5.
    from-here P n 5 l5 sym (λ l6.
    from-here P n 6 l6 sym (λ l7.
    from-here P n 7 l7 sym (λ l8.
    from-here P n 8 l8 sym (λ l9.
    from-here P n 9 l9 sym (λ l10.
    from-here P n 10 l10 sym (λ l11.
    from-here P n 11 l11 sym (λ l12. omega arith)))))))))))
