-- What a passed test says of its parts, and how its parts make it pass or fail, for the whole repository. Assumes nothing.
use Prim.Native.Nat.{ℕ, ◌≤◌, ◌<◌}
use mathlib.Core.Path.{◌≡◌, refl, sym, ◌∙◌}
use mathlib.Core.Logic.{◌⊎◌, inl, inr}
use mathlib.Core.Bool.{Bool, true, false, cond, not, ◌&&◌, ◌||◌, or-false, false≢true}
use lib.Dec.{ltb}
use borrow.Author.Tests.{ltb-true, ltb-false}

-- two tests that pass together pass each: the first
pub and_left : (a b : Bool) → a && b ≡ true → a ≡ true
and_left true b e = refl
and_left false b e = e

-- and the second
pub and_right : (a b : Bool) → a && b ≡ true → b ≡ true
and_right true b e = e
and_right false b e = absurd (false≢true e)

-- a test that fails on the right fails
pub and-false : (a : Bool) → a && false ≡ false
and-false true = refl
and-false false = refl

-- three tests that pass together pass each
pub and-each : (a b c : Bool) → a && b && c ≡ true → (a ≡ true) × (b ≡ true) × (c ≡ true)
and-each true true c e = (refl, refl, e)
and-each true false c e = absurd (false≢true e)
and-each false b c e = absurd (false≢true e)

-- a test that is made only where one before it passes: where it is made
pub and-asked : {a r p q : Bool} → a ≡ true → a ≡ p → r ≡ q → r ≡ p && q
and-asked t e f = rw (← e, t) f

-- and where it is not
pub and-spared : {a r p : Bool} (q : Bool) → a ≡ false → a ≡ p → r ≡ a → r ≡ p && q
and-spared q t e f = rw (← e, t) (f ∙ t)

-- a test that passes by one of two
pub or-either : (a b : Bool) → a || b ≡ true → (a ≡ true) ⊎ (b ≡ true)
or-either true b e = inl refl
or-either false b e = inr e

-- what is asked only where a test passes
pub guarded : (t : Bool) {p q : Bool} → (t ≡ true → p ≡ q) → t && p ≡ t && q
guarded true h = h refl
guarded false h = refl

-- what holds of both sides of a choice holds of what is chosen; each side may know the test's answer
pub cond_cases : {A : Type 0} (P : A → Type 0) (t : Bool) {x y : A} → (t ≡ true → P x) → (t ≡ false → P y) → P (cond t x y)
cond_cases P true f g = f refl
cond_cases P false f g = g refl

-- the same where only the first side asks for it
pub cond-test : {A : Type 0} (P : A → Type 0) (t : Bool) {x y : A} → (t ≡ true → P x) → P y → P (cond t x y)
cond-test P t f q = cond_cases P t f (λ e. q)

-- and where neither does
pub cond_both : {A : Type 0} (P : A → Type 0) (t : Bool) (x y : A) → P x → P y → P (cond t x y)
cond_both P t x y p q = cond-test P t (λ e. p) q

-- a choice between two tests, made of tests alone
pub chosen : (t p q : Bool) → t && p || not t && q ≡ cond t p q
chosen true p q = or-false p
chosen false p q = refl

-- a test whose contrary passes fails
pub not-eq-false : (a : Bool) → not a ≡ true → a ≡ false
not-eq-false true e = absurd (false≢true e)
not-eq-false false e = refl

-- and one whose contrary fails passes
pub not-eq-true : (a : Bool) → not a ≡ false → a ≡ true
not-eq-true true e = refl
not-eq-true false e = sym e

-- one number is below another, or it is not
pub lt-or-le : {P : Type 0} (a b : ℕ) → (a < b → P) → (b ≤ a → P) → P
lt-or-le {P} a b p q = go (ltb a b) refl
  where
    go : (t : Bool) → ltb a b ≡ t → P
    go true e = p (ltb-true a b e)
    go false e = q (ltb-false a b e)
