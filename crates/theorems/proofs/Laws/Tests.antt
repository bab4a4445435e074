-- The members of a list that all pass one test, the characters of which some passes one, a test for equality both ways round, and tests
-- that answer alike. Assumes nothing.
use Prim.Native.Nat.{ℕ, zero, suc}
use mathlib.Core.Path.{◌≡◌, refl, sym, ap, ◌∙◌}
use mathlib.Core.Bool.{Bool, true, false, cond, not, ◌&&◌, ◌||◌, or_assoc, or_comm, or-false, false≢true}
use mathlib.Core.List.{List, [], ◌∷◌, ◌++◌, reverse, reverse-cons, Memᴰ}
use lib.ListN.{get_or}
use lib.Dec.{eqb}
use borrow.Author.Tests.{eqb-true, eqb-false, eq-eqb, ne_eqb}
use Rattle.turkish.specs.Letters.{any, has}
use Rattle.encoding.proofs.Laws.Booleans.{and_left, and_right}

-- it is no matter which of two numbers is held against the other
pub eqb_comm : (a b : ℕ) → eqb a b ≡ eqb b a
eqb_comm a b = go (eqb a b) refl
  where
    go : (t : Bool) → eqb a b ≡ t → t ≡ eqb b a
    go true e = sym (eq-eqb b a (sym (eqb-true a b e)))
    go false e = sym (ne_eqb b a (λ p. eqb-false a b e (sym p)))

-- two tests answer alike
unfoldable pub agrees : Bool → Bool → Bool
agrees a b = cond a b (not b)

-- so their answers are equal
pub agrees-equal : (a b : Bool) → agrees a b ≡ true → a ≡ b
unfolding agrees
agrees-equal true true e = refl
agrees-equal true false e = sym e
agrees-equal false true e = e
agrees-equal false false e = refl

module _ {A : Type 0} where
  -- every member passes
  unfoldable pub every : (A → Bool) → List A → Bool
  every f [] = true
  every f (x ∷ xs) = f x && every f xs

  -- so each does
  pub every-at : (f : A → Bool) {x : A} {xs : List A} → every f xs ≡ true → Memᴰ x xs → f x ≡ true
  unfolding every
  every-at f e (Memᴰ.head {x} {xs} p) = ap f p ∙ and_left (f x) (every f xs) e
  every-at f e (Memᴰ.tail {x} {xs} m) = every-at f (and_right (f x) (every f xs) e) m

  -- and so does the one at any place, and what stands for a place past the end where it does
  pub every-get_or : (f : A → Bool) (xs : List A) (n : ℕ) (d : A) → every f xs ≡ true → f d ≡ true → f (get_or xs n d) ≡ true
  unfolding every
  every-get_or f [] n d e h = h
  every-get_or f (x ∷ xs) zero d e h = and_left (f x) (every f xs) e
  every-get_or f (x ∷ xs) (suc n) d e h = every-get_or f xs n d (and_right (f x) (every f xs) e) h

-- ---- some character passes a test ----

module _ (f : ℕ → Bool) where
  -- a character that fails it is skipped
  pub any-skips : {l cs : List ℕ} {c : ℕ} → l ≡ c ∷ cs → f c ≡ false → any f cs ≡ any f l
  unfolding any
  any-skips e d = rw (e, d)

  -- one that passes it ends the search with yes
  pub any-stops : {l cs : List ℕ} {c : ℕ} → l ≡ c ∷ cs → f c ≡ true → true ≡ any f l
  unfolding any
  any-stops e d = rw (e, d)

  -- where no character is left none does
  pub any_none : {l : List ℕ} → l ≡ [] → false ≡ any f l
  unfolding any
  any_none e = rw e

-- one of two texts joined is one of either
pub any_append : (f : ℕ → Bool) (cs ds : List ℕ) → any f (cs ++ ds) ≡ (any f cs || any f ds)
unfolding any
any_append f [] ds = refl
any_append f (c ∷ cs) ds = rw (any_append f cs ds) (sym (or_assoc (f c) (any f cs) (any f ds)))

-- one that passes a test does so in either direction
pub any-reverse : (f : ℕ → Bool) (cs : List ℕ) → any f (reverse cs) ≡ any f cs
unfolding any
any-reverse f [] = refl
any-reverse f (c ∷ cs) = rw (reverse-cons, any_append, any-reverse f cs, or-false) (or_comm (any f cs) (f c))

-- where none is x, the first one is not, and none of the others is
pub has-none : (x c : ℕ) (cs : List ℕ) → has (c ∷ cs) x ≡ false → (c ≡ x → ⊥) × (has cs x ≡ false)
unfolding has any
has-none x c cs e = go (eqb x c) refl e
  where
    go : (t : Bool) → eqb x c ≡ t → (t || any (eqb x) cs) ≡ false → (c ≡ x → ⊥) × (any (eqb x) cs ≡ false)
    go true p e = absurd (false≢true (sym e))
    go false p e = (λ q. eqb-false x c p (sym q), e)
