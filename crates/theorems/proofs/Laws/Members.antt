-- Members of lists: a rearranged list has those of the first; a test that each of them passes; lists of numbers, cut where a number stands
-- first; and numbers of which none stands twice. Assumes nothing.
use Prim.Native.Nat.{ℕ, zero, suc, ◌<◌}
use mathlib.Core.Path.{◌≡◌, refl, sym, ◌∙◌}
use mathlib.Core.Bool.{Bool, true, not, ◌&&◌, or-true, and_assoc, true≢false}
use mathlib.Core.Logic.{⊎_elim}
use mathlib.Core.List.{List, [], ◌∷◌, ◌++◌, map, head-eq_of_cons-eq, tail-eq_of_cons-eq, cons-eq-cons}
use mathlib.Core.List.Memᴰ
use mathlib.Core.List.{Memᴰ, Permᴰ}
use native.Mathlib.Omega.{arith}
use lib.ListN.{length, get_or}
use lib.Dec.{eqb}
use borrow.Author.Tests.{eqb-false, eq-eqb, not-true}
use Rattle.encoding.proofs.Laws.Booleans.{and_left, and_right}
use Rattle.turkish.specs.Letters.{any, has}
use Rattle.theorems.proofs.Laws.Tests.{every}

module _ {A : Type 0} where
  -- what is in a list is in the list rearranged
  pub mem-perm : {x : A} {xs ys : List A} → Permᴰ xs ys → Memᴰ x xs → Memᴰ x ys
  mem-perm Permᴰ.nil m = m
  mem-perm (Permᴰ.cons e d) m = ⊎_elim (λ p. Memᴰ.head (p ∙ e)) (λ n. Memᴰ.tail (mem-perm d n)) (Memᴰ.cases_cons m)
  mem-perm (Permᴰ.swap e f) m =
      ⊎_elim (λ p. Memᴰ.tail (Memᴰ.head (p ∙ e)))
      (λ n. ⊎_elim (λ q. Memᴰ.head (q ∙ f)) (λ o. Memᴰ.tail (Memᴰ.tail o)) (Memᴰ.cases_cons n))
      (Memᴰ.cases_cons m)
  mem-perm (Permᴰ.trans c d) m = mem-perm d (mem-perm c m)

  -- what is in a list and is not its first is among the others
  pub mem-behind : {x y : A} {ys : List A} → Memᴰ x (y ∷ ys) → (x ≡ y → ⊥) → Memᴰ x ys
  mem-behind m n = ⊎_elim (λ p. absurd (n p)) (λ o. o) (Memᴰ.cases_cons m)

  -- what is in a list and not among the others is its first
  pub mem-front : {x y : A} {ys : List A} → Memᴰ x (y ∷ ys) → (Memᴰ x ys → ⊥) → x ≡ y
  mem-front m n = ⊎_elim (λ p. p) (λ o. absurd (n o)) (Memᴰ.cases_cons m)

  -- where the members of one list are another's, so are their images
  pub mem-map-mono : {B : Type 0} (f : A → B) {xs ys : List A} → ((x : A) → Memᴰ x xs → Memᴰ x ys)
      → (y : B) → Memᴰ y (map f xs) → Memᴰ y (map f ys)
  mem-map-mono f {xs} h y m = let r = Memᴰ.of_map f xs m in Memᴰ.cast (sym r.2) (Memᴰ.map f (h r.0 r.1))

  -- the i-th of a list is in it
  pub mem-get_or : (xs : List A) (i : ℕ) (d : A) → i < length xs → Memᴰ (get_or xs i d) xs
  mem-get_or [] i d h = absurd (omega arith)
  mem-get_or (x ∷ xs) zero d h = Memᴰ.head refl
  mem-get_or (x ∷ xs) (suc i) d h = Memᴰ.tail (mem-get_or xs i d (omega arith))

  -- where each member passes a test, every one does
  pub every_of : (f : A → Bool) (xs : List A) → ((x : A) → Memᴰ x xs → f x ≡ true) → every f xs ≡ true
  unfolding every
  every_of f [] h = refl
  every_of f (x ∷ xs) h = rw (h x (Memᴰ.head refl), every_of f xs (λ y m. h y (Memᴰ.tail m)))

  -- of two lists every one passes where those of each do
  pub every_append : (f : A → Bool) (xs ys : List A) → every f (xs ++ ys) ≡ (every f xs && every f ys)
  unfolding every
  every_append f [] ys = refl
  every_append f (x ∷ xs) ys = rw (every_append f xs ys) (sym (and_assoc (f x) (every f xs) (every f ys)))

-- ---- lists of numbers ----

-- what is in a list, the list has
pub mem-has : {c : ℕ} {cs : List ℕ} → Memᴰ c cs → has cs c ≡ true
unfolding has any
mem-has {c} (Memᴰ.head {x} {xs} e) = rw (eq-eqb c x e)
mem-has {c} (Memᴰ.tail {x} {xs} m) = rw (mem-has m) (or-true (eqb c x))

-- none of the numbers is x
unfoldable pub without : ℕ → List ℕ → Bool
without x = every (λ b. not (eqb b x))

-- of two lists so where it is so of each
pub without-append : (x : ℕ) (a b : List ℕ) → without x (a ++ b) ≡ (without x a && without x b)
unfolding without
without-append x a b = every_append (λ c. not (eqb c x)) a b

-- where none is, the first one is not
without-head : (x c : ℕ) (b : List ℕ) → without x (c ∷ b) ≡ true → c ≡ x → ⊥
unfolding without every
without-head x c b p = eqb-false c x (not-true (eqb c x) (and_left (not (eqb c x)) (without x b) p))

-- and none of the others is
without-tail : (x c : ℕ) (b : List ℕ) → without x (c ∷ b) ≡ true → without x b ≡ true
unfolding without every
without-tail x c b p = and_right (not (eqb c x)) (without x b) p

-- equal lists are equal up to where x stands first, and behind it
pub cut-first : (x : ℕ) (a b s t : List ℕ) → without x a ≡ true → without x b ≡ true → a ++ (x ∷ s) ≡ b ++ (x ∷ t) → (a ≡ b) × (s ≡ t)
cut-first x [] [] s t p q e = (refl, tail-eq_of_cons-eq e)
cut-first x [] (c ∷ b) s t p q e = absurd (without-head x c b q (sym (head-eq_of_cons-eq e)))
cut-first x (c ∷ a) [] s t p q e = absurd (without-head x c a p (head-eq_of_cons-eq e))
cut-first x (c ∷ a) (d ∷ b) s t p q e =
    let r = cut-first x a b s t (without-tail x c a p) (without-tail x d b q) (tail-eq_of_cons-eq e) in
    (cons-eq-cons.1 (head-eq_of_cons-eq e, r.0), r.1)

-- no number stands twice
unfoldable pub distinct : List ℕ → Bool
distinct [] = true
distinct (k ∷ ks) = not (has ks k) && distinct ks

-- so the first one does not stand among the others
pub distinct_head : (k : ℕ) (ks : List ℕ) → distinct (k ∷ ks) ≡ true → Memᴰ k ks → ⊥
unfolding distinct
distinct_head k ks e m = true≢false (sym (mem-has m) ∙ not-true (has ks k) (and_left (not (has ks k)) (distinct ks) e))

-- and none of the others stands twice
pub distinct_tail : (k : ℕ) (ks : List ℕ) → distinct (k ∷ ks) ≡ true → distinct ks ≡ true
unfolding distinct
distinct_tail k ks e = and_right (not (has ks k)) (distinct ks) e
