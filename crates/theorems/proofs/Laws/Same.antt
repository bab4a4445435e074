-- A list that is one of several: what holds of each of those holds of it, and it is in the list of them. Assumes nothing.
use Prim.Native.Nat.{ℕ}
use mathlib.Core.Path.{◌≡◌, refl, ap, ◌∙◌}
use mathlib.Core.Bool.{Bool, true, false, ◌||◌, false≢true}
use mathlib.Core.List.{List, [], ◌∷◌, Memᴰ}
use Rattle.utf8.specs.Steps.{same}
use Rattle.encoding.proofs.Laws.Booleans.{and_left, and_right}
use Rattle.utf8.proofs.WholeLiterals.{same-equal}
use Rattle.theorems.proofs.Laws.Tests.{every}
use Rattle.theorems.specs.Fronts.{one_of}

-- a test that every one of the lists passes is passed by what is one of them
pub one_of-every : (f : List ℕ → Bool) (xs : List (List ℕ)) (w : List ℕ) → every f xs ≡ true → one_of xs w ≡ true → f w ≡ true
unfolding every one_of
one_of-every f [] w h e = absurd (false≢true e)
one_of-every f (x ∷ xs) w h e = go (same w x) refl e (one_of-every f xs w (and_right (f x) (every f xs) h))
  where
    go : (t : Bool) → same w x ≡ t → t || one_of xs w ≡ true → (one_of xs w ≡ true → f w ≡ true) → f w ≡ true
    go true s e r = ap f (same-equal w x s) ∙ and_left (f x) (every f xs) h
    go false s e r = r e

-- and what is one of them is in their list
pub one_of-mem : (xs : List (List ℕ)) (w : List ℕ) → one_of xs w ≡ true → Memᴰ w xs
unfolding one_of
one_of-mem [] w e = absurd (false≢true e)
one_of-mem (x ∷ xs) w e = go (same w x) refl e (one_of-mem xs w)
  where
    go : (t : Bool) → same w x ≡ t → t || one_of xs w ≡ true → (one_of xs w ≡ true → Memᴰ w xs) → Memᴰ w (x ∷ xs)
    go true s e r = Memᴰ.head (same-equal w x s)
    go false s e r = Memᴰ.tail (r e)
