-- A key of a table, a letter at a time, as the code reads it. Assumes nothing.
use Prim.Native.Nat.{ℕ, zero, suc, ◌+◌}
use mathlib.Core.Path.{◌≡◌, refl}
use mathlib.Core.List.{List, [], ◌∷◌}
use native.Mathlib.Omega.{arith}
use lib.ListN.{drop, get_or}
use borrow.Author.Tests.{eq-eqb, ne_eqb}
use Rattle.keys.specs.Keys.{up_to_zero}

-- from place j on a key is nothing where its letter there is 0, as behind a key as long as the table is wide
pub letters_end : (key : List ℕ) (j : ℕ) → get_or key j 0 ≡ 0 → up_to_zero (drop j key) ≡ []
unfolding up_to_zero
letters_end [] zero e = refl
letters_end [] (suc j) e = refl
letters_end (c ∷ cs) zero e = rw (eq-eqb c 0 e)
letters_end (c ∷ cs) (suc j) e = letters_end cs j e

-- and else it is that letter and the key from the next on
pub letters-go : (key : List ℕ) (j : ℕ) → (get_or key j 0 ≡ 0 → ⊥) → up_to_zero (drop j key) ≡ get_or key j 0 ∷ up_to_zero (drop (j + 1) key)
unfolding up_to_zero
letters-go [] zero n = absurd (n refl)
letters-go [] (suc j) n = absurd (n refl)
letters-go (c ∷ cs) zero n = rw (ne_eqb c 0 n)
letters-go (c ∷ cs) (suc j) n = let next : suc j + 1 ≡ suc (j + 1) = omega arith in rw next (letters-go cs j n)
