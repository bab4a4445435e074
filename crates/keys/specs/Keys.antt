-- A table of keys, each filled up with 0 to the table's width. Assumes nothing.
use Rattle.std.specs.Prelude.{ℕ, cond, List, [], ◌∷◌, eqb}

-- a key up to its first 0
unfoldable pub up_to_zero : List ℕ → List ℕ
up_to_zero [] = []
up_to_zero (c ∷ cs) = cond (eqb c 0) [] (c ∷ up_to_zero cs)

-- the keys of a table
unfoldable pub rows : List (List ℕ) → List (List ℕ)
rows [] = []
rows (k ∷ ks) = up_to_zero k ∷ rows ks
