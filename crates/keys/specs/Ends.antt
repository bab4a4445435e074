-- Letters with which keys end, as the code tests them before it searches a table; U and A as in the marks' names. Assumes nothing.
use Rattle.std.specs.Prelude.{ℕ, Bool, cond, ◌||◌, List, [], ◌∷◌, get_or, eqb}
use Prim.Native.Char.{code}

-- U: i u ı ü; A: a e; and the letters that may follow in yDU and ysA: k m n
unfoldable pub is_U_of : ℕ → Bool
is_U_of c = (eqb c (code "i") || eqb c (code "u")) || (eqb c (code "ı") || eqb c (code "ü"))

unfoldable pub is_a : ℕ → Bool
is_a c = eqb c (code "a") || eqb c (code "e")

unfoldable pub is_kmn_of : ℕ → Bool
is_kmn_of c = eqb c (code "k") || (eqb c (code "m") || eqb c (code "n"))

-- the keys of a table that end in a letter
unfoldable pub ending_in : ℕ → List (List ℕ) → List (List ℕ)
ending_in c [] = []
ending_in c (k ∷ ks) = cond (eqb (get_or k 0 0) c) (k ∷ ending_in c ks) (ending_in c ks)
