-- Letters as code points, and tests on lists of them. Assumes nothing.
use Rattle.std.specs.Prelude.{ℕ, Bool, true, false, ◌&&◌, ◌||◌, List, [], ◌∷◌, reverse, eqb}
use Prim.Native.Char.{code}
use Prim.Native.String.{String}

-- the code points of a text in order, and from its end
unfoldable pub text : String → List ℕ
text String.[] = []
text (String.◌∷◌ c s) = code c ∷ text s

unfoldable pub from_end : String → List ℕ
from_end s = reverse (text s)

-- the two bytes that part fields and lines
unfoldable pub tab : ℕ
tab = 0x09

unfoldable pub lf : ℕ
lf = 0x0A

-- some character passes the test
unfoldable pub any : (ℕ → Bool) → List ℕ → Bool
any f [] = false
any f (c ∷ cs) = f c || any f cs

-- c is one of the characters
unfoldable pub has : List ℕ → ℕ → Bool
has cs c = any (eqb c) cs

-- the characters begin with those of the key
unfoldable pub starts : List ℕ → List ℕ → Bool
starts [] cs = true
starts (k ∷ ks) [] = false
starts (k ∷ ks) (c ∷ cs) = eqb k c && starts ks cs
