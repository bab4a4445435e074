-- Scalar values: the code points that a text may hold (RFC 3629, section 3; the Unicode Standard, D76).
-- Assumes nothing.
use Rattle.std.specs.Prelude.{ℕ, Bool, true, not, ◌&&◌, List, [], ◌∷◌, leb}

-- the code points set aside for UTF-16
unfoldable pub surrogate : ℕ → Bool
surrogate c = leb 0xD800 c && leb c 0xDFFF

-- at most U+10FFFF, and no surrogate
unfoldable pub scalar : ℕ → Bool
scalar c = leb c 0x10FFFF && not (surrogate c)

-- all of a list are
unfoldable pub scalars : List ℕ → Bool
scalars [] = true
scalars (c ∷ cs) = scalar c && scalars cs
