-- Whether a word may be walked over, up to a place, as characters of one and two bytes, as the code walks for document 02's request 3, and
-- whether a byte is owed there. What that says of the check is proved in proofs/Laws/Walked. Assumes nothing.
use Rattle.std.specs.Prelude.{ℕ, zero, suc, Bool, true, false, ◌&&◌, List, [], ◌∷◌, get_or, leb}
use Rattle.encoding.specs.Neighbours.{short_follows}

-- the byte before a place; 0 before the first
unfoldable pub byte_before : List ℕ → ℕ → ℕ
byte_before w i = get_or (0 ∷ w) i 0

-- it leaves one of its character due, where no character has more than two bytes
abbrev pub owed_at : List ℕ → ℕ → Bool
owed_at w i = leb 0xC0 (byte_before w i)

-- the next n bytes are there, and each may follow the one before it, where no character has more than two; a stands before the first
unfoldable pub short_next : ℕ → ℕ → List ℕ → Bool
short_next zero a w = true
short_next (suc n) a [] = false
short_next (suc n) a (x ∷ xs) = short_follows a x && short_next n x xs

-- so do all up to a place
abbrev pub walked : List ℕ → ℕ → Bool
walked w i = short_next i 0 w
