-- The encoding of characters as bytes (RFC 3629, section 3), and a character's bytes decoded.
-- Assumes nothing.
use Rattle.std.specs.Prelude.{ℕ, ◌+◌, ◌*◌, ◌/◌, ◌%◌, max, Bool, cond, ◌&&◌, List, [], ◌∷◌, ◌++◌, ltb, leb}

-- one to four bytes: the first says how many, each further one carries six bits
unfoldable pub encode : ℕ → List ℕ
encode c =
    cond (ltb c 0x80) (c ∷ [])
    (cond (ltb c 0x800) ((0xC0 + c / 0x40) ∷ (0x80 + c % 0x40) ∷ [])
    (cond (ltb c 0x10000) ((0xE0 + c / 0x1000) ∷ (0x80 + c / 0x40 % 0x40) ∷ (0x80 + c % 0x40) ∷ [])
    ((0xF0 + c / 0x40000) ∷ (0x80 + c / 0x1000 % 0x40) ∷ (0x80 + c / 0x40 % 0x40) ∷ (0x80 + c % 0x40) ∷ [])))

-- a byte that goes on with a character and begins none
unfoldable pub continuation : ℕ → Bool
continuation b = leb 0x80 b && leb b 0xBF

-- a text: its characters' bytes in order
unfoldable pub encode_all : List ℕ → List ℕ
encode_all [] = []
encode_all (c ∷ cs) = encode c ++ encode_all cs

-- The character that one to four bytes stand for. Total: bytes that encode nothing stand for something too, but several
-- bytes never for anything below 0x80, so that an ASCII character is only ever its own byte.
unfoldable pub decode : List ℕ → ℕ
decode [] = 0
decode (a ∷ []) = a
decode (a ∷ b ∷ []) = max 0x80 (a % 0x20 * 0x40 + b % 0x40)
decode (a ∷ b ∷ c ∷ []) = max 0x80 (a % 0x10 * 0x1000 + b % 0x40 * 0x40 + c % 0x40)
decode (a ∷ b ∷ c ∷ d ∷ _) = max 0x80 (a % 0x08 * 0x40000 + b % 0x40 * 0x1000 + c % 0x40 * 0x40 + d % 0x40)
