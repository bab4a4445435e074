-- The UTF-8 check as the code makes it: each byte is held to the three before it, and where all characters have one or two bytes,
-- to the one before it. That the first is the check of Validity, and that what passes the second passes it, is proved in
-- proofs/Laws/Neighbours. Assumes nothing.
use Rattle.std.specs.Prelude.{ℕ, Bool, cond, not, ◌&&◌, ◌||◌, List, [], ◌∷◌, ltb, leb}
use Rattle.encoding.specs.Validity.{lead}
use Rattle.encoding.specs.Encoding.{continuation}

-- the bytes before, nearest first, leave one of their character due
unfoldable pub owed : ℕ → ℕ → ℕ → Bool
owed a b c = leb 0xC0 a || leb 0xE0 b || leb 0xF0 c

-- x may follow them: in the range that the nearest leaves where one is due, as a first byte elsewhere
unfoldable pub follows : ℕ → ℕ → ℕ → ℕ → Bool
follows a b c x = cond (owed a b c) (leb (lead a).low x && leb x (lead a).high) (lead x).ok

-- all from here on may follow, and none is due at the end
unfoldable pub text_after : ℕ → ℕ → ℕ → List ℕ → Bool
text_after a b c [] = not (owed a b c)
text_after a b c (x ∷ xs) = follows a b c x && text_after x a b xs

-- the same where no character has more than two bytes
unfoldable pub short_begins : ℕ → Bool
short_begins x = ltb x 0x80 || leb 0xC2 x && ltb x 0xE0

-- x may follow a
unfoldable pub short_follows : ℕ → ℕ → Bool
short_follows a x = cond (leb 0xC0 a) (continuation x) (short_begins x)

-- all from here on may follow, and none is due at the end
unfoldable pub short_after : ℕ → List ℕ → Bool
short_after a [] = ltb a 0xC0
short_after a (x ∷ xs) = short_follows a x && short_after x xs
