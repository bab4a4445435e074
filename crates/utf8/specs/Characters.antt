-- The characters of a word of bytes, seen from a place in it: the one that ends there, the one that begins there, all that stand
-- before it, and the place some characters back. Total on every list of bytes; what a text's characters are is proved in proofs/.
-- Assumes nothing.
use Rattle.std.specs.Prelude.{ℕ, zero, suc, ◌+◌, ◌-◌, Bool, true, false, ◌&&◌, List, [], ◌∷◌, take, drop, get_or, ltb}
use Rattle.encoding.specs.Encoding.{continuation, decode}

-- a character's bytes: one, and one more for each of the next three that goes on with it, up to the first that does not
unfoldable pub width : Bool → Bool → Bool → ℕ
width false s t = 1
width true false t = 2
width true true false = 3
width true true true = 4

-- going back from place c, the k-th byte goes on with a character that begins before it; the word's first byte does not
unfoldable pub goes_on_of : List ℕ → ℕ → ℕ → Bool
goes_on_of w c k = ltb k c && continuation (get_or w (c - k) 0)

-- the bytes of the character that ends at place c
unfoldable pub last_width_of : List ℕ → ℕ → ℕ
last_width_of w c = width (goes_on_of w c 1) (goes_on_of w c 2) (goes_on_of w c 3)

-- the bytes of the character that begins at place c; past the word's end nothing goes on
unfoldable pub first_width_of : List ℕ → ℕ → ℕ
first_width_of w c = width (continuation (get_or w (c + 1) 0)) (continuation (get_or w (c + 2) 0)) (continuation (get_or w (c + 3) 0))

-- the character whose n bytes begin at place i
unfoldable pub char_at : List ℕ → ℕ → ℕ → ℕ
char_at w i n = decode (take n (drop i w))

-- the character that ends at place c
unfoldable pub last_char : List ℕ → ℕ → ℕ
last_char w c = char_at w (c - last_width_of w c) (last_width_of w c)

-- the character that begins at place c
unfoldable pub first_char : List ℕ → ℕ → ℕ
first_char w c = char_at w c (first_width_of w c)

-- the characters before place c, the nearest first, as far as `fuel` goes; c is fuel enough, since each takes a byte or more
unfoldable pub before_within : ℕ → List ℕ → ℕ → List ℕ
before_within zero w c = []
before_within (suc fuel) w zero = []
before_within (suc fuel) w (suc c) = last_char w (suc c) ∷ before_within fuel w (suc c - last_width_of w (suc c))

-- all of them
unfoldable pub before : List ℕ → ℕ → List ℕ
before w c = before_within c w c

-- the place n characters back from place c, or the word's start
unfoldable pub back : List ℕ → ℕ → ℕ → ℕ
back w c zero = c
back w c (suc n) = back w (c - last_width_of w c) n
