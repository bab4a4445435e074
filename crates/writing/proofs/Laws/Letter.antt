-- A letter's bytes are its code point's encoding, and they are one or two. Assumes nothing.
use Prim.Native.Nat.{ℕ, ◌+◌, ◌/◌, ◌%◌, ◌≤◌, ◌<◌}
use mathlib.Core.Path.{◌≡◌, refl}
use mathlib.Core.Bool.{Bool, true, false, cond}
use mathlib.Core.List.{[], ◌∷◌}
use native.Mathlib.Omega.{arith}
use lib.ListN.{length}
use lib.Dec.{ltb}
use borrow.Author.Tests.{lt-ltb, le-ltb}
use Rattle.encoding.specs.Encoding.{encode}
use Rattle.writing.specs.declared.letter.Letter.{Letter}
use Rattle.writing.specs.declared.letter.Letter.TheVariants.{One, Two}
use Rattle.writing.specs.Letter.{letter_of, bytes_of}

-- a letter of one byte, and one of two
pub letter_of-one : (ch : ℕ) → ch < 0x80 → One ch ≡ letter_of ch
unfolding letter_of
letter_of-one ch h = rw (lt-ltb ch 0x80 h)

pub letter_of-two : (ch : ℕ) → 0x80 ≤ ch → Two (0xC0 + ch / 0x40) (0x80 + ch % 0x40) ≡ letter_of ch
unfolding letter_of
letter_of-two ch h = rw (le-ltb ch 0x80 h)

-- its bytes are the encoding
pub letter_of-encode : (ch : ℕ) → ch < 0x800 → bytes_of (letter_of ch) ≡ encode ch
unfolding letter_of encode
letter_of-encode ch h = rw (lt-ltb ch 0x800 h) (go (ltb ch 0x80))
  where
    go : (t : Bool) → bytes_of (cond t (One ch) (Two (0xC0 + ch / 0x40) (0x80 + ch % 0x40)))
        ≡ cond t (ch ∷ []) ((0xC0 + ch / 0x40) ∷ (0x80 + ch % 0x40) ∷ [])
    go true = refl
    go false = refl

-- at most two
pub bytes_of-two : (l : Letter) → length (bytes_of l) ≤ 2
bytes_of-two (One a) = omega arith
bytes_of-two (Two a b) = omega arith
