-- A letter of one byte or two in UTF-8. Assumes nothing.
use Rattle.std.specs.Prelude.{ℕ, ◌+◌, ◌/◌, ◌%◌, cond, List, [], ◌∷◌, ltb}
use Rattle.writing.specs.declared.letter.Letter.{Letter}
use Rattle.writing.specs.declared.letter.Letter.TheVariants.{One, Two}

-- the letter that a code point below U+0800 is
unfoldable pub letter_of : ℕ → Letter
letter_of ch = cond (ltb ch 0x80) (One ch) (Two (0xC0 + ch / 0x40) (0x80 + ch % 0x40))

-- its bytes
abbrev pub bytes_of : Letter → List ℕ
bytes_of (One a) = a ∷ []
bytes_of (Two a b) = a ∷ b ∷ []
