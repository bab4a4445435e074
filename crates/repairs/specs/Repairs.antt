-- The postlude as the code gives it: how many of a word's bytes stay, and the character after them. Assumes nothing.
use Rattle.std.specs.Prelude.{ℕ, ◌-◌, Bool, true, false, cond, List, [], ◌∷◌, ◌++◌, take, eqb, Option, Some, None}
use Rattle.utf8.specs.declared.cursor.Cursor.{Cursor}
use Rattle.utf8.specs.Characters.{last_width_of, before}
use Rattle.turkish.specs.Letters.{text, has}
use Rattle.turkish.specs.Vowels.{last_vowel_of}
use Rattle.theorems.specs.Simple.Postlude.{reserved, gained, hard}
use Rattle.writing.specs.declared.letter.Letter.{Letter}
use Rattle.writing.specs.Letter.{letter_of, bytes_of}
use Rattle.repairs.specs.declared.postlude.Repair.{Repair}

-- the record at place n that has all before it
unfoldable pub ending : ℕ → Cursor
ending n = record { cursor = n; limit = n; limit_backward = 0 }

-- the bytes of a letter, if there is one
abbrev pub letter_bytes : Option Letter → List ℕ
letter_bytes None = []
letter_bytes (Some l) = bytes_of l

-- the text of a repair of w
unfoldable pub repair_text : List ℕ → Repair → List ℕ
repair_text w r = take r.keep w ++ letter_bytes r.letter

-- nothing follows the first n bytes
unfoldable pub unchanged : ℕ → Bool → Repair
unchanged n answer = record { keep = n; letter = None; yes = answer }

-- the character v, below U+0800, follows the first `keep` bytes
unfoldable pub followed : ℕ → ℕ → Repair
followed keep v = record { keep = keep; letter = Some (letter_of v); yes = true }

-- a vowel gained, as the code gives it: none where it is 0
unfoldable pub gain : ℕ → Option ℕ
gain v = cond (eqb v 0) None (Some v)

-- the vowel that the characters gain, 0 where they gain none
unfoldable pub appended : List ℕ → ℕ
appended [] = 0
appended (c ∷ cs) = cond (has (text "dg") c) (gained (last_vowel_of cs)) 0

-- the last of the characters hardened, in a word whose first n bytes they are
unfoldable pub hardened : List ℕ → ℕ → List ℕ → Repair
hardened w n [] = unchanged n true
hardened w n (c ∷ cs) = cond (eqb (hard c) c) (unchanged n true) (followed (n - last_width_of w n) (hard c))

-- the postlude of a word's first n bytes
unfoldable pub repair_of : List ℕ → ℕ → Repair
repair_of w n =
    cond (reserved (before w n)) (unchanged n false)
    (cond (eqb (appended (before w n)) 0) (hardened w n (before w n)) (followed n (appended (before w n))))
