-- The fold as the code makes it: over the bytes of a word, a step of one or two bytes after another. Assumes nothing.
use Rattle.std.specs.Prelude.{ℕ, ◌+◌, Bool, true, cond, not, ◌&&◌, ◌||◌, List, [], ◌∷◌, ◌++◌, length, eqb, ltb, leb}
use Rattle.writing.specs.declared.letter.Letter.{Letter}
use Rattle.writing.specs.declared.letter.Letter.TheVariants.{One, Two}
use Rattle.writing.specs.Letter.{bytes_of}
use Rattle.folding.specs.declared.step.FoldStep.{FoldStep}

-- A to Z in small letters
unfoldable pub small_byte : ℕ → ℕ
small_byte b = cond (leb 0x41 b && leb b 0x5A) (b + 0x20) b

-- one byte: I becomes ı
unfoldable pub alone : ℕ → Letter
alone b = cond (eqb b 0x49) (Two 0xC4 0xB1) (One (small_byte b))

-- the second byte after the first byte a: that of Ç Ö Ü, of Ğ or of Ş
unfoldable pub second : ℕ → ℕ → ℕ
second a b =
    cond (eqb a 0xC3 && (eqb b 0x87 || eqb b 0x96 || eqb b 0x9C)) (b + 0x20)
    (cond (not (eqb a 0xC3) && eqb b 0x9E) (b + 1) b)

-- two bytes: İ becomes i
unfoldable pub pair : ℕ → ℕ → Letter
pair a b = cond (eqb a 0xC4 && eqb b 0xB0) (One 0x69) (Two a (second a b))

-- two are taken from the first byte of such letters on
unfoldable pub paired : ℕ → Bool
paired b = leb 0xC3 b && leb b 0xC5

-- a step that takes so many bytes and gives these
abbrev pub taking : ℕ → Letter → FoldStep
taking n g = record { taken = n; given = g }

-- the step at the front of some bytes
unfoldable pub fold_step : List ℕ → FoldStep
fold_step [] = taking 1 (alone 0)
fold_step (b ∷ []) = taking 1 (alone b)
fold_step (b ∷ c ∷ cs) = cond (paired b) (taking 2 (pair b c)) (taking 1 (alone b))

-- one step after another
unfoldable pub fold_bytes : List ℕ → List ℕ
fold_bytes [] = []
fold_bytes (b ∷ []) = bytes_of (alone b)
fold_bytes (b ∷ c ∷ cs) = cond (paired b) (bytes_of (pair b c) ++ fold_bytes cs) (bytes_of (alone b) ++ fold_bytes (c ∷ cs))

-- ASCII without I, of which each byte is folded where it stands
unfoldable pub plain : List ℕ → Bool
plain [] = true
plain (b ∷ bs) = ltb b 0x80 && not (eqb b 0x49) && plain bs

-- and long enough that the code tries it
unfoldable pub long_plain : List ℕ → Bool
long_plain w = not (ltb (length w) 16) && plain w
