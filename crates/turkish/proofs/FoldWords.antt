-- Headings with their folded texts (document 02, request 2), as one table, proved over the definitions that the fold's contract cites.
-- Assumes nothing.
use Prim.Native.Nat.{ℕ, ◌+◌, ◌-◌}
use Prim.Native.String.{String}
use mathlib.Core.Path.{◌≡◌, refl}
use mathlib.Core.List.{List, [], ◌∷◌, ◌++◌, map}
use lib.ListN.{length, replicate}
use Rattle.encoding.specs.Encoding.{encode, encode_all, decode, continuation}
use Rattle.encoding.specs.Validity.{table37, due, refused, lead_in, lead, next, accepts, is_text}
use Rattle.utf8.specs.Characters.{width, goes_on_of, last_width_of, char_at, last_char, before_within, before}
use Rattle.turkish.specs.declared.answer.LengthAnswer.{LengthAnswer}
use Rattle.turkish.specs.Letters.{text}
use Rattle.turkish.specs.Fold.{capitals01, capitals, fold_by, fold_char, fold}
use Rattle.turkish.specs.Calls.{chars, bytes, limit, refusal, refusal_short_of, accepted, written, fold_text, fold_refusal, fold_call, fold_out}
use Rattle.turkish.proofs.Starred.{word}

-- a heading and its folded text
pub record Row : Type 0 where
  pub heading : String
  pub small : String

abbrev row : String → String → Row
row h s = record { heading = h; small = s }

-- what a call leaves: its answer and its output
pub record Given : Type 0 where
  pub answer : LengthAnswer
  pub output : List ℕ

-- the fold of a heading into an output of `room` bytes, here stars
unfoldable pub into : ℕ → Row → Given
into room r = record { answer = fold_call (word r.heading) room; output = fold_out (word r.heading) (replicate room 0x2A) }

-- into one byte more than the folded text has, which stays
unfoldable pub longer : Row → Given
longer r = into (length (word r.small) + 1) r

-- the text, its length, and the last star
unfoldable pub filled : Row → Given
filled r = record { answer = record { refusal = 0; length = length (word r.small) }; output = word r.small ++ (0x2A ∷ []) }

-- into one byte less, all of which stay
unfoldable pub shorter : Row → Given
shorter r = into (length (word r.small) - 1) r

-- number 3, and the stars
unfoldable pub refused3 : Row → Given
refused3 r = record { answer = record { refusal = 3; length = 0 }; output = replicate (length (word r.small) - 1) 0x2A }

-- headings; the ninth is I with a dot above it as a character of its own, which is copied
unfoldable pub table : List Row
table =
    row "IŞIK" "ışık"
    ∷ row "ISIRGAN" "ısırgan"
    ∷ row "İSTANBUL" "istanbul"
    ∷ row "DİYARBAKIR" "diyarbakır"
    ∷ row "GÖZLÜKÇÜLER" "gözlükçüler"
    ∷ row "AĞAÇ" "ağaç"
    ∷ row "I" "ı"
    ∷ row "İ" "i"
    ∷ row "İ" "ı̇"
    ∷ row "Iİıi-JÂÉ@[" "ıiıi-jÂÉ@["
    ∷ []

-- each row folds so, and is refused so
abbrev pub Folded : List Row → Type 0
Folded rows = (map longer rows ≡ map filled rows) × (map shorter rows ≡ map refused3 rows)

-- every heading of the table, computed from the definitions
pub words-met : Folded table
unfolding table longer filled shorter refused3 into word
    fold_call fold_out fold_refusal fold_text refusal_short_of accepted refusal limit written chars bytes fold fold_char fold_by capitals capitals01
    encode_all encode decode is_text accepts next lead lead_in table37 due refused before before_within last_char char_at last_width_of width goes_on_of continuation text
words-met = (refl, refl)
