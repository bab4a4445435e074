-- What the calls on pieces give for a word of bytes, refused calls included (document 02, request 1). The contracts cite these.
-- Assumes nothing.
use Rattle.std.specs.Prelude.{ℕ, ◌+◌, ◌-◌, ◌≡◌, cond, length, take, drop, eqb}
use mathlib.Core.List.{List, [], ◌∷◌, ◌++◌, map, Permᴰ}
use Rattle.turkish.specs.declared.answer.PiecesAnswer.{PiecesAnswer}
use Rattle.turkish.specs.declared.answer.LengthAnswer.{LengthAnswer}
use Rattle.turkish.specs.declared.endings.Joining.{Joining}
use Rattle.turkish.specs.declared.endings.Joining.TheVariants.{WithY, AfterVowel}
use Rattle.turkish.specs.declared.endings.Kind.{Kind}
use Rattle.turkish.specs.declared.endings.Kind.TheVariants.{YUm, SUn, YUz, SUnUz, LAr, NUz, DUr, CAsInA, YDU, YsA, YmUs, Yken}
use Rattle.turkish.specs.declared.endings.Piece.{Piece}
use Rattle.turkish.specs.Letters.{tab, lf}
use Rattle.turkish.specs.Pieces.{Joined, alone, with_y, after_vowel, Kept, kind_name, kept_marks}
use Rattle.turkish.specs.Calls.{chars, offset, refusal_short_of, written, stage_text}

-- ---- the pieces of a word of bytes ----

-- a piece: its kind, how it joined, and the offsets of its first and its last byte in the word
pub record Span : Type 0 where
  pub kind : ℕ
  pub joined : Joined
  pub first : ℕ
  pub last : ℕ

unfoldable pub span_of : List ℕ → Kept → Span
span_of w k = record { kind = k.kind; joined = k.joined; first = offset w k.to; last = offset w k.from - 1 }

-- one for each mark that the suffix stage keeps, in order of running
unfoldable pub spans_of : List ℕ → List Span
spans_of w = map (span_of w) (kept_marks (chars w))

-- a piece's own bytes, with the y that joined it
unfoldable pub letters_of : List ℕ → Span → List ℕ
letters_of w p = take (p.last + 1 - p.first) (drop p.first w)

-- ---- the order is free ----

-- In which order the pieces stand the papers leave open. What holds in every order: they are those of the word, rearranged, and their
-- form is what was written. That they lie end to end, and that in every order each byte removed is in one of them, are theorems.
pub record InSomeOrder (form : List Span → List ℕ) (ps : List Span) (before after : List ℕ) : Type 0 where
  pub order : List Span
  pub rearranged : Permᴰ ps order
  pub holds : after ≡ written (form order) before

-- ---- refusals ----

-- the host program: 5 where the buffer is shorter than the call needs
unfoldable pub piece_refusal : List ℕ → ℕ → ℕ → ℕ
piece_refusal w need room = refusal_short_of 5 w need room

-- the pieces that a call gives: none where it is refused
unfoldable pub given : List ℕ → ℕ → List Span
given w refused = cond (eqb refused 0) (spans_of w) []

-- ---- for Rattle callers ----

-- the number of a kind, and how the piece joined
unfoldable pub joined_of : Joining → Joined
joined_of WithY = with_y
joined_of AfterVowel = after_vowel

unfoldable pub kind_number : Kind → ℕ
kind_number (YUm j) = 1
kind_number SUn = 2
kind_number (YUz j) = 3
kind_number SUnUz = 4
kind_number LAr = 5
kind_number NUz = 6
kind_number DUr = 7
kind_number CAsInA = 8
kind_number (YDU j) = 9
kind_number (YsA j) = 10
kind_number (YmUs j) = 11
kind_number (Yken j) = 12

unfoldable pub kind_joined : Kind → Joined
kind_joined (YUm j) = joined_of j
kind_joined SUn = alone
kind_joined (YUz j) = joined_of j
kind_joined SUnUz = alone
kind_joined LAr = alone
kind_joined NUz = alone
kind_joined DUr = alone
kind_joined CAsInA = alone
kind_joined (YDU j) = joined_of j
kind_joined (YsA j) = joined_of j
kind_joined (YmUs j) = joined_of j
kind_joined (Yken j) = joined_of j

unfoldable pub told : Piece → Span
told p = record { kind = kind_number p.kind; joined = kind_joined p.kind; first = p.first; last = p.last }

-- an entry that is not used
unfoldable pub unused : Piece
unused = record { kind = YUm WithY; first = 0; last = 0 }

-- the entries that the list of pieces has
unfoldable pub most_pieces : ℕ
most_pieces = 3

-- so many entries are a word's pieces in some order, and the others are not used
pub record Lists (ps : List Span) (count : ℕ) (entries : List Piece) : Type 0 where
  pub counted : count ≡ length ps
  pub rearranged : Permᴰ ps (map told (take count entries))
  pub others : drop count entries ≡ map (λ (p : Piece). unused) (drop count entries)

-- ---- the buffer of 9 bytes ----

unfoldable pub pieces_room : ℕ
pieces_room = 9

-- three bytes each: the kind, then the distances of both offsets from the kept text's end
unfoldable pub buffer : ℕ → List Span → List ℕ
buffer kept [] = []
buffer kept (p ∷ ps) = p.kind ∷ (p.first - kept) ∷ (p.last - kept) ∷ buffer kept ps

unfoldable pub buffer_of : List ℕ → List Span → List ℕ
buffer_of w ps = buffer (length (stage_text w)) ps

unfoldable pub pieces_refusal : List ℕ → ℕ → ℕ
pieces_refusal w room = piece_refusal w pieces_room room

unfoldable pub pieces_call : List ℕ → ℕ → PiecesAnswer
pieces_call w room =
    cond (eqb (pieces_refusal w room) 0)
    (record { refusal = 0; length = length (stage_text w); count = length (spans_of w) })
    (record { refusal = pieces_refusal w room; length = 0; count = 0 })

-- the buffer after the call
pub record PiecesOut (w before after : List ℕ) : Type 0 where
  pub pieces : InSomeOrder (buffer_of w) (given w (pieces_refusal w (length before))) before after

-- ---- the text form, to a buffer of 96 bytes ----

unfoldable pub text_room : ℕ
text_room = 96

-- a line for each: kind name, tab, letters, LF
unfoldable pub piece_line : List ℕ → Span → List ℕ
piece_line w p = kind_name p.kind ++ (tab ∷ (letters_of w p ++ (lf ∷ [])))

unfoldable pub text_of : List ℕ → List Span → List ℕ
text_of w [] = []
text_of w (p ∷ ps) = piece_line w p ++ text_of w ps

unfoldable pub pieces_text_refusal : List ℕ → ℕ → ℕ
pieces_text_refusal w room = piece_refusal w text_room room

unfoldable pub pieces_text_call : List ℕ → ℕ → LengthAnswer
pieces_text_call w room =
    cond (eqb (pieces_text_refusal w room) 0)
    (record { refusal = 0; length = length (text_of w (spans_of w)) })
    (record { refusal = pieces_text_refusal w room; length = 0 })

-- the buffer after the call
pub record PiecesTextOut (w before after : List ℕ) : Type 0 where
  pub lines : InSomeOrder (text_of w) (given w (pieces_text_refusal w (length before))) before after
