-- A step's answer as plain numbers, a cursor record of three, and the list of a removed ending's pieces. Assumes nothing.
use Rattle.std.specs.Prelude.{ℕ, ◌≡◌, Bool, true, false, List, map, Some, None}
use Rattle.std.specs.declared.option.Option.{Option}
use Rattle.utf8.specs.declared.cursor.Cursor.{Cursor}
use Rattle.utf8.specs.declared.step.Step.{Step}
use Rattle.turkish.specs.declared.endings.Piece.{Piece}
use Rattle.turkish.specs.declared.endings.Removed.{Removed}
use Rattle.turkish.specs.Pieces.{Joined, alone, with_y, after_vowel}
use Rattle.turkish.specs.Calls.{refusal, stage_call}
use Rattle.turkish.specs.PieceCalls.{Span, given, told, Lists}
use Rattle.probe.specs.declared.ProbeStep.{ProbeStep}
use Rattle.probe.specs.declared.ProbeRemoved.{ProbeRemoved}

-- ---- the cursor's steps ----

abbrev pub cursor_from : ℕ → ℕ → ℕ → Cursor
cursor_from c l b = record { cursor = c; limit = l; limit_backward = b }

-- a record after a step, whether it moved and the character passed
abbrev pub flat_of : Bool → ℕ → Cursor → ProbeStep
flat_of moved ch n = record { moved = moved; ch = ch; cursor = n.cursor; limit = n.limit; limit_backward = n.limit_backward }

-- a step of one character from the record r; where there is none, ch is 0 and the record r itself
abbrev pub flat_step_of : Cursor → Option Step → ProbeStep
flat_step_of r None = flat_of false 0 r
flat_step_of r (Some s) = flat_of true s.ch s.next

-- a step over a literal; ch is 0
abbrev pub flat_literal_of : Cursor → Option Cursor → ProbeStep
flat_literal_of r None = flat_of false 0 r
flat_literal_of r (Some n) = flat_of true 0 n

-- ---- the list of pieces ----

-- how a piece joined, by number
unfoldable pub joined_number : Joined → ℕ
joined_number alone = 0
joined_number with_y = 1
joined_number after_vowel = 2

-- one number of each entry, as the promise to Rattle callers reads it
unfoldable pub column : (Span → ℕ) → List Piece → List ℕ
column f ps = map (λ (p : Piece). f (told p)) ps

-- a list of pieces: a column for each number of an entry
unfoldable pub flat_removed_of : Removed → ProbeRemoved
flat_removed_of r =
    record {
      refusal = 0;
      length = r.length;
      count = r.count;
      kinds = column (λ p. p.kind) r.pieces;
      joinings = column (λ p. joined_number p.joined) r.pieces;
      first = column (λ p. p.first) r.pieces;
      last = column (λ p. p.last) r.pieces;
    }

-- the same with a refusal's number
abbrev pub numbered : ℕ → ProbeRemoved → ProbeRemoved
numbered n p =
    record { refusal = n; length = p.length; count = p.count; kinds = p.kinds; joinings = p.joinings; first = p.first; last = p.last }

-- an answer is some list laid out flat, with the word's number; of the list the promise to Rattle callers holds, and a refused word's has no pieces
pub record FlatList (w : List ℕ) (r : ProbeRemoved) : Type 0 where
  pub list : Removed
  pub kept : list.length ≡ (stage_call w).length
  pub lists : Lists (given w (refusal w)) list.count list.pieces
  pub flat : r ≡ numbered (refusal w) (flat_removed_of list)
