-- Pieces that can be written: how many there are, and where they lie. Assumes nothing.
use Rattle.std.specs.Prelude.{ℕ, ◌+◌, ◌≤◌, ◌<◌, List, length, get_or}
use Rattle.turkish.specs.declared.endings.Piece.{Piece}
use Rattle.turkish.specs.declared.endings.Removed.{Removed}
use Rattle.turkish.specs.PieceCalls.{unused, most_pieces}
use Rattle.theorems.specs.PieceTerms.{most_bytes}

-- the i-th entry
unfoldable pub entry : Removed → ℕ → Piece
entry r i = get_or r.pieces i unused

-- no more than there are entries, each behind the kept text and not far from its end
pub record Near (r : Removed) : Type 0 where
  pub few : r.count ≤ most_pieces
  pub behind : (i : ℕ) → i < r.count → r.length ≤ (entry r i).first
  pub whole : (i : ℕ) → i < r.count → (entry r i).first ≤ (entry r i).last
  pub near : (i : ℕ) → i < r.count → (entry r i).last < r.length + most_bytes

-- no more than there are entries, each in the word
pub record Inside (w : List ℕ) (r : Removed) : Type 0 where
  pub few : r.count ≤ most_pieces
  pub whole : (i : ℕ) → i < r.count → (entry r i).first ≤ (entry r i).last
  pub within : (i : ℕ) → i < r.count → (entry r i).last < length w
