-- What stands before a cursor, down to limit_backward, nothing before which is looked at: its characters, the record some characters
-- back, and the record after a deletion. Assumes nothing.
use Rattle.std.specs.Prelude.{ℕ, ◌+◌, ◌-◌, ◌≡◌, Bool, true, not, ◌||◌, List, drop, get_or, eqb}
use Rattle.utf8.specs.declared.cursor.Cursor.{Cursor}
use Rattle.utf8.specs.declared.characters.Read.{Read}
use Rattle.encoding.specs.Encoding.{continuation}
use Rattle.utf8.specs.Characters.{before, back}
use Rattle.utf8.specs.Steps.{stands, move_to}

-- the character that ends at place c, 0 where none does, and the place where it begins
unfoldable pub read_back_of : List ℕ → ℕ → Read
read_back_of w c = record { ch = get_or (before w c) 0 0; at = back w c 1 }

-- the characters before the cursor, the nearest first
unfoldable pub behind : List ℕ → Cursor → List ℕ
behind w r = before (drop r.limit_backward w) (r.cursor - r.limit_backward)

-- the record n characters back, or as far back as limit_backward lets it
unfoldable pub back_by : List ℕ → Cursor → ℕ → Cursor
back_by w r n = move_to r (r.limit_backward + back (drop r.limit_backward w) (r.cursor - r.limit_backward) n)

-- the record after all from the cursor on is deleted (`slice_del`, at an end): the limit comes down to the cursor
unfoldable pub deleted : Cursor → Cursor
deleted r = record { cursor = r.cursor; limit = r.cursor; limit_backward = r.limit_backward }

-- limit_backward stands between characters: at the word's start, or where no byte goes on
unfoldable pub edged : List ℕ → Cursor → Bool
edged w r = eqb r.limit_backward 0 || not (continuation (get_or w r.limit_backward 0))

-- a record that lies within the word, its limit_backward between characters
pub record Open (w : List ℕ) (r : Cursor) : Type 0 where
  pub within : stands w r ≡ true
  pub whole : edged w r ≡ true
