-- A record with the characters before it, as the code holds it. Assumes nothing.
use Rattle.std.specs.Prelude.{ℕ, ◌≡◌, List, get_or}
use Rattle.utf8.specs.declared.cursor.Cursor.{Cursor}
use Rattle.utf8.specs.Behind.{behind, back_by, Open}
use Rattle.keys.specs.declared.seen.Seen.{Seen}
use Rattle.keys.specs.declared.seen.Three.{Three}

-- the three characters behind the record, 0 where there are fewer, and the places before them
abbrev pub three_at : List ℕ → Cursor → Three
three_at w c =
    record {
      one = (back_by w c 1).cursor;
      two = (back_by w c 2).cursor;
      three = (back_by w c 3).cursor;
      last = get_or (behind w c) 0 0;
      second = get_or (behind w c) 1 0;
      third = get_or (behind w c) 2 0;
    }

-- with the record that they stand behind
unfoldable pub seen_at : List ℕ → Cursor → Seen
seen_at w c = record { c = c; ending = three_at w c }

-- an open record with what is seen from it
pub record Sees (w : List ℕ) (s : Seen) : Type 0 where
  pub opens : Open w s.c
  pub is : s ≡ seen_at w s.c
