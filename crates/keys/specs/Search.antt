-- The key search over a record: back over one key, and over the first of a table that ends the text. Assumes nothing.
use Rattle.std.specs.Prelude.{ℕ, ◌+◌, Bool, cond, ◌&&◌, ◌||◌, List, [], ◌∷◌, length, eqb, Option, Some, None}
use Rattle.utf8.specs.declared.cursor.Cursor.{Cursor}
use Rattle.utf8.specs.Behind.{behind, back_by}
use Rattle.turkish.specs.Letters.{starts}
use Rattle.keys.specs.declared.among.Key.{Key}
use Rattle.keys.specs.declared.seen.Three.{Three}

-- back over one key, where it ends the text before the record
unfoldable pub over : List ℕ → Cursor → List ℕ → Option ℕ
over w c k = cond (starts k (behind w c)) (Some (back_by w c (length k)).cursor) None

-- back over the first of the keys that does, with its place from i on
unfoldable pub found_from : ℕ → List (List ℕ) → List ℕ → Cursor → Option Key
found_from i [] w c = None
found_from i (k ∷ ks) w c =
    cond (starts k (behind w c)) (Some (record { place = i; before = back_by w c (length k) })) (found_from (i + 1) ks w c)

unfoldable pub found : List (List ℕ) → List ℕ → Cursor → Option Key
found ks w c = found_from 0 ks w c

-- the last three letters of a key, 0 behind a shorter one, are those seen
unfoldable pub ends_in_of : Three → ℕ → ℕ → ℕ → Bool
ends_in_of s a b d = eqb a 0 || (eqb a s.last && (eqb b 0 || (eqb b s.second && (eqb d 0 || eqb d s.third))))
