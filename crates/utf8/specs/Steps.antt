-- The steps of a cursor (snowball_env.rs: `previous_char`, `next_char`, `eq_s_b`, `eq_s`), by value: the record after the step, with the
-- character passed where it is a step of one. There is none at the step's edge, where its literal does not stand, and on a record
-- that lies outside the word; the caller's own record is as it was then. Assumes nothing.
use Rattle.std.specs.Prelude.{ℕ, ◌+◌, ◌-◌, Bool, true, false, cond, ◌&&◌, List, [], ◌∷◌, length, take, drop, leb, ltb, eqb, Some, None}
use Rattle.std.specs.declared.option.Option.{Option}
use Rattle.utf8.specs.declared.cursor.Cursor.{Cursor}
use Rattle.utf8.specs.declared.step.Step.{Step}
use Rattle.utf8.specs.Characters.{last_width_of, last_char, first_width_of, first_char}

-- the record lies within the word: limit_backward, cursor, limit, the word's end
unfoldable pub stands : List ℕ → Cursor → Bool
stands w r = leb r.limit_backward r.cursor && leb r.cursor r.limit && leb r.limit (length w)

-- the record with its cursor elsewhere
unfoldable pub move_to : Cursor → ℕ → Cursor
move_to r c = record { cursor = c; limit = r.limit; limit_backward = r.limit_backward }

-- one character back, unless limit_backward comes first
unfoldable pub previous_char_of : List ℕ → Cursor → Option Step
previous_char_of w r =
    cond (stands w r && leb (r.limit_backward + last_width_of w r.cursor) r.cursor)
    (Some (record { ch = last_char w r.cursor; next = move_to r (r.cursor - last_width_of w r.cursor) }))
    None

-- one character on, unless limit comes first
unfoldable pub next_char_of : List ℕ → Cursor → Option Step
next_char_of w r =
    cond (stands w r && leb (r.cursor + first_width_of w r.cursor) r.limit)
    (Some (record { ch = first_char w r.cursor; next = move_to r (r.cursor + first_width_of w r.cursor) }))
    None

-- two lists of bytes are equal
unfoldable pub same : List ℕ → List ℕ → Bool
same [] [] = true
same [] (y ∷ ys) = false
same (x ∷ xs) [] = false
same (x ∷ xs) (y ∷ ys) = eqb x y && same xs ys

-- the bytes s stand at place i
unfoldable pub stands_at_of : List ℕ → ℕ → List ℕ → Bool
stands_at_of w i s = same (take (length s) (drop i w)) s

-- back past the literal s, where it stands before the cursor and does not begin before limit_backward
unfoldable pub eq_s_b_of : List ℕ → List ℕ → Cursor → Option Cursor
eq_s_b_of w s r =
    cond (stands w r && leb (r.limit_backward + length s) r.cursor && stands_at_of w (r.cursor - length s) s)
    (Some (move_to r (r.cursor - length s)))
    None

-- on past the literal s, where the cursor is below limit and s stands there and does not end past limit
unfoldable pub eq_s_of : List ℕ → List ℕ → Cursor → Option Cursor
eq_s_of w s r =
    cond (stands w r && ltb r.cursor r.limit && leb (r.cursor + length s) r.limit && stands_at_of w r.cursor s)
    (Some (move_to r (r.cursor + length s)))
    None
