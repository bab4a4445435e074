-- The steps' answers, by the tests that decide them. Assumes nothing.
use Prim.Native.Nat.{ℕ, suc, ◌+◌, ◌-◌, ◌≤◌, ◌<◌}
use mathlib.Core.Path.{◌≡◌, refl, sym, ap, ◌∙◌}
use mathlib.Core.Bool.{Bool, true, false, cond, ◌&&◌}
use mathlib.Core.List.{List, [], ◌∷◌}
use native.Mathlib.Numerals.{add-one}
use native.Mathlib.Omega.{arith}
use lib.ListN.{length, take, drop, get_or, length-take, length-drop}
use lib.Seq.{drop-drop, length-take-le}
use lib.Dec.{leb, ltb, eqb}
use borrow.Author.Tests.{leb-true, le-leb, lt-leb, lt-ltb, le-ltb}
use Rattle.std.specs.Prelude.{Some, None}
use Rattle.std.specs.declared.option.Option.{Option}
use Rattle.std.specs.List.{starts_with, ends_with}
use Rattle.std.specs.Cmp.Lexicographic.{pointwise, unequal}
use Rattle.std.proofs.lemmas.Cmp.{nat_list_eq_equiv}
use Rattle.std.proofs.lemmas.List.{take-take, drop-take}
use Rattle.std.proofs.lemmas.Option.{cond_some}
use Rattle.utf8.specs.declared.cursor.Cursor.{Cursor}
use Rattle.utf8.specs.declared.step.Step.{Step}
use Rattle.utf8.specs.Characters.{last_width_of, last_char, first_width_of, first_char, char_at}
use Rattle.utf8.specs.Steps.{stands, move_to, previous_char_of, next_char_of, same, stands_at_of, eq_s_b_of, eq_s_of}
use Rattle.utf8.proofs.Laws.CharAt.{take-drop-cons}
use Rattle.encoding.proofs.Laws.Booleans.{and_left, and_right, and-each, and-false, lt-or-le}

-- ---- stands ----

-- what it says of a record that it lies within the word
pub record Within (w : List ℕ) (r : Cursor) : Type 0 where
  pub low : r.limit_backward ≤ r.cursor
  pub high : r.cursor ≤ r.limit
  pub end : r.limit ≤ length w

-- a record within the word has its places in order
pub stands-within : (w : List ℕ) (r : Cursor) → stands w r ≡ true → Within w r
unfolding stands
stands-within w r e =
    let l : Bool = leb r.limit_backward r.cursor in
    let h : Bool = leb r.cursor r.limit in
    record {
      low = leb-true _ _ (and_left l h (and_left (l && h) (leb r.limit (length w)) e));
      high = leb-true _ _ (and_right l h (and_left (l && h) (leb r.limit (length w)) e));
      end = leb-true _ _ (and_right (l && h) (leb r.limit (length w)) e);
    }

-- a cursor below limit_backward is not within
pub stands-low : (w : List ℕ) (r : Cursor) → r.cursor < r.limit_backward → stands w r ≡ false
unfolding stands
stands-low w r h = rw (lt-leb r.limit_backward r.cursor h)

-- nor is one past limit
pub stands-high : (w : List ℕ) (r : Cursor) → r.limit < r.cursor → stands w r ≡ false
unfolding stands
stands-high w r h = rw (lt-leb r.cursor r.limit h, and-false (leb r.limit_backward r.cursor))

-- with both in order, limit decides
pub stands-end : (w : List ℕ) (r : Cursor) → r.limit_backward ≤ r.cursor → r.cursor ≤ r.limit → stands w r ≡ leb r.limit (length w)
unfolding stands
stands-end w r l h = rw (le-leb r.limit_backward r.cursor l, le-leb r.cursor r.limit h)

-- a record whose places are in order lies within the word
pub stands-ordered : (w : List ℕ) (r : Cursor) → r.limit_backward ≤ r.cursor → r.cursor ≤ r.limit → r.limit ≤ length w → stands w r ≡ true
unfolding stands
stands-ordered w r h k l = rw (le-leb r.limit_backward r.cursor h, le-leb r.cursor r.limit k, le-leb r.limit (length w) l)

-- ---- previous_char_of ----

-- there is none on a record outside the word
pub previous_char_of-out : (w : List ℕ) (r : Cursor) → stands w r ≡ false → previous_char_of w r ≡ None
unfolding previous_char_of
previous_char_of-out w r e = rw e

-- nor where limit_backward comes before the character
pub previous_char_of-stays : (w : List ℕ) (r : Cursor) → r.cursor < r.limit_backward + last_width_of w r.cursor → previous_char_of w r ≡ None
unfolding previous_char_of
previous_char_of-stays w r h = rw (lt-leb (r.limit_backward + last_width_of w r.cursor) r.cursor h, and-false (stands w r))

-- any other is one by the character that ends at the cursor
pub previous_char_of-moves : (w : List ℕ) (r : Cursor) → stands w r ≡ true → r.limit_backward + last_width_of w r.cursor ≤ r.cursor
    → previous_char_of w r ≡ Some (record { ch = last_char w r.cursor; next = move_to r (r.cursor - last_width_of w r.cursor) })
unfolding previous_char_of
previous_char_of-moves w r e h = rw (e, le-leb (r.limit_backward + last_width_of w r.cursor) r.cursor h)

-- ---- next_char_of ----

-- there is none on a record outside the word
pub next_char_of-out : (w : List ℕ) (r : Cursor) → stands w r ≡ false → next_char_of w r ≡ None
unfolding next_char_of
next_char_of-out w r e = rw e

-- nor where limit comes before the end of the character
pub next_char_of-stays : (w : List ℕ) (r : Cursor) → r.limit < r.cursor + first_width_of w r.cursor → next_char_of w r ≡ None
unfolding next_char_of
next_char_of-stays w r h = rw (lt-leb (r.cursor + first_width_of w r.cursor) r.limit h, and-false (stands w r))

-- any other is one by the character that begins at the cursor
pub next_char_of-moves : (w : List ℕ) (r : Cursor) → stands w r ≡ true → r.cursor + first_width_of w r.cursor ≤ r.limit
    → next_char_of w r ≡ Some (record { ch = first_char w r.cursor; next = move_to r (r.cursor + first_width_of w r.cursor) })
unfolding next_char_of
next_char_of-moves w r e h = rw (e, le-leb (r.cursor + first_width_of w r.cursor) r.limit h)

-- ---- stands_at_of ----

-- one byte of the literal, and the rest of it one place on
pub stands_at_of-cons : (w : List ℕ) (j b : ℕ) (s : List ℕ) → j < length w → stands_at_of w j (b ∷ s) ≡ eqb (get_or w j 0) b && stands_at_of w (suc j) s
unfolding stands_at_of same
stands_at_of-cons w j b s h = rw (take-drop-cons w j (length s) h, add-one j)

-- the comparison that a slice's own methods make is this one
pub pointwise-same : (s t : List ℕ) → pointwise eqb s t ≡ same s t
unfolding same
pointwise-same [] [] = refl
pointwise-same [] (y ∷ t) = refl
pointwise-same (x ∷ s) [] = refl
pointwise-same (x ∷ s) (y ∷ t) = rw (pointwise-same s t)

-- and may be made either way round
pointwise-swap : (s t : List ℕ) → pointwise eqb s t ≡ same t s
pointwise-swap s t = nat_list_eq_equiv.symm s t ∙ pointwise-same t s

module _ (w s : List ℕ) (i j : ℕ) (h : i ≤ j) (k : j ≤ length w) where
  -- the bytes from place i to place j, as the code slices them
  abbrev part : List ℕ
  part = take (j - i) (drop i w)

  -- are so many
  length-part : length part ≡ j - i
  length-part = length-take-le (j - i) (drop i w) (omega (arith, length-drop i w))

  -- `starts_with` asks whether the literal stands at place i and ends by j
  pub starts-stands : starts_with eqb part s ≡ leb (i + length s) j && stands_at_of w i s
  unfolding stands_at_of
  starts-stands = lt-or-le j (i + length s)
      (λ l. unequal eqb s (take (length s) part) (λ e. omega (arith, length-part, length-take (length s) part, e)) ∙ rw (lt-leb (i + length s) j l))
      (λ l. pointwise-swap s (take (length s) part) ∙ rw (le-leb (i + length s) j l, take-take (length s) (j - i) (drop i w) (omega arith)))

  -- and `ends_with` whether it ends at place j and stands from i on
  pub ends-stands : ends_with eqb part s ≡ leb (i + length s) j && stands_at_of w (j - length s) s
  unfolding stands_at_of
  ends-stands = lt-or-le j (i + length s)
      (λ l. unequal eqb s (drop (length part - length s) part) (λ e. omega (arith, length-part, length-drop (length part - length s) part, e))
      ∙ rw (lt-leb (i + length s) j l))
      (λ l.
      let d : ℕ = j - i - length s in
      let more : j - i ≡ d + length s = omega arith in
      let place : i + d ≡ j - length s = omega arith in
      let cut : drop d part ≡ take (length s) (drop (j - length s) w) =
      ap (λ m. drop d (take m (drop i w))) more ∙ drop-take d (length s) (drop i w) ∙ rw (drop-drop d i w, place) in
      pointwise-swap s (drop (length part - length s) part) ∙ rw (le-leb (i + length s) j l, length-part, cut))

-- ---- eq_s_b_of ----

-- there is none on a record outside the word
pub eq_s_b_of-out : (w s : List ℕ) (r : Cursor) → stands w r ≡ false → eq_s_b_of w s r ≡ None
unfolding eq_s_b_of
eq_s_b_of-out w s r e = rw e

-- on a record within the word the bytes between limit_backward and the cursor decide
pub eq_s_b_of-sliced : (w s : List ℕ) (r : Cursor) → stands w r ≡ true
    → eq_s_b_of w s r ≡ cond (ends_with eqb (take (r.cursor - r.limit_backward) (drop r.limit_backward w)) s) (Some (move_to r (r.cursor - length s))) None
unfolding eq_s_b_of
eq_s_b_of-sliced w s r e =
    let h = stands-within w r e in
    rw (e, ends-stands w s r.limit_backward r.cursor h.low (omega (arith, h.high, h.end)))

-- there it is passed where limit_backward leaves room and it stands
pub eq_s_b_of-moves : (w s : List ℕ) (r : Cursor) → stands w r ≡ true → r.limit_backward + length s ≤ r.cursor
    → stands_at_of w (r.cursor - length s) s ≡ true → eq_s_b_of w s r ≡ Some (move_to r (r.cursor - length s))
unfolding eq_s_b_of
eq_s_b_of-moves w s r e h f = rw (e, le-leb (r.limit_backward + length s) r.cursor h, f)

-- a literal for which limit_backward leaves room lies within the word
pub within-back : (w s : List ℕ) (r : Cursor) → stands w r ≡ true → length s ≤ r.cursor - r.limit_backward → r.cursor - length s + length s ≤ length w
within-back w s r e h =
    let i = stands-within w r e in
    let low = i.low in
    let high = i.high in
    let end = i.end in
    omega arith

-- what is known where a literal was passed back: the record moved by it and no further than limit_backward, and it stood before the cursor
pub record MovedBack (w s : List ℕ) (r n : Cursor) : Type 0 where
  pub lands : n ≡ move_to r (r.cursor - length s)
  pub within : Within w r
  pub room : r.limit_backward + length s ≤ r.cursor
  pub equal : stands_at_of w (r.cursor - length s) s ≡ true

-- a literal that was passed back tells all of it
pub eq_s_b_of-moved : (w s : List ℕ) (r n : Cursor) → eq_s_b_of w s r ≡ Some n → MovedBack w s r n
unfolding eq_s_b_of
eq_s_b_of-moved w s r n e =
    let room : Bool = leb (r.limit_backward + length s) r.cursor in
    let equal : Bool = stands_at_of w (r.cursor - length s) s in
    let moved = cond_some (stands w r && room && equal) (move_to r (r.cursor - length s)) n e in
    let tests = and-each (stands w r) room equal moved.0 in
    record {
      lands = sym moved.1;
      within = stands-within w r tests.0;
      room = leb-true (r.limit_backward + length s) r.cursor tests.1;
      equal = tests.2;
    }

-- ---- eq_s_of ----

-- there is none on a record outside the word
pub eq_s_of-out : (w s : List ℕ) (r : Cursor) → stands w r ≡ false → eq_s_of w s r ≡ None
unfolding eq_s_of
eq_s_of-out w s r e = rw e

-- nor at limit
pub eq_s_of-edge : (w s : List ℕ) (r : Cursor) → r.limit ≤ r.cursor → eq_s_of w s r ≡ None
unfolding eq_s_of
eq_s_of-edge w s r h = rw (le-ltb r.cursor r.limit h, and-false (stands w r))

-- on a record within the word, and below limit, the bytes between the cursor and limit decide
pub eq_s_of-sliced : (w s : List ℕ) (r : Cursor) → stands w r ≡ true → r.cursor < r.limit
    → eq_s_of w s r ≡ cond (starts_with eqb (take (r.limit - r.cursor) (drop r.cursor w)) s) (Some (move_to r (r.cursor + length s))) None
unfolding eq_s_of
eq_s_of-sliced w s r e l =
    let h = stands-within w r e in
    rw (e, lt-ltb r.cursor r.limit l, starts-stands w s r.cursor r.limit h.high h.end)

-- there it is passed where limit leaves room and it stands
pub eq_s_of-moves : (w s : List ℕ) (r : Cursor) → stands w r ≡ true → r.cursor < r.limit → r.cursor + length s ≤ r.limit
    → stands_at_of w r.cursor s ≡ true → eq_s_of w s r ≡ Some (move_to r (r.cursor + length s))
unfolding eq_s_of
eq_s_of-moves w s r e l h f = rw (e, lt-ltb r.cursor r.limit l, le-leb (r.cursor + length s) r.limit h, f)

-- a literal for which limit leaves room lies within the word
pub within_on : (w s : List ℕ) (r : Cursor) → stands w r ≡ true → length s ≤ r.limit - r.cursor → r.cursor + length s ≤ length w
within_on w s r e h =
    let i = stands-within w r e in
    let high = i.high in
    let end = i.end in
    omega arith

-- what is known where a literal was passed on: the record moved by it and no further than limit, and it stood at the cursor
pub record MovedOn (w s : List ℕ) (r n : Cursor) : Type 0 where
  pub lands : n ≡ move_to r (r.cursor + length s)
  pub room : r.cursor + length s ≤ r.limit
  pub equal : stands_at_of w r.cursor s ≡ true

-- a literal that was passed on tells all three
pub eq_s_of-moved : (w s : List ℕ) (r n : Cursor) → eq_s_of w s r ≡ Some n → MovedOn w s r n
unfolding eq_s_of
eq_s_of-moved w s r n e =
    let below : Bool = stands w r && ltb r.cursor r.limit in
    let room : Bool = leb (r.cursor + length s) r.limit in
    let equal : Bool = stands_at_of w r.cursor s in
    let moved = cond_some (below && room && equal) (move_to r (r.cursor + length s)) n e in
    let tests = and-each below room equal moved.0 in
    record { lands = sym moved.1; room = leb-true (r.cursor + length s) r.limit tests.1; equal = tests.2 }

-- ---- the steps that move, as the code makes them ----

-- the character that ends at a place, by its bytes
last_char-char_at : (w : List ℕ) (c : ℕ) → last_char w c ≡ char_at w (c - last_width_of w c) (last_width_of w c)
unfolding last_char
last_char-char_at w c = refl

-- the character that begins there, by its bytes
first_char-char_at : (w : List ℕ) (c : ℕ) → first_char w c ≡ char_at w c (first_width_of w c)
unfolding first_char
first_char-char_at w c = refl

-- a step put together of the width, the character and the record is the step back
pub previous_char_of-made : (w : List ℕ) (r next : Cursor) (n ch : ℕ) → stands w r ≡ true → n ≡ last_width_of w r.cursor → r.limit_backward + n ≤ r.cursor
    → ch ≡ char_at w (r.cursor - n) n → next ≡ move_to r (r.cursor - n) → ◌≡◌ {A = Option Step} (Some (record { ch = ch; next = next })) (previous_char_of w r)
previous_char_of-made w r next n ch e en h ec ex =
    let h' : r.limit_backward + last_width_of w r.cursor ≤ r.cursor = rw (← en) h in
    cc (previous_char_of-moves w r e h', last_char-char_at w r.cursor)

-- and the step on
pub next_char_of-made : (w : List ℕ) (r next : Cursor) (n ch : ℕ) → stands w r ≡ true → n ≡ first_width_of w r.cursor → r.cursor + n ≤ r.limit
    → ch ≡ char_at w r.cursor n → next ≡ move_to r (r.cursor + n) → ◌≡◌ {A = Option Step} (Some (record { ch = ch; next = next })) (next_char_of w r)
next_char_of-made w r next n ch e en h ec ex =
    let h' : r.cursor + first_width_of w r.cursor ≤ r.limit = rw (← en) h in
    cc (next_char_of-moves w r e h', first_char-char_at w r.cursor)
