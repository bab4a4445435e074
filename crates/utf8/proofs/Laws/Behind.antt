-- What stands before a cursor and the record some characters back: going back twice, and with limit_backward at the word's start; and
-- that both ways, and a deletion, leave the record open. Assumes nothing.
use Prim.Native.Nat.{ℕ, ◌+◌, ◌-◌, ◌≤◌, ◌<◌}
use mathlib.Core.Path.{◌≡◌, refl, ap, ◌∙◌}
use mathlib.Core.List.{List}
use native.Mathlib.Omega.{arith}
use native.Mathlib.Nat.{add-sub_cancel_left, sub-zero, zero-add}
use lib.ListN.{length, drop}
use Rattle.utf8.specs.declared.cursor.Cursor.{Cursor}
use Rattle.utf8.specs.Characters.{before, back}
use Rattle.utf8.specs.Steps.{move_to}
use Rattle.utf8.specs.Behind.{behind, back_by, deleted, edged, Open}
use Rattle.utf8.proofs.Laws.Steps.{stands-within, stands-ordered}
use Rattle.utf8.proofs.Laws.Characters.{back-le, back-less, back-add, before_back}

-- ---- behind and back_by ----

-- behind the record n characters back stands all but the first n characters
pub behind-back_by : (w : List ℕ) (r : Cursor) (n : ℕ) → behind w (back_by w r n) ≡ drop n (behind w r)
unfolding behind back_by move_to
behind-back_by w r n =
    let low = r.limit_backward in
    let part = drop low w in
    ap (before part) (add-sub_cancel_left low (back part (r.cursor - low) n)) ∙ before_back part (r.cursor - low) n

-- n characters back and then m are n + m characters back
pub back_by-add : (w : List ℕ) (r : Cursor) (n m : ℕ) → back_by w (back_by w r n) m ≡ back_by w r (n + m)
unfolding back_by move_to
back_by-add w r n m =
    let low = r.limit_backward in
    let part = drop low w in
    ap (λ (c : ℕ). move_to r (low + c)) (ap (λ (c : ℕ). back part c m) (add-sub_cancel_left low (back part (r.cursor - low) n)) ∙ back-add part (r.cursor - low) n m)

-- the record moved to the place n characters back is the record n characters back
pub move_to-back_by : (w : List ℕ) (r : Cursor) (n : ℕ) → move_to r (back_by w r n).cursor ≡ back_by w r n
unfolding back_by move_to
move_to-back_by w r n = refl

-- no characters back is the record itself, where limit_backward is not past it
pub back_by-zero : (w : List ℕ) (r : Cursor) → Open w r → back_by w r 0 ≡ r
unfolding back_by move_to back
back_by-zero w r o =
    let within = stands-within w r o.within in
    let place : r.limit_backward + (r.cursor - r.limit_backward) ≡ r.cursor = omega (arith, within.low) in
    ap (move_to r) place

-- where there are so many characters and one at least, the record that many back stands before it
pub back_by-less : (w : List ℕ) (r : Cursor) (n : ℕ) → 0 < n → n ≤ length (behind w r) → (back_by w r n).cursor < r.cursor
unfolding behind back_by move_to
back_by-less w r n h l =
    let low = r.limit_backward in
    let less : back (drop low w) (r.cursor - low) n < r.cursor - low = back-less (drop low w) (r.cursor - low) n h l in
    omega arith

-- ---- open records ----

-- the record some characters back is open
pub open-back_by : (w : List ℕ) (r : Cursor) (n : ℕ) → Open w r → Open w (back_by w r n)
unfolding back_by move_to edged
open-back_by w r n o =
    let low = r.limit_backward in
    let within = stands-within w r o.within in
    let le = back-le (drop low w) (r.cursor - low) n in
    record {
      within = stands-ordered w _ (omega arith) (omega (arith, within.low, within.high)) within.end;
      whole = o.whole;
    }

-- and so is the record after a deletion
pub open-deleted : (w : List ℕ) (r : Cursor) → Open w r → Open w (deleted r)
unfolding deleted edged
open-deleted w r o =
    let within = stands-within w r o.within in
    record {
      within = stands-ordered w _ within.low (omega arith) (omega (arith, within.high, within.end));
      whole = o.whole;
    }

-- ---- with limit_backward at the word's start ----

module _ (w : List ℕ) (c l : ℕ) where
  -- what is behind the record is what stands before its cursor in the word
  pub behind-before : behind w (record { cursor = c; limit = l; limit_backward = 0 }) ≡ before w c
  unfolding behind
  behind-before = ap (before w) (sub-zero c)

  -- and the record n characters back stands at the place n characters back
  pub back_by-back : (n : ℕ) → (back_by w (record { cursor = c; limit = l; limit_backward = 0 }) n).cursor ≡ back w c n
  unfolding back_by move_to
  back_by-back n = zero-add _ ∙ ap (λ (d : ℕ). back w d n) (sub-zero c)

  -- a record that ends within the word is open
  pub open-start : c ≤ l → l ≤ length w → Open w (record { cursor = c; limit = l; limit_backward = 0 })
  unfolding edged
  open-start h k = record { within = stands-ordered w _ (omega arith) h k; whole = refl }
