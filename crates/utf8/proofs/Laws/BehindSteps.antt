-- The steps back of an open record, by what stands behind it. No byte goes on at limit_backward, so a character that ends past it does not
-- begin before it, and the word from limit_backward on has the same characters. Assumes nothing.
use Prim.Native.Nat.{ℕ, ◌+◌, ◌-◌, ◌≤◌, ◌<◌}
use mathlib.Core.Path.{◌≡◌, refl, sym, ap, ◌∙◌}
use mathlib.Core.Logic.{◌⊎◌, inl, inr}
use mathlib.Core.Bool.{Bool, true, false, cond, not, ◌&&◌, ◌||◌}
use mathlib.Core.List.{List, ◌∷◌}
use native.Mathlib.Omega.{arith}
use lib.ListN.{length, take, drop, get_or}
use lib.Seq.{get_or-drop, drop-drop}
use lib.Dec.{leb, ltb, eqb}
use borrow.Author.Tests.{ltb-true, ltb-false, lt-ltb, le-leb, lt-leb, leb-true, leb-false, eqb-true, not-true}
use Rattle.std.specs.Prelude.{Some, None}
use Rattle.std.specs.declared.option.Option.{Option}
use Rattle.std.specs.Option.{ForSome}
use Rattle.std.proofs.lemmas.Option.{cond_some}
use Rattle.utf8.specs.declared.cursor.Cursor.{Cursor}
use Rattle.utf8.specs.declared.step.Step.{Step}
use Rattle.encoding.specs.Encoding.{decode, continuation}
use Rattle.utf8.specs.Characters.{width, goes_on_of, last_width_of, last_char, char_at, before, back}
use Rattle.utf8.specs.Steps.{stands, move_to, previous_char_of, same, stands_at_of, eq_s_b_of}
use Rattle.utf8.specs.Behind.{behind, back_by, edged, Open}
use Rattle.encoding.proofs.Laws.Booleans.{or-either, and-false, and_left, and_right}
use Rattle.utf8.proofs.Laws.Widths.{width_one, goes_on_of-start, goes_on_of-byte}
use Rattle.utf8.proofs.Laws.Characters.{last_width_of-pos, last_width_of-four, last_width_of-le, before-zero, before-step}
use Rattle.utf8.proofs.Laws.Steps.{stands-within, previous_char_of-stays, previous_char_of-moves}

-- ---- the word from a place on ----

-- a second byte that does not go on leaves the third unasked
width-second : (r t u : Bool) → width r false t ≡ width r false u
unfolding width
width-second true t u = refl
width-second false t u = refl

-- what follows the place n bytes before c follows it in the word from low on too, where it is not before low
drop-minus : (w : List ℕ) (low c n : ℕ) → low + n ≤ c → drop (c - low - n) (drop low w) ≡ drop (c - n) w
drop-minus w low c n h =
    let e : low + (c - low - n) ≡ c - n = omega arith in
    drop-drop (c - low - n) low w ∙ ap (λ (k : ℕ). drop k w) e

module _ (w : List ℕ) (low c : ℕ) (edge : (eqb low 0 || not (continuation (get_or w low 0))) ≡ true) where
  -- going back as far as low, where low is the word's start or its byte does not go on, no byte goes on there
  goes_on_of-low : (k : ℕ) → low + k ≡ c → goes_on_of w c k ≡ false
  unfolding goes_on_of
  goes_on_of-low k e = go (or-either (eqb low 0) (not (continuation (get_or w low 0))) edge)
    where
      go : (eqb low 0 ≡ true) ⊎ (not (continuation (get_or w low 0)) ≡ true) → goes_on_of w c k ≡ false
      go (inl z) = goes_on_of-start w c k (omega (arith, eqb-true low 0 z))
      go (inr f) =
          let i : c - k ≡ low = omega arith in
          rw (i, not-true (continuation (get_or w low 0)) f) (and-false (ltb k c))

  -- so a byte from low on goes on in the word where it does in the word from low on
  goes_on_of-drop : (k : ℕ) → low + k ≤ c → goes_on_of w c k ≡ goes_on_of (drop low w) (c - low) k
  goes_on_of-drop k h = go (ltb (low + k) c) refl
    where
      go : (t : Bool) → ltb (low + k) c ≡ t → goes_on_of w c k ≡ goes_on_of (drop low w) (c - low) k
      go true e =
          let l : low + k < c = ltb-true (low + k) c e in
          let i : low + (c - low - k) ≡ c - k = omega arith in
          goes_on_of-byte w c k (omega arith)
          ∙ ap continuation (sym (get_or-drop low w (c - low - k) 0 ∙ ap (λ (j : ℕ). get_or w j 0) i))
          ∙ sym (goes_on_of-byte (drop low w) (c - low) k (omega arith))
      go false e =
          let l : c ≤ low + k = ltb-false (low + k) c e in
          goes_on_of-low k (omega arith) ∙ sym (goes_on_of-start (drop low w) (c - low) k (omega arith))

  -- the character that ends at a place past low has the same width in both
  pub last_width_of-drop : low < c → last_width_of w c ≡ last_width_of (drop low w) (c - low)
  unfolding last_width_of
  last_width_of-drop h = go (ltb (low + 1) c) refl (ltb (low + 2) c) refl
    where
      go : (t : Bool) → ltb (low + 1) c ≡ t → (u : Bool) → ltb (low + 2) c ≡ u
          → width (goes_on_of w c 1) (goes_on_of w c 2) (goes_on_of w c 3)
          ≡ width (goes_on_of (drop low w) (c - low) 1) (goes_on_of (drop low w) (c - low) 2) (goes_on_of (drop low w) (c - low) 3)
      go false e u f =
          let l : c ≤ low + 1 = ltb-false (low + 1) c e in
          width_one _ _ _ (goes_on_of-low 1 (omega arith)) ∙ sym (width_one _ _ _ (goes_on_of-start (drop low w) (c - low) 1 (omega arith)))
      go true e false f =
          let l : low + 1 < c = ltb-true (low + 1) c e in
          let m : c ≤ low + 2 = ltb-false (low + 2) c f in
          rw (goes_on_of-drop 1 (omega arith), goes_on_of-low 2 (omega arith), goes_on_of-start (drop low w) (c - low) 2 (omega arith))
          (width-second (goes_on_of (drop low w) (c - low) 1) (goes_on_of w c 3) (goes_on_of (drop low w) (c - low) 3))
      go true e true f =
          let l : low + 2 < c = ltb-true (low + 2) c f in
          rw (goes_on_of-drop 1 (omega arith), goes_on_of-drop 2 (omega arith), goes_on_of-drop 3 (omega arith))

  -- it begins no earlier than low
  pub last_width_of-low : low < c → low + last_width_of w c ≤ c
  last_width_of-low h = omega (arith, last_width_of-drop h, last_width_of-le (drop low w) (c - low) (omega arith))

  -- and is the same character
  pub last_char-drop : low < c → last_char w c ≡ last_char (drop low w) (c - low)
  unfolding last_char char_at
  last_char-drop h =
      let n : ℕ = last_width_of w c in
      let e : n ≡ last_width_of (drop low w) (c - low) = last_width_of-drop h in
      ap (λ (l : List ℕ). decode (take n l)) (sym (drop-minus w low c n (last_width_of-low h)))
      ∙ ap (λ (m : ℕ). decode (take m (drop (c - low - m) (drop low w)))) e

-- ---- previous_char_of ----

-- the step by what stands behind the record
abbrev pub step_behind : List ℕ → Cursor → Option Step
step_behind w r = cond (ltb 0 (length (behind w r))) (Some (record { ch = get_or (behind w r) 0 0; next = back_by w r 1 })) None

-- from past limit_backward there is one past the nearest character
previous_char_of-past : (w : List ℕ) (r : Cursor) → Open w r → r.limit_backward < r.cursor → previous_char_of w r ≡ step_behind w r
unfolding behind back_by back edged
previous_char_of-past w r o h =
    let low = r.limit_backward in
    let c = r.cursor in
    let part : List ℕ = drop low w in
    let rest : List ℕ = before part (c - low - last_width_of part (c - low)) in
    let step : before part (c - low) ≡ last_char part (c - low) ∷ rest = before-step part (c - low) (omega arith) in
    let some : ltb 0 (length (last_char part (c - low) ∷ rest)) ≡ true = lt-ltb 0 (length (last_char part (c - low) ∷ rest)) (omega arith) in
    let room : low + last_width_of w c ≤ c = last_width_of-low w low c o.whole h in
    let same : last_width_of w c ≡ last_width_of part (c - low) = last_width_of-drop w low c o.whole h in
    let place : c - last_width_of w c ≡ low + (c - low - last_width_of part (c - low)) = omega arith in
    previous_char_of-moves w r o.within room ∙ rw (step, some, place, last_char-drop w low c o.whole h)

-- and at limit_backward there is none
previous_char_of-edge : (w : List ℕ) (r : Cursor) → Open w r → r.cursor ≤ r.limit_backward → previous_char_of w r ≡ step_behind w r
unfolding behind
previous_char_of-edge w r o h =
    let none : r.cursor - r.limit_backward ≡ 0 = omega arith in
    previous_char_of-stays w r (omega (arith, last_width_of-pos w r.cursor)) ∙ rw (none, before-zero (drop r.limit_backward w))

-- one character back from an open record: past the one that stands behind it, where one does
pub previous_char_of-behind : (w : List ℕ) (r : Cursor) → Open w r → previous_char_of w r ≡ step_behind w r
previous_char_of-behind w r o = go (ltb r.limit_backward r.cursor) refl
  where
    go : (t : Bool) → ltb r.limit_backward r.cursor ≡ t → previous_char_of w r ≡ step_behind w r
    go true e = previous_char_of-past w r o (ltb-true r.limit_backward r.cursor e)
    go false e = previous_char_of-edge w r o (ltb-false r.limit_backward r.cursor e)

-- what is known where a character was passed back: it lies between the two cursors, within the word, in one to four bytes
pub record CharBack (w : List ℕ) (r : Cursor) (s : Step) : Type 0 where
  pub some : 0 < r.cursor - s.next.cursor
  pub four : r.cursor - s.next.cursor ≤ 4
  pub end : s.next.cursor + (r.cursor - s.next.cursor) ≤ length w
  pub char : s.ch ≡ char_at w s.next.cursor (r.cursor - s.next.cursor)

-- a step back tells all four
pub previous_char_of-moved : (w : List ℕ) (r : Cursor) → ForSome (previous_char_of w r) (CharBack w r)
unfolding previous_char_of move_to last_char
previous_char_of-moved w r s e =
    let n : ℕ = last_width_of w r.cursor in
    let room : Bool = leb (r.limit_backward + n) r.cursor in
    let t = cond_some (stands w r && room) _ s e in
    let within = stands-within w r (and_left (stands w r) room t.0) in
    let h : r.limit_backward + n ≤ r.cursor = leb-true (r.limit_backward + n) r.cursor (and_right (stands w r) room t.0) in
    let back : r.cursor - (r.cursor - n) ≡ n = omega arith in
    rw (← t.1)
    (record {
      some = rw back (last_width_of-pos w r.cursor);
      four = rw back (last_width_of-four w r.cursor);
      end = omega (arith, within.high, within.end);
      char = ap (char_at w (r.cursor - n)) (sym back);
    })

-- ---- eq_s_b_of ----

-- bytes that stand from the place low on stand so in the word from low on
stands_at_of-drop-low : (w s : List ℕ) (low c : ℕ) → low + length s ≤ c → stands_at_of w (c - length s) s ≡ stands_at_of (drop low w) (c - low - length s) s
unfolding stands_at_of
stands_at_of-drop-low w s low c h = ap (λ (l : List ℕ). same (take (length s) l) s) (sym (drop-minus w low c (length s) h))

-- back past a literal from an open record: it is passed where it ends there in the word from limit_backward on
pub eq_s_b_of-behind : (w s : List ℕ) (r : Cursor) → Open w r
    → eq_s_b_of w s r
    ≡ cond (leb (length s) (r.cursor - r.limit_backward) && stands_at_of (drop r.limit_backward w) (r.cursor - r.limit_backward - length s) s)
    (Some (move_to r (r.cursor - length s))) None
unfolding eq_s_b_of
eq_s_b_of-behind w s r o =
    let low = r.limit_backward in
    let c = r.cursor in
    rw o.within (ap (λ (t : Bool). cond t (Some (move_to r (c - length s))) None) (go (leb (low + length s) c) refl))
  where
    go : (t : Bool) → leb (r.limit_backward + length s) r.cursor ≡ t
        → (t && stands_at_of w (r.cursor - length s) s)
        ≡ (leb (length s) (r.cursor - r.limit_backward) && stands_at_of (drop r.limit_backward w) (r.cursor - r.limit_backward - length s) s)
    go true e =
        let h : r.limit_backward + length s ≤ r.cursor = leb-true (r.limit_backward + length s) r.cursor e in
        rw (le-leb (length s) (r.cursor - r.limit_backward) (omega arith)) (stands_at_of-drop-low w s r.limit_backward r.cursor h)
    go false e =
        let within = stands-within w r o.within in
        let h : r.cursor < r.limit_backward + length s = leb-false (r.limit_backward + length s) r.cursor e in
        rw (lt-leb (length s) (r.cursor - r.limit_backward) (omega (arith, within.low)))
