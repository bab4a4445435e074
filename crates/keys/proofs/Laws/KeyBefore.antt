-- A key held to the three characters seen, letter by letter: what is left to be passed after each, the answers on the way, and the test of all
-- three at once. Assumes nothing.
use Prim.Native.Nat.{ℕ, ◌+◌, ◌-◌, ◌≤◌}
use mathlib.Core.Path.{◌≡◌, refl, sym, ap, subst, ◌∙◌}
use mathlib.Core.Bool.{Bool, true, false, cond, ◌&&◌, ◌||◌}
use mathlib.Core.List.{List}
use mathlib.Mathlib.Data.Bool.Basic.{or-eq-false-eq-eq-false-and-eq-false as or_no}
use native.Mathlib.Omega.{arith}
use lib.ListN.{length, drop, get_or, drop_of_length-le}
use lib.Dec.{eqb}
use borrow.Author.Tests.{eqb-true, eqb-false, ne_eqb}
use Rattle.utf8.specs.declared.cursor.Cursor.{Cursor}
use Rattle.utf8.specs.Characters.{back, before}
use Rattle.utf8.specs.Steps.{move_to}
use Rattle.utf8.specs.Behind.{behind, back_by, Open}
use Rattle.encoding.proofs.Laws.Booleans.{and_left, and_right}
use Rattle.utf8.proofs.Laws.Steps.{stands-within}
use Rattle.utf8.proofs.Laws.Characters.{back-add, before_back}
use Rattle.utf8.proofs.Laws.Behind.{move_to-back_by, back_by-zero, open-back_by}
use Rattle.turkish.specs.Letters.{starts}
use Rattle.keys.specs.declared.seen.Seen.{Seen}
use Rattle.std.specs.Prelude.{Some, None}
use Rattle.keys.specs.Keys.{up_to_zero}
use Rattle.keys.specs.Seen.{seen_at, Sees}
use Rattle.keys.specs.Search.{over, ends_in_of}
use Rattle.utf8.proofs.Laws.Part.{part_from-drop}
use Rattle.keys.proofs.Laws.Search.{over_part, over-over_part, over_part-ends, over_part-differs, over_part-next}

-- not both: not the first, or the first and not the second
and_no : {P : Type 0} (x y : Bool) → x && y ≡ false → (x ≡ false → P) → (x ≡ true → y ≡ false → P) → P
and_no true y e f g = g refl e
and_no false y e f g = f refl

-- one of two and not the first: the second
or-other : (x y : Bool) → x ≡ false → x || y ≡ true → y ≡ true
or-other x y e h = rw e at h

module _ (w : List ℕ) (s : Seen) (sees : Sees w s) where
  -- the part before which nothing is looked at, and the place in it
  abbrev pub low : ℕ
  low = s.c.limit_backward

  abbrev pub part : List ℕ
  part = drop low w

  abbrev pub at : ℕ
  at = s.c.cursor - low

  -- what is seen, in the part
  pub seen_last : s.ending.last ≡ get_or (before part at) 0 0
  unfolding seen_at behind
  seen_last = ap (λ (x : Seen). x.ending.last) sees.is

  -- the second character
  pub seen-second : s.ending.second ≡ get_or (before part at) 1 0
  unfolding seen_at behind
  seen-second = ap (λ (x : Seen). x.ending.second) sees.is

  -- and the third
  pub seen-third : s.ending.third ≡ get_or (before part at) 2 0
  unfolding seen_at behind
  seen-third = ap (λ (x : Seen). x.ending.third) sees.is

  -- the cursor in the part
  seen_here : s.c.cursor ≡ low + back part at 0
  unfolding back
  seen_here = let within = stands-within w s.c sees.opens.within in omega (arith, within.low)

  -- the place before the last character
  seen_one : s.ending.one ≡ low + back part at 1
  unfolding seen_at back_by move_to
  seen_one = ap (λ (x : Seen). x.ending.one) sees.is

  -- and before the second
  seen-two : s.ending.two ≡ low + back part at 2
  unfolding seen_at back_by move_to
  seen-two = ap (λ (x : Seen). x.ending.two) sees.is

  -- the record before the three characters
  pub seen-three : move_to s.c s.ending.three ≡ back_by w s.c 3
  unfolding seen_at
  seen-three = ap (move_to s.c) (ap (λ (x : Seen). x.ending.three) sees.is) ∙ move_to-back_by w s.c 3

  -- which is open
  pub open-three : Open w (move_to s.c s.ending.three)
  open-three = subst (Open w) (sym seen-three) (open-back_by w s.c 3 sees.opens)

  -- back over a key from there is back over it three characters on
  over-back : (k : List ℕ) → over w (back_by w s.c 3) k ≡ over_part low part at 3 k
  unfolding over over_part behind back_by move_to
  over-back k =
      let place : low + back part at 3 - low ≡ back part at 3 = omega arith in
      ap (λ (p : ℕ). cond (starts k (before part p)) (Some (low + back part p (length k))) None) place
      ∙ ap (λ (cs : List ℕ). cond (starts k cs) (Some (low + back part (back part at 3) (length k))) None) (before_back part at 3)
      ∙ ap (λ (p : ℕ). cond (starts k (drop 3 (before part at))) (Some (low + p)) None) (back-add part at 3 (length k))

  module _ (key : List ℕ) where
    -- back over the key, in the part
    over-left : over w s.c (up_to_zero key) ≡ over_part low part at 0 (up_to_zero (drop 0 key))
    over-left = over-over_part w s.c (up_to_zero key) ∙ ap (λ (p : List ℕ). over_part low p at 0 (up_to_zero key)) (part_from-drop w low)

    module _ {a b d : ℕ} (a-is : a ≡ get_or key 0 0) (b-is : b ≡ get_or key 1 0) (d-is : d ≡ get_or key 2 0) where
      -- a key of no letters
      pub letters-none : a ≡ 0 → Some s.c.cursor ≡ over w s.c (up_to_zero key)
      letters-none e = ap Some seen_here ∙ over_part-ends low part at 0 key 0 (sym a-is ∙ e) ∙ sym over-left

      module _ (a-not : a ≡ 0 → ⊥) where
        -- a first letter other than the last character is not passed
        pub first-differs : (a ≡ s.ending.last → ⊥) → None ≡ over w s.c (up_to_zero key)
        first-differs n = over_part-differs low part at 0 key 0 (λ e. a-not (a-is ∙ e)) (λ e. n (a-is ∙ e ∙ sym seen_last)) ∙ sym over-left

        module _ (a-same : a ≡ s.ending.last) where
          -- with the same one, what is left is the key from its second letter on
          left_one : over_part low part at 1 (up_to_zero (drop 1 key)) ≡ over w s.c (up_to_zero key)
          left_one = over_part-next low part at 0 key 0 (λ e. a-not (a-is ∙ e)) (sym a-is ∙ a-same ∙ seen_last) ∙ sym over-left

          -- a key of one letter
          pub second-ends : b ≡ 0 → Some s.ending.one ≡ over w s.c (up_to_zero key)
          second-ends e = ap Some seen_one ∙ over_part-ends low part at 1 key 1 (sym b-is ∙ e) ∙ left_one

          module _ (b-not : b ≡ 0 → ⊥) where
            -- a second letter other than the second character is not passed
            pub second-differs : (b ≡ s.ending.second → ⊥) → None ≡ over w s.c (up_to_zero key)
            second-differs n = over_part-differs low part at 1 key 1 (λ e. b-not (b-is ∙ e)) (λ e. n (b-is ∙ e ∙ sym seen-second)) ∙ left_one

            module _ (b-same : b ≡ s.ending.second) where
              -- with the same one, what is left is the key from its third letter on
              left-two : over_part low part at 2 (up_to_zero (drop 2 key)) ≡ over w s.c (up_to_zero key)
              left-two = over_part-next low part at 1 key 1 (λ e. b-not (b-is ∙ e)) (sym b-is ∙ b-same ∙ seen-second) ∙ left_one

              -- a key of two letters
              pub third-ends : d ≡ 0 → Some s.ending.two ≡ over w s.c (up_to_zero key)
              third-ends e = ap Some seen-two ∙ over_part-ends low part at 2 key 2 (sym d-is ∙ e) ∙ left-two

              module _ (d-not : d ≡ 0 → ⊥) where
                -- a third letter other than the third character is not passed
                pub third-differs : (d ≡ s.ending.third → ⊥) → None ≡ over w s.c (up_to_zero key)
                third-differs n = over_part-differs low part at 2 key 2 (λ e. d-not (d-is ∙ e)) (λ e. n (d-is ∙ e ∙ sym seen-third)) ∙ left-two

                -- what is left after the third
                pub third-passed : (d-same : d ≡ s.ending.third) → over w (move_to s.c s.ending.three) (up_to_zero (drop 3 key)) ≡ over w s.c (up_to_zero key)
                third-passed d-same =
                    let rest = up_to_zero (drop 3 key) in
                    ap (λ (c : Cursor). over w c rest) seen-three ∙ over-back rest
                    ∙ over_part-next low part at 2 key 2 (λ e. d-not (d-is ∙ e)) (sym d-is ∙ d-same ∙ seen-third) ∙ left-two

      -- ---- the three letters at once ----

      -- a key whose letters are not those seen does not end the text
      pub letters-differ : ends_in_of s.ending a b d ≡ false → None ≡ over w s.c (up_to_zero key)
      unfolding ends_in_of
      letters-differ e =
          let last = s.ending.last in
          let second = s.ending.second in
          let third = s.ending.third in
          let one = (or_no (eqb a 0) (eqb a last && (eqb b 0 || (eqb b second && (eqb d 0 || eqb d third))))).0 e in
          let a-not : a ≡ 0 → ⊥ = eqb-false a 0 one.0 in
          and_no (eqb a last) (eqb b 0 || (eqb b second && (eqb d 0 || eqb d third))) one.1
          (λ n. first-differs a-not (eqb-false a last n))
          (λ y m.
          let two = (or_no (eqb b 0) (eqb b second && (eqb d 0 || eqb d third))).0 m in
          let a-same : a ≡ last = eqb-true a last y in
          let b-not : b ≡ 0 → ⊥ = eqb-false b 0 two.0 in
          and_no (eqb b second) (eqb d 0 || eqb d third) two.1
          (λ n. second-differs a-not a-same b-not (eqb-false b second n))
          (λ x k.
          let three = (or_no (eqb d 0) (eqb d third)).0 k in
          third-differs a-not a-same b-not (eqb-true b second x) (eqb-false d 0 three.0) (eqb-false d third three.1)))

      module _ (hit : ends_in_of s.ending a b d ≡ true) (a-not : a ≡ 0 → ⊥) where
        -- the first letter is the last character, and the others are as they may be
        first-hit : eqb a s.ending.last && (eqb b 0 || (eqb b s.ending.second && (eqb d 0 || eqb d s.ending.third))) ≡ true
        unfolding ends_in_of
        first-hit = or-other (eqb a 0) _ (ne_eqb a 0 a-not) hit

        a-same : a ≡ s.ending.last
        a-same = eqb-true a s.ending.last (and_left (eqb a s.ending.last) _ first-hit)

        -- a key of one letter
        pub letters-one : b ≡ 0 → Some s.ending.one ≡ over w s.c (up_to_zero key)
        letters-one e = second-ends a-not a-same e

        module _ (b-not : b ≡ 0 → ⊥) where
          -- the second is the second character
          second-hit : eqb b s.ending.second && (eqb d 0 || eqb d s.ending.third) ≡ true
          second-hit = or-other (eqb b 0) _ (ne_eqb b 0 b-not) (and_right (eqb a s.ending.last) _ first-hit)

          b-same : b ≡ s.ending.second
          b-same = eqb-true b s.ending.second (and_left (eqb b s.ending.second) _ second-hit)

          -- a key of two letters
          pub letters-two : d ≡ 0 → Some s.ending.two ≡ over w s.c (up_to_zero key)
          letters-two e = third-ends a-not a-same b-not b-same e

          module _ (d-not : d ≡ 0 → ⊥) where
            -- what is left after three
            pub letters-left : over w (move_to s.c s.ending.three) (up_to_zero (drop 3 key)) ≡ over w s.c (up_to_zero key)
            letters-left =
                let third-hit = or-other (eqb d 0) _ (ne_eqb d 0 d-not) (and_right (eqb b s.ending.second) _ second-hit) in
                third-passed a-not a-same b-not b-same d-not (eqb-true d s.ending.third third-hit)

            -- a key of three letters
            pub letters-three : length key ≤ 3 → Some s.ending.three ≡ over w s.c (up_to_zero key)
            unfolding over starts move_to up_to_zero
            letters-three h =
                let there = ap (λ (r : Cursor). r.cursor) (sym (back_by-zero w (move_to s.c s.ending.three) open-three)) in
                ap Some there ∙ ap (λ (k : List ℕ). over w (move_to s.c s.ending.three) (up_to_zero k)) (sym (drop_of_length-le key {i = 3} h)) ∙ letters-left
