-- Three characters read back from a record, one after the other, in the part from limit_backward on. Assumes nothing.
use Prim.Native.Nat.{ℕ, ◌+◌, ◌-◌, ◌≤◌, ◌<◌}
use mathlib.Core.Path.{◌≡◌, sym, ap, ◌∙◌}
use mathlib.Core.Bool.{true, ◌&&◌}
use mathlib.Core.List.{List}
use native.Mathlib.Omega.{arith}
use lib.ListN.{drop, get_or}
use lib.Seq.{get_or-drop}
use lib.Dec.{ltb}
use borrow.Author.Tests.{ltb-true}
use Rattle.encoding.proofs.Laws.Booleans.{and-each}
use Rattle.utf8.specs.declared.cursor.Cursor.{Cursor}
use Rattle.utf8.specs.declared.characters.Read.{Read}
use Rattle.utf8.specs.Characters.{back, before}
use Rattle.utf8.specs.Steps.{move_to}
use Rattle.utf8.specs.Behind.{read_back_of, behind, back_by, Open}
use Rattle.utf8.proofs.Laws.Characters.{back-le, back-add, before_back}
use Rattle.utf8.proofs.Laws.ReadBack.{read_back_of-ascii}
use Rattle.keys.specs.declared.seen.Three.{Three}
use Rattle.keys.specs.Seen.{three_at}
use Rattle.utf8.proofs.Laws.Part.{part_from, part_from-drop, low-cursor-le, cursor-part-le}

module _ (w : List ℕ) (c : Cursor) where
  -- where the part begins before which nothing is looked at
  abbrev pub low : ℕ
  low = c.limit_backward

  -- and the cursor in it
  abbrev pub at : ℕ
  at = c.cursor - low

  module _ {a : Read} (a-is : a ≡ read_back_of (part_from w low) at) where
    -- the first character read, and where it begins
    pub first-ch : a.ch ≡ get_or (behind w c) 0 0
    unfolding read_back_of behind
    first-ch = ap (λ (x : Read). x.ch) a-is ∙ ap (λ (p : List ℕ). get_or (before p at) 0 0) (part_from-drop w low)

    -- its place in the part
    pub first-at : a.at ≡ back (drop low w) at 1
    unfolding read_back_of
    first-at = ap (λ (x : Read). x.at) a-is ∙ ap (λ (p : List ℕ). back p at 1) (part_from-drop w low)

    -- in the word
    pub first-place : low + a.at ≡ (back_by w c 1).cursor
    unfolding back_by move_to
    first-place = ap (λ (n : ℕ). low + n) first-at

    -- not past the cursor
    pub first-le : a.at ≤ at
    first-le = omega (arith, first-at, back-le (drop low w) at 1)

    module _ {b : Read} (b-is : b ≡ read_back_of (part_from w low) a.at) where
      -- the second
      pub second-ch : b.ch ≡ get_or (behind w c) 1 0
      unfolding read_back_of behind
      second-ch =
          ap (λ (x : Read). x.ch) b-is ∙ ap (λ (p : List ℕ). get_or (before p a.at) 0 0) (part_from-drop w low)
          ∙ ap (λ (n : ℕ). get_or (before (drop low w) n) 0 0) first-at
          ∙ ap (λ (cs : List ℕ). get_or cs 0 0) (before_back (drop low w) at 1) ∙ get_or-drop 1 (before (drop low w) at) 0 0

      -- its place in the part
      second_at : b.at ≡ back (drop low w) at 2
      unfolding read_back_of
      second_at =
          ap (λ (x : Read). x.at) b-is ∙ ap (λ (p : List ℕ). back p a.at 1) (part_from-drop w low)
          ∙ ap (λ (n : ℕ). back (drop low w) n 1) first-at ∙ back-add (drop low w) at 1 1

      -- in the word
      pub second-place : low + b.at ≡ (back_by w c 2).cursor
      unfolding back_by move_to
      second-place = ap (λ (n : ℕ). low + n) second_at

      -- not past the cursor
      pub second-le : b.at ≤ at
      second-le = omega (arith, second_at, back-le (drop low w) at 2)

      module _ {d : Read} (d-is : d ≡ read_back_of (part_from w low) b.at) where
        -- the third
        third-ch : d.ch ≡ get_or (behind w c) 2 0
        unfolding read_back_of behind
        third-ch =
            ap (λ (x : Read). x.ch) d-is ∙ ap (λ (p : List ℕ). get_or (before p b.at) 0 0) (part_from-drop w low)
            ∙ ap (λ (n : ℕ). get_or (before (drop low w) n) 0 0) second_at
            ∙ ap (λ (cs : List ℕ). get_or cs 0 0) (before_back (drop low w) at 2) ∙ get_or-drop 2 (before (drop low w) at) 0 0

        -- its place in the part
        third_at : d.at ≡ back (drop low w) at 3
        unfolding read_back_of
        third_at =
            ap (λ (x : Read). x.at) d-is ∙ ap (λ (p : List ℕ). back p b.at 1) (part_from-drop w low)
            ∙ ap (λ (n : ℕ). back (drop low w) n 1) second_at ∙ back-add (drop low w) at 2 1

        -- not past the cursor
        pub third-le : d.at ≤ at
        third-le = omega (arith, third_at, back-le (drop low w) at 3)

        -- in the word
        third-place : low + d.at ≡ (back_by w c 3).cursor
        unfolding back_by move_to
        third-place = ap (λ (n : ℕ). low + n) third_at

        -- the three characters and the places
        pub three_at-made : ◌≡◌ {A = Three} (record { one = low + a.at; two = low + b.at; three = low + d.at; last = a.ch; second = b.ch; third = d.ch })
            (three_at w c)
        three_at-made = rw (first-ch, second-ch, third-ch, first-place, second-place, third-place)

-- three bytes that are tested at one go
pub all_plain : (x y z : ℕ) → ltb x 0x80 && ltb y 0x80 && ltb z 0x80 ≡ true → (x < 0x80) × (y < 0x80) × (z < 0x80)
all_plain x y z e =
    let t = and-each (ltb x 0x80) (ltb y 0x80) (ltb z 0x80) e in
    (ltb-true x 0x80 t.0, ltb-true y 0x80 t.1, ltb-true z 0x80 t.2)

-- three bytes below 128, as the word has them
module _ (w : List ℕ) (c : Cursor) (o : Open w c) (h : 3 ≤ c.cursor - c.limit_backward) where
  -- a byte of the part stands as far on in the word
  part-byte : (n : ℕ) → get_or w (low w c + n) 0 ≡ get_or (part_from w (low w c)) n 0
  part-byte n = sym (ap (λ (p : List ℕ). get_or p n 0) (part_from-drop w (low w c)) ∙ get_or-drop (low w c) w n 0)

  -- it is read as the character before the next place
  plain-read : (b k : ℕ) → k < at w c → b ≡ get_or w (low w c + k) 0 → b < 0x80
      → ◌≡◌ {A = Read} (record { ch = b; at = k }) (read_back_of (part_from w (low w c)) (k + 1))
  plain-read b k l e s =
      let one : k + 1 - 1 ≡ k = omega arith in
      rw one at (read_back_of-ascii (part_from w (low w c)) (k + 1) b (omega arith) (omega (arith, cursor-part-le w c o)) (rw one (e ∙ part-byte k)) s)

  pub three_at-plain : (x y z : ℕ) → x ≡ get_or w (c.cursor - 1) 0 → y ≡ get_or w (c.cursor - 2) 0 → z ≡ get_or w (c.cursor - 3) 0
      → x < 0x80 → y < 0x80 → z < 0x80
      → ◌≡◌ {A = Three} (record { one = c.cursor - 1; two = c.cursor - 2; three = c.cursor - 3; last = x; second = y; third = z }) (three_at w c)
  three_at-plain x y z ex ey ez sx sy sz =
      let k : ℕ = at w c - 3 in
      let le = low-cursor-le w c o in
      let px : c.cursor - 1 ≡ low w c + (k + 1 + 1) = omega arith in
      let py : c.cursor - 2 ≡ low w c + (k + 1) = omega arith in
      let pz : c.cursor - 3 ≡ low w c + k = omega arith in
      let top : k + 1 + 1 + 1 ≡ at w c = omega arith in
      let a = rw top at (plain-read x (k + 1 + 1) (omega arith) (rw (← px) ex) sx) in
      let b = plain-read y (k + 1) (omega arith) (rw (← py) ey) sy in
      let d = plain-read z k (omega arith) (rw (← pz) ez) sz in
      rw (px, py, pz) (three_at-made w c a b d)
