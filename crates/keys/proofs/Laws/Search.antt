-- Back over a key, a letter at a time, and over the first key of a table that ends the text. Assumes nothing.
use Prim.Native.Nat.{ℕ, suc, ◌+◌, ◌-◌, ◌≤◌, ◌<◌}
use mathlib.Core.Path.{◌≡◌, refl, sym, ap, ◌∙◌}
use mathlib.Core.Bool.{Bool, true, false, cond, ◌&&◌}
use mathlib.Core.List.{List, ◌∷◌}
use native.Mathlib.Nat.{add-zero}
use native.Mathlib.Omega.{arith}
use lib.ListN.{length, drop, get_or, drop_of_length-le, get_or-eq_default}
use lib.Seq.{drop-cons}
use lib.Dec.{eqb, ltb}
use borrow.Author.Tests.{eq-eqb, ne_eqb, ltb-true, ltb-false}
use Rattle.std.specs.Prelude.{Option, Some, None}
use Rattle.utf8.specs.declared.cursor.Cursor.{Cursor}
use Rattle.utf8.specs.declared.characters.Read.{Read}
use Rattle.utf8.specs.Steps.{move_to}
use Rattle.utf8.specs.Characters.{before, back}
use Rattle.utf8.specs.Behind.{read_back_of, behind, back_by}
use Rattle.utf8.proofs.Laws.Characters.{back-add, before_back}
use Rattle.utf8.proofs.Laws.Behind.{move_to-back_by}
use Rattle.turkish.specs.Letters.{starts}
use Rattle.keys.specs.Keys.{up_to_zero, rows}
use Rattle.keys.specs.Search.{over, found_from}
use Rattle.utf8.proofs.Laws.Part.{part_from, part_from-drop}
use Rattle.keys.proofs.Laws.Keys.{letters_end, letters-go}

-- ---- back over a key, n characters from a place of the part that begins at `low` ----

-- the place before the key, where it stands there
unfoldable pub over_part : ℕ → List ℕ → ℕ → ℕ → List ℕ → Option ℕ
over_part low part at n k = cond (starts k (drop n (before part at))) (Some (low + back part at (n + length k))) None

-- back over a key is back over it in the part from limit_backward on
pub over-over_part : (w : List ℕ) (c : Cursor) (k : List ℕ)
    → over w c k ≡ over_part c.limit_backward (part_from w c.limit_backward) (c.cursor - c.limit_backward) 0 k
unfolding over over_part behind back_by move_to
over-over_part w c k = let e : 0 + length k ≡ length k = omega arith in rw (part_from-drop w c.limit_backward, e)

-- from the place n characters back it is back over the key there
pub over_part-back : (low : ℕ) (part : List ℕ) (at n : ℕ) (k : List ℕ) → over_part low part (back part at n) 0 k ≡ over_part low part at n k
unfolding over_part
over_part-back low part at n k = let e : 0 + length k ≡ length k = omega arith in rw (e, before_back part at n, back-add part at n (length k))

-- a letter that is not 0 starts a text n characters on where it is the character there; 0 stands for none
starts-letter : (k : ℕ) (ks cs : List ℕ) (n : ℕ) → (k ≡ 0 → ⊥) → starts (k ∷ ks) (drop n cs) ≡ eqb k (get_or cs n 0) && starts ks (drop (n + 1) cs)
unfolding starts
starts-letter k ks cs n d = go (ltb n (length cs)) refl
  where
    go : (t : Bool) → ltb n (length cs) ≡ t → starts (k ∷ ks) (drop n cs) ≡ eqb k (get_or cs n 0) && starts ks (drop (n + 1) cs)
    go true t = let next : suc n ≡ n + 1 = omega arith in rw (drop-cons cs n 0 (ltb-true n (length cs) t), next)
    go false t =
        let past = ltb-false n (length cs) t in
        rw (drop_of_length-le cs {i = n} past, get_or-eq_default cs 0 past, ne_eqb k 0 d)

module _ (low : ℕ) (part : List ℕ) (at n : ℕ) (key : List ℕ) (j : ℕ) where
  -- a key whose letters have come to an end is passed where it stands
  pub over_part-ends : get_or key j 0 ≡ 0 → Some (low + back part at n) ≡ over_part low part at n (up_to_zero (drop j key))
  unfolding over_part starts
  over_part-ends e = rw (letters_end key j e, add-zero n)

  -- a key with another letter is not passed
  pub over_part-differs : (get_or key j 0 ≡ 0 → ⊥) → (get_or key j 0 ≡ get_or (before part at) n 0 → ⊥)
      → None ≡ over_part low part at n (up_to_zero (drop j key))
  unfolding over_part
  over_part-differs d e =
      let k = get_or key j 0 in
      let rest = up_to_zero (drop (j + 1) key) in
      rw (letters-go key j d, starts-letter k rest (before part at) n d, ne_eqb k (get_or (before part at) n 0) e)

  -- with the same letter it is the rest of the key that has to be passed, one character on
  pub over_part-next : (get_or key j 0 ≡ 0 → ⊥) → get_or key j 0 ≡ get_or (before part at) n 0
      → over_part low part at (n + 1) (up_to_zero (drop (j + 1) key)) ≡ over_part low part at n (up_to_zero (drop j key))
  unfolding over_part
  over_part-next d e =
      let k = get_or key j 0 in
      let rest = up_to_zero (drop (j + 1) key) in
      let taken : n + length (k ∷ rest) ≡ n + 1 + length rest = omega arith in
      sym (rw (letters-go key j d, taken, starts-letter k rest (before part at) n d, eq-eqb k (get_or (before part at) n 0) e))

-- a letter read and passed in a walk over a key's letters
pub over_part-read : (low : ℕ) (part : List ℕ) (at : ℕ) (key : List ℕ) (j : ℕ) (p : Read) → p ≡ read_back_of part at
    → (get_or key j 0 ≡ 0 → ⊥) → p.ch ≡ get_or key j 0
    → over_part low part p.at 0 (up_to_zero (drop (j + 1) key)) ≡ over_part low part at 0 (up_to_zero (drop j key))
unfolding read_back_of
over_part-read low part at key j p is d e =
    let rest = up_to_zero (drop (j + 1) key) in
    ap (λ (x : Read). over_part low part x.at 0 rest) is ∙ over_part-back low part at 1 rest
    ∙ over_part-next low part at 0 key j d (sym e ∙ ap (λ (x : Read). x.ch) is)

-- ---- the search ----

-- the keys from the i-th on are that one and the keys past it
rows-at : (keys : List (List ℕ)) (i : ℕ) (key : List ℕ) → i < length keys → key ≡ get_or keys i key
    → rows (drop i keys) ≡ up_to_zero key ∷ rows (drop (i + 1) keys)
unfolding rows
rows-at keys i key h e =
    let next : i + 1 ≡ suc i = omega arith in
    rw (drop-cons keys i key h, next, ← e)

module _ (w : List ℕ) (c : Cursor) (keys : List (List ℕ)) (i : ℕ) (key : List ℕ) (inside : i < length keys) (at-i : key ≡ get_or keys i key)
    {p : Option ℕ} (is : p ≡ over w c (up_to_zero key)) where
  -- the next key is found if it is passed
  pub found_from-passed : {at : ℕ} → p ≡ Some at → Some (record { place = i; before = move_to c at }) ≡ found_from i (rows (drop i keys)) w c
  unfolding found_from over
  found_from-passed {at} e = rw (rows-at keys i key inside at-i) (go (starts (up_to_zero key) (behind w c)) (sym e ∙ is))
    where
      there : Cursor
      there = back_by w c (length (up_to_zero key))

      go : (t : Bool) → Some at ≡ cond t (Some there.cursor) None
          → Some (record { place = i; before = move_to c at })
          ≡ cond t (Some (record { place = i; before = there })) (found_from (i + 1) (rows (drop (i + 1) keys)) w c)
      go true q =
          let stands : at ≡ there.cursor = cc in
          ap (λ (n : ℕ). Some (record { place = i; before = move_to c n })) stands
          ∙ ap (λ (r : Cursor). Some (record { place = i; before = r })) (move_to-back_by w c (length (up_to_zero key)))
      go false q = cc

  -- and else the keys past it are searched
  pub found_from-next : p ≡ None → found_from (i + 1) (rows (drop (i + 1) keys)) w c ≡ found_from i (rows (drop i keys)) w c
  unfolding found_from over
  found_from-next e = rw (rows-at keys i key inside at-i) (go (starts (up_to_zero key) (behind w c)) (sym e ∙ is))
    where
      there : Cursor
      there = back_by w c (length (up_to_zero key))

      go : (t : Bool) → None ≡ cond t (Some there.cursor) None → found_from (i + 1) (rows (drop (i + 1) keys)) w c
          ≡ cond t (Some (record { place = i; before = there })) (found_from (i + 1) (rows (drop (i + 1) keys)) w c)
      go true q = cc
      go false q = refl

-- where no key is left none is found
pub found_from-end : (w : List ℕ) (c : Cursor) (keys : List (List ℕ)) (i : ℕ) → length keys ≤ i → None ≡ found_from i (rows (drop i keys)) w c
unfolding found_from rows
found_from-end w c keys i h = rw (drop_of_length-le keys {i = i} h)
