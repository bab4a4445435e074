-- A final consonant hardened by the key that the search finds in A_23. Assumes nothing.
use Prim.Native.Nat.{ℕ, zero, suc, ◌-◌}
use mathlib.Core.Path.{◌≡◌, refl, sym, ap, ◌∙◌}
use mathlib.Core.Bool.{Bool, true, false, cond, ◌&&◌}
use mathlib.Core.List.{List, [], ◌∷◌}
use native.Mathlib.Omega.{arith}
use lib.Dec.{eqb}
use borrow.Author.Tests.{eqb-true, eq-eqb, ne_eqb}
use Rattle.utf8.specs.declared.cursor.Cursor.{Cursor}
use Rattle.utf8.specs.Characters.{last_width_of, last_char, before, back}
use Rattle.utf8.specs.Behind.{back_by}
use Rattle.encoding.proofs.Laws.Booleans.{and_left}
use Rattle.utf8.proofs.Laws.Characters.{before-zero, before-step}
use Rattle.utf8.proofs.Laws.Behind.{behind-before, back_by-back}
use Rattle.turkish.specs.Letters.{text, from_end, starts}
use Rattle.theorems.specs.Simple.Postlude.{hardenings, hard_in, hard}
use Rattle.std.specs.Prelude.{Option, Some, None}
use Rattle.keys.specs.declared.among.Key.{Key}
use Rattle.repairs.specs.declared.postlude.Repair.{Repair}
use Rattle.keys.specs.declared.seen.Seen.{Seen}
use Rattle.keys.specs.Seen.{seen_at}
use Rattle.keys.specs.Keys.{up_to_zero, rows}
use Rattle.keys.specs.Search.{found_from, found}
use Rattle.repairs.specs.Repairs.{ending, unchanged, followed, hardened}

-- b, c, d, ğ
abbrev keys : List (List ℕ)
keys = (0x62 ∷ []) ∷ (0x63 ∷ []) ∷ (0x64 ∷ []) ∷ (0x11F ∷ []) ∷ []

-- the hard form of the key at place i
unfoldable pub hard_form : ℕ → ℕ
hard_form i = cond (eqb i 0) 0x70 (cond (eqb i 1) 0xE7 (cond (eqb i 2) 0x74 0x6B))

-- at any place past the third it is the last one
pub hard_form-last : (i : ℕ) → (i ≡ 0 → ⊥) → (i ≡ 1 → ⊥) → (i ≡ 2 → ⊥) → hard_form i ≡ 0x6B
unfolding hard_form
hard_form-last i p q r = rw (ne_eqb i 0 p, ne_eqb i 1 q, ne_eqb i 2 r)

-- what the search's answer makes of the first n bytes
abbrev by : ℕ → Option Key → Repair
by n (Some k) = followed k.before.cursor (hard_form k.place)
by n None = unchanged n true

-- the last character c begins at k, the cursor of `at`
module _ (n c k : ℕ) (at : Cursor) (e : at.cursor ≡ k) where
  -- a search's answer makes of the bytes what hardening c into h does
  abbrev Makes : Option Key → ℕ → Type 0
  Makes a h = by n a ≡ cond (eqb h c) (unchanged n true) (followed k h)

  -- no key found leaves the character
  makes-nothing : Makes None c
  makes-nothing = rw (eq-eqb c c refl)

  -- the key x at place i, tested before the others
  makes-key : (i x h : ℕ) (a : Option Key) → (hard_form i ≡ x → ⊥) → Makes a h
      → Makes (cond (eqb x c && true) (Some (record { place = i; before = at })) a) (cond (eqb x c && true) (hard_form i) h)
  makes-key i x h a d m = go (eqb x c && true) refl
    where
      go : (t : Bool) → (eqb x c && true) ≡ t → Makes (cond t (Some (record { place = i; before = at })) a) (cond t (hard_form i) h)
      go true f =
          let is : x ≡ c = eqb-true x c (and_left (eqb x c) true f) in
          rw (ne_eqb (hard_form i) c (λ p. d (p ∙ sym is)), e)
      go false f = m

-- what the search makes of the bytes is their last character hardened
found-hardened : (w : List ℕ) (n : ℕ) → by n (found (rows keys) w (ending n)) ≡ hardened w n (before w n)
unfolding found found_from rows up_to_zero starts ending hardened hard hard_in hardenings hard_form from_end text back
found-hardened w zero = rw (behind-before w 0 0, before-zero w)
found-hardened w (suc m) =
    let n = suc m in
    let c = last_char w n in
    let k = n - last_width_of w n in
    let at = back_by w (ending n) 1 in
    let key = makes-key n c k at (back_by-back w n n 1) in
    rw (behind-before w n n, before-step w n (omega arith))
    (key 0 0x62 _ _ (λ p. omega arith)
    (key 1 0x63 _ _ (λ p. omega arith)
    (key 2 0x64 _ _ (λ p. omega arith)
    (key 3 0x11F _ _ (λ p. omega arith) (makes-nothing n c k at (back_by-back w n n 1))))))

-- the search's answer r, seen from place n
module _ (w : List ℕ) (n : ℕ) (s : Seen) (r : Option Key) (e : s ≡ seen_at w (ending n)) (f : r ≡ found (rows keys) w s.c) where
  -- makes what hardening makes
  by-hardened : by n r ≡ hardened w n (before w n)
  unfolding seen_at
  by-hardened = ap (by n) f ∙ ap (λ (c : Cursor). by n (found (rows keys) w c)) (ap (λ (x : Seen). x.c) e) ∙ found-hardened w n

  -- no key found: nothing hardens
  pub hardened-nothing : r ≡ None → unchanged n true ≡ hardened w n (before w n)
  hardened-nothing g = sym (ap (by n) g) ∙ by-hardened

  -- a key found: its hard form follows the bytes before it
  pub hardened-key : (k : Key) (h : ℕ) (x : Repair) → r ≡ Some k → hard_form k.place ≡ h → x ≡ followed k.before.cursor h → x ≡ hardened w n (before w n)
  hardened-key k h x g d q = q ∙ ap (followed k.before.cursor) (sym d) ∙ sym (ap (by n) g) ∙ by-hardened
