-- What becomes of one byte and of two: which fold and which stay. Assumes nothing.
use Prim.Native.Nat.{ℕ, ◌+◌, ◌≤◌, ◌<◌}
use mathlib.Core.Path.{◌≡◌, refl, ◌∙◌}
use mathlib.Core.Bool.{Bool, true, false, cond, not, ◌&&◌, ◌||◌}
use mathlib.Core.Logic.{⊎_elim}
use mathlib.Core.List.{List, [], ◌∷◌}
use native.Mathlib.Omega.{arith}
use lib.Dec.{eqb, leb}
use borrow.Author.Tests.{leb-true, le-leb, eqb-true, eqb-false, ne_eqb}
use Rattle.encoding.proofs.Laws.Booleans.{and_right, or-either}
use Rattle.writing.specs.Letter.{bytes_of}
use Rattle.folding.specs.FoldBytes.{small_byte, alone, second, pair, paired, fold_bytes}
use Rattle.folding.proofs.Laws.Steps.{fold_bytes-alone}

-- a number that is not from `low` to `high` is told so
range-not : (low high b : ℕ) → (low ≤ b → b ≤ high → ⊥) → leb low b && leb b high ≡ false
range-not low high b n = go (leb low b) refl (leb b high) refl
  where
    go : (s : Bool) → leb low b ≡ s → (t : Bool) → leb b high ≡ t → s && t ≡ false
    go true p true q = absurd (n (leb-true low b p) (leb-true b high q))
    go true p false q = refl
    go false p t q = refl

-- and one that is told to be is no more than `high`
pub range-high : (low high b : ℕ) → leb low b && leb b high ≡ true → b ≤ high
range-high low high b e = leb-true b high (and_right (leb low b) (leb b high) e)

-- ---- one byte ----

-- A to Z fold
pub small-capital : (b : ℕ) → 0x41 ≤ b → b ≤ 0x5A → small_byte b ≡ b + 0x20
unfolding small_byte
small-capital b h k = rw (le-leb 0x41 b h, le-leb b 0x5A k)

-- all other bytes stay
pub small-stays : (b : ℕ) → (0x41 ≤ b → b ≤ 0x5A → ⊥) → small_byte b ≡ b
unfolding small_byte
small-stays b n = rw (range-not 0x41 0x5A b n)

-- a byte that is not I is given as one
alone-one : (b : ℕ) → (b ≡ 0x49 → ⊥) → bytes_of (alone b) ≡ small_byte b ∷ []
unfolding alone
alone-one b n = rw (ne_eqb b 0x49 n)

-- from a byte that begins no letter which folds, one is taken
pub not-paired : (b : ℕ) → (0xC3 ≤ b → b ≤ 0xC5 → ⊥) → paired b ≡ false
unfolding paired
not-paired b n = range-not 0xC3 0xC5 b n

-- an ASCII byte that is not I is folded where it stands
pub fold_bytes-ascii : (b : ℕ) (bs : List ℕ) → b < 0x80 → (b ≡ 0x49 → ⊥) → fold_bytes (b ∷ bs) ≡ small_byte b ∷ fold_bytes bs
fold_bytes-ascii b bs h n = fold_bytes-alone b bs (not-paired b (λ x y. omega arith)) ∙ rw (alone-one b n)

-- and any other that begins no such letter stays
pub fold_bytes-stays : (b : ℕ) (bs : List ℕ) → 0x80 ≤ b → paired b ≡ false → fold_bytes (b ∷ bs) ≡ b ∷ fold_bytes bs
fold_bytes-stays b bs h p =
    let one = alone-one b (λ e. omega arith) in
    fold_bytes-alone b bs p ∙ rw (one, small-stays b (λ x y. omega arith))

-- ---- two bytes ----

-- a second byte of Ç Ö Ü is at most 9C, so that 20 more is a byte
pub after-C3-high : (a b : ℕ) → eqb a 0xC3 && (eqb b 0x87 || eqb b 0x96 || eqb b 0x9C) ≡ true → b ≤ 0x9C
after-C3-high a b e =
    let t = and_right (eqb a 0xC3) (eqb b 0x87 || eqb b 0x96 || eqb b 0x9C) e in
    ⊎_elim (λ x. ⊎_elim (λ y. omega (arith, eqb-true b 0x87 y)) (λ y. omega (arith, eqb-true b 0x96 y)) (or-either (eqb b 0x87) (eqb b 0x96) x))
    (λ x. omega (arith, eqb-true b 0x9C x))
    (or-either (eqb b 0x87 || eqb b 0x96) (eqb b 0x9C) t)

-- and that of Ğ and Ş is 9E
pub after-others-is : (a b : ℕ) → not (eqb a 0xC3) && eqb b 0x9E ≡ true → b ≡ 0x9E
after-others-is a b e = eqb-true b 0x9E (and_right (not (eqb a 0xC3)) (eqb b 0x9E) e)

-- two bytes of no letter that folds
pub record Other (a b : ℕ) : Type 0 where
  pub dotted : a ≡ 0xC4 → b ≡ 0xB0 → ⊥
  pub after-C3 : a ≡ 0xC3 → (b ≡ 0x87 → ⊥) × (b ≡ 0x96 → ⊥) × (b ≡ 0x9C → ⊥)
  pub after-others : (a ≡ 0xC3 → ⊥) → b ≡ 0x9E → ⊥

-- the second of them stays
second-stays : (a b : ℕ) → Other a b → second a b ≡ b
unfolding second
second-stays a b o = go (eqb a 0xC3) refl
  where
    go : (t : Bool) → eqb a 0xC3 ≡ t → cond (t && (eqb b 0x87 || eqb b 0x96 || eqb b 0x9C)) (b + 0x20) (cond (not t && eqb b 0x9E) (b + 1) b) ≡ b
    go true e =
        let n = o.after-C3 (eqb-true a 0xC3 e) in
        rw (ne_eqb b 0x87 n.0, ne_eqb b 0x96 n.1, ne_eqb b 0x9C n.2)
    go false e = rw (ne_eqb b 0x9E (o.after-others (eqb-false a 0xC3 e)))

-- the two are not İ's
not-dotted : (a b : ℕ) → Other a b → eqb a 0xC4 && eqb b 0xB0 ≡ false
not-dotted a b o = go (eqb a 0xC4) refl (eqb b 0xB0) refl
  where
    go : (s : Bool) → eqb a 0xC4 ≡ s → (t : Bool) → eqb b 0xB0 ≡ t → s && t ≡ false
    go true p true q = absurd (o.dotted (eqb-true a 0xC4 p) (eqb-true b 0xB0 q))
    go true p false q = refl
    go false p t q = refl

-- so both stay
pub pair-stays : (a b : ℕ) → Other a b → bytes_of (pair a b) ≡ a ∷ b ∷ []
unfolding pair
pair-stays a b o = rw (not-dotted a b o, second-stays a b o)
