-- How a first byte finds its row of table 3-7: past the rows that end below it, into the row that has it, or before the rows
-- that begin above it. Assumes nothing.
use Prim.Native.Nat.{ℕ, zero, suc, ◌≤◌, ◌<◌}
use mathlib.Core.Path.{◌≡◌, refl, sym, ◌∙◌, ap}
use mathlib.Core.Bool.{Bool, true, false, cond, ◌&&◌, ◌||◌}
use mathlib.Core.List.{List, [], ◌∷◌}
use lib.ListN.{length, drop, get_or}
use lib.Seq.{drop-cons}
use lib.Dec.{ltb, leb}
use native.Mathlib.Omega.{arith}
use borrow.Author.Tests.{le-leb, lt-leb, leb-true, leb-false, ltb-true, ltb-false}
use Rattle.encoding.proofs.Laws.Booleans.{and_left, and_right, cond-test}
use Rattle.encoding.specs.Validity.{Row, Due, row, due, refused, lead_in, lead, table37}

-- the first k rows end below b
abbrev pub Past : ℕ → List Row → ℕ → Type 0
Past zero rs b = Unit {0}
Past (suc k) [] b = ⊥
Past (suc k) (r ∷ rs) b = (r.upto < b) × Past k rs b

-- every row begins above b
abbrev pub Before : List Row → ℕ → Type 0
Before [] b = Unit {0}
Before (r ∷ rs) b = (b < r.from) × Before rs b

-- row k of the table
abbrev pub row_at : ℕ → Row
row_at k = get_or table37 k (row 0 0 0 0 0)

-- what row k asks for
abbrev pub asked : Row → Due
asked r = due r.more r.low r.high

-- a row that ends below b is passed
above-row : (r : Row) (rs : List Row) (b : ℕ) (t : Bool) → r.upto < b → cond (t && leb b r.upto) (asked r) (lead_in rs b) ≡ lead_in rs b
above-row r rs b true h = rw (lt-leb b r.upto h)
above-row r rs b false h = refl

-- so are the first k
past-rows : (k : ℕ) (rs : List Row) (b : ℕ) → Past k rs b → lead_in rs b ≡ lead_in (drop k rs) b
unfolding lead_in
past-rows zero rs b h = refl
past-rows (suc k) [] b h = refl
past-rows (suc k) (r ∷ rs) b h = above-row r rs b (leb r.from b) h.0 ∙ past-rows k rs b h.1

-- a row that has b is taken
in_row : (r : Row) (rs : List Row) (b : ℕ) → r.from ≤ b → b ≤ r.upto → lead_in (r ∷ rs) b ≡ asked r
unfolding lead_in
in_row r rs b f u = rw (le-leb r.from b f, le-leb b r.upto u)

-- where every row begins above b, none is
before-rows : (rs : List Row) (b : ℕ) → Before rs b → lead_in rs b ≡ refused
unfolding lead_in
before-rows [] b h = refl
before-rows (r ∷ rs) b h = rw (lt-leb r.from b h.0) (before-rows rs b h.1)

-- a byte past the first k rows and in the next one has that row
pub lead-in : (k b : ℕ) → k < length table37 → Past k table37 b → (row_at k).from ≤ b → b ≤ (row_at k).upto → lead b ≡ asked (row_at k)
unfolding lead
lead-in k b l p f u = past-rows k table37 b p ∙ ap (λ (rs : List Row). lead_in rs b) (drop-cons table37 k (row 0 0 0 0 0) l) ∙ in_row (row_at k) (drop (suc k) table37) b f u

-- a byte past the first k rows and before all others has none
pub lead-none : (k b : ℕ) → Past k table37 b → Before (drop k table37) b → lead b ≡ refused
unfolding lead
lead-none k b p q = past-rows k table37 b p ∙ before-rows (drop k table37) b q

-- b lies in row k and in none above it
abbrev pub InRow : ℕ → ℕ → Type 0
InRow k b = (k < length table37) × Past k table37 b × ((row_at k).from ≤ b) × (b ≤ (row_at k).upto)

-- Q holds of each row
abbrev pub Each : (Row → Type 0) → List Row → Type 0
Each Q [] = Unit {0}
Each Q (r ∷ rs) = Q r × Each Q rs

-- the same as `lead-elim` for any rows
lead_in-elim : (P : Due → Type 0) (Q : Row → Type 0) (rs : List Row) (b : ℕ) → Each Q rs → ((r : Row) → Q r → r.from ≤ b → b ≤ r.upto → P (asked r)) → P refused → P (lead_in rs b)
unfolding lead_in
lead_in-elim P Q [] b q f z = z
lead_in-elim P Q (r ∷ rs) b q f z =
    let l : Bool = leb r.from b in
    let u : Bool = leb b r.upto in
    cond-test P (l && u) (λ e. f r q.0 (leb-true r.from b (and_left l u e)) (leb-true b r.upto (and_right l u e))) (lead_in-elim P Q rs b q.1 f z)

-- what holds of a refusal and of what b's row asks for, given what holds of each row, holds of what b asks for
pub lead-elim : (P : Due → Type 0) (Q : Row → Type 0) (b : ℕ) → Each Q table37 → ((r : Row) → Q r → r.from ≤ b → b ≤ r.upto → P (asked r)) → P refused → P (lead b)
unfolding lead
lead-elim P Q b = lead_in-elim P Q table37 b

-- ---- what the rows say together ----

-- rows that follow on one another, from byte n to below m
abbrev Chain : ℕ → List Row → ℕ → Type 0
Chain n [] m = n ≡ m
Chain n (r ∷ rs) m = (r.from ≡ n) × Chain (suc r.upto) rs m

-- such rows leave out no byte
lead_in-chain : (n m : ℕ) (rs : List Row) (x : ℕ) → Chain n rs m → n ≤ x → x < m → (lead_in rs x).ok ≡ true
unfolding lead_in due
lead_in-chain n m [] x h l u = absurd (omega arith)
lead_in-chain n m (r ∷ rs) x h l u =
    go (leb x r.upto) refl (λ f. lead_in-chain (suc r.upto) m rs x h.1 f u)
  where
    go : (t : Bool) → leb x r.upto ≡ t → (r.upto < x → (lead_in rs x).ok ≡ true) → (lead_in (r ∷ rs) x).ok ≡ true
    go true e k = ap (λ (d : Due). d.ok) (in_row r rs x (omega arith) (leb-true x r.upto e))
    go false e k = ap (λ (d : Due). d.ok) (above-row r rs x (leb r.from x) (leb-false x r.upto e)) ∙ k (leb-false x r.upto e)

-- all rows but the first do
pub lead-rows : (x : ℕ) → 0xC2 ≤ x → x < 0xF5 → (lead x).ok ≡ true
unfolding lead table37
lead-rows x l h = ap (λ (d : Due). d.ok) (past-rows 1 table37 x (omega arith)) ∙ lead_in-chain 0xC2 0xF5 (drop 1 table37) x (omega arith) l h

-- the first bytes of all rows
pub lead-ok : (x : ℕ) → ltb x 0x80 || leb 0xC2 x && ltb x 0xF5 ≡ (lead x).ok
unfolding table37 due refused
lead-ok x = go (ltb x 0x80) (leb 0xC2 x) (ltb x 0xF5) refl refl refl
  where
    go : (p q r : Bool) → ltb x 0x80 ≡ p → leb 0xC2 x ≡ q → ltb x 0xF5 ≡ r → p || q && r ≡ (lead x).ok
    go true q r e f g = let h = ltb-true x 0x80 e in sym (ap (λ (d : Due). d.ok) (lead-in 0 x (omega arith) (omega arith) (omega arith) (omega arith)))
    go false true true e f g = sym (lead-rows x (leb-true 0xC2 x f) (ltb-true x 0xF5 g))
    go false true false e f g = let h = ltb-false x 0xF5 g in sym (ap (λ (d : Due). d.ok) (lead-none 9 x (omega arith) (omega arith)))
    go false false r e f g = let h = ltb-false x 0x80 e in let k = leb-false 0xC2 x f in sym (ap (λ (d : Due). d.ok) (lead-none 1 x (omega arith) (omega arith)))

-- only E0 and F0 raise the least byte that may follow
pub lead_low : (a : ℕ) → (a ≡ 0xE0 → ⊥) → (a ≡ 0xF0 → ⊥) → (lead a).low ≡ 0x80
unfolding table37 due refused
lead_low a p q = lead-elim (λ (d : Due). d.low ≡ 0x80) (λ (r : Row). r.from ≤ a → a ≤ r.upto → r.low ≡ 0x80) a
    (λ f u. refl, (λ f u. refl, (λ f u. absurd (p (omega arith)), (λ f u. refl, (λ f u. refl, (λ f u. refl, (λ f u. absurd (q (omega arith)), (λ f u. refl, (λ f u. refl, tt)))))))))
    (λ r h f u. h f u) refl

-- only ED and F4 lower the greatest
pub lead_high : (a : ℕ) → (a ≡ 0xED → ⊥) → (a ≡ 0xF4 → ⊥) → (lead a).high ≡ 0xBF
unfolding table37 due refused
lead_high a p q = lead-elim (λ (d : Due). d.high ≡ 0xBF) (λ (r : Row). r.from ≤ a → a ≤ r.upto → r.high ≡ 0xBF) a
    (λ f u. refl, (λ f u. refl, (λ f u. refl, (λ f u. refl, (λ f u. absurd (p (omega arith)), (λ f u. refl, (λ f u. refl, (λ f u. refl, (λ f u. absurd (q (omega arith)), tt)))))))))
    (λ r h f u. h f u) refl
