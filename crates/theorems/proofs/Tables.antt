-- The tables of keys, all by one test: no key is the tail of another in its table, so at most one ends a text; each is of letters, no
-- more than its table's width, and begins on a character's start. A fact is had of a table by its membership in the list.
-- Assumes nothing.
use Prim.Native.Nat.{ℕ, ◌≤◌, ◌<◌}
use mathlib.Core.Path.{◌≡◌, refl, sym, ◌∙◌}
use mathlib.Core.Bool.{Bool, true, false, not, ◌&&◌, ◌||◌, true≢false, false≢true}
use mathlib.Core.List.{List, [], ◌∷◌, Memᴰ}
use native.Mathlib.Omega.{arith}
use lib.ListN.{length, get_or}
use lib.Dec.{leb, eqb}
use borrow.Author.Tests.{not-true, leb-true, eqb-true, eq-eqb}
use Rattle.encoding.specs.Encoding.{encode, encode_all, continuation}
use Rattle.encoding.proofs.Laws.Booleans.{and_left, and_right, and-each}
use Rattle.turkish.specs.Letters.{text, from_end, starts}
use Rattle.theorems.specs.Simple.Marks.{marked, yUm, sUn, yUz, sUnUz, lAr, nUz, DUr, cAsInA, yDU, ysA, ymUs, yken}
use Rattle.theorems.specs.Simple.NounMarks.{letters_U, possessives, sU, lArI, nU, nUn, yA, nA, DA, ndA, DAn, ndAn, ylA, ki, ncA}
use Rattle.theorems.specs.Simple.Postlude.{hardenings, hard_keys}
use Rattle.theorems.specs.Simple.Tables.{Table, tables, nonzero, whole}
use Rattle.turkish.specs.Calls.{bytes}
use Rattle.theorems.proofs.Laws.Tests.{every, every-at, every-get_or}

-- ---- the test ----

-- of two keys, told from their ends, neither is the tail of the other
unfoldable pub neither : List ℕ → List ℕ → Bool
neither j k = not (starts j k || starts k j)

-- no key is the tail of another
unfoldable pub apart : List (List ℕ) → Bool
apart [] = true
apart (k ∷ ks) = every (neither k) ks && apart ks

-- there are bytes, and the first begins a character
begin : List ℕ → Bool
begin [] = false
begin (b ∷ bs) = not (continuation b)

-- a key's do
begins : List ℕ → Bool
begins k = begin (bytes k)

-- what is asked of a table: no key is longer than its width or has a 0, each begins a character, none is the tail of another
passes : Table → Bool
passes t = whole t.width t.keys && every begins t.keys && apart t.keys

-- every table passes
tables-pass : every passes tables ≡ true
unfolding every passes whole nonzero apart neither starts begins begin continuation bytes encode_all encode tables hard_keys hardenings marked yUm sUn yUz sUnUz lAr nUz DUr cAsInA yDU ysA ymUs yken
    letters_U possessives sU lArI nU nUn yA nA DA ndA DAn ndAn ylA ki ncA from_end text
tables-pass = refl

-- so each does
table-passes : {t : Table} → Memᴰ t tables → (whole t.width t.keys ≡ true) × (every begins t.keys ≡ true) × (apart t.keys ≡ true)
unfolding passes
table-passes {t} m = and-each (whole t.width t.keys) (every begins t.keys) (apart t.keys) (every-at passes tables-pass m)

-- ---- what it says ----

-- of two keys that end one text, one is the tail of the other
pub neither-both : (j k cs : List ℕ) → starts j cs ≡ true → starts k cs ≡ true → neither j k ≡ false
unfolding neither starts
neither-both [] k cs p q = refl
neither-both (j ∷ js) [] cs p q = refl
neither-both (j ∷ js) (k ∷ ks) [] p q = absurd (false≢true p)
neither-both (j ∷ js) (k ∷ ks) (c ∷ cs) p q =
    let e : j ≡ k = eqb-true j c (and_left (eqb j c) (starts js cs) p) ∙ sym (eqb-true k c (and_left (eqb k c) (starts ks cs) q)) in
    rw (eq-eqb j k e, eq-eqb k j (sym e))
    (neither-both js ks cs (and_right (eqb j c) (starts js cs) p) (and_right (eqb k c) (starts ks cs) q))

-- so a text that ends in a key ends in none of those that pass beside it
neither-ends : (cs j : List ℕ) {ks : List (List ℕ)} {k : List ℕ} → every (neither j) ks ≡ true → Memᴰ k ks
    → starts j cs ≡ true → starts k cs ≡ true → ⊥
neither-ends cs j {k} t m a b = true≢false (sym (every-at (neither j) t m) ∙ neither-both j k cs a b)

-- and where no key is the tail of another, at most one ends a text
apart-one : (cs : List ℕ) {j k : List ℕ} {ks : List (List ℕ)} → apart ks ≡ true → Memᴰ j ks → Memᴰ k ks
    → starts j cs ≡ true → starts k cs ≡ true → j ≡ k
unfolding apart
apart-one cs t (Memᴰ.head p) (Memᴰ.head q) a b = p ∙ sym q
apart-one cs t (Memᴰ.head {x} {xs} p) (Memᴰ.tail n) a b =
    absurd (neither-ends cs x (and_left (every (neither x) xs) (apart xs) t) n (rw p at a) b)
apart-one cs t (Memᴰ.tail m) (Memᴰ.head {x} {xs} q) a b =
    absurd (neither-ends cs x (and_left (every (neither x) xs) (apart xs) t) m (rw q at b) a)
apart-one cs t (Memᴰ.tail {x} {xs} m) (Memᴰ.tail n) a b = apart-one cs (and_right (every (neither x) xs) (apart xs) t) m n a b

-- no key of a table is the tail of another, the table told by its place in the list
pub apart-at : (n : ℕ) → apart (get_or tables n (record { width = 0; keys = [] })).keys ≡ true
unfolding passes whole every apart
apart-at n =
    let t = get_or tables n (record { width = 0; keys = [] }) in
    (and-each (whole t.width t.keys) (every begins t.keys) (apart t.keys) (every-get_or passes tables n _ tables-pass refl)).2

-- of each table at most one key ends a text
pub one_key : (cs : List ℕ) {t : Table} {j k : List ℕ} → Memᴰ t tables → Memᴰ j t.keys → Memᴰ k t.keys
    → starts j cs ≡ true → starts k cs ≡ true → j ≡ k
one_key cs t = apart-one cs (table-passes t).2

-- no key of a table has a 0 or more characters than its width
table-whole : {t : Table} → Memᴰ t tables → whole t.width t.keys ≡ true
table-whole t = (table-passes t).0

-- and each key of it alone has not
whole-key : (width : ℕ) {k : List ℕ} {ks : List (List ℕ)} → whole width ks ≡ true → Memᴰ k ks → (length k ≤ width) × (nonzero k ≡ true)
unfolding whole
whole-key width {k} e (Memᴰ.head {x} {xs} p) =
    let a = and-each (leb (length x) width) (nonzero x) (whole width xs) e in
    rw p (leb-true (length x) width a.0, a.1)
whole-key width e (Memᴰ.tail {x} {xs} m) = whole-key width (and-each (leb (length x) width) (nonzero x) (whole width xs) e).2 m

-- bytes that pass are some, and the first goes on with no character
begin-start : (w : List ℕ) → begin w ≡ true → (0 < length w) × (continuation (get_or w 0 0) ≡ false)
unfolding begin
begin-start [] e = absurd (false≢true e)
begin-start (b ∷ bs) e = (omega arith, not-true (continuation b) e)

module _ {t : Table} {k : List ℕ} (m : Memᴰ t tables) (i : Memᴰ k t.keys) where
  -- every key has a letter, no more of them than its table's width, and no 0
  pub key-letters : (0 < length k) × (length k ≤ t.width) × (nonzero k ≡ true)
  unfolding begins begin bytes encode_all
  key-letters = let f = whole-key t.width (table-whole m) i in (some k (every-at begins (table-passes m).1 i), f.0, f.1)
    where
      some : (k : List ℕ) → begins k ≡ true → 0 < length k
      some [] e = absurd (false≢true e)
      some (c ∷ cs) e = omega arith

  -- and begins on a character's start
  pub key-start : (0 < length (bytes k)) × (continuation (get_or (bytes k) 0 0) ≡ false)
  unfolding begins
  key-start = begin-start (bytes k) (every-at begins (table-passes m).1 i)
