-- turkish.sbl's is_reserved_word is the simple form: a text that contains `ad` and has 2 bytes is `ad`, one that contains `soyad` and has
-- 5 is `soyad`, since every character has a byte. Of the state the routine changes strlen alone, and the cursor where it fails.
-- Assumes nothing.
use Prim.Native.Nat.{ℕ, suc, ◌+◌, ◌≤◌}
use Prim.Native.String.{String}
use mathlib.Core.Path.{◌≡◌, refl, sym, ap, ◌∙◌}
use mathlib.Core.Bool.{Bool, true, false, cond, ◌&&◌, ◌||◌}
use mathlib.Core.List.{List, [], ◌∷◌, ◌++◌, append-nil, reverse, reverse-reverse}
use mathlib.Mathlib.Data.Bool.Basic.{partial_order_laws}
use native.Mathlib.Omega.{arith}
use lib.ListN.{length, drop, length-append, drop_of_length-le}
use lib.Dec.{eqb}
use borrow.Author.Tests.{eqb-true, eq-eqb}
use Rattle.encoding.specs.Encoding.{encode, encode_all}
use Rattle.utf8.specs.Steps.{same}
use Rattle.encoding.proofs.Laws.Booleans.{and_left, and_right}
use Rattle.encoding.proofs.Laws.Decoding.{length_encode_pos}
use Rattle.turkish.specs.Letters.{text, from_end, starts}
use Rattle.theorems.specs.Simple.Grammar.{Out, more, first}
use Rattle.theorems.specs.Simple.Postlude.{reserved}
use Rattle.turkish.specs.Snowball.{State, ahead, limit, move_to, with_strlen, Result, done, failed, and_then, or_else, tested, forward, letters}
use Rattle.turkish.specs.Snowball.{Command, ◌then◌, test, gopast, literal, strlen=, strlen==limit, run}
use Rattle.turkish.specs.Source.{is_reserved_word}
use Rattle.utf8.proofs.WholeLiterals.{same-equal, same_refl}
use Rattle.theorems.proofs.Laws.Syllables.{starts-split}
use Rattle.theorems.proofs.Source.Means.{settled, placed, done-failed, done-state, failed-state, take_if, sought, means-literal, means-gopast}

-- ---- bytes and characters ----

-- a text has a byte for every character
pub length-encode_all : (cs : List ℕ) → length cs ≤ length (encode_all cs)
unfolding encode_all
length-encode_all [] = omega arith
length-encode_all (c ∷ cs) = omega (arith, length-append (encode c) (encode_all cs), length_encode_pos c, length-encode_all cs)

-- ---- a key somewhere in a text ----

-- the key begins at some character
contains : List ℕ → List ℕ → Bool
contains k [] = starts k []
contains k (c ∷ cs) = starts k (c ∷ cs) || contains k cs

-- what begins with a key is as long as the key or longer
starts-length : (k cs : List ℕ) → starts k cs ≡ true → length k ≤ length cs
starts-length k cs e = omega (arith, length-append k (drop (length k) cs), ap length (starts-split k cs e))

-- and so is what contains it
contains-length : (k cs : List ℕ) → contains k cs ≡ true → length k ≤ length cs
unfolding contains
contains-length k [] e = starts-length k [] e
contains-length k (c ∷ cs) e = go (starts k (c ∷ cs)) refl e (contains-length k cs)
  where
    go : (t : Bool) → starts k (c ∷ cs) ≡ t → t || contains k cs ≡ true → (contains k cs ≡ true → length k ≤ length cs) → length k ≤ suc (length cs)
    go true s e r = starts-length k (c ∷ cs) s
    go false s e r = omega (arith, r e)

-- what begins with a key and is no longer is the key
starts-equal : (k cs : List ℕ) → starts k cs ≡ true → length cs ≤ length k → k ≡ cs
starts-equal k cs e h = sym (append-nil k) ∙ ap (λ (ds : List ℕ). k ++ ds) (sym (drop_of_length-le cs h)) ∙ starts-split k cs e

-- and so is what contains it
contains-equal : (k cs : List ℕ) → contains k cs ≡ true → length cs ≤ length k → k ≡ cs
unfolding contains
contains-equal k [] e h = starts-equal k [] e h
contains-equal k (c ∷ cs) e h = go (starts k (c ∷ cs)) refl e
  where
    go : (t : Bool) → starts k (c ∷ cs) ≡ t → t || contains k cs ≡ true → k ≡ c ∷ cs
    go true s e = starts-equal k (c ∷ cs) s h
    go false s e = absurd (omega (arith, contains-length k cs e))

-- a key begins with itself
starts-refl : (k : List ℕ) → starts k k ≡ true
unfolding starts
starts-refl [] = refl
starts-refl (c ∷ k) = rw (eq-eqb c c refl) (starts-refl k)

-- and contains itself
contains-refl : (k : List ℕ) → contains k k ≡ true
unfolding contains
contains-refl [] = starts-refl []
contains-refl (c ∷ k) = rw (starts-refl (c ∷ k))

-- the key is in the text, and the text has as many bytes as the key has characters
whole : List ℕ → List ℕ → Bool
whole k cs = contains k cs && eqb (length k) (length (encode_all cs))

-- for a key of as many bytes the text is then the key, in either direction of reading
whole_same : (k cs : List ℕ) → length (encode_all k) ≡ length k → whole k cs ≡ same (reverse cs) (reverse k)
unfolding whole
whole_same k cs a = partial_order_laws.le_antisymm (whole k cs) (same (reverse cs) (reverse k)) there back
  where
    there : whole k cs ≡ true → same (reverse cs) (reverse k) ≡ true
    there e =
        let b = eqb (length k) (length (encode_all cs)) in
        let n : length k ≡ length (encode_all cs) = eqb-true (length k) (length (encode_all cs)) (and_right (contains k cs) b e) in
        rw (contains-equal k cs (and_left (contains k cs) b e) (omega (arith, length-encode_all cs))) (same_refl (reverse cs))

    back : same (reverse cs) (reverse k) ≡ true → whole k cs ≡ true
    back e =
        let i : cs ≡ k = sym (reverse-reverse cs) ∙ ap reverse (same-equal (reverse cs) (reverse k) e) ∙ reverse-reverse k in
        rw (i, contains-refl k) (eq-eqb (length k) (length (encode_all k)) (sym a))

-- ---- a line of the routine ----

-- `gopast` of a literal succeeds where the characters ahead contain it
sought-contains : (k cs : List ℕ) (n : ℕ) → (j : ℕ) × (sought (λ ds. take_if (starts k ds) n) cs ≡ take_if (contains k cs) j)
unfolding sought contains first more take_if
sought-contains k [] n = (n, refl)
sought-contains k (c ∷ cs) n = let r = sought-contains k cs n in go (starts k (c ∷ cs)) (contains k cs) r.0 r.1
  where
    go : (t b : Bool) {o : Out} (j : ℕ) → o ≡ take_if b j → (i : ℕ) × (first (take_if t n) (more 1 true o) ≡ take_if (t || b) i)
    go true b j e = (n, refl)
    go false true j e = (1 + j, ap (more 1 true) e)
    go false false j e = (j, ap (more 1 true) e)

-- a test as a result
abbrev answered : Bool → State → Result
answered b s = cond b (done s) (failed s)

-- what stands behind `gopast`: strlen gets a number, which is held against the bytes of the text
measured : ℕ → State → Result
measured n s = answered (eqb n (limit s)) (with_strlen s n)

-- `test` puts the cursor back, wherever `gopast` left it
measured-tested : (s : State) (n c : ℕ)
    → settled s.cursor (tested s.cursor (measured n (move_to s c))) ≡ answered (eqb n (limit s)) (with_strlen s n)
unfolding measured settled tested move_to with_strlen limit
measured-tested s n c = go (eqb n (limit s))
  where
    go : (b : Bool) → settled s.cursor (tested s.cursor (answered b (with_strlen (move_to s c) n))) ≡ answered b (with_strlen s n)
    go true = refl
    go false = refl

-- a line answers by both tests; strlen stays where the first says no
line-result : (s : State) (n j : ℕ) (b : Bool) (r : Result) → settled s.cursor r ≡ placed s (take_if b j)
    → (m : ℕ) × (settled s.cursor (tested s.cursor (and_then r (measured n))) ≡ answered (b && eqb n (limit s)) (with_strlen s m))
unfolding settled placed take_if tested and_then with_strlen
line-result s n j true (done t) e =
    (n, ap (λ (u : State). settled s.cursor (tested s.cursor (measured n u))) (done-state e) ∙ measured-tested s n (s.cursor + j))
line-result s n j true (failed t) e = done-failed (sym e)
line-result s n j false (done t) e = done-failed e
line-result s n j false (failed t) e = (s.strlen, e)

-- lines 450 and 452
line : String → Command
line l = test (gopast (literal l) then strlen= (length (text l)) then strlen==limit)

-- at the text's start a line asks whether the text is its literal, if that has a byte a character
line-run : (self : State → Result) (l : String) → length (encode_all (text l)) ≡ length (text l) → (s : State) → s.cursor ≡ 0
    → (n : ℕ) × (settled s.cursor (run forward self (line l) s) ≡ answered (same (reverse s.text) (from_end l)) (with_strlen s n))
unfolding line run and_then letters measured limit with_strlen ahead from_end whole
line-run self l a s e =
    let k : List ℕ = text l in
    let o = sought-contains k (ahead s) (length k) in
    let g = (means-gopast (means-literal {d = forward} l)).on-state self s ∙ ap (placed s) o.1 in
    let r = line-result s (length k) o.0 (contains k (ahead s)) (run forward self (gopast (literal l)) s) g in
    let start : ahead s ≡ s.text = ap (λ (c : ℕ). drop c s.text) e in
    let w = ap (λ (cs : List ℕ). contains k cs && eqb (length k) (limit s)) start ∙ whole_same k s.text a in
    (r.0, r.1 ∙ ap (λ (b : Bool). answered b (with_strlen s r.0)) w)

-- ---- the routine ----

-- the first of two answers that says yes, where the second asks again with another strlen
answered-or : (s : State) (q : State → Result) (b d : Bool) (m : ℕ) (r : Result) → settled s.cursor r ≡ answered b (with_strlen s m)
    → (n : ℕ) × (settled s.cursor (q (with_strlen s m)) ≡ answered d (with_strlen s n))
    → (n : ℕ) × (settled s.cursor (or_else s.cursor r q) ≡ answered (b || d) (with_strlen s n))
unfolding settled or_else
answered-or s q true d m (done t) e h = (m, e)
answered-or s q true d m (failed t) e h = done-failed (sym e)
answered-or s q false d m (done t) e h = done-failed e
answered-or s q false d m (failed t) e h = (h.0, ap (λ (u : State). settled s.cursor (q u)) (failed-state e) ∙ h.1)

-- at the text's start is_reserved_word answers what the simple form says of the text, and changes nothing but strlen
pub reserved-run : (self : State → Result) (s : State) → s.cursor ≡ 0
    → (n : ℕ) × (settled 0 (run forward self is_reserved_word s) ≡ cond (reserved (reverse s.text)) (done (with_strlen s n)) (failed (with_strlen s n)))
unfolding is_reserved_word line run reserved with_strlen text encode_all encode
reserved-run self s e =
    let f = line-run self "ad" refl s e in
    let g = line-run self "soyad" refl (with_strlen s f.0) e in
    let is : String → Bool = λ l. same (reverse s.text) (from_end l) in
    let r = answered-or s (run forward self (line "soyad")) (is "ad") (is "soyad") f.0 (run forward self (line "ad") s) f.1 g in
    (r.0, ap (λ (c : ℕ). settled c (run forward self is_reserved_word s)) (sym e) ∙ r.1)
