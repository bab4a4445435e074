-- A literal that is itself a text takes whole characters: those before the cursor, or after it, are the literal's and then the others, and
-- from a place between two characters of a text the cursor comes to another such place. And it is passed wherever its characters stand
-- within the limits. Assumes nothing.
use Prim.Native.Nat.{ℕ, ◌+◌, ◌-◌, ◌≤◌, ◌<◌}
use mathlib.Core.Path.{◌≡◌, refl, sym, ap, ◌∙◌}
use mathlib.Core.Bool.{true, false≢true}
use mathlib.Core.List.{List, [], ◌∷◌, ◌++◌, reverse, append_assoc, reverse-append, reverse-reverse}
use native.Mathlib.Omega.{arith}
use lib.ListN.{length, take, drop, length-append, take-append-drop}
use lib.Seq.{drop-drop, length-take-le, take-append_seam, drop-append_seam}
use lib.Dec.{eqb}
use borrow.Author.Tests.{eqb-true, eq-eqb}
use Rattle.std.specs.Prelude.{Some}
use Rattle.std.specs.Option.{ForSome}
use Rattle.utf8.specs.declared.cursor.Cursor.{Cursor}
use Rattle.encoding.specs.Scalar.{scalars}
use Rattle.encoding.specs.Encoding.{encode_all}
use Rattle.encoding.specs.Text.{TextOf}
use Rattle.encoding.specs.Validity.{is_text}
use Rattle.utf8.specs.Characters.{before}
use Rattle.utf8.specs.Steps.{move_to, same, stands_at_of, eq_s_b_of, eq_s_of}
use Rattle.encoding.proofs.Laws.Booleans.{and_left, and_right}
use Rattle.utf8.proofs.Laws.Steps.{stands-ordered, eq_s_b_of-moves, eq_s_b_of-moved, eq_s_of-moves, eq_s_of-moved}
use Rattle.encoding.proofs.CheckExact.{is_text-encode_all-append, encodes-is_text, is_text-encodes}
use Rattle.utf8.proofs.TextCharacters.{encode_all-append, scalars-append, before_text, before-after, encode_all-injective}

-- ---- bytes that stand at a place ----

-- lists that the test finds equal are equal
pub same-equal : (a b : List ℕ) → same a b ≡ true → a ≡ b
unfolding same
same-equal [] [] e = refl
same-equal [] (y ∷ ys) e = absurd (false≢true e)
same-equal (x ∷ xs) [] e = absurd (false≢true e)
same-equal (x ∷ xs) (y ∷ ys) e =
    let h : x ≡ y = eqb-true x y (and_left (eqb x y) (same xs ys) e) in
    let t : xs ≡ ys = same-equal xs ys (and_right (eqb x y) (same xs ys) e) in
    cc

-- a list is found equal to itself
pub same_refl : (a : List ℕ) → same a a ≡ true
unfolding same
same_refl [] = refl
same_refl (x ∷ xs) = rw (eq-eqb x x refl) (same_refl xs)

-- where bytes stand, the word goes on with them and then with what follows them
stands_at_of-drop : (w : List ℕ) (i : ℕ) (s : List ℕ) → stands_at_of w i s ≡ true → drop i w ≡ s ++ drop (i + length s) w
unfolding stands_at_of
stands_at_of-drop w i s e = sym (take-append-drop (length s) (drop i w)) ∙ rw (same-equal (take (length s) (drop i w)) s e, drop-drop (length s) i w)

-- the whole word around them
stands_at_of-around : (w : List ℕ) (i : ℕ) (s : List ℕ) → stands_at_of w i s ≡ true → w ≡ take i w ++ s ++ drop (i + length s) w
stands_at_of-around w i s e = sym (take-append-drop i w) ∙ rw (append_assoc, ← stands_at_of-drop w i s e)

-- bytes stand where they were put
stands_at_of-between : (p s q : List ℕ) → stands_at_of (p ++ s ++ q) (length p) s ≡ true
unfolding stands_at_of
stands_at_of-between p s q = rw (append_assoc, drop-append_seam, take-append_seam) (same_refl s)

-- ---- back ----

-- back past a literal that is a text, over any bytes: the characters before the cursor are the literal's, from its end, and then those before the
-- place that the cursor comes to
pub eq_s_b_of-before : (w s : List ℕ) (r : Cursor) (t : TextOf s) → ForSome (eq_s_b_of w s r) (λ n. before w r.cursor ≡ reverse t.chars ++ before w n.cursor)
unfolding move_to
eq_s_b_of-before w s r t n m =
    let b = eq_s_b_of-moved w s r n m in
    let i : ℕ = r.cursor - length s in
    let p : List ℕ = take i w in
    let l : length p ≡ i = length-take-le i w (omega (arith, b)) in
    let k : length (p ++ encode_all t.chars) ≡ r.cursor = length-append p (encode_all t.chars) ∙ rw t.encoded (omega (arith, b)) in
    let around : w ≡ p ++ encode_all t.chars ++ drop (i + length s) w = rw t.encoded (stands_at_of-around w i s b.equal) in
    let at : n.cursor ≡ i = ap (λ (n : Cursor). n.cursor) b.lands in
    ap (before w) (sym k) ∙ before-after w p t.chars (drop (i + length s) w) t.valid around ∙ rw (l, at)

-- the literal's characters ls end the characters cs before the cursor, which comes from r to n, before them
pub record PassedBack (cs ls : List ℕ) (r n : Cursor) : Type 0 where
  pub front : List ℕ
  pub ends : cs ≡ front ++ ls
  pub lands : n ≡ move_to r (length (encode_all front))

-- so from between two characters of a text it comes to such a place
pub eq_s_b_of-whole : (cs ds ls : List ℕ) (r : Cursor) → scalars (cs ++ ds) ≡ true → scalars ls ≡ true → r.cursor ≡ length (encode_all cs)
    → ForSome (eq_s_b_of (encode_all (cs ++ ds)) (encode_all ls) r) (λ n. PassedBack cs ls r n)
eq_s_b_of-whole cs ds ls r h k e n m =
    let w : List ℕ = encode_all (cs ++ ds) in
    let b = eq_s_b_of-moved w (encode_all ls) r n m in
    let valid : scalars cs ≡ true = and_left (scalars cs) (scalars ds) (rw scalars-append at h) in
    let all : before w r.cursor ≡ reverse cs = rw (e, encode_all-append) (before_text cs (encode_all ds) valid) in
    let some : reverse cs ≡ reverse ls ++ before w n.cursor = sym all ∙ eq_s_b_of-before w (encode_all ls) r (record { chars = ls; valid = k; encoded = refl }) n m in
    let front : List ℕ = reverse (before w n.cursor) in
    let ends : cs ≡ front ++ ls = sym (reverse-reverse cs) ∙ ap reverse some ∙ rw (reverse-append, reverse-reverse) in
    let bytes : length (encode_all cs) ≡ length (encode_all front) + length (encode_all ls) =
    ap (λ (l : List ℕ). length (encode_all l)) ends ∙ ap length (encode_all-append front ls) ∙ length-append (encode_all front) (encode_all ls) in
    let place : r.cursor - length (encode_all ls) ≡ length (encode_all front) = omega arith in
    record { front = front; ends = ends; lands = b.lands ∙ ap (move_to r) place }

-- and it is passed where its characters stand, unless limit_backward comes first
pub eq_s_b_of-passes : (cs ls ds : List ℕ) (r : Cursor) → r.cursor ≡ length (encode_all (cs ++ ls)) → r.limit_backward ≤ length (encode_all cs)
    → r.cursor ≤ r.limit → r.limit ≤ length (encode_all (cs ++ ls ++ ds))
    → eq_s_b_of (encode_all (cs ++ ls ++ ds)) (encode_all ls) r ≡ Some (move_to r (length (encode_all cs)))
eq_s_b_of-passes cs ls ds r e l m n =
    let w : List ℕ = encode_all (cs ++ ls ++ ds) in
    let bytes : w ≡ encode_all cs ++ encode_all ls ++ encode_all ds = rw (encode_all-append, encode_all-append) in
    let sum : length (encode_all (cs ++ ls)) ≡ length (encode_all cs) + length (encode_all ls) = rw (encode_all-append, length-append) in
    let place : r.cursor - length (encode_all ls) ≡ length (encode_all cs) = omega arith in
    let equal : stands_at_of w (r.cursor - length (encode_all ls)) (encode_all ls) ≡ true =
    rw (place, bytes) (stands_at_of-between (encode_all cs) (encode_all ls) (encode_all ds)) in
    eq_s_b_of-moves w (encode_all ls) r (stands-ordered w r (omega arith) m n) (omega arith) equal ∙ ap (λ (i : ℕ). Some (move_to r i)) place

-- ---- on ----

-- the literal's characters ls begin the characters ds after the cursor, which comes from r, after cs, to n, after them
pub record PassedOn (cs ds ls : List ℕ) (r n : Cursor) : Type 0 where
  pub rest : List ℕ
  pub begins : ds ≡ ls ++ rest
  pub lands : n ≡ move_to r (length (encode_all (cs ++ ls)))

-- bytes that a text goes on with after some of its characters are a text
rest-text : (ds ls q : List ℕ) → scalars ds ≡ true → encode_all ds ≡ encode_all ls ++ q → TextOf q
rest-text ds ls q h e =
    is_text-encodes q (and_right (scalars ls) (is_text q) (sym (is_text-encode_all-append ls q) ∙ ap is_text (sym e) ∙ encodes-is_text ds h))

-- and whose characters follow those
rest-chars : (ds ls q : List ℕ) (t : TextOf q) → scalars ds ≡ true → scalars ls ≡ true → encode_all ds ≡ encode_all ls ++ q → ds ≡ ls ++ t.chars
rest-chars ds ls q t h k e =
    let both : scalars (ls ++ t.chars) ≡ true = rw (scalars-append, k, t.valid) in
    encode_all-injective ds (ls ++ t.chars) h both (e ∙ sym (encode_all-append ls t.chars ∙ ap (λ (l : List ℕ). encode_all ls ++ l) t.encoded))

-- on past a literal that is a text, from between two characters of a text: the characters after the cursor begin with the literal's, and it
-- comes to where they end
pub eq_s_of-whole : (cs ds ls : List ℕ) (r : Cursor) → scalars (cs ++ ds) ≡ true → scalars ls ≡ true → r.cursor ≡ length (encode_all cs)
    → ForSome (eq_s_of (encode_all (cs ++ ds)) (encode_all ls) r) (λ n. PassedOn cs ds ls r n)
eq_s_of-whole cs ds ls r h k e n m =
    let w : List ℕ = encode_all (cs ++ ds) in
    let o = eq_s_of-moved w (encode_all ls) r n m in
    let q : List ℕ = drop (r.cursor + length (encode_all ls)) w in
    let valid : scalars ds ≡ true = and_right (scalars cs) (scalars ds) (rw scalars-append at h) in
    let after : drop r.cursor w ≡ encode_all ds = rw (e, encode_all-append, drop-append_seam) in
    let bytes : encode_all ds ≡ encode_all ls ++ q = sym after ∙ stands_at_of-drop w r.cursor (encode_all ls) o.equal in
    let t = rest-text ds ls q valid bytes in
    let place : r.cursor + length (encode_all ls) ≡ length (encode_all (cs ++ ls)) = rw (encode_all-append, length-append, e) in
    record { rest = t.chars; begins = rest-chars ds ls q t valid k bytes; lands = o.lands ∙ ap (move_to r) place }

-- and it is passed where its characters stand, unless limit comes first
pub eq_s_of-passes : (cs ls ds : List ℕ) (r : Cursor) → r.cursor ≡ length (encode_all cs) → r.limit_backward ≤ r.cursor → r.cursor < r.limit
    → length (encode_all (cs ++ ls)) ≤ r.limit → r.limit ≤ length (encode_all (cs ++ ls ++ ds))
    → eq_s_of (encode_all (cs ++ ls ++ ds)) (encode_all ls) r ≡ Some (move_to r (length (encode_all (cs ++ ls))))
eq_s_of-passes cs ls ds r e l b m n =
    let w : List ℕ = encode_all (cs ++ ls ++ ds) in
    let bytes : w ≡ encode_all cs ++ encode_all ls ++ encode_all ds = rw (encode_all-append, encode_all-append) in
    let place : r.cursor + length (encode_all ls) ≡ length (encode_all (cs ++ ls)) = rw (encode_all-append, length-append, e) in
    let equal : stands_at_of w r.cursor (encode_all ls) ≡ true = rw (e, bytes) (stands_at_of-between (encode_all cs) (encode_all ls) (encode_all ds)) in
    eq_s_of-moves w (encode_all ls) r (stands-ordered w r l (omega arith) n) b (omega arith) equal ∙ ap (λ (i : ℕ). Some (move_to r i)) place
