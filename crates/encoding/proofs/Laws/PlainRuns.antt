-- Plain runs: eight bytes as one number, whose top bits tell whether they are plain, and where the run from a place on ends.
-- Assumes nothing.
use Prim.Native.Nat.{ℕ, zero, suc, ◌+◌, ◌-◌, ◌*◌, ◌/◌, ◌%◌, ◌≤◌, ◌<◌}
use mathlib.Core.Path.{◌≡◌, refl, sym, ap, ◌∙◌}
use mathlib.Core.Bool.{Bool, true, false, ◌&&◌, and_assoc, and-true, false≢true}
use mathlib.Core.List.{List, [], ◌∷◌}
use native.Mathlib.Nat.{zero-add, suc-add, add-zero, add-sub_cancel_left}
use native.Mathlib.Omega.{arith}
use lib.ListN.{length, take, drop, get_or, length-drop}
use Rattle.std.proofs.lemmas.List.{length-take-le}
use lib.Seq.{drop-cons, drop-drop}
use lib.Dec.{ltb, eqb, eqb-suc-zero}
use lib.Bits.{bit_and, and_block, and_high}
use borrow.Author.Tests.{lt-ltb, le-ltb, ltb-true, ne_eqb}
use Rattle.std.specs.Int.{w64, from_le_bytes}
use Rattle.std.specs.List.{fold, list_all}
use Rattle.std.specs.Simd.{first_chunks}
use Rattle.encoding.specs.PlainRuns.{word_bytes, plain_next, run_in, run_end_of, joined}
use Rattle.encoding.proofs.Laws.Booleans.{and_left, and_right, and-false, cond_cases, lt-or-le}

-- ---- the next n bytes ----

-- plain bytes are there
pub plain-there : (n : ℕ) (w : List ℕ) → plain_next n w ≡ true → n ≤ length w
unfolding plain_next
plain-there zero w e = omega arith
plain-there (suc n) [] e = absurd (false≢true e)
plain-there (suc n) (b ∷ bs) e = omega (arith, plain-there n bs (and_right (ltb b 0x80) (plain_next n bs) e))

-- and each is below 0x80
pub plain-below : (n : ℕ) (w : List ℕ) (j : ℕ) → plain_next n w ≡ true → j < n → get_or w j 0 < 0x80
unfolding plain_next
plain-below zero w j e h = absurd (omega arith)
plain-below (suc n) [] j e h = absurd (false≢true e)
plain-below (suc n) (b ∷ bs) zero e h = ltb-true b 0x80 (and_left (ltb b 0x80) (plain_next n bs) e)
plain-below (suc n) (b ∷ bs) (suc j) e h = plain-below n bs j (and_right (ltb b 0x80) (plain_next n bs) e) (omega arith)

-- where too few are left they are not plain
pub plain-short : (n : ℕ) (w : List ℕ) → length w < n → plain_next n w ≡ false
unfolding plain_next
plain-short zero w h = absurd (omega arith)
plain-short (suc n) [] h = refl
plain-short (suc n) (b ∷ bs) h = rw (plain-short n bs (omega arith)) (and-false (ltb b 0x80))

-- the next m + n are the next m and n more
pub plain-add : (m n : ℕ) (w : List ℕ) → plain_next (m + n) w ≡ plain_next m w && plain_next n (drop m w)
unfolding plain_next
plain-add zero n w = ap (λ (k : ℕ). plain_next k w) (zero-add n)
plain-add (suc m) n [] = ap (λ (k : ℕ). plain_next k []) (suc-add m n)
plain-add (suc m) n (b ∷ bs) =
    ap (λ (k : ℕ). plain_next k (b ∷ bs)) (suc-add m n) ∙ ap (λ (t : Bool). ltb b 0x80 && t) (plain-add m n bs)
    ∙ sym (and_assoc (ltb b 0x80) (plain_next m bs) (plain_next n (drop m bs)))

-- the next m and n more, from a place on
plain-on : (m n : ℕ) (w : List ℕ) (i : ℕ) → plain_next (m + n) (drop i w) ≡ plain_next m (drop i w) && plain_next n (drop (i + m) w)
plain-on m n w i = rw (plain-add m n (drop i w), drop-drop m i w)

-- whether n bytes are plain is told by these n alone
plain-taken : (n : ℕ) (w : List ℕ) → plain_next n (take n w) ≡ plain_next n w
unfolding plain_next
plain-taken zero w = refl
plain-taken (suc n) [] = refl
plain-taken (suc n) (b ∷ bs) = ap (λ (t : Bool). ltb b 0x80 && t) (plain-taken n bs)

-- ---- a word of bytes, and its top bits ----

-- a word of n bytes with each byte's top bit set
unfoldable tops : ℕ → ℕ
tops zero = 0
tops (suc n) = tops n * 0x100 + 0x80

-- the top bit of a byte tells whether it is plain
top-plain : (b : ℕ) → b < 0x100 → eqb (bit_and b 0x80) 0 ≡ ltb b 0x80
top-plain b h = rw (and_high b 1 7) (lt-or-le b 0x80
    (λ l. let q : b / 0x80 ≡ 0 = omega arith in rw q (sym (lt-ltb b 0x80 l)))
    (λ l. let q : b / 0x80 ≡ 1 = omega arith in rw q (sym (le-ltb b 0x80 l))))

-- a sum is zero where both parts are
zero-both : (x y : ℕ) → eqb (x * 0x100 + y) 0 ≡ eqb y 0 && eqb x 0
zero-both zero zero = refl
zero-both x (suc y) = ne_eqb (x * 0x100 + suc y) 0 (λ z. omega arith) ∙ sym (rw (eqb-suc-zero y))
zero-both (suc x) zero = ne_eqb (suc x * 0x100 + 0) 0 (λ z. omega arith) ∙ sym (eqb-suc-zero x)

-- the top bits of n joined bytes tell whether they are plain
tops-plain : (n : ℕ) (w : List ℕ) → ((j : ℕ) → get_or w j 0 < 0x100) → n ≤ length w → eqb (bit_and (joined n w) (tops n)) 0 ≡ plain_next n w
unfolding joined plain_next tops
tops-plain zero w f h = refl
tops-plain (suc n) [] f h = absurd (omega arith)
tops-plain (suc n) (b ∷ bs) f h =
    let l = f 0 in
    rw (and_block 8 (joined n bs) (tops n) b 0x80 l (omega arith), zero-both (bit_and (joined n bs) (tops n)) (bit_and b 0x80))
    (rw (top-plain b l, tops-plain n bs (λ j. f (suc j)) (omega arith)))

-- eight, tested as one number
pub word-plain : (w : List ℕ) (x : ℕ) → ((j : ℕ) → get_or w j 0 < 0x100) → length w ≡ word_bytes → x ≡ joined word_bytes w
    → eqb (bit_and x 0x8080808080808080) 0 ≡ plain_next word_bytes w
unfolding tops
word-plain w x f h e = rw e (tops-plain word_bytes w f (omega arith))

-- the byte at a place and n more from the next on
joined_at : (n : ℕ) (w : List ℕ) (i j : ℕ) → i < length w → suc i ≡ j → joined (suc n) (drop i w) ≡ joined n (drop j w) * 0x100 + get_or w i 0
unfolding joined
joined_at n w i j h e = rw (drop-cons w i 0 h, e)

-- eight as a sum
joined-sum : (w : List ℕ) (i : ℕ) → i + word_bytes ≤ length w → joined word_bytes (drop i w)
    ≡ get_or w i 0 + get_or w (i + 1) 0 * 0x100 + get_or w (i + 2) 0 * 0x10000 + get_or w (i + 3) 0 * 0x1000000 + get_or w (i + 4) 0 * 0x100000000
    + get_or w (i + 5) 0 * 0x10000000000 + get_or w (i + 6) 0 * 0x1000000000000 + get_or w (i + 7) 0 * 0x100000000000000
unfolding joined
joined-sum w i h =
    omega (
      arith,
      joined_at 7 w i (i + 1) (omega arith) (omega arith),
      joined_at 6 w (i + 1) (i + 2) (omega arith) (omega arith),
      joined_at 5 w (i + 2) (i + 3) (omega arith) (omega arith),
      joined_at 4 w (i + 3) (i + 4) (omega arith) (omega arith),
      joined_at 3 w (i + 4) (i + 5) (omega arith) (omega arith),
      joined_at 2 w (i + 5) (i + 6) (omega arith) (omega arith),
      joined_at 1 w (i + 6) (i + 7) (omega arith) (omega arith),
      joined_at 0 w (i + 7) (i + 8) (omega arith) (omega arith),
    )

-- which is what std makes of them
pub joined_word : (w : List ℕ) → length w ≡ word_bytes → from_le_bytes w64 w ≡ joined word_bytes w
joined_word w h = sym (joined-sum w 0 (omega arith))

-- ---- a run at the front ----

-- it is plain
run_in-plain : (k : ℕ) (w : List ℕ) → plain_next (run_in k w) w ≡ true
unfolding run_in plain_next
run_in-plain zero w = refl
run_in-plain (suc k) w =
    cond_cases (λ (r : ℕ). plain_next r w ≡ true) (plain_next word_bytes w)
    (λ e. plain-add word_bytes (run_in k (drop word_bytes w)) w ∙ rw (e, run_in-plain k (drop word_bytes w))) (λ e. refl)

-- it has whole eights
run_in-eights : (k : ℕ) (w : List ℕ) → (m : ℕ) × (run_in k w ≡ m * word_bytes)
unfolding run_in
run_in-eights zero w = (0, refl)
run_in-eights (suc k) w =
    let n = run_in-eights k (drop word_bytes w) in
    cond_cases (λ (r : ℕ). (m : ℕ) × (r ≡ m * word_bytes)) (plain_next word_bytes w) (λ e. (suc n.0, omega (arith, n.1))) (λ e. (0, refl))

-- the eight after it are not plain
run_in-stops : (k : ℕ) (w : List ℕ) → length w < suc k * word_bytes → plain_next word_bytes (drop (run_in k w) w) ≡ false
unfolding run_in
run_in-stops zero w h = plain-short word_bytes w (omega arith)
run_in-stops (suc k) w h =
    cond_cases (λ (r : ℕ). plain_next word_bytes (drop r w) ≡ false) (plain_next word_bytes w)
    (λ e. rw (← drop-drop (run_in k (drop word_bytes w)) word_bytes w) (run_in-stops k (drop word_bytes w) (omega (arith, length-drop word_bytes w))))
    (λ e. e)

-- where the next eight are not plain there is none
run_in-none : (k : ℕ) (w : List ℕ) → plain_next word_bytes w ≡ false → run_in k w ≡ 0
unfolding run_in
run_in-none zero w e = refl
run_in-none (suc k) w e = rw e

-- ---- eights, some in a turn ----

-- a test of all, made one by one
pub all-folded : {X : Type 0} (p : X → Bool) (t : Bool) (xs : List X) → fold (λ b x. b && p x) t xs ≡ t && list_all p xs
all-folded p t [] = sym (and-true t)
all-folded p t (x ∷ xs) = all-folded p (t && p x) xs ∙ and_assoc t (p x) (list_all p xs)

-- whether the first k eights are plain
eights-plain : (k : ℕ) (w : List ℕ) → list_all (plain_next word_bytes) (first_chunks word_bytes k w) ≡ plain_next (word_bytes * k) w
unfolding plain_next
eights-plain zero w = refl
eights-plain (suc k) w =
    let n : word_bytes * suc k ≡ word_bytes + word_bytes * k = omega arith in
    rw (n, plain-add word_bytes (word_bytes * k) w, plain-taken word_bytes w, eights-plain k (drop word_bytes w)) refl

-- whether n bytes from a place on are, told of their eights, where these are all of them
pub plain-by-eights : (w : List ℕ) (i n m : ℕ) {r : Bool} {es : List (List ℕ)} → m ≡ n → n % word_bytes ≡ 0 → i + n ≤ length w
    → es ≡ first_chunks word_bytes (length (take m (drop i w)) / word_bytes) (take m (drop i w)) → r ≡ list_all (plain_next word_bytes) es
    → r ≡ plain_next n (drop i w)
plain-by-eights w i n m s e h f q =
    let l : length (take n (drop i w)) ≡ n = length-take-le n (drop i w) (omega (arith, length-drop i w)) in
    let k : word_bytes * (n / word_bytes) ≡ n = omega arith in
    q ∙ ap (list_all (plain_next word_bytes)) f ∙ rw (s, l) (eights-plain (n / word_bytes) (take n (drop i w)) ∙ rw k (plain-taken n (drop i w)))

-- ---- where the run from a place on ends ----

-- at the place or later
pub run-from : (w : List ℕ) (i : ℕ) → i ≤ run_end_of w i
unfolding run_end_of
run-from w i = omega arith

-- what it passes over is plain
pub run-plain : (w : List ℕ) (i : ℕ) → plain_next (run_end_of w i - i) (drop i w) ≡ true
unfolding run_end_of
run-plain w i =
    let k = length (drop i w) / word_bytes in rw (add-sub_cancel_left i (run_in k (drop i w))) (run_in-plain k (drop i w))

-- it ends within the list
pub run-upto : (w : List ℕ) (i : ℕ) → i ≤ length w → run_end_of w i ≤ length w
run-upto w i h = omega (arith, plain-there (run_end_of w i - i) (drop i w) (run-plain w i), length-drop i w)

-- it passes over whole eights
pub run-eights : (w : List ℕ) (i : ℕ) → (k : ℕ) × (run_end_of w i ≡ i + k * word_bytes)
unfolding run_end_of
run-eights w i = let n = run_in-eights (length (drop i w) / word_bytes) (drop i w) in (n.0, ap (λ (r : ℕ). i + r) n.1)

-- the eight after its end are not plain
pub run-stops : (w : List ℕ) (i : ℕ) → plain_next word_bytes (drop (run_end_of w i) w) ≡ false
unfolding run_end_of
run-stops w i =
    let k = length (drop i w) / word_bytes in rw (← drop-drop (run_in k (drop i w)) i w) (run_in-stops k (drop i w) (omega arith))

-- where the next eight are not plain it ends at once
pub run_ends : (w : List ℕ) (i : ℕ) → plain_next word_bytes (drop i w) ≡ false → run_end_of w i ≡ i
unfolding run_end_of
run_ends w i e = omega (arith, run_in-none (length (drop i w) / word_bytes) (drop i w) e)

-- and where fewer than eight are left
pub run_short : (w : List ℕ) (i : ℕ) → length w < i + word_bytes → run_end_of w i ≡ i
run_short w i h = run_ends w i (plain-short word_bytes (drop i w) (omega (arith, length-drop i w)))

-- where they are plain it goes on after them
pub run_on : (w : List ℕ) (i : ℕ) → plain_next word_bytes (drop i w) ≡ true → run_end_of w (i + word_bytes) ≡ run_end_of w i
unfolding run_end_of run_in
run_on w i e =
    let k : length (drop i w) / word_bytes ≡ suc (length (drop (i + word_bytes) w) / word_bytes) =
    omega (arith, plain-there word_bytes (drop i w) e, length-drop i w, length-drop (i + word_bytes) w) in
    rw (k, e, drop-drop word_bytes i w) (omega arith)

-- and after any number of eights
pub run-on-eights : (k : ℕ) (w : List ℕ) (i : ℕ) → plain_next (k * word_bytes) (drop i w) ≡ true → run_end_of w (i + k * word_bytes) ≡ run_end_of w i
run-on-eights zero w i e = ap (run_end_of w) (add-zero i)
run-on-eights (suc k) w i e =
    let n : suc k * word_bytes ≡ k * word_bytes + word_bytes = omega arith in
    let m : i + suc k * word_bytes ≡ i + k * word_bytes + word_bytes = omega arith in
    let f = sym (plain-on (k * word_bytes) word_bytes w i) ∙ (rw n at e) in
    ap (run_end_of w) m ∙ run_on w (i + k * word_bytes) (and_right (plain_next (k * word_bytes) (drop i w)) _ f)
    ∙ run-on-eights k w i (and_left (plain_next (k * word_bytes) (drop i w)) _ f)

-- after any number of bytes that is whole eights
pub run-on-bytes : (w : List ℕ) (i n : ℕ) → n % word_bytes ≡ 0 → plain_next n (drop i w) ≡ true → run_end_of w (i + n) ≡ run_end_of w i
run-on-bytes w i n e f =
    let m : n / word_bytes * word_bytes ≡ n = omega arith in
    sym (ap (λ (k : ℕ). run_end_of w (i + k)) m) ∙ run-on-eights (n / word_bytes) w i (rw m f)
