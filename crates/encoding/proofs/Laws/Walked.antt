-- A word walked over up to a place, its characters of one and two bytes: walks one after the other and over a plain run, and what a walk says
-- of the check. Assumes nothing.
use Prim.Native.Nat.{ℕ, zero, suc, ◌+◌, ◌-◌, ◌≤◌, ◌<◌, suc-le-suc}
use mathlib.Core.Path.{◌≡◌, refl, sym, ap, ◌∙◌}
use mathlib.Core.Bool.{Bool, true, false, cond, ◌&&◌, and_assoc, and-true, false≢true}
use mathlib.Core.Logic.{◌⊎◌, inl, inr}
use mathlib.Core.List.{List, [], ◌∷◌}
use native.Mathlib.Nat.{zero-add, suc-add, not-suc-le-zero, zero-lt-suc, le_of_suc-le-suc}
use native.Mathlib.Numerals.{add-one, sub-one}
use native.Mathlib.Omega.{arith}
use lib.ListN.{length, drop, get_or}
use lib.Seq.{drop-cons}
use lib.Dec.{ltb, leb}
use borrow.Author.Tests.{lt-leb, le-leb, leb-true, leb-false, ltb-true}
use Rattle.encoding.specs.Validity.{due, accepts, is_text, table37}
use Rattle.encoding.specs.Encoding.{continuation}
use Rattle.encoding.specs.Neighbours.{short_begins, short_follows}
use Rattle.encoding.specs.Walked.{byte_before, owed_at, short_next, walked}
use Rattle.encoding.specs.PlainRuns.{plain_next, run_end_of}
use Rattle.encoding.proofs.Laws.Booleans.{and_left, and_right, or-either}
use Rattle.encoding.proofs.Laws.Validity.{is_text-row, accepts-due}
use Rattle.encoding.proofs.Laws.PlainRuns.{run-from, run-plain}
use Rattle.encoding.proofs.Laws.Parts.{text-plain}

-- ---- walks one after the other ----

-- a walk over i bytes and over m more
next-join : (i m a : ℕ) (w : List ℕ) → short_next (i + m) a w ≡ short_next i a w && short_next m (get_or (a ∷ w) i 0) (drop i w)
unfolding short_next
next-join zero m a w = rw (zero-add m)
next-join (suc i) m a [] = rw (suc-add i m)
next-join (suc i) m a (x ∷ xs) =
    rw (suc-add i m, next-join i m x xs) (sym (and_assoc (short_follows a x) (short_next i x xs) (short_next m (get_or (x ∷ xs) i 0) (drop i xs))))

-- what is walked to a place and on from it is walked to the end
walked_on : (w : List ℕ) (i m : ℕ) → walked w i ≡ true → short_next m (byte_before w i) (drop i w) ≡ true → walked w (i + m) ≡ true
unfolding byte_before
walked_on w i m e f = rw (next-join i m 0 w, e, f)

-- what is walked to a place is walked to every place before it
walked-less : (w : List ℕ) (i j : ℕ) → j ≤ i → walked w i ≡ true → walked w j ≡ true
walked-less w i j h e =
    let s : j + (i - j) ≡ i = omega arith in
    and_left (short_next j 0 w) _ (sym (next-join j (i - j) 0 w) ∙ ap (walked w) s ∙ e)

-- a walk to one place and a second of m bytes to another, which begins where the first ends or before
pub walked_to : (w : List ℕ) (i j m k : ℕ) → j ≤ i → j + m ≡ k → walked w i ≡ true → short_next m (byte_before w j) (drop j w) ≡ true → walked w k ≡ true
walked_to w i j m k h s e f = sym (ap (walked w) s) ∙ walked_on w j m (walked-less w i j h e) f

-- the first byte
pub walked-first : (w : List ℕ) → 0 < length w → short_begins (get_or w 0 0) ≡ true → walked w 1 ≡ true
unfolding short_next short_follows
walked-first [] h e = absurd (omega arith)
walked-first (x ∷ xs) h e = rw e

-- the byte before a place as the code reads it
pub byte_before-at : (w : List ℕ) (i : ℕ) → 0 < i → get_or w (i - 1) 0 ≡ byte_before w i
unfolding byte_before
byte_before-at w zero h = absurd (omega arith)
byte_before-at w (suc i) h = rw (sub-one)

-- a byte more
pub next-at : (w : List ℕ) (i k : ℕ) (ok r : Bool) → 0 < i → i < k → k ≤ length w → r ≡ short_follows (get_or w (i - 1) 0) (get_or w i 0)
    → ok && r && short_next (k - (i + 1)) (byte_before w (i + 1)) (drop (i + 1) w) ≡ ok && short_next (k - i) (byte_before w i) (drop i w)
unfolding short_next
next-at w i k ok r p h l e =
    let n : k - i ≡ suc (k - (i + 1)) = omega arith in
    let b : byte_before w (i + 1) ≡ get_or w i 0 = sym (byte_before-at w (i + 1) (omega arith)) ∙ ap (λ (j : ℕ). get_or w j 0) (omega arith) in
    rw (e, byte_before-at w i p, n, drop-cons w i 0 (omega arith), b, add-one i)
    (and_assoc ok (short_follows (byte_before w i) (get_or w i 0)) (short_next (k - suc i) (get_or w i 0) (drop (suc i) w)))

-- the end
pub next-end : (i k a : ℕ) (w : List ℕ) (ok : Bool) → k ≤ i → ok ≡ ok && short_next (k - i) a w
unfolding short_next
next-end i k a w ok h = let n : k - i ≡ 0 = omega arith in rw n (sym (and-true ok))

-- plain bytes are walked over where no byte is owed
plain-walked : (n a : ℕ) (w : List ℕ) → a < 0xC0 → plain_next n w ≡ true → short_next n a w ≡ true
unfolding plain_next short_next short_follows short_begins
plain-walked zero a w h e = refl
plain-walked (suc n) a [] h e = absurd (false≢true e)
plain-walked (suc n) a (b ∷ bs) h e =
    let p = and_left (ltb b 0x80) (plain_next n bs) e in
    let l = ltb-true b 0x80 p in
    rw (lt-leb 0xC0 a h, p) (plain-walked n b bs (omega arith) (and_right (ltb b 0x80) (plain_next n bs) e))

-- so is a plain run
pub walked-run : (w : List ℕ) (i : ℕ) → walked w i ≡ true → owed_at w i ≡ false → walked w (run_end_of w i) ≡ true
walked-run w i e h =
    let s : i + (run_end_of w i - i) ≡ run_end_of w i = omega (arith, run-from w i) in
    sym (ap (walked w) s) ∙ walked_on w i (run_end_of w i - i) e (plain-walked (run_end_of w i - i) (byte_before w i) (drop i w) (leb-false 0xC0 (byte_before w i) h) (run-plain w i))

-- ---- what a walk says of the check ----

-- the check's state after a byte of such a walk: one byte due after a first byte of two, none elsewhere
abbrev more : ℕ → ℕ
more a = cond (leb 0xC0 a) 1 0

-- an ASCII byte takes the check on
begun-one : (x : ℕ) (xs : List ℕ) → x < 0x80 → is_text (x ∷ xs) ≡ accepts (due (more x) 0x80 0xBF) xs
unfolding is_text
begun-one x xs h = text-plain x xs h ∙ rw (lt-leb 0xC0 x (omega arith))

-- so does a first byte of two
begun-two : (x : ℕ) (xs : List ℕ) → 0xC2 ≤ x → x < 0xE0 → is_text (x ∷ xs) ≡ accepts (due (more x) 0x80 0xBF) xs
unfolding table37
begun-two x xs l u = is_text-row 1 x xs (omega arith, (omega arith, tt), omega arith, omega arith) ∙ rw (le-leb 0xC0 x (omega arith))

-- one or the other
begun : (x : ℕ) (xs : List ℕ) → short_begins x ≡ true → is_text (x ∷ xs) ≡ accepts (due (more x) 0x80 0xBF) xs
unfolding short_begins
begun x xs e = go (or-either (ltb x 0x80) (leb 0xC2 x && ltb x 0xE0) e)
  where
    go : (ltb x 0x80 ≡ true) ⊎ (leb 0xC2 x && ltb x 0xE0 ≡ true) → is_text (x ∷ xs) ≡ accepts (due (more x) 0x80 0xBF) xs
    go (inl f) = begun-one x xs (ltb-true x 0x80 f)
    go (inr g) = begun-two x xs (leb-true 0xC2 x (and_left (leb 0xC2 x) (ltb x 0xE0) g)) (ltb-true x 0xE0 (and_right (leb 0xC2 x) (ltb x 0xE0) g))

-- and a byte that goes on where one is due
gone-on : (x : ℕ) (xs : List ℕ) → continuation x ≡ true → accepts (due 1 0x80 0xBF) (x ∷ xs) ≡ accepts (due (more x) 0x80 0xBF) xs
unfolding continuation
gone-on x xs e =
    let u = leb-true x 0xBF (and_right (leb 0x80 x) (leb x 0xBF) e) in
    accepts-due 0 0x80 0xBF x xs ∙ rw (and_left (leb 0x80 x) (leb x 0xBF) e, le-leb x 0xBF u, lt-leb 0xC0 x (omega arith))

-- so every byte that may follow
step-check : (a x : ℕ) (xs : List ℕ) → short_follows a x ≡ true → accepts (due (more a) 0x80 0xBF) (x ∷ xs) ≡ accepts (due (more x) 0x80 0xBF) xs
unfolding short_follows is_text
step-check a x xs = go (leb 0xC0 a)
  where
    go : (t : Bool) → cond t (continuation x) (short_begins x) ≡ true → accepts (due (cond t 1 0) 0x80 0xBF) (x ∷ xs) ≡ accepts (due (more x) 0x80 0xBF) xs
    go true e = gone-on x xs e
    go false e = begun x xs e

-- a whole walk takes the check to its end
walked-check : (n a : ℕ) (w : List ℕ) → short_next n a w ≡ true
    → accepts (due (more a) 0x80 0xBF) w ≡ accepts (due (more (get_or (a ∷ w) n 0)) 0x80 0xBF) (drop n w)
unfolding short_next
walked-check zero a w e = refl
walked-check (suc n) a [] e = absurd (false≢true e)
walked-check (suc n) a (x ∷ xs) e =
    step-check a x xs (and_left (short_follows a x) (short_next n x xs) e) ∙ walked-check n x xs (and_right (short_follows a x) (short_next n x xs) e)

-- where no byte is owed at the place, the check of the rest is the check of the word
pub text-from : (w : List ℕ) (i : ℕ) → walked w i ≡ true → owed_at w i ≡ false → is_text (drop i w) ≡ is_text w
unfolding is_text byte_before
text-from w i e h = sym (walked-check i 0 w e ∙ rw h)

-- each byte of a walk may follow the one before it
walked_at : (n a : ℕ) (w : List ℕ) (j : ℕ) → j < n → short_next n a w ≡ true → (j < length w) × (short_follows (get_or (a ∷ w) j 0) (get_or w j 0) ≡ true)
unfolding short_next
walked_at zero a w j h e = absurd (not-suc-le-zero h)
walked_at (suc n) a [] j h e = absurd (false≢true e)
walked_at (suc n) a (x ∷ xs) zero h e = (zero-lt-suc (length xs), and_left (short_follows a x) (short_next n x xs) e)
walked_at (suc n) a (x ∷ xs) (suc j) h e =
    let at = walked_at n x xs j (le_of_suc-le-suc h) (and_right (short_follows a x) (short_next n x xs) e) in
    (suc-le-suc at.0, at.1)

-- one that is no further byte begins a character
follows-begins : (a x : ℕ) → 0xC0 ≤ x → short_follows a x ≡ true → short_begins x ≡ true
unfolding short_follows continuation
follows-begins a x h = go (leb 0xC0 a)
  where
    go : (t : Bool) → cond t (leb 0x80 x && leb x 0xBF) (short_begins x) ≡ true → short_begins x ≡ true
    go true e = let u = leb-true x 0xBF (and_right (leb 0x80 x) (leb x 0xBF) e) in absurd (omega arith)
    go false e = e

-- where one is owed, the same holds from the byte that asks for it
begun-at : (w : List ℕ) (j : ℕ) → walked w (suc j) ≡ true → 0xC0 ≤ get_or w j 0 → is_text (drop j w) ≡ is_text w
begun-at w j e h =
    let at = walked_at (suc j) 0 w j (omega arith) e in
    ap is_text (drop-cons w j 0 at.0) ∙ begun (get_or w j 0) (drop (suc j) w) (follows-begins (get_or (0 ∷ w) j 0) (get_or w j 0) h at.1)
    ∙ sym (unfold is_text in walked-check (suc j) 0 w e)

-- which is the one before the place
pub text-before : (w : List ℕ) (i : ℕ) → 0 < i → walked w i ≡ true → owed_at w i ≡ true → is_text (drop (i - 1) w) ≡ is_text w
unfolding byte_before
text-before w zero p e h = absurd (omega arith)
text-before w (suc j) p e h = rw (sub-one) (begun-at w j e (leb-true 0xC0 (get_or w j 0) h))
