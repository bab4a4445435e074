-- A word cut where no character goes on: its check is the checks of its parts; and past a plain run the check is the same. Assumes nothing.
use Prim.Native.Nat.{ℕ, zero, suc, ◌+◌, ◌-◌, ◌≤◌, ◌<◌}
use mathlib.Core.Path.{◌≡◌, refl, sym, ap, ◌∙◌}
use mathlib.Core.Bool.{Bool, true, false, ◌&&◌, and_assoc, false≢true}
use mathlib.Core.List.{List, [], ◌∷◌, ◌++◌}
use native.Mathlib.Omega.{arith}
use lib.ListN.{length, drop, take, get_or, take-append-drop, drop_of_length-le}
use lib.Seq.{drop-drop, drop-cons}
use lib.Dec.{ltb, leb, eqb}
use borrow.Author.Tests.{le-leb, leb-true, ltb-true, eqb-true}
use Rattle.std.specs.List.{prefix_len}
use Rattle.encoding.specs.Validity.{Due, due, refused, next, accepts, is_text, table37}
use Rattle.encoding.specs.Encoding.{continuation}
use Rattle.encoding.specs.Parts.{boundary}
use Rattle.encoding.specs.PlainRuns.{plain_next, run_end_of}
use Rattle.encoding.proofs.Laws.Booleans.{and_left, and_right, cond_both, cond_cases, not-eq-false}
use Rattle.encoding.proofs.Laws.Validity.{next-lead, is_text-row}
use Rattle.encoding.proofs.Laws.Neighbours.{lead-range}
use Rattle.encoding.proofs.Laws.PlainRuns.{run-from, run-plain}

-- what a state leaves due lies among the bytes that go on with a character
abbrev Within : Due → Type 0
Within d = (0x80 ≤ d.low) × (d.high ≤ 0xBF)

-- so it does after a byte more
next-within : (d : Due) (b : ℕ) → Within (next d b)
unfolding next due refused
next-within d b =
    cond_both Within (eqb d.need 0) _ _ (lead-range b)
    (cond_both Within (leb d.low b && leb b d.high) (due (d.need - 1) 0x80 0xBF) refused (omega arith) (omega arith))

-- where nothing is due the check goes on as from the start
accepts-none : (d : Due) (w : List ℕ) → d.need ≡ 0 → accepts d w ≡ is_text w
unfolding accepts is_text due
accepts-none d [] n = rw n
accepts-none d (b ∷ bs) n = rw (next-lead d b n, next-lead (due 0 0x80 0xBF) b refl)

-- a byte that goes on with none is not in the range
out_of_range : (lo hi b : ℕ) → 0x80 ≤ lo → hi ≤ 0xBF → continuation b ≡ false → leb lo b && leb b hi ≡ false
unfolding continuation
out_of_range lo hi b l h e = go (leb lo b && leb b hi) refl
  where
    go : (t : Bool) → leb lo b && leb b hi ≡ t → t ≡ false
    go false f = refl
    go true f =
        let p = leb-true lo b (and_left (leb lo b) (leb b hi) f) in
        let q = leb-true b hi (and_right (leb lo b) (leb b hi) f) in
        sym (rw (le-leb 0x80 b (omega arith), le-leb b 0xBF (omega arith))) ∙ e

-- where a byte is due, the end and a byte that goes on with no character are refused
accepts-some : (d : Due) (w : List ℕ) → Within d → eqb d.need 0 ≡ false → boundary w ≡ true → accepts d w ≡ false
unfolding accepts next boundary refused
accepts-some d [] h n b = n
accepts-some d (x ∷ xs) h n b = rw (n, out_of_range d.low d.high x h.0 h.1 (not-eq-false (continuation x) b))

-- the walk over both parts
accepts-cut : (d : Due) (xs ys : List ℕ) → Within d → boundary ys ≡ true → accepts d (xs ++ ys) ≡ accepts d xs && is_text ys
unfolding accepts
accepts-cut d [] ys h b = go (eqb d.need 0) refl
  where
    go : (t : Bool) → eqb d.need 0 ≡ t → accepts d ys ≡ t && is_text ys
    go true e = accepts-none d ys (eqb-true d.need 0 e)
    go false e = accepts-some d ys h e b
accepts-cut d (x ∷ xs) ys h b = rw (accepts-cut (next d x) xs ys (next-within d x) b) (sym (and_assoc (next d x).ok (accepts (next d x) xs) (is_text ys)))

-- the check of two parts
pub text-join : (xs ys : List ℕ) → boundary ys ≡ true → is_text (xs ++ ys) ≡ is_text xs && is_text ys
unfolding is_text due
text-join xs ys b = accepts-cut (due 0 0x80 0xBF) xs ys (omega arith) b

-- the check from a place on is the check of a part, told here, and the check from its end on
pub text-cut : (w : List ℕ) (i j : ℕ) {t : Bool} → i ≤ j → boundary (drop j w) ≡ true → is_text (take (j - i) (drop i w)) ≡ t
    → t && is_text (drop j w) ≡ is_text (drop i w)
text-cut w i j h b e =
    let s : i + (j - i) ≡ j = omega arith in
    let d : drop (j - i) (drop i w) ≡ drop j w = drop-drop (j - i) i w ∙ ap (λ (k : ℕ). drop k w) s in
    sym (ap (λ (t : Bool). t && is_text (drop j w)) e) ∙ sym (text-join (take (j - i) (drop i w)) (drop j w) b)
    ∙ ap (λ (v : List ℕ). is_text (take (j - i) (drop i w) ++ v)) (sym d) ∙ ap is_text (take-append-drop (j - i) (drop i w))

-- the check of a word is the check of its first n bytes, told here, and the check of the others
pub text-parts : (w : List ℕ) (n : ℕ) {t : Bool} → boundary (drop n w) ≡ true → is_text (take n w) ≡ t → t && is_text (drop n w) ≡ is_text w
text-parts w n b e = let s : n - 0 ≡ n = omega arith in text-cut w 0 n (omega arith) b (ap (λ (k : ℕ). is_text (take k w)) s ∙ e)

-- the end is a place for a cut
pub boundary_end : (w : List ℕ) (i : ℕ) → length w ≤ i → boundary (drop i w) ≡ true
unfolding boundary
boundary_end w i h = rw (drop_of_length-le w h)

-- so is a byte that does not go on with a character
pub boundary-at : (w : List ℕ) (i : ℕ) {t : Bool} → i < length w → t ≡ continuation (get_or w i 0) → t ≡ false → boundary (drop i w) ≡ true
unfolding boundary
boundary-at w i h e f = rw (drop-cons w i 0 h, sym e, f)

-- and the first such byte
boundary-first : (w : List ℕ) → boundary (drop (prefix_len continuation w) w) ≡ true
unfolding boundary
boundary-first [] = refl
boundary-first (x ∷ xs) =
    cond_cases (λ (n : ℕ). boundary (drop n (x ∷ xs)) ≡ true) (continuation x)
    (λ e. let s : 1 + prefix_len continuation xs ≡ suc (prefix_len continuation xs) = omega arith in rw s (boundary-first xs)) (λ e. rw e)

-- from a place on
pub boundary-past : (w : List ℕ) (i n : ℕ) → n ≡ prefix_len continuation (drop i w) → boundary (drop (i + n) w) ≡ true
boundary-past w i n e = rw (← drop-drop n i w, e) (boundary-first (drop i w))

-- past the end there is nothing to refuse
pub text-over : (w : List ℕ) (i : ℕ) → length w ≤ i → true ≡ is_text (drop i w)
unfolding is_text accepts due
text-over w i h = rw (drop_of_length-le w h)

-- past a plain byte the check is the same
pub text-plain : (b : ℕ) (bs : List ℕ) → b < 0x80 → is_text (b ∷ bs) ≡ is_text bs
unfolding table37 is_text
text-plain b bs h = is_text-row 0 b bs (omega arith, tt, omega arith, omega arith)

-- so past n of them
text-plains : (n : ℕ) (w : List ℕ) → plain_next n w ≡ true → is_text (drop n w) ≡ is_text w
unfolding plain_next
text-plains zero w e = refl
text-plains (suc n) [] e = absurd (false≢true e)
text-plains (suc n) (b ∷ bs) e =
    text-plains n bs (and_right (ltb b 0x80) (plain_next n bs) e) ∙ sym (text-plain b bs (ltb-true b 0x80 (and_left (ltb b 0x80) (plain_next n bs) e)))

-- so past a run
pub text-run : (w : List ℕ) (i : ℕ) → is_text (drop (run_end_of w i) w) ≡ is_text (drop i w)
text-run w i =
    let s : i + (run_end_of w i - i) ≡ run_end_of w i = omega (arith, run-from w i) in
    sym (ap (λ (k : ℕ). is_text (drop k w)) s) ∙ sym (ap is_text (drop-drop (run_end_of w i - i) i w)) ∙ text-plains (run_end_of w i - i) (drop i w) (run-plain w i)
