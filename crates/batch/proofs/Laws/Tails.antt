-- The tails of a slice: the part between two places taken byte by byte, the line that begins at a place, the lines taken off one by one,
-- and what is found out of them so far. Assumes nothing.
use Prim.Native.Nat.{ℕ, zero, suc, ◌+◌, ◌-◌, ◌≤◌, ◌<◌, max}
use mathlib.Core.Path.{◌≡◌, refl, sym, ap, ◌∙◌}
use mathlib.Core.Bool.{Bool, true, false, cond, not, ◌||◌, or_assoc, or-false, false≢true}
use mir.Val.{bool_byte as from_bool}
use Rattle.std.specs.Ordering.{ord_max, nat_cmp, is_lt}
use Rattle.std.specs.declared.cmp.Ordering.{Ordering}
use Rattle.std.specs.declared.cmp.Ordering.TheVariants.{Equal, Greater}
use mathlib.Core.List.{List, [], ◌∷◌, ◌++◌, append-nil, append_assoc}
use native.Mathlib.Nat.{suc-add, add-zero, zero-max, max-zero}
use native.Mathlib.Numerals.{add-one}
use native.Mathlib.Omega.{arith}
use lib.ListN.{length, take, drop, get_or, set, replicate, length-append, length-drop, length-replicate, take-append-drop, drop_of_length-le}
use lib.Seq.{drop-cons, drop-drop, append_snoc, length-take-le, take-nil, take_all, take-append-le, take-append_seam, set-append_seam}
use lib.Dec.{eqb, ltb}
use borrow.Author.Tests.{ne_eqb, lt-ltb, le-ltb}
use Rattle.encoding.specs.Encoding.{continuation}
use Rattle.encoding.proofs.Laws.Booleans.{cond_both, cond_cases, lt-or-le}
use Rattle.turkish.specs.Letters.{lf, any, has}
use Rattle.turkish.specs.Lines.{unclosed, lines_from}
use Rattle.turkish.specs.Calls.{written}
use Rattle.theorems.specs.Fronts.{end_length}
use Rattle.batches.specs.BatchCalls.{most_tails, tails_in, some}
use Rattle.theorems.proofs.Laws.Tests.{eqb_comm, has-none}
use Rattle.batch.specs.declared.tails.Line.{Line}
use Rattle.batch.specs.declared.tails.Survey.{Survey}
use Rattle.batch.specs.declared.tails.Tails.{Tails}
use Rattle.batch.specs.Tails.{line_of, leads, line_at, longest, few, survey_of, ends_from, first_places, tails_of}

-- ---- the greater of two numbers ----

-- the greater by std's order is the greater
pub nat_max : (a b : ℕ) → ord_max nat_cmp a b ≡ max a b
nat_max a b =
    lt-or-le b a
    (λ h. rw (lt-ltb b a h) (omega arith))
    (λ h. rw (le-ltb b a h) (cond_both (λ (o : Ordering). cond (is_lt o) a b ≡ max a b) (eqb b a) Equal Greater (omega arith) (omega arith)))

-- ---- what is stored behind what is written ----

-- a number stored there is written with it
pub set-written : (s out : List ℕ) (v : ℕ) → length s < length out → set (written s out) (length s) v ≡ written (s ++ (v ∷ [])) out
unfolding written
set-written s out v h =
    rw (drop-cons out (length s) 0 h, set-append_seam, length-append, add-one) (sym (append_assoc s (v ∷ []) (drop (suc (length s)) out)))

-- ---- the part between two places ----

-- the bytes between two places
abbrev pub part : List ℕ → ℕ → ℕ → List ℕ
part w from to = take (to - from) (drop from w)

-- ---- a line feed ----

-- a line feed in some bytes, one byte more looked at
pub has-next : (w : List ℕ) (i : ℕ) (found : Bool) → i < length w
    → (found || eqb (get_or w i 0) lf || has (drop (i + 1) w) lf) ≡ (found || has (drop i w) lf)
unfolding has any
has-next w i found h =
    rw (drop-cons w i 0 h, add-one i, eqb_comm (get_or w i 0) lf) (or_assoc found (eqb lf (get_or w i 0)) (any (eqb lf) (drop (suc i) w)))

-- all of them looked at
pub has_last : (w : List ℕ) (i : ℕ) (found : Bool) → length w ≤ i → found ≡ (found || has (drop i w) lf)
unfolding has any
has_last w i found h = rw (drop_of_length-le w h) (sym (or-false found))

-- ---- the bytes that begin a character ----

-- at most all
pub leads-le : (w : List ℕ) → leads w ≤ length w
unfolding leads
leads-le [] = omega arith
leads-le (b ∷ bs) =
    let l = leads-le bs in cond_cases (λ (n : ℕ). n ≤ suc (length bs)) (continuation b) (λ e. omega arith) (λ e. omega arith)

-- how many of one byte: none or one
unfoldable pub lead : ℕ → ℕ
lead b = cond (continuation b) 0 1

-- so the code has it, as a number
pub lead-bit : (b : ℕ) {n : ℕ} {r : Bool} → r ≡ continuation b → n ≡ from_bool (not r) → n ≡ lead b
unfolding lead
lead-bit b e q = q ∙ rw e (go (continuation b))
  where
    go : (t : Bool) → from_bool (not t) ≡ cond t 0 1
    go true = refl
    go false = refl

-- one byte and the rest
leads-cons : (b : ℕ) (w : List ℕ) → leads (b ∷ w) ≡ lead b + leads w
unfolding leads lead
leads-cons b w = go (continuation b)
  where
    go : (t : Bool) → cond t (leads w) (suc (leads w)) ≡ cond t 0 1 + leads w
    go true = omega arith
    go false = omega arith

-- those of two parts joined
leads-append : (v w : List ℕ) → leads (v ++ w) ≡ leads v + leads w
unfolding leads
leads-append [] w = omega arith
leads-append (b ∷ v) w = omega (arith, leads-cons b (v ++ w), leads-cons b v, leads-append v w)

-- those of some bytes, one byte more looked at
pub leads-next : (w : List ℕ) (i : ℕ) → i < length w → leads (drop i w) ≡ lead (get_or w i 0) + leads (drop (i + 1) w)
leads-next w i h = rw (drop-cons w i 0 h, add-one i) (leads-cons (get_or w i 0) (drop (suc i) w))

-- all of them looked at
pub leads-last : (w : List ℕ) (i : ℕ) → length w ≤ i → leads (drop i w) ≡ 0
unfolding leads
leads-last w i h = rw (drop_of_length-le w h)

-- ---- one line ----

-- no longer than what it begins
line_of-le : (w : List ℕ) → length (line_of w) ≤ length w
unfolding line_of
line_of-le [] = omega arith
line_of-le (b ∷ bs) =
    let l = line_of-le bs in cond_cases (λ (v : List ℕ). length v ≤ suc (length bs)) (eqb b lf) (λ e. omega arith) (λ e. omega arith)

-- it is the front of it
pub line_of-front : (w : List ℕ) → line_of w ≡ take (length (line_of w)) w
unfolding line_of
line_of-front [] = refl
line_of-front (b ∷ bs) =
    cond_cases (λ (v : List ℕ). v ≡ take (length v) (b ∷ bs)) (eqb b lf) (λ e. refl) (λ e. ap (λ (v : List ℕ). b ∷ v) (line_of-front bs))

-- a line that begins within the slice ends within it
pub line-within : (w : List ℕ) (at : ℕ) → at ≤ length w → at + length (line_of (drop at w)) ≤ length w
line-within w at h = omega (arith, line_of-le (drop at w), length-drop at w)

-- it goes on past bytes without a line feed
line_of-clear : (v w : List ℕ) → has v lf ≡ false → line_of (v ++ w) ≡ v ++ line_of w
unfolding line_of
line_of-clear [] w n = refl
line_of-clear (b ∷ v) w n =
    let d = has-none lf b v n in
    rw (ne_eqb b lf d.0, line_of-clear v w d.1)

-- a part without one
line-part : (w : List ℕ) (at to : ℕ) → at ≤ to → has (part w at to) lf ≡ false → line_of (drop at w) ≡ part w at to ++ line_of (drop to w)
line-part w at to h e =
    let n : at + (to - at) ≡ to = omega arith in
    let d : drop (to - at) (drop at w) ≡ drop to w = drop-drop (to - at) at w ∙ ap (λ (k : ℕ). drop k w) n in
    ap line_of (sym (take-append-drop (to - at) (drop at w))) ∙ rw d (line_of-clear (part w at to) (drop to w) e)

-- one byte that is none
pub line-byte : (w : List ℕ) (at : ℕ) → at < length w → eqb (get_or w at 0) lf ≡ false
    → line_of (drop at w) ≡ get_or w at 0 ∷ line_of (drop (at + 1) w)
unfolding line_of
line-byte w at h n = rw (drop-cons w at 0 h, n, add-one at)

-- at a line feed it ends
pub line-lf : (w : List ℕ) (at : ℕ) → at < length w → eqb (get_or w at 0) lf ≡ true → line_of (drop at w) ≡ []
unfolding line_of
line-lf w at h e = rw (drop-cons w at 0 h, e)

-- and where no byte is left
pub line-end : (w : List ℕ) (at : ℕ) → length w ≤ at → line_of (drop at w) ≡ []
unfolding line_of
line-end w at h = rw (drop_of_length-le w h)

-- a line looked at as far as a place: what remains ends where it ends, and has the characters that are not counted yet
pub record Remains (w : List ℕ) (from at chars : ℕ) : Type 0 where
  pub begun : from ≤ at
  pub within : at ≤ length w
  pub ends : at + length (line_of (drop at w)) ≡ from + length (line_of (drop from w))
  pub counted : chars + leads (line_of (drop at w)) ≡ leads (line_of (drop from w))

-- none looked at yet
pub remains-start : (w : List ℕ) (from : ℕ) → from ≤ length w → Remains w from from 0
remains-start w from h = record { begun = omega arith; within = h; ends = refl; counted = omega arith }

-- no more are counted than the slice has bytes
pub remains-fit : {w : List ℕ} {from at chars : ℕ} → Remains w from at chars → chars ≤ length w
remains-fit {w} {from} r = omega (arith, r.counted, leads-le (line_of (drop from w)), line_of-le (drop from w), length-drop from w)

-- on past a part without a line feed
pub remains-part : {w : List ℕ} {from at chars : ℕ} (to more : ℕ) → Remains w from at chars → at ≤ to → to ≤ length w
    → has (part w at to) lf ≡ false → more ≡ leads (part w at to) → Remains w from to (chars + more)
remains-part {w} {from} {at} {chars} to more r h l e q =
    let d = line-part w at to h e in
    let n : length (part w at to) ≡ to - at = length-take-le (to - at) (drop at w) (omega (arith, length-drop at w)) in
    let m = ap length d ∙ length-append (part w at to) (line_of (drop to w)) in
    let k = ap leads d ∙ leads-append (part w at to) (line_of (drop to w)) in
    record { begun = omega (arith, r.begun); within = l; ends = omega (arith, r.ends); counted = omega (arith, r.counted) }

-- it ends before a line feed
line-short : (k : ℕ) (w : List ℕ) → has (take k w) lf ≡ true → length (line_of w) < k
unfolding has any line_of
line-short zero w h = absurd (false≢true h)
line-short (suc k) [] h = absurd (false≢true h)
line-short (suc k) (b ∷ w) h = go (eqb b lf) refl (line-short k w)
  where
    go : (t : Bool) → eqb b lf ≡ t → (has (take k w) lf ≡ true → length (line_of w) < k) → length (cond t [] (b ∷ line_of w)) < suc k
    go true e f = omega arith
    go false e f = let l = f (unfold has in rw (eqb_comm lf b, e) at h) in omega arith

-- the bytes left are all from there on
left-is : (w : List ℕ) (at : ℕ) → take (length w - at) (drop at w) ≡ drop at w
left-is w at = take_all (length w - at) (drop at w) (omega (arith, length-drop at w))

-- n of them stand before a line feed
module _ {w : List ℕ} {from at chars : ℕ} (r : Remains w from at chars) (n : ℕ) (e : n ≡ length (line_of (take (length w - at) (drop at w)))) where
  length-left : n ≡ length (line_of (drop at w))
  length-left = rw (left-is w at) at e

  -- they lie within the slice
  pub left-within : at + n ≤ length w
  left-within = omega (arith, length-left, line_of-le (drop at w), length-drop at w, r.within)

  pub left-taken : n ≡ length (take n (take (length w - at) (drop at w)))
  left-taken = rw (left-is w at) (sym (length-take-le n (drop at w) (omega (arith, length-left, line_of-le (drop at w)))))

  -- they are fewer than all that are left, and fewer than those among which a line feed stands
  pub left-few : n ≤ length w - at
  left-few = omega (arith, length-left, line_of-le (drop at w), length-drop at w)

  pub left-closed : (k : ℕ) → has (take k (drop at w)) lf ≡ true → n < k
  left-closed k h = omega (arith, length-left, line-short k (drop at w) h)

  -- k of them begin a character
  module _ (k : ℕ) (f : k ≡ leads (take n (take (length w - at) (drop at w)))) where
    count-left : chars + k ≡ leads (line_of (drop from w))
    count-left =
        let g : k ≡ leads (line_of (drop at w)) = f ∙ rw (left-is w at, length-left) (ap leads (sym (line_of-front (drop at w)))) in
        omega (arith, r.counted)

    -- no more are counted than the slice has bytes
    pub left-fits : chars + k ≤ length w
    left-fits = omega (arith, count-left, leads-le (line_of (drop from w)), line_of-le (drop from w), length-drop from w)

    -- and the line is found
    pub left-line : record { end = at + n; chars = chars + k } ≡ line_at w from
    unfolding line_at
    left-line =
        let a : at + n ≡ from + length (line_of (drop from w)) = omega (arith, r.ends, length-left) in
        rw (← a, ← count-left)

-- ---- the lines ----

-- a line that is not closed and not empty is one
unclosed-one : (line : List ℕ) (b : ℕ) → unclosed (line ++ (b ∷ [])) ≡ (line ++ (b ∷ [])) ∷ []
unfolding unclosed
unclosed-one [] b = refl
unclosed-one (c ∷ line) b = refl

-- some bytes of a line read so far, what comes up to the next line feed ends it
lines_more : (line : List ℕ) (b : ℕ) (w : List ℕ)
    → lines_from (line ++ (b ∷ [])) w ≡ (line ++ (b ∷ []) ++ line_of w) ∷ lines_from [] (drop (length (line_of w) + 1) w)
unfolding lines_from line_of unclosed
lines_more line b [] = rw (append-nil (line ++ (b ∷ []))) (unclosed-one line b)
lines_more line b (c ∷ w) = go (eqb c lf) (lines_more (line ++ (b ∷ [])) c w)
  where
    go : (t : Bool)
        → lines_from (line ++ (b ∷ []) ++ (c ∷ [])) w ≡ (line ++ (b ∷ []) ++ (c ∷ []) ++ line_of w) ∷ lines_from [] (drop (length (line_of w) + 1) w)
        → cond t ((line ++ (b ∷ [])) ∷ lines_from [] w) (lines_from (line ++ (b ∷ []) ++ (c ∷ [])) w)
        ≡ (line ++ (b ∷ []) ++ cond t [] (c ∷ line_of w)) ∷ lines_from [] (drop (length (cond t [] (c ∷ line_of w)) + 1) (c ∷ w))
    go true e = rw (append-nil (line ++ (b ∷ [])))
    go false e = e ∙ rw (append_snoc (line ++ (b ∷ [])) c (line_of w), suc-add (length (line_of w)) 1)

-- the first line of some bytes, and those after it
lines-first : (w : List ℕ) → 0 < length w → lines_from [] w ≡ line_of w ∷ lines_from [] (drop (length (line_of w) + 1) w)
unfolding lines_from line_of
lines-first [] h = absurd (omega arith)
lines-first (b ∷ w) h = go (eqb b lf)
  where
    go : (t : Bool) → cond t ([] ∷ lines_from [] w) (lines_from (b ∷ []) w)
        ≡ cond t [] (b ∷ line_of w) ∷ lines_from [] (drop (length (cond t [] (b ∷ line_of w)) + 1) (b ∷ w))
    go true = refl
    go false = lines_more [] b w ∙ rw (suc-add (length (line_of w)) 1)

-- where no byte is left there is none
pub lines_none : (w : List ℕ) (at : ℕ) → length w ≤ at → lines_from [] (drop at w) ≡ []
unfolding lines_from unclosed
lines_none w at h = rw (drop_of_length-le w h)

-- the line that begins at a place, and those after it
pub lines_at : (w : List ℕ) (at : ℕ) → at < length w
    → lines_from [] (drop at w) ≡ line_of (drop at w) ∷ lines_from [] (drop (at + length (line_of (drop at w)) + 1) w)
lines_at w at h =
    let n = length (line_of (drop at w)) in
    let e : at + (n + 1) ≡ at + n + 1 = omega arith in
    rw (← e, ← drop-drop (n + 1) at w) (lines-first (drop at w) (omega (arith, length-drop at w)))

-- ---- what is found out of the lines ----

-- where a line that is found ends
pub line-ends : (w : List ℕ) (at : ℕ) {line : Line} → line ≡ line_at w at → line.end ≡ at + length (line_of (drop at w))
unfolding line_at
line-ends w at e = ap (λ (l : Line). l.end) e

-- whether it has fewer than 16 characters
line-few : (w : List ℕ) (at : ℕ) {line : Line} → line ≡ line_at w at → ltb line.chars 16 ≡ few (line_of (drop at w))
unfolding line_at few end_length
line-few w at e = ap (λ (l : Line). ltb l.chars 16) e

-- a place stored behind those held is one more of them, as long as there is room
first_places-more : (es ps qs : List ℕ) (e : ℕ) → ps ≡ first_places es → (length es < most_tails → qs ≡ set ps (length es) e)
    → (most_tails ≤ length es → qs ≡ ps) → qs ≡ first_places (es ++ (e ∷ []))
unfolding first_places
first_places-more es ps qs e p stored kept = lt-or-le (length es) most_tails room full
  where
    more : length (es ++ (e ∷ [])) ≡ length es + 1
    more = length-append es (e ∷ [])

    room : length es < most_tails → qs ≡ written (take most_tails (es ++ (e ∷ []))) (replicate most_tails 0)
    room l =
        stored l
        ∙ rw (p, take_all most_tails es (omega arith), take_all most_tails (es ++ (e ∷ [])) (omega (arith, more)))
        (set-written es (replicate most_tails 0) e (omega (arith, length-replicate {A = ℕ} most_tails 0)))

    full : most_tails ≤ length es → qs ≡ written (take most_tails (es ++ (e ∷ []))) (replicate most_tails 0)
    full l = kept l ∙ p ∙ rw (take-append-le most_tails es (e ∷ []) l)

-- the lines before a place looked at: what is found of them and what the rest has are what all have, and the first of their ends are held
pub record Found (slice ends : List ℕ) (count most : ℕ) (short : Bool) (at : ℕ) : Type 0 where
  pub below : count ≤ at
  pub counted : count + length (lines_from [] (drop at slice)) ≡ length (tails_in slice)
  pub longest : max most (longest (lines_from [] (drop at slice))) ≡ longest (tails_in slice)
  pub few : (short || some few (lines_from [] (drop at slice))) ≡ some few (tails_in slice)
  pub ended : List ℕ
  pub endings : length ended ≡ count
  pub split : ended ++ ends_from at (lines_from [] (drop at slice)) ≡ ends_from 0 (tails_in slice)
  pub held : ends ≡ first_places ended

-- none looked at yet
pub found_none : (slice : List ℕ) → Found slice (replicate most_tails 0) 0 0 false 0
unfolding tails_in first_places written
found_none slice =
    record {
      below = omega arith;
      counted = omega arith;
      longest = zero-max (longest (lines_from [] slice));
      few = refl;
      ended = [];
      endings = refl;
      split = refl;
      held = rw take-nil;
    }

-- one line more; its end is kept where there is room
pub found-line : {slice ends : List ℕ} {count most : ℕ} {short : Bool} {at : ℕ} (ends' : List ℕ) (most' : ℕ) (line : Line)
    → Found slice ends count most short at → at < length slice → line ≡ line_at slice at
    → (count < most_tails → ends' ≡ set ends count line.end) → (most_tails ≤ count → ends' ≡ ends)
    → most' ≡ max most (line.end - at) → Found slice ends' (count + 1) most' (short || ltb line.chars 16) (line.end + 1)
unfolding longest some ends_from
found-line {slice} {ends} {count} {most} {short} {at} ends' most' line f h g stored kept m =
    let first = line_of (drop at slice) in
    let end = line.end in
    let rest = lines_from [] (drop (end + 1) slice) in
    let e : end ≡ at + length first = line-ends slice at g in
    let r : lines_from [] (drop at slice) ≡ first ∷ rest = rw e (lines_at slice at h) in
    let c : count + length (first ∷ rest) ≡ length (tails_in slice) = rw r at f.counted in
    let l : max most (max (length first) (longest rest)) ≡ longest (tails_in slice) = rw r at f.longest in
    record {
      below = omega (arith, f.below);
      counted = omega arith;
      longest = omega arith;
      few = rw (line-few slice at g) (or_assoc short (few first) (some few rest)) ∙ rw r at f.few;
      ended = f.ended ++ (end ∷ []);
      endings = length-append f.ended (end ∷ []) ∙ ap (λ (n : ℕ). n + 1) f.endings;
      split = rw (append_snoc f.ended end (ends_from (end + 1) rest)) (rw (r, ← e) at f.split);
      held = first_places-more f.ended ends ends' end f.held (rw f.endings stored) (rw f.endings kept);
    }

-- all of them
pub found_all : {slice ends : List ℕ} {count most : ℕ} {short : Bool} {at : ℕ} → Found slice ends count most short at → length slice ≤ at
    → record { survey = record { count = count; longest = most; short = short }; ends = ends } ≡ tails_of (tails_in slice)
unfolding longest some ends_from survey_of tails_of
found_all {slice} {ends} {count} {most} {short} {at} f h =
    let r = lines_none slice at h in
    let c : count ≡ length (tails_in slice) = sym (add-zero count) ∙ rw r at f.counted in
    let m : most ≡ longest (tails_in slice) = sym (max-zero most) ∙ rw r at f.longest in
    let s : short ≡ some few (tails_in slice) = sym (or-false short) ∙ rw r at f.few in
    let e : f.ended ≡ ends_from 0 (tails_in slice) = sym (append-nil f.ended) ∙ rw r at f.split in
    rw (c, m, s, f.held, e)

-- ---- what is told of them ----

-- there are as many ends as lines
length-ends_from : (at : ℕ) (ts : List (List ℕ)) → length (ends_from at ts) ≡ length ts
unfolding ends_from
length-ends_from at [] = refl
length-ends_from at (t ∷ ts) = ap suc (length-ends_from (at + length t + 1) ts)

module _ (ts : List (List ℕ)) where
  -- a survey's numbers, each by itself
  module _ {s : Survey} (e : s ≡ survey_of ts) where
    pub survey-count : s.count ≡ length ts
    unfolding survey_of
    survey-count = ap (λ (s : Survey). s.count) e

    pub survey-longest : s.longest ≡ longest ts
    unfolding survey_of
    survey-longest = ap (λ (s : Survey). s.longest) e

    pub survey-short : s.short ≡ some few ts
    unfolding survey_of
    survey-short = ap (λ (s : Survey). s.short) e

  module _ {t : Tails} (e : t ≡ tails_of ts) where
    -- the survey is that of the tails
    pub tails-survey : t.survey ≡ survey_of ts
    unfolding tails_of
    tails-survey = ap (λ (t : Tails). t.survey) e

    -- where there are no more than 64 the end of each is held
    pub tails-ends : length ts ≤ most_tails → take (length ts) t.ends ≡ ends_from 0 ts
    unfolding tails_of first_places written
    tails-ends h =
        let n = length-ends_from 0 ts in
        rw (e, take_all most_tails (ends_from 0 ts) (omega arith), ← n) (take-append_seam (ends_from 0 ts) _)
