-- What is known of a batch that is not refused: every word of it is accepted, its tails are few and long, and its buffers long enough.
-- Assumes nothing.
use Prim.Native.Nat.{ℕ, zero, suc}
use mathlib.Core.Path.{◌≡◌, refl, sym}
use mathlib.Core.Bool.{Bool, true, false, cond, not, ◌||◌, false≢true}
use mathlib.Core.List.{List, [], ◌∷◌, ◌++◌, map, Memᴰ}
use mathlib.Core.Logic.{⊎_elim}
use native.Mathlib.Omega.{arith}
use lib.ListN.{length}
use lib.Dec.{eqb, ltb, eqb-suc-zero}
use borrow.Author.Tests.{eqb-true, ltb-false, le-ltb}
use Rattle.encoding.specs.Validity.{is_text}
use Rattle.encoding.proofs.Laws.Booleans.{not-eq-true}
use Rattle.turkish.specs.Calls.{limit, refusal, accepted}
use Rattle.theorems.specs.Fronts.{long}
use Rattle.batches.specs.BatchCalls.{Batch, most_tails, tails_in, some, refused_under, joined_words, words_refusal_of, tails_refusal, rooms_refusal_of, first_refusal, number_of, batch_refusal, Answered}

-- where neither of two passes, the first does not, nor the second
or_parts : (a b : Bool) → a || b ≡ false → (a ≡ false) × (b ≡ false)
or_parts true b e = absurd (false≢true (sym e))
or_parts false b e = (refl, e)

-- a test that none of some words passes, each fails
some-none : (f : List ℕ → Bool) {w : List ℕ} {ws : List (List ℕ)} → some f ws ≡ false → Memᴰ w ws → f w ≡ false
unfolding some
some-none f e (mathlib.Core.List.Memᴰ.head {x} {xs} p) = rw p (or_parts (f x) (some f xs) e).0
some-none f e (mathlib.Core.List.Memᴰ.tail {x} {xs} m) = some-none f (or_parts (f x) (some f xs) e).1 m

-- a word that has neither number 1 nor number 2 is accepted
neither : (w : List ℕ) → eqb (refusal w) 1 ≡ false → eqb (refusal w) 2 ≡ false → accepted w ≡ true
unfolding accepted refusal
neither w = go (ltb limit (length w)) (is_text w)
  where
    go : (over valid : Bool) → eqb (cond over 1 (cond valid 0 2)) 1 ≡ false → eqb (cond over 1 (cond valid 0 2)) 2 ≡ false → eqb (cond over 1 (cond valid 0 2)) 0 ≡ true
    go true valid a b = absurd (false≢true (sym a))
    go false true a b = refl
    go false false a b = absurd (false≢true (sym b))

-- a number that is 0 only where a test fails
cond-zero : (t : Bool) (n : ℕ) {m : ℕ} → cond t (suc n) m ≡ 0 → (t ≡ false) × (m ≡ 0)
cond-zero true n e = absurd (omega arith)
cond-zero false n e = (refl, e)

-- of two numbers the first that is not 0 is 0: so are both
first_refusal-zero : (m n : ℕ) → first_refusal m n ≡ 0 → (m ≡ 0) × (n ≡ 0)
unfolding first_refusal
first_refusal-zero zero n e = (refl, e)
first_refusal-zero (suc m) n e = absurd (omega (arith, rw (eqb-suc-zero m) at e))

-- where the words give no number each of them is accepted
pub words-accepted : (f : List ℕ) (ts : List (List ℕ)) → words_refusal_of f ts ≡ 0 → {w : List ℕ} → Memᴰ w (f ∷ ts ++ joined_words f ts) → accepted w ≡ true
unfolding words_refusal_of refused_under
words-accepted f ts e {w} m =
    let one = cond-zero (refused_under 1 (f ∷ ts ++ joined_words f ts)) 0 e in
    let two = cond-zero (refused_under 2 (f ∷ ts ++ joined_words f ts)) 1 one.1 in
    neither w (some-none (λ x. eqb (refusal x) 1) one.0 m) (some-none (λ x. eqb (refusal x) 2) two.0 m)

-- a batch that is not refused is answered
pub batch-answered : (b : Batch) → batch_refusal b ≡ 0 → Answered b
unfolding batch_refusal number_of tails_refusal rooms_refusal_of joined_words
batch-answered b e =
    let ts : List (List ℕ) = tails_in b.tails in
    let words = first_refusal-zero (words_refusal_of b.front ts) _ e in
    let rest = first_refusal-zero (tails_refusal ts) _ words.1 in
    let tails = or_parts (ltb most_tails (length ts)) _ (cond-zero _ 5 rest.0).0 in
    let rooms = or_parts (ltb (length b.lengths) most_tails || ltb (length b.answers) most_tails) _ (cond-zero _ 2 rest.1).0 in
    let two = or_parts (ltb (length b.lengths) most_tails) _ rooms.0 in
    record {
      front = words-accepted b.front ts words.0 (mathlib.Core.List.Memᴰ.head refl);
      tails = λ {t} m. (
        words-accepted b.front ts words.0 (mathlib.Core.List.Memᴰ.tail (mathlib.Core.List.Memᴰ.append_left (joined_words b.front ts) m)),
        words-accepted b.front ts words.0 (mathlib.Core.List.Memᴰ.tail (mathlib.Core.List.Memᴰ.append_right ts (mathlib.Core.List.Memᴰ.map (λ t. b.front ++ t) m))),
        not-eq-true (long t) (some-none (λ t. not (long t)) tails.1 m),
      );
      few = ltb-false most_tails (length ts) tails.0;
      rooms = (ltb-false _ _ two.0, ltb-false _ _ two.1, ltb-false _ _ rooms.1);
    }

-- a test that each of some words fails, none passes
none-some : (f : List ℕ → Bool) (ws : List (List ℕ)) → ((w : List ℕ) → Memᴰ w ws → f w ≡ false) → some f ws ≡ false
unfolding some
none-some f [] h = refl
none-some f (w ∷ ws) h = rw (h w (mathlib.Core.List.Memᴰ.head refl), none-some f ws (λ x m. h x (mathlib.Core.List.Memᴰ.tail m)))

-- every word of a batch that is answered is accepted
answered-words : (b : Batch) → Answered b → (w : List ℕ) → Memᴰ w (b.front ∷ tails_in b.tails ++ joined_words b.front (tails_in b.tails))
    → refusal w ≡ 0
unfolding joined_words accepted
answered-words b a w m =
    let ts : List (List ℕ) = tails_in b.tails in
    let joined : Memᴰ w (map (λ t. b.front ++ t) ts) → refusal w ≡ 0 =
    λ n. let x = mathlib.Core.List.Memᴰ.of_map (λ t. b.front ++ t) ts n in rw (← x.2) (eqb-true _ 0 (a.tails x.1).1) in
    ⊎_elim (λ e. rw e (eqb-true _ 0 a.front)) (λ n. ⊎_elim (λ i. eqb-true _ 0 (a.tails i).0) joined (mathlib.Core.List.Memᴰ.append_cases ts n)) (mathlib.Core.List.Memᴰ.cases_cons m)

-- so it has no number
pub answered-batch : (b : Batch) → Answered b → batch_refusal b ≡ 0
unfolding batch_refusal number_of words_refusal_of refused_under tails_refusal rooms_refusal_of first_refusal
answered-batch b a =
    let ts : List (List ℕ) = tails_in b.tails in
    let ws : List (List ℕ) = b.front ∷ ts ++ joined_words b.front ts in
    rw (
      none-some (λ w. eqb (refusal w) 1) ws (λ w m. rw (answered-words b a w m)),
      none-some (λ w. eqb (refusal w) 2) ws (λ w m. rw (answered-words b a w m)),
      none-some (λ t. not (long t)) ts (λ t m. rw (a.tails m).2),
      le-ltb most_tails (length ts) a.few,
      le-ltb (length b.lengths) most_tails a.rooms.0,
      le-ltb (length b.answers) most_tails a.rooms.1,
      le-ltb (length b.flags) most_tails a.rooms.2,
    )
