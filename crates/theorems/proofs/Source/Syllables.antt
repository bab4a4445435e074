-- turkish.sbl's more_than_one_syllable_word is the simple form: read forwards it meets two vowels exactly where, read from the word's
-- end, a vowel stands before the last one. With the law of its command `atleast`. Assumes nothing.
use Prim.Native.Nat.{ℕ, zero, suc, ◌+◌, ◌-◌, ◌≤◌}
use mathlib.Core.Path.{◌≡◌, refl, sym, ap, ◌∙◌}
use mathlib.Core.Bool.{Bool, true, false, cond, ◌&&◌, ◌||◌}
use mathlib.Core.List.{List, [], ◌∷◌, reverse, reverse-cons, reverse-reverse}
use native.Mathlib.Omega.{arith}
use lib.ListN.{length, drop}
use lib.Dec.{eqb}
use borrow.Author.Tests.{ne_eqb}
use Rattle.encoding.proofs.Laws.Booleans.{cond_cases, cond_both}
use Rattle.turkish.specs.Letters.{text, any}
use Rattle.turkish.specs.Vowels.{vowels, vowel, before_last_vowel}
use Rattle.theorems.specs.Simple.Harmony.{to_first, more_than_one_syllable}
use Rattle.theorems.specs.Simple.Grammar.{Out, fail, took, more, first}
use Rattle.turkish.specs.Snowball.{State, ahead, move_to, Result, done, failed, is_in, one_turn, Direction, forward, Command, at_least, atleast, enough, run}
use Rattle.turkish.specs.Source.{vowel as vowel_letters, more_than_one_syllable_word}
use Rattle.turkish.specs.Answers.{entered, called, succeeded, syllable_check}
use Rattle.theorems.proofs.Laws.Tests.{any-reverse}
use Rattle.theorems.proofs.Laws.Harmony.{drop-to_vowel, before-vowel}
use Rattle.theorems.proofs.Laws.Syllables.{more_than_one_syllable-append}
use Rattle.theorems.proofs.Source.Means.{means-define, settled, succeeded-settled, placed, Means, done-failed, done-state, failed-state, ahead-on, moved_none, settled_on}
use Rattle.theorems.proofs.Source.Means.{take_if, more-take_if, peeked, peeked-more, sought, means-test, means-grouping, means-gopast}

-- ---- atleast ----

-- one turn more where the function takes something, else an end: a failure where more turns are wanted
unfoldable pub turn : ℕ → Out → (ℕ → Out) → Out
turn wanted fail q = take_if (eqb wanted 0) 0
turn wanted (took k f) q = more k f (q k)

-- as often as a function does not fail; n is more than the turns there are
unfoldable pub repeated : ℕ → ℕ → (List ℕ → Out) → List ℕ → Out
repeated zero wanted f cs = fail
repeated (suc n) wanted f cs = turn wanted (f cs) (λ k. repeated n (wanted - 1) f (drop k cs))

-- the loop's end, with the cursor where the last turn began
end-result : (s t : State) (b : Bool) → move_to t s.cursor ≡ s
    → settled s.cursor (cond b (done (move_to t s.cursor)) (failed (move_to t s.cursor))) ≡ placed s (take_if b 0)
unfolding settled placed take_if move_to
end-result s t true e = ap done e ∙ sym (moved_none s)
end-result s t false e = ap failed e

-- a turn, and the turns after it
turn-result : (s : State) (wanted : ℕ) (q : State → Result) (g : List ℕ → Out)
    → ((t : State) → settled t.cursor (q t) ≡ placed t (g (ahead t)))
    → (r : Result) (o : Out) → settled s.cursor r ≡ placed s o
    → settled s.cursor (one_turn wanted s.cursor r q) ≡ placed s (turn wanted o (λ k. g (drop k (ahead s))))
unfolding settled placed one_turn turn
turn-result s wanted q g h (done t) fail e = done-failed e
turn-result s wanted q g h (done t) (took k f) e =
    let u = move_to s (s.cursor + k) in
    ap (λ (v : State). settled s.cursor (q v)) (done-state e)
    ∙ settled_on s k f q (g (drop k (ahead s))) (h u ∙ ap (λ (cs : List ℕ). placed u (g cs)) (ahead-on s k))
turn-result s wanted q g h (failed t) fail e = end-result s t (eqb wanted 0) (failed-state e)
turn-result s wanted q g h (failed t) (took k f) e = done-failed (sym e)

-- all turns
repeated-result : (q : State → Result) (f : List ℕ → Out) → ((s : State) → settled s.cursor (q s) ≡ placed s (f (ahead s)))
    → (n wanted : ℕ) (s : State) → settled s.cursor (at_least n wanted q s) ≡ placed s (repeated n wanted f (ahead s))
unfolding at_least repeated settled placed move_to
repeated-result q f h zero wanted s = refl
repeated-result q f h (suc n) wanted s =
    turn-result s wanted (at_least n (wanted - 1) q) (repeated n (wanted - 1) f) (repeated-result q f h n (wanted - 1)) (q s) (f (ahead s)) (h s)

-- `atleast` repeats what its command means
pub means-atleast : {d : Direction} {p : Command} {f : List ℕ → Out} (n : ℕ) → Means d p f → Means d (atleast n p) (λ cs. repeated (suc (length cs)) n f cs)
unfolding run enough
means-atleast {d} {p} {f} n x = record { on-state = λ self s. repeated-result (run d self p) f (x.on-state self) (enough s) n s }

-- ---- the next vowel ----

-- what `gopast vowel` takes
vowel_ahead : List ℕ → Out
vowel_ahead = sought (λ cs. take_if (is_in (text vowel_letters) cs) 1)

-- where there is a vowel, the characters up to it, and with it
vowel_ahead-takes : (cs : List ℕ) → vowel_ahead cs ≡ take_if (any vowel cs) (to_first vowel cs)
unfolding vowel_ahead sought is_in take_if any to_first first more vowel vowels
vowel_ahead-takes [] = refl
vowel_ahead-takes (c ∷ cs) = go (vowel c) (any vowel cs) (vowel_ahead-takes cs)
  where
    go : (t b : Bool) → vowel_ahead cs ≡ take_if b (to_first vowel cs)
        → first (take_if t 1) (more 1 true (vowel_ahead cs)) ≡ take_if (t || b) (suc (cond t 0 (to_first vowel cs)))
    go true b e = refl
    go false b e = ap (more 1 true) e ∙ more-take_if b (to_first vowel cs)

-- what stands behind the first vowel is shorter
length-before_last_vowel : (cs : List ℕ) (n : ℕ) → length cs ≤ suc n → length (before_last_vowel cs) ≤ n
unfolding before_last_vowel
length-before_last_vowel [] n h = omega arith
length-before_last_vowel (c ∷ cs) n h =
    cond_both (λ l. length l ≤ n) (vowel c) cs (before_last_vowel cs) (omega arith) (length-before_last_vowel cs n (omega arith))

-- ---- so many vowels ----

-- there are so many vowels, or more
often : ℕ → List ℕ → Bool
often zero cs = true
often (suc n) cs = any vowel cs && often n (before_last_vowel cs)

-- one vowel less is wanted behind the first
often-step : (wanted : ℕ) (cs : List ℕ) → often wanted cs ≡ cond (any vowel cs) (often (wanted - 1) (before_last_vowel cs)) (eqb wanted 0)
unfolding often
often-step zero cs = sym (cond_both (λ b. b ≡ true) (any vowel cs) true true refl refl)
often-step (suc n) cs = go (any vowel cs)
  where
    go : (t : Bool) → t && often n (before_last_vowel cs) ≡ cond t (often (suc n - 1) (before_last_vowel cs)) (eqb (suc n) 0)
    go true = let e : n ≡ suc n - 1 = omega arith in ap (λ (k : ℕ). often k (before_last_vowel cs)) e
    go false = sym (ne_eqb (suc n) 0 (λ e. omega arith))

-- a turn, looking only
peeked-turn : (wanted k : ℕ) (t : Bool) (g : ℕ → Out) → peeked (turn wanted (take_if t k) g) ≡ cond t (peeked (g k)) (take_if (eqb wanted 0) 0)
unfolding turn take_if peeked
peeked-turn wanted k true g = peeked-more k true (g k)
peeked-turn wanted k false g = cond_cases (λ o. peeked o ≡ o) (eqb wanted 0) (λ e. refl) (λ e. refl)

-- so a turn of `atleast` passes the next vowel
repeated-step : (n wanted : ℕ) (cs : List ℕ) → peeked (repeated (suc n) wanted vowel_ahead cs)
    ≡ cond (any vowel cs) (peeked (repeated n (wanted - 1) vowel_ahead (before_last_vowel cs))) (take_if (eqb wanted 0) 0)
unfolding repeated
repeated-step n wanted cs =
    let g : ℕ → Out = λ k. repeated n (wanted - 1) vowel_ahead (drop k cs) in
    ap (λ (o : Out). peeked (turn wanted o g)) (vowel_ahead-takes cs)
    ∙ peeked-turn wanted (to_first vowel cs) (any vowel cs) g
    ∙ ap (λ (ds : List ℕ). cond (any vowel cs) (peeked (repeated n (wanted - 1) vowel_ahead ds)) (take_if (eqb wanted 0) 0)) (drop-to_vowel cs)

-- and all its turns succeed where there are as many vowels as wanted
repeated-often : (n wanted : ℕ) (cs : List ℕ) → length cs ≤ n → peeked (repeated (suc n) wanted vowel_ahead cs) ≡ take_if (often wanted cs) 0
unfolding any
repeated-often zero wanted [] h = repeated-step 0 wanted [] ∙ sym (ap (λ (b : Bool). take_if b 0) (often-step wanted []))
repeated-often zero wanted (c ∷ cs) h = absurd (omega arith)
repeated-often (suc n) wanted cs h =
    repeated-step (suc n) wanted cs
    ∙ go (any vowel cs) (often (wanted - 1) (before_last_vowel cs)) (repeated-often n (wanted - 1) (before_last_vowel cs) (length-before_last_vowel cs n h))
    ∙ sym (ap (λ (b : Bool). take_if b 0) (often-step wanted cs))
  where
    go : (t : Bool) {o : Out} (b : Bool) → o ≡ take_if b 0 → cond t o (take_if (eqb wanted 0) 0) ≡ take_if (cond t b (eqb wanted 0)) 0
    go true b e = e
    go false b e = refl

-- ---- two vowels, and from the other end ----

-- two vowels, by the first character
more_than_one_syllable-cons : (c : ℕ) (cs : List ℕ) → more_than_one_syllable (c ∷ cs) ≡ cond (vowel c) (any vowel cs) (more_than_one_syllable cs)
unfolding more_than_one_syllable before_last_vowel
more_than_one_syllable-cons c cs = go (vowel c)
  where
    go : (t : Bool) → any vowel (cond t cs (before_last_vowel cs)) ≡ cond t (any vowel cs) (any vowel (before_last_vowel cs))
    go true = refl
    go false = refl

-- one character is not two vowels
more_than_one_syllable-one : (c : ℕ) → more_than_one_syllable (c ∷ []) ≡ false
unfolding more_than_one_syllable before_last_vowel any
more_than_one_syllable-one c = cond_both (λ cs. any vowel cs ≡ false) (vowel c) [] [] refl refl

-- two vowels are a vowel before the last one
often-two : (cs : List ℕ) → often 2 cs ≡ more_than_one_syllable cs
unfolding often more_than_one_syllable
often-two cs = go (any vowel cs) (more_than_one_syllable cs) (before-vowel vowel cs)
  where
    go : (a m : Bool) → (m ≡ true → a ≡ true) → a && (m && true) ≡ m
    go true true h = refl
    go true false h = refl
    go false true h = h refl
    go false false h = refl

-- two vowels are two in either direction
more_than_one_syllable-reverse : (cs : List ℕ) → more_than_one_syllable (reverse cs) ≡ more_than_one_syllable cs
unfolding any
more_than_one_syllable-reverse [] = refl
more_than_one_syllable-reverse (c ∷ cs) =
    rw (reverse-cons, more_than_one_syllable-append, more_than_one_syllable-one, more_than_one_syllable-cons, more_than_one_syllable-reverse cs, any-reverse vowel cs)
    (go (vowel c) (any vowel cs) (more_than_one_syllable cs) (unfold more_than_one_syllable in before-vowel vowel cs))
  where
    go : (t a m : Bool) → (m ≡ true → a ≡ true) → m || cond a (t || false) false ≡ cond t a m
    go true true true h = refl
    go true true false h = refl
    go true false true h = sym (h refl)
    go true false false h = refl
    go false true true h = refl
    go false true false h = refl
    go false false true h = refl
    go false false false h = refl

-- ---- the routine ----

-- an answer that takes nothing, as a result
placed-none : (s : State) (b : Bool) → placed s (take_if b 0) ≡ cond b (done s) (failed s)
unfolding placed take_if
placed-none s true = moved_none s
placed-none s false = refl

-- in any state more_than_one_syllable_word answers what the simple form says of the characters ahead, and changes nothing
pub syllables-run : (self : State → Result) (s : State)
    → settled s.cursor (run forward self more_than_one_syllable_word s) ≡ cond (more_than_one_syllable (reverse (ahead s))) (done s) (failed s)
unfolding more_than_one_syllable_word vowel_ahead
syllables-run self s =
    let cs : List ℕ = ahead s in
    let two = repeated-often (length cs) 2 cs (omega arith) ∙ ap (λ (b : Bool). take_if b 0) (often-two cs ∙ sym (more_than_one_syllable-reverse cs)) in
    (means-define _ (means-test (means-atleast 2 (means-gopast (means-grouping vowel_letters))))).on-state self s
    ∙ ap (placed s) two ∙ placed-none s (more_than_one_syllable (reverse cs))

-- a test made a result succeeds where it passes
succeeded-cond : (s : State) (b : Bool) → succeeded (cond b (done s) (failed s)) ≡ b
unfolding succeeded
succeeded-cond s true = refl
succeeded-cond s false = refl

-- so the routine, entered at a word's start, is the simple form
pub syllable_check-simple : (cs : List ℕ) → syllable_check cs ≡ more_than_one_syllable cs
unfolding syllable_check called entered ahead
syllable_check-simple cs =
    let s = entered (reverse cs) in
    sym (succeeded-settled 0 (run forward failed more_than_one_syllable_word s))
    ∙ ap succeeded (syllables-run failed s)
    ∙ succeeded-cond s (more_than_one_syllable (reverse (reverse cs)))
    ∙ ap more_than_one_syllable (reverse-reverse cs)
