-- The summary of a front, a character at a time: what one character more makes of it, and how great its numbers are. The counts of a text
-- are those before its last vowel with that vowel's one greater, which is computed at each of the eight. Assumes nothing.
use Prim.Native.Nat.{ℕ, zero, suc, ◌≤◌}
use mathlib.Core.Path.{◌≡◌, refl, sym, ap, ◌∙◌}
use mathlib.Core.Bool.{Bool, true, false, cond, not, ◌||◌, true≢false}
use mathlib.Core.Logic.{◌⊎◌, inl, inr, ⊎_elim}
use mathlib.Core.List.{List, [], ◌∷◌, map, Memᴰ}
use native.Mathlib.Numerals.{add-one}
use native.Mathlib.Omega.{arith}
use lib.ListN.{length, drop, get_or}
use lib.Dec.{eqb, eqb-suc-zero}
use Rattle.encoding.proofs.Laws.Booleans.{cond_both}
use Rattle.turkish.specs.declared.summary.Summary.{Summary}
use Rattle.turkish.specs.Letters.{text, any, has}
use Rattle.turkish.specs.Vowels.{vowels, vowel, last_vowel_of, before_last_vowel}
use Rattle.theorems.specs.Simple.Harmony.{to_first}
use Rattle.theorems.specs.Fronts.{Alike}
use Rattle.batches.specs.Summary.{vowel_number, times, summary_from, raised, added}
use Rattle.theorems.proofs.Laws.Tests.{eqb_comm}
use Rattle.theorems.proofs.Laws.Harmony.{to_first-le}
use Rattle.theorems.proofs.Laws.Vowels.{has-member}

-- ---- one character more ----

-- what holds of each of a list's members
abbrev Each : (ℕ → Type 0) → List ℕ → Type 0
Each P [] = Unit {0}
Each P (v ∷ vs) = P v × Each P vs

-- holds of any of them
each_at : (P : ℕ → Type 0) (vs : List ℕ) (c : ℕ) → Each P vs → Memᴰ c vs → P c
each_at P [] c h x'' = elim x'' [ ]
each_at P (v ∷ vs) c h (Memᴰ.head e) = rw e h.0
each_at P (v ∷ vs) c h (Memᴰ.tail m) = each_at P vs c h.1 m

-- the numbers of some characters, that of c one greater
abbrev one_more : ℕ → (ℕ → ℕ) → ℕ → ℕ
one_more c f v = cond (eqb v c) (suc (f v)) (f v)

-- where c is none of the characters, none of their numbers is greater
one_more-other : (c : ℕ) (f : ℕ → ℕ) (vs : List ℕ) → has vs c ≡ false → map (one_more c f) vs ≡ map f vs
unfolding has any
one_more-other c f [] h = refl
one_more-other c f (v ∷ vs) h =
    (elim (eqb c v) as (λ b. eqb c v ≡ b → b || has vs c ≡ false → map (one_more c f) (v ∷ vs) ≡ map f (v ∷ vs))
    [ true ↦ λ e k. absurd (true≢false k) | false ↦ λ e k. rw (eqb_comm v c, e, one_more-other c f vs k) ]) refl h

-- of the vowels' numbers a vowel's own is the one that grows
one_more-vowel : (c : ℕ) (f : ℕ → ℕ) → vowel c ≡ true → map (one_more c f) vowels ≡ raised (vowel_number c) (map f vowels)
unfolding vowel
one_more-vowel c f h =
    each_at (λ v. map (one_more v f) vowels ≡ raised (vowel_number v) (map f vowels)) vowels c
    (unfold vowels text vowel has any vowel_number to_first raised in simp add-one (refl, (refl, (refl, (refl, (refl, (refl, (refl, (refl, tt)))))))))
    (has-member vowels c h)

-- the counts of a text are those before its last vowel, that vowel's one greater
counts-raised : (cs : List ℕ)
    → map (λ v. times v cs) vowels ≡ raised (vowel_number (last_vowel_of cs)) (map (λ v. times v (before_last_vowel cs)) vowels)
unfolding times last_vowel_of before_last_vowel
counts-raised [] = unfold vowel_number vowel vowels text has any raised in refl
counts-raised (c ∷ cs) =
    let f : ℕ → ℕ = λ v. times v cs in
    (elim (vowel c) as
    (λ b. vowel c ≡ b → map (one_more c f) vowels
    ≡ raised (vowel_number (cond b c (last_vowel_of cs))) (map (λ v. times v (cond b cs (before_last_vowel cs))) vowels))
    [ true ↦ λ e. one_more-vowel c f e | false ↦ λ e. one_more-other c f vowels (unfold vowel in e) ∙ counts-raised cs ]) refl

-- the summary of one character more is what adding it makes of the summary
pub summary_from-cons : (c : ℕ) (cs : List ℕ) → summary_from (c ∷ cs) ≡ added c (summary_from cs)
unfolding summary_from added last_vowel_of before_last_vowel
summary_from-cons c cs =
    let of : ℕ → List ℕ → Summary = λ last front. record { last = vowel_number last; counts = map (λ v. times v front) vowels } in
    let more : List ℕ = raised (vowel_number (last_vowel_of cs)) (map (λ v. times v (before_last_vowel cs)) vowels) in
    elim (vowel c) as
    (λ b. of (cond b c (last_vowel_of cs)) (cond b cs (before_last_vowel cs))
    ≡ cond b (record { last = vowel_number c; counts = more }) (of (last_vowel_of cs) (before_last_vowel cs)))
    [ true ↦ ap (λ (l : List ℕ). record { last = vowel_number c; counts = l }) (counts-raised cs) | false ↦ refl ]

-- ---- how great a summary's numbers are ----

-- no character stands among others more often than there are any
times-le : (v : ℕ) (cs : List ℕ) → times v cs ≤ length cs
unfolding times
times-le v [] = omega arith
times-le v (c ∷ cs) =
    cond_both (λ n. n ≤ suc (length cs)) (eqb v c) (suc (times v cs)) (times v cs) (omega (arith, times-le v cs)) (omega (arith, times-le v cs))

-- there are no more before the last vowel than in all
length_before : (cs : List ℕ) → length (before_last_vowel cs) ≤ length cs
unfolding before_last_vowel
length_before [] = omega arith
length_before (c ∷ cs) =
    cond_both (λ l. length l ≤ suc (length cs)) (vowel c) cs (before_last_vowel cs) (omega arith) (omega (arith, length_before cs))

-- numbers that are each at most n: so is the one at any place
get_or-mapped : (f : ℕ → ℕ) (n : ℕ) → ((v : ℕ) → f v ≤ n) → (vs : List ℕ) (k : ℕ) → get_or (map f vs) k 0 ≤ n
get_or-mapped f n h [] k = omega arith
get_or-mapped f n h (v ∷ vs) zero = h v
get_or-mapped f n h (v ∷ vs) (suc k) = get_or-mapped f n h vs k

-- each count is at most the number of characters
pub summary_from-counts : (cs : List ℕ) (k : ℕ) → get_or (summary_from cs).counts k 0 ≤ length cs
unfolding summary_from
summary_from-counts cs k =
    get_or-mapped (λ v. times v (before_last_vowel cs)) (length cs)
    (λ v. omega (arith, times-le v (before_last_vowel cs), length_before cs)) vowels k

-- a vowel's number is at most the number of vowels
vowel_number-le : (c : ℕ) → vowel_number c ≤ length vowels
unfolding vowel_number
vowel_number-le c = cond_both (λ n. n ≤ length vowels) (vowel c) (to_first (eqb c) vowels) 0 (to_first-le (eqb c) vowels) (omega arith)

-- so is a summary's last one
pub summary_from-last : (cs : List ℕ) → (summary_from cs).last ≤ length vowels
unfolding summary_from
summary_from-last cs = vowel_number-le (last_vowel_of cs)

-- ---- what a summary tells ----

-- a character stands nowhere exactly where it stands there no times
pub times_none : (v : ℕ) (cs : List ℕ) → eqb (times v cs) 0 ≡ not (has cs v)
unfolding times has any
times_none v [] = refl
times_none v (c ∷ cs) =
    (elim (eqb v c) as (λ b. eqb (cond b (suc (times v cs)) (times v cs)) 0 ≡ not (b || has cs v))
    [ true ↦ eqb-suc-zero (times v cs) | false ↦ times_none v cs ])

-- characters have a last vowel, or no vowel at all
pub last-or-none : (cs : List ℕ) → (vowel (last_vowel_of cs) ≡ true) ⊎ ((last_vowel_of cs ≡ 0) × (before_last_vowel cs ≡ []))
unfolding last_vowel_of before_last_vowel
last-or-none [] = inr (refl, refl)
last-or-none (c ∷ cs) =
    (elim (vowel c) as (λ b. vowel c ≡ b → (vowel (cond b c (last_vowel_of cs)) ≡ true)
    ⊎ ((cond b c (last_vowel_of cs) ≡ 0) × (cond b cs (before_last_vowel cs) ≡ [])))
    [ true ↦ λ e. inl e | false ↦ λ e. last-or-none cs ]) refl

-- at a vowel's number stands that vowel
numbered-vowel : (v : ℕ) → vowel v ≡ true → get_or (0 ∷ vowels) (vowel_number v) 0 ≡ v
unfolding vowel
numbered-vowel v h =
    each_at (λ v. get_or (0 ∷ vowels) (vowel_number v) 0 ≡ v) vowels v
    (unfold vowels text vowel has any vowel_number to_first in (refl, (refl, (refl, (refl, (refl, (refl, (refl, (refl, tt))))))))) (has-member vowels v h)

-- two answers of which neither or both are no are equal
not_equal : (a b : Bool) → not a ≡ not b → a ≡ b
not_equal true true e = refl
not_equal true false e = sym e
not_equal false true e = sym e
not_equal false false e = refl

-- by its number a last vowel is known, and that there is none
numbered-last : (cs : List ℕ) → get_or (0 ∷ vowels) (vowel_number (last_vowel_of cs)) 0 ≡ last_vowel_of cs
numbered-last cs = ⊎_elim (λ h. numbered-vowel (last_vowel_of cs) h) (λ h. rw h.0 (unfold vowel_number vowel vowels text has any in refl)) (last-or-none cs)

-- lists that two functions make of one, and that are equal: the functions answer alike on its members
map_at : (f g : ℕ → ℕ) {v : ℕ} {vs : List ℕ} → map f vs ≡ map g vs → Memᴰ v vs → f v ≡ g v
map_at f g e (Memᴰ.head p) = rw p (ap (λ (l : List ℕ). get_or l 0 0) e)
map_at f g e (Memᴰ.tail m) = map_at f g (ap (drop 1) e) m

-- fronts with one summary are alike
pub summary-alike : (f g : List ℕ) → summary_from f ≡ summary_from g → Alike f g
unfolding summary_from vowel
summary-alike f g e =
    record {
      last = sym (numbered-last f) ∙ ap (λ (s : Summary). get_or (0 ∷ vowels) s.last 0) e ∙ numbered-last g;
      others = λ v h.
          let n : times v (before_last_vowel f) ≡ times v (before_last_vowel g) =
          map_at (λ v. times v (before_last_vowel f)) (λ v. times v (before_last_vowel g)) (ap (λ (s : Summary). s.counts) e) (has-member vowels v h) in
          not_equal (has (before_last_vowel f) v) (has (before_last_vowel g) v)
          (sym (times_none v (before_last_vowel f)) ∙ ap (λ (k : ℕ). eqb k 0) n ∙ times_none v (before_last_vowel g));
    }
