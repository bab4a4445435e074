-- The chain before `ki` by its turns: it takes what its first turn takes, and where that calls the chain, what the chain takes behind it. A
-- turn that calls has taken a character. Assumes nothing.
use Prim.Native.Nat.{ℕ, ◌+◌, ◌≤◌, ◌<◌}
use mathlib.Core.Path.{◌≡◌, refl, sym, ap, ap₂, ◌∙◌}
use mathlib.Core.Bool.{Bool, true, false}
use mathlib.Core.List.{List}
use native.Mathlib.Omega.{arith}
use native.Mathlib.Nat.{add-zero, zero-add, add_assoc}
use lib.ListN.{length, drop}
use lib.Seq.{drop-drop}
use Rattle.theorems.specs.Simple.Grammar.{Out, fail, took, more, after, first, Mark, mark_of}
use Rattle.theorems.specs.Simple.Marks.{lAr}
use Rattle.theorems.specs.Simple.NounMarks.{possessives, sU, lArI, nUn, DA, ki}
use Rattle.theorems.specs.Simple.Nouns.{Taking, both, either, perhaps, plural, possessed, owned, link, chain}
use Rattle.theorems.proofs.Laws.Outcome.{Post, Flagged, unfit, fits}
use Rattle.theorems.proofs.Laws.Flag.{mark-keeps}
use Rattle.theorems.proofs.Laws.Chain.{ki-takes, chain-text, chain-two}
use Rattle.nouns.specs.Link.{Turn, ends, calls, later, or_turn, before_lAr, before_DA_of, before_nUn_of, before_ki, link_of, closed}
use Rattle.nouns.proofs.Laws.Passing.{both-either}

-- ---- so many characters before ----

-- none before an answer
more-zero : (o : Out) → more 0 true o ≡ o
unfolding more
more-zero fail = refl
more-zero (took k f) = ap (λ (n : ℕ). took n f) (zero-add k)

-- some, and more
more-more : (k j : ℕ) (o : Out) → more (k + j) true o ≡ more k true (more j true o)
unfolding more
more-more k j fail = refl
more-more k j (took i f) = ap (λ (n : ℕ). took n f) (add_assoc k j i)

-- before a turn
closed-later : (k : ℕ) (t : Turn) (cs : List ℕ) → closed (later k t) cs ≡ more k true (closed t (drop k cs))
unfolding closed later more
closed-later k Turn.unfit cs = refl
closed-later k (ends j) cs = refl
closed-later k (calls j) cs =
    more-more k j (perhaps chain (drop (k + j) cs)) ∙ ap (λ (ds : List ℕ). more k true (more j true (perhaps chain ds))) (sym (drop-drop j k cs))

-- a turn that calls at once is the chain
closed-calls : (cs : List ℕ) → closed (calls 0) cs ≡ perhaps chain cs
unfolding closed
closed-calls cs = more-zero (perhaps chain cs)

-- ---- a turn behind a mark ----

-- the first of three
first-assoc : (o p q : Out) → first (first o p) q ≡ first o (first p q)
unfolding first
first-assoc fail p q = refl
first-assoc (took k f) p q = refl

-- behind a mark, what need not fit; or another turn where the mark fails
closed-or : (cs : List ℕ) (o : Out) (g : Taking) (q : ℕ → Turn) (r : Turn) → Flagged true o → ((k : ℕ) → closed (q k) (drop k cs) ≡ perhaps g (drop k cs))
    → closed (or_turn o q r) cs ≡ first (after o (λ k. perhaps g (drop k cs))) (closed r cs)
unfolding or_turn first after perhaps more
closed-or cs _ g q r unfit e = refl
closed-or cs _ g q r (fits k {f = b} flag) e = closed-later k (q k) cs ∙ ap (more k true) (e k) ∙ go b flag (g (drop k cs))
  where
    go : (b : Bool) → b ≡ true → (o : Out) → more k true (first o (took 0 true)) ≡ first (more k b (first o (took 0 true))) (closed r cs)
    go true h fail = refl
    go true h (took j f) = refl
    go false h o = let z : ◌≡◌ {A = ℕ} 0 1 = cc in absurd (omega arith)

-- behind a mark, nothing
closed-ends : (cs : List ℕ) (o : Out) (r : Turn) → Flagged true o → closed (or_turn o (λ k. ends 0) r) cs ≡ first o (closed r cs)
unfolding or_turn first closed later
closed-ends cs _ r unfit = refl
closed-ends cs _ r (fits k flag) = ap₂ took (add-zero k) (sym flag)

-- behind a mark, a turn that may not fit
closed-then : (cs : List ℕ) (o : Out) (f : Taking) (q : ℕ → Turn) → Flagged true o → ((k : ℕ) → closed (q k) (drop k cs) ≡ f (drop k cs))
    → closed (or_turn o q Turn.unfit) cs ≡ after o (λ k. f (drop k cs))
unfolding or_turn after closed
closed-then cs _ f q unfit e = refl
closed-then cs _ f q (fits k {f = b} flag) e =
    closed-later k (q k) cs ∙ ap (more k true) (e k) ∙ ap (λ (x : Bool). more k x (f (drop k cs))) (sym flag)

-- ---- the parts of a turn ----

closed-lAr : (cs : List ℕ) → closed (before_lAr cs) cs ≡ perhaps (plural chain) cs
unfolding before_lAr plural both perhaps closed
closed-lAr cs = closed-or cs (mark_of lAr cs) chain (λ k. calls 0) (ends 0) (mark-keeps lAr cs) (λ k. closed-calls (drop k cs))

-- possessives or sU, and what is before lAr
closed-owner : (m : Mark) (cs : List ℕ) (r : Turn)
    → closed (or_turn (mark_of m cs) (λ k. before_lAr (drop k cs)) r) cs ≡ first (both (mark_of m) (perhaps (plural chain)) cs) (closed r cs)
unfolding both
closed-owner m cs r = closed-or cs (mark_of m cs) (plural chain) (λ k. before_lAr (drop k cs)) r (mark-keeps m cs) (λ k. closed-lAr (drop k cs))

closed-DA : (cs : List ℕ) → closed (before_DA_of cs) cs ≡ perhaps (either (plural chain) (possessed chain)) cs
unfolding before_DA_of plural possessed both either perhaps closed
closed-DA cs =
    closed-or cs (mark_of lAr cs) chain (λ k. calls 0) _ (mark-keeps lAr cs) (λ k. closed-calls (drop k cs))
    ∙ ap (first (plural chain cs)) (closed-owner possessives cs (ends 0))
    ∙ sym (first-assoc (plural chain cs) (possessed chain cs) (took 0 true))

-- behind nUn: lArI, one of the two, or the chain
nUn-parts : (cs : List ℕ) → first (mark_of lArI cs) (first (both (mark_of possessives) (perhaps (plural chain)) cs)
    (first (both (mark_of sU) (perhaps (plural chain)) cs) (perhaps chain cs))) ≡ perhaps (either (mark_of lArI) (either (owned chain) chain)) cs
unfolding owned either perhaps
nUn-parts cs = simp (first-assoc, both-either (mark_of possessives) (mark_of sU) (plural chain) cs)

closed-nUn : (cs : List ℕ) → closed (before_nUn_of cs) cs ≡ perhaps (either (mark_of lArI) (either (owned chain) chain)) cs
unfolding before_nUn_of
closed-nUn cs =
    let by : Mark → Out = λ m. both (mark_of m) (perhaps (plural chain)) cs in
    closed-ends cs (mark_of lArI cs) _ (mark-keeps lArI cs)
    ∙ ap (first (mark_of lArI cs)) (closed-owner possessives cs _ ∙ ap (first (by possessives)) (closed-owner sU cs (calls 0) ∙ ap (first (by sU)) (closed-calls cs)))
    ∙ nUn-parts cs

-- what stands before `ki`
abbrev near_ki : Taking
near_ki =
    either (both (mark_of DA) (perhaps (either (plural chain) (possessed chain))))
    (both (mark_of nUn) (perhaps (either (mark_of lArI) (either (owned chain) chain))))

closed-ki : (cs : List ℕ) → closed (before_ki cs) cs ≡ near_ki cs
unfolding before_ki both either closed
closed-ki cs =
    closed-or cs (mark_of DA cs) (either (plural chain) (possessed chain)) (λ k. before_DA_of (drop k cs)) _ (mark-keeps DA cs) (λ k. closed-DA (drop k cs))
    ∙ ap (first _)
    (closed-then cs (mark_of nUn cs) (perhaps (either (mark_of lArI) (either (owned chain) chain))) (λ k. before_nUn_of (drop k cs)) (mark-keeps nUn cs)
    (λ k. closed-nUn (drop k cs)))

-- the chain by its first turn
pub chain-closed : (cs : List ℕ) → chain cs ≡ closed (link_of cs) cs
unfolding link both link_of
chain-closed cs = chain-text cs ∙ sym (closed-then cs (mark_of ki cs) near_ki (λ k. before_ki (drop k cs)) (mark-keeps ki cs) (λ k. closed-ki (drop k cs)))

-- ---- a turn that calls ----

-- has taken `ki`
pub calls-some : (cs : List ℕ) (k : ℕ) → link_of cs ≡ calls k → 0 < k
unfolding link_of or_turn later
calls-some cs k = go (ki-takes cs)
  where
    two : (t : Turn) → later 2 t ≡ calls k → 0 < k
    two Turn.unfit e = let z : ◌≡◌ {A = ℕ} 0 1 = cc in absurd (omega arith)
    two (ends j) e = let z : ◌≡◌ {A = ℕ} 0 1 = cc in absurd (omega arith)
    two (calls j) e = let same : 2 + j ≡ k = cc in omega arith

    go : {o : Out} → Post (λ k. (k ≡ 2) × (k ≤ length cs)) o → or_turn o (λ k. before_ki (drop k cs)) Turn.unfit ≡ calls k → 0 < k
    go unfit e = let z : ◌≡◌ {A = ℕ} 0 1 = cc in absurd (omega arith)
    go (fits j p) e = two (before_ki (drop j cs)) (ap (λ (i : ℕ). later i (before_ki (drop j cs))) (sym p.0) ∙ e)

-- and no more than there is, the chain taking no more with what it takes behind it
pub calls-within : (cs : List ℕ) (k : ℕ) → link_of cs ≡ calls k → k ≤ length cs
unfolding closed perhaps first more
calls-within cs k e = go (chain (drop k cs)) (rw (chain-closed cs, e) at (chain-two cs))
  where
    got : (j : ℕ) {f : Bool} → Post (λ i. (2 ≤ i) × (i ≤ length cs)) (took (k + j) f) → k ≤ length cs
    got j (fits _ p) = omega arith

    go : (o : Out) → Post (λ i. (2 ≤ i) × (i ≤ length cs)) (more k true (first o (took 0 true))) → k ≤ length cs
    go fail p = got 0 p
    go (took j f) p = got j p
