-- The chain before `ki` in the simple form is its own text, however many calls deep its definition goes: each call is made behind a `ki`,
-- on a shorter text. So it takes two characters at least. Assumes nothing.
use Prim.Native.Nat.{ℕ, zero, suc, ◌≤◌, ◌<◌}
use mathlib.Core.Path.{◌≡◌, refl, ap, ap₂}
use mathlib.Core.Bool.{Bool, true, false, cond}
use mathlib.Core.List.{List}
use native.Mathlib.Omega.{arith}
use lib.ListN.{length, drop, length-drop}
use Rattle.turkish.specs.Letters.{text, from_end, starts}
use Rattle.theorems.specs.Simple.Grammar.{Out, fail, took, after, first, more, asking, among, joining, mark_of, mark, run}
use Rattle.theorems.specs.Simple.Marks.{unjoined, marked, lAr}
use Rattle.theorems.specs.Simple.NounMarks.{possessives, sU, nUn, DA, ki}
use Rattle.theorems.specs.Simple.Nouns.{Taking, both, either, perhaps, plural, possessed, owned, link, chain_within, chain}
use Rattle.theorems.proofs.Laws.Outcome.{Post, unfit, fits, post-all, post-map, post-both, post-then}
use Rattle.theorems.proofs.Laws.Leaves.{run-leaves}
use Rattle.theorems.proofs.Laws.NounText.{chain-takes}

-- ---- functions that take the same of short texts ----

-- of every text of n characters at most
pub record Alike (n : ℕ) (f g : Taking) : Type 0 where
  pub alike : (cs : List ℕ) → length cs ≤ n → f cs ≡ g cs

-- what does not call is like itself
pub same : {n : ℕ} {f : Taking} → Alike n f f
same = record { alike = λ cs h. refl }

-- one after the other: what is left is no longer
pub alike_both : {n : ℕ} {f g : Taking} (e : Taking) → Alike n f g → Alike n (both e f) (both e g)
unfolding both after
alike_both {n} {f} {g} e x = record { alike = λ cs h. go cs h (e cs) }
  where
    go : (cs : List ℕ) → length cs ≤ n → (o : Out) → after o (λ k. f (drop k cs)) ≡ after o (λ k. g (drop k cs))
    go cs h fail = refl
    go cs h (took k b) = ap (more k b) (x.alike (drop k cs) (omega (arith, length-drop k cs)))

-- the first of two, and one that need not fit
pub alike-either : {n : ℕ} {e f g h : Taking} → Alike n e f → Alike n g h → Alike n (either e g) (either f h)
unfolding either
alike-either x y = record { alike = λ cs h. ap₂ first (x.alike cs h) (y.alike cs h) }

pub alike-perhaps : {n : ℕ} {f g : Taking} → Alike n f g → Alike n (perhaps f) (perhaps g)
unfolding perhaps
alike-perhaps x = record { alike = λ cs h. ap (λ (o : Out). first o (took 0 true)) (x.alike cs h) }

-- ---- a link of the chain ----

-- `ki` takes its two letters, where there are two
pub ki-takes : (cs : List ℕ) → Post (λ k. (k ≡ 2) × (k ≤ length cs)) (mark_of ki cs)
unfolding run mark_of ki marked asking among after more joining unjoined from_end text
ki-takes cs = post-both (two (starts (from_end "ki") cs)) (post-map (λ k f h. omega arith) (run-leaves (mark ki) 0 cs (omega arith)))
  where
    two : (t : Bool) → Post (λ k. k ≡ 2) (after (cond t (took 2 true) fail) (λ k. took 0 true))
    two true = fits 2 refl
    two false = unfit

-- behind what takes something, functions that take the same of shorter texts
both_behind : {f g : Taking} (e : Taking) (cs : List ℕ) → Post (λ k. (0 < k) × (k ≤ length cs)) (e cs)
    → ((n : ℕ) → n < length cs → Alike n f g) → both e f cs ≡ both e g cs
unfolding both after
both_behind {f} {g} e cs p x = go p
  where
    go : {o : Out} → Post (λ k. (0 < k) × (k ≤ length cs)) o → after o (λ k. f (drop k cs)) ≡ after o (λ k. g (drop k cs))
    go unfit = refl
    go (fits k {f = b} h) =
        let ds = drop k cs in
        let shorter : length ds < length cs = omega (arith, length-drop k cs) in
        ap (more k b) ((x (length ds) shorter).alike ds (omega arith))

-- the groups in which a chain is called
module _ {n : ℕ} {f g : Taking} (x : Alike n f g) where
  plural-alike : Alike n (plural f) (plural g)
  unfolding plural
  plural-alike = alike_both (mark_of lAr) (alike-perhaps x)

  possessed-alike : Alike n (possessed f) (possessed g)
  unfolding possessed
  possessed-alike = alike_both (mark_of possessives) (alike-perhaps plural-alike)

  owned-alike : Alike n (owned f) (owned g)
  unfolding owned
  owned-alike = alike_both (either (mark_of possessives) (mark_of sU)) (alike-perhaps plural-alike)

-- what a link takes depends only on what its calls take of shorter texts
pub link-alike : (f g : Taking) (cs : List ℕ) → ((ds : List ℕ) → length ds < length cs → f ds ≡ g ds) → link f cs ≡ link g cs
unfolding link
link-alike f g cs h =
    both_behind (mark_of ki) cs (post-map (λ k b p. omega arith) (ki-takes cs)) λ n l.
    let x : Alike n f g = record { alike = λ ds m. h ds (omega arith) } in
    alike-either (alike_both (mark_of DA) (alike-perhaps (alike-either (plural-alike x) (possessed-alike x))))
    (alike_both (mark_of nUn) (alike-perhaps (alike-either same (alike-either (owned-alike x) x))))

-- ---- the chain ----

-- any number of calls deep does that is more than the characters
pub chain-depth : (m n : ℕ) (cs : List ℕ) → length cs < m → length cs < n → chain_within m cs ≡ chain_within n cs
unfolding chain_within
chain-depth zero n cs h k = absurd (omega arith)
chain-depth (suc m) zero cs h k = absurd (omega arith)
chain-depth (suc m) (suc n) cs h k = link-alike (chain_within m) (chain_within n) cs (λ ds l. chain-depth m n ds (omega arith) (omega arith))

-- and the chain is its text, inside which a call is the chain
pub chain-text : (cs : List ℕ) → chain cs ≡ link chain cs
unfolding chain chain_within
chain-text cs = link-alike (chain_within (length cs)) chain cs (λ ds l. chain-depth (length cs) (suc (length ds)) ds l (omega arith))

-- where it fits it takes two characters at least, and no more than there are
pub chain-two : (cs : List ℕ) → Post (λ k. (2 ≤ k) × (k ≤ length cs)) (chain cs)
unfolding link both
chain-two cs =
    post-map (λ k f h. (h.0, h.1.1))
    (post-both (rw (chain-text cs) (post-then (ki-takes cs) (λ k f p. post-all _ (λ j g. omega arith)))) (chain-takes.taken cs))
