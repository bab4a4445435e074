-- How many characters a command leaves at least, one or none, computed from the command; so neither it nor the stage ever takes more
-- than there are. Assumes nothing.
use Prim.Native.Nat.{ℕ, ◌+◌, ◌≤◌, min}
use mathlib.Core.Path.{◌≡◌, refl, sym, ap}
use mathlib.Core.Bool.{Bool, true, false, cond, not, ◌&&◌, ◌||◌, or-true, false≢true}
use mathlib.Core.List.{List, [], ◌∷◌}
use native.Mathlib.Omega.{arith}
use lib.ListN.{length, drop, length-drop}
use lib.Dec.{eqb}
use borrow.Author.Tests.{eqb-true, eq-eqb}
use Rattle.utf8.specs.Steps.{same}
use Rattle.encoding.proofs.Laws.Booleans.{and_left, and_right}
use Rattle.turkish.specs.Letters.{starts}
use Rattle.theorems.specs.Simple.Harmony.{harmony}
use Rattle.theorems.specs.Simple.Grammar.{Out, took, among, joining, Mark, mark_of, Command, mark, ◌then◌, ◌or◌, nothing, unset, run}
use Rattle.theorems.specs.Simple.Stage.{branches, staged, stage}
use Rattle.theorems.specs.Fronts.{one_of}
use Rattle.theorems.proofs.Laws.Outcome.{Post, unfit, fits, post-map, post-first, post-asking, post-then, post-joining}
use Rattle.theorems.proofs.Laws.Tests.{every}
use Rattle.theorems.proofs.Laws.Same.{one_of-every}

-- ---- a mark on a text that is none of its keys ----

-- a key that ends a text leaves a character of it, unless it is the whole text
starts-leaves : (k cs : List ℕ) (n : ℕ) → n ≤ 1 → (same cs k ≡ true → n ≡ 0) → starts k cs ≡ true → length k + n ≤ length cs
unfolding same starts
starts-leaves [] [] n b h e = omega (arith, h refl)
starts-leaves [] (c ∷ cs) n b h e = omega arith
starts-leaves (x ∷ k) [] n b h e = absurd (false≢true e)
starts-leaves (x ∷ k) (c ∷ cs) n b h e =
    let q : eqb c x ≡ true = eq-eqb c x (sym (eqb-true x c (and_left (eqb x c) (starts k cs) e))) in
    omega (arith, starts-leaves k cs n b (λ s. h (rw (q, s))) (and_right (eqb x c) (starts k cs) e))

-- a table's key leaves a character, unless the text is one of the keys
among-leaves : (ks : List (List ℕ)) (cs : List ℕ) (n : ℕ) → n ≤ 1 → (one_of ks cs ≡ true → n ≡ 0) → Post (λ k. k + n ≤ length cs) (among ks cs)
unfolding among one_of
among-leaves [] cs n b h = unfit
among-leaves (k ∷ ks) cs n b h = go (starts k cs) refl (among-leaves ks cs n b (λ o. h (rw (o, or-true (same cs k)))))
  where
    go : (t : Bool) → starts k cs ≡ t → Post (λ j. j + n ≤ length cs) (among ks cs)
        → Post (λ j. j + n ≤ length cs) (cond t (took (length k) true) (among ks cs))
    go true e r = fits (length k) (starts-leaves k cs n b (λ s. h (rw s)) e)
    go false e r = r

-- a mark leaves a character where its joint asks for one, and unless the text passes its test and is one of its keys
pub mark-leaves : (m : Mark) (cs : List ℕ) (n : ℕ) → n ≤ 1 → (not m.harmonic || harmony cs ≡ true → one_of m.keys cs ≡ true → n ≡ 0)
    → Post (λ k. k + cond m.joint.asked 1 n ≤ length cs) (mark_of m cs)
unfolding mark_of
mark-leaves m cs n b h =
    post-asking (not m.harmonic || harmony cs) (λ t. post-then (among-leaves m.keys cs n b (h t)) go)
  where
    go : (k : ℕ) (f : Bool) → k + n ≤ length cs → Post (λ i. k + i + cond m.joint.asked 1 n ≤ length cs) (joining m.joint (drop k cs))
    go k f p =
        post-joining m.joint (drop k cs) (λ a. rw a (omega arith)) λ c d ds a e.
        let left = length-drop k cs in
        let two = ap length e in
        (rw a (omega arith), λ h. rw a (omega arith))

-- ---- any command on any text ----

-- no harmony among these characters alone
unfoldable pub unharmonic : List ℕ → Bool
unharmonic cs = not (harmony cs)

-- the characters that a mark leaves at least: one where its joint asks for one, or it tests harmony and no key of it has that in itself
unfoldable pub spares : Mark → ℕ
spares m = cond m.joint.asked 1 (cond (m.harmonic && every unharmonic m.keys) 1 0)

-- a mark leaves what it spares
mark-spares : (m : Mark) (cs : List ℕ) → Post (λ k. k + spares m ≤ length cs) (mark_of m cs)
unfolding spares unharmonic
mark-spares m cs = go (m.harmonic && every unharmonic m.keys) refl
  where
    go : (t : Bool) → m.harmonic && every unharmonic m.keys ≡ t → Post (λ k. k + cond m.joint.asked 1 (cond t 1 0) ≤ length cs) (mark_of m cs)
    go true e =
        let h = and_left m.harmonic (every unharmonic m.keys) e in
        let u = one_of-every unharmonic m.keys cs (and_right m.harmonic (every unharmonic m.keys) e) in
        mark-leaves m cs 1 (omega arith) (λ t o. absurd (false≢true (rw (rw h at t) at (u o))))
    go false e = mark-leaves m cs 0 (omega arith) (λ t o. refl)

-- the characters that a command leaves at least of n or more
unfoldable pub leaves : Command → ℕ → ℕ
leaves (mark m) n = spares m
leaves (p then q) n = leaves q (leaves p n)
leaves (p or q) n = min (leaves p n) (leaves q n)
leaves nothing n = n
leaves unset n = n

-- so many a command leaves, and takes no more than the others
pub run-leaves : (p : Command) (n : ℕ) (cs : List ℕ) → n ≤ length cs → Post (λ k. k + leaves p n ≤ length cs) (run p cs)
unfolding run leaves
run-leaves (mark m) n cs h = mark-spares m cs
run-leaves (p then q) n cs h =
    post-then (run-leaves p n cs h) λ k f r.
    post-map (λ j f s. omega (arith, length-drop k cs)) (run-leaves q (leaves p n) (drop k cs) (omega (arith, length-drop k cs)))
run-leaves (p or q) n cs h = post-first (post-map (λ k f r. omega arith) (run-leaves p n cs h)) (post-map (λ k f r. omega arith) (run-leaves q n cs h))
run-leaves nothing n cs h = fits 0 (omega arith)
run-leaves unset n cs h = fits 0 (omega arith)

-- ---- the stage ----

-- where a command leaves m characters of n, so does the stage
pub staged-leaves : {m n : ℕ} {o : Out} → m ≤ n → Post (λ k. k + m ≤ n) o → (staged o).removed + m ≤ n
unfolding staged
staged-leaves h unfit = omega arith
staged-leaves h (fits k p) = p

-- so it removes no more than there are
pub stage-within : (cs : List ℕ) → (stage cs).removed ≤ length cs
unfolding stage
stage-within cs =
    let s : (stage cs).removed + 0 ≤ length cs = staged-leaves (omega arith) (post-map (λ k f h. omega arith) (run-leaves branches 0 cs (omega arith))) in
    omega arith
