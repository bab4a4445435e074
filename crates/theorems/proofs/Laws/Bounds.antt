-- How many characters a command takes, at least and at most: bounds that are computed from the command; and with them what the stage
-- removes. Assumes nothing.
use Prim.Native.Nat.{ℕ, ◌+◌, ◌≤◌, ◌<◌, min, max}
use mathlib.Core.Path.{◌≡◌, refl, sym}
use mathlib.Core.Bool.{true, false, cond, not, ◌||◌, false≢true}
use mathlib.Core.List.{List, [], ◌∷◌}
use native.Mathlib.Omega.{arith}
use lib.ListN.{length, drop}
use Rattle.turkish.specs.Letters.{text, from_end, starts}
use Rattle.theorems.specs.Simple.Harmony.{harmony}
use Rattle.theorems.specs.Simple.Grammar.{Out, fail, took, among, Joint, joining, mark_of, Command, mark, ◌then◌, ◌or◌, nothing, unset, try, run}
use Rattle.theorems.specs.Simple.Marks.{unjoined, by_y, marked, yUm, sUn, yUz, sUnUz, lAr, nUz, DUr, cAsInA, yDU, ysA, ymUs, yken}
use Rattle.theorems.specs.Simple.Stage.{person, branch1, branch2, branch3, branch4, branch5, branch6, branches, staged, stage}
use Rattle.theorems.specs.Fronts.{most_removed}
use Rattle.theorems.proofs.Laws.Outcome.{Post, unfit, fits, post-map, post-first, post-asking, post-cond, post-then, post-joining}

-- ---- the bounds ----

-- the characters of a table's longest key; and of its shortest, counted up to one
unfoldable pub longest : List (List ℕ) → ℕ
longest [] = 0
longest (k ∷ ks) = max (length k) (longest ks)

unfoldable pub shortest : List (List ℕ) → ℕ
shortest [] = 1
shortest (k ∷ ks) = min (length k) (shortest ks)

-- a command takes at most so many characters
unfoldable pub most : Command → ℕ
unfolding longest
most (mark m) = longest m.keys + cond m.joint.asked 1 0
most (p then q) = most p + most q
most (p or q) = max (most p) (most q)
most nothing = 0
most unset = 0

-- and at least so many: one for each mark, if its table has no empty key
unfoldable pub least : Command → ℕ
unfolding shortest
least (mark m) = shortest m.keys
least (p then q) = least p + least q
least (p or q) = min (least p) (least q)
least nothing = 0
least unset = 0

-- ---- a command ----

-- a number within what is computed
abbrev Between : ℕ → ℕ → ℕ → Type 0
Between low high k = (low ≤ k) × (k ≤ high)

-- a table takes as many as one of its keys has
among-between : (ks : List (List ℕ)) (cs : List ℕ) → Post (Between (shortest ks) (longest ks)) (among ks cs)
unfolding among shortest longest
among-between [] cs = unfit
among-between (k ∷ ks) cs = post-cond (starts k cs) (fits (length k) (omega arith)) (post-map (λ j f h. omega arith) (among-between ks cs))

-- no more than its longest
pub among-most : (ks : List (List ℕ)) (cs : List ℕ) → Post (λ k. k ≤ longest ks) (among ks cs)
among-most ks cs = post-map (λ k f h. h.1) (among-between ks cs)

-- a joint takes at most one character, and none where it asks for none
joining-between : (j : Joint) (cs : List ℕ) → Post (Between 0 (cond j.asked 1 0)) (joining j cs)
joining-between j cs = post-joining j cs (λ a. omega arith) (λ c d ds a e. (omega arith, λ h. rw a (omega arith)))

-- a command takes what is computed for it
run-between : (p : Command) (cs : List ℕ) → Post (Between (least p) (most p)) (run p cs)
unfolding run mark_of least most
run-between (mark m) cs =
    post-asking (not m.harmonic || harmony cs) λ t.
    (post-then (among-between m.keys cs) (λ k f h. post-map (λ j f i. omega arith) (joining-between m.joint (drop k cs))))
run-between (p then q) cs = post-then (run-between p cs) (λ k f h. post-map (λ j f i. omega arith) (run-between q (drop k cs)))
run-between (p or q) cs = post-first (post-map (λ k f h. omega arith) (run-between p cs)) (post-map (λ k f h. omega arith) (run-between q cs))
run-between nothing cs = fits 0 (omega arith)
run-between unset cs = fits 0 (omega arith)

-- a command takes at most what is computed for it
pub run-most : (p : Command) (cs : List ℕ) → Post (λ k. k ≤ most p) (run p cs)
run-most p cs = post-map (λ k f h. h.1) (run-between p cs)

-- and at least that
pub run-least : (p : Command) (cs : List ℕ) → Post (λ k. least p ≤ k) (run p cs)
run-least p cs = post-map (λ k f h. h.0) (run-between p cs)

-- ---- the stage ----

-- the stage's command takes at least one character and at most 15
branches-between : (1 ≤ least branches) × (most branches ≤ most_removed)
unfolding most_removed least most branches branch1 branch2 branch3 branch4 branch5 branch6 person try unjoined by_y marked yUm sUn yUz sUnUz lAr nUz DUr cAsInA yDU ysA ymUs yken from_end text
branches-between = (omega arith, omega arith)

-- so does the stage where it says yes
staged-between : {o : Out} → Post (Between (least branches) (most branches)) o
    → ((staged o).removed ≤ most branches) × ((staged o).yes ≡ true → 0 < (staged o).removed)
unfolding staged
staged-between unfit = (omega arith, λ e. absurd (false≢true e))
staged-between (fits k h) = (omega arith, λ e. omega (arith, branches-between))

-- no more characters are removed than its command takes
pub stage-taken : (cs : List ℕ) → (stage cs).removed ≤ most branches
unfolding stage
stage-taken cs = (staged-between (run-between branches cs)).0

-- so at most 15
pub stage-most : (cs : List ℕ) → (stage cs).removed ≤ most_removed
stage-most cs = omega (arith, stage-taken cs, branches-between)

-- where the stage says yes it removes something
pub stage-yes : (cs : List ℕ) → (stage cs).yes ≡ true → 0 < (stage cs).removed
unfolding stage
stage-yes cs = (staged-between (run-between branches cs)).1

-- where it says no it removes nothing and the flag is true
pub stage-no : (cs : List ℕ) → (stage cs).yes ≡ false → ((stage cs).removed ≡ 0) × ((stage cs).flag ≡ true)
unfolding stage staged
stage-no cs = go (run branches cs)
  where
    go : (o : Out) → (staged o).yes ≡ false → ((staged o).removed ≡ 0) × ((staged o).flag ≡ true)
    go fail e = (refl, refl)
    go (took k f) e = absurd (false≢true (sym e))
