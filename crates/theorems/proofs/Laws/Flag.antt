-- What a command leaves the flag at: true where no `unset` stands in it, and false behind one. The code's proofs cite it of the marks and
-- the six branches. Assumes nothing.
use Prim.Native.Nat.{ℕ}
use mathlib.Core.Path.{◌≡◌, refl}
use mathlib.Core.Bool.{Bool, true, false, not, ◌&&◌, ◌||◌, false≢true}
use mathlib.Core.List.{List, [], ◌∷◌}
use lib.ListN.{length, drop}
use Rattle.encoding.proofs.Laws.Booleans.{and_left, and_right, and-false}
use Rattle.turkish.specs.Letters.{starts}
use Rattle.theorems.specs.Simple.Harmony.{harmony}
use Rattle.theorems.specs.Simple.Grammar.{Out, fail, took, after, among, Mark, mark_of, Command, mark, ◌then◌, ◌or◌, nothing, unset, try, run}
use Rattle.theorems.specs.Simple.Stage.{person, branch1, branch2, branch3, branch4, branch5, branch6}
use Rattle.theorems.proofs.Laws.Outcome.{Flagged, unfit, fits, post-map, post-first, post-asking, post-cond, post-more, post-then, post-joining}

-- ---- a flag left true ----

-- by one answer after another, where both leave it
flagged-after : {o : Out} {q : ℕ → Out} → Flagged true o → ((k : ℕ) → Flagged true (q k)) → Flagged true (after o q)
flagged-after x y = post-then x (λ k f e. post-map (λ j g h. rw e h) (y k))

-- by a key
flagged-among : (ks : List (List ℕ)) (cs : List ℕ) → Flagged true (among ks cs)
unfolding among
flagged-among [] cs = unfit
flagged-among (k ∷ ks) cs = post-cond (starts k cs) (fits (length k) refl) (flagged-among ks cs)

-- by a mark
pub mark-keeps : (m : Mark) (cs : List ℕ) → Flagged true (mark_of m cs)
unfolding mark_of
mark-keeps m cs =
    post-asking (not m.harmonic || harmony cs) λ t.
    flagged-after (flagged-among m.keys cs) (λ k. post-joining m.joint (drop k cs) (λ a. refl) (λ c d ds a e. (refl, λ h. refl)))

-- a command without `unset`
keeps : Command → Bool
keeps (mark m) = true
keeps (p then q) = keeps p && keeps q
keeps (p or q) = keeps p && keeps q
keeps nothing = true
keeps unset = false

-- leaves the flag true
keeps-flag : (p : Command) (cs : List ℕ) → keeps p ≡ true → Flagged true (run p cs)
unfolding keeps run
keeps-flag (mark m) cs e = mark-keeps m cs
keeps-flag (p then q) cs e =
    flagged-after (keeps-flag p cs (and_left (keeps p) (keeps q) e)) (λ k. keeps-flag q (drop k cs) (and_right (keeps p) (keeps q) e))
keeps-flag (p or q) cs e =
    post-first (keeps-flag p cs (and_left (keeps p) (keeps q) e)) (keeps-flag q cs (and_right (keeps p) (keeps q) e))
keeps-flag nothing cs e = fits 0 refl
keeps-flag unset cs e = absurd (false≢true e)

-- ---- a flag taken down ----

-- by one answer after another, where the second takes it down
lowered-after : (o : Out) {q : ℕ → Out} → ((k : ℕ) → Flagged false (q k)) → Flagged false (after o q)
unfolding after
lowered-after fail y = unfit
lowered-after (took k f) y = post-more k f (λ j g h. rw h (and-false f)) (y k)

-- ---- the branches ----

-- the third takes the flag down
pub branch3-lowers : (cs : List ℕ) → Flagged false (run branch3 cs)
unfolding run branch3
branch3-lowers cs = lowered-after _ (λ k. lowered-after _ (λ j. fits 0 refl))

-- no `unset` stands in the others
branches-keep : (keeps branch1 ≡ true) × (keeps branch2 ≡ true) × (keeps branch4 ≡ true) × (keeps branch5 ≡ true) × (keeps branch6 ≡ true)
unfolding keeps branch1 branch2 branch4 branch5 branch6 person try
branches-keep = (refl, refl, refl, refl, refl)

-- so they leave it true
pub branch1-keeps : (cs : List ℕ) → Flagged true (run branch1 cs)
branch1-keeps cs = keeps-flag branch1 cs branches-keep.0

pub branch2-keeps : (cs : List ℕ) → Flagged true (run branch2 cs)
branch2-keeps cs = keeps-flag branch2 cs branches-keep.1

pub branch4-keeps : (cs : List ℕ) → Flagged true (run branch4 cs)
branch4-keeps cs = keeps-flag branch4 cs branches-keep.2

pub branch5-keeps : (cs : List ℕ) → Flagged true (run branch5 cs)
branch5-keeps cs = keeps-flag branch5 cs branches-keep.3

pub branch6-keeps : (cs : List ℕ) → Flagged true (run branch6 cs)
branch6-keeps cs = keeps-flag branch6 cs branches-keep.4
