-- The marks that a command keeps: how many at most, computed from the command; that each has a number from 1 to 12 and took a
-- character, by one test on the command's marks; and between which places they stand. Assumes nothing.
use Prim.Native.Nat.{ℕ, suc, ◌+◌, ◌-◌, ◌≤◌, ◌<◌, max}
use mathlib.Core.Path.{◌≡◌, refl, ap}
use mathlib.Core.Logic.{⊎_elim}
use mathlib.Core.Bool.{Bool, true, ◌&&◌}
use mathlib.Core.List.Memᴰ
use mathlib.Core.List.{List, [], ◌∷◌, Memᴰ}
use native.Mathlib.Omega.{arith}
use lib.ListN.{length, drop, length-append}
use lib.Dec.{leb}
use borrow.Author.Tests.{leb-true}
use Rattle.encoding.proofs.Laws.Booleans.{and_left, and_right, and-each}
use Rattle.turkish.specs.Letters.{text, from_end}
use Rattle.turkish.specs.Pieces.{Kept}
use Rattle.theorems.specs.Simple.Grammar.{Mark, Command, mark, ◌then◌, ◌or◌, nothing, unset, try, run}
use Rattle.theorems.specs.Simple.Marks.{marked, yUm, sUn, yUz, sUnUz, lAr, nUz, DUr, cAsInA, yDU, ysA, ymUs, yken}
use Rattle.theorems.specs.Simple.Stage.{person, branch1, branch2, branch3, branch4, branch5, branch6, branches}
use Rattle.theorems.specs.Simple.Pieces.{Taken, total, taken_by, trace_of, trace, stage_marks, located}
use Rattle.turkish.specs.PieceCalls.{most_pieces}
use Rattle.theorems.proofs.Laws.Outcome.{post-map}
use Rattle.theorems.proofs.Laws.Bounds.{shortest, least, run-least}
use Rattle.theorems.proofs.Laws.Keeping.{Keeping, keeping, keeping-map, keeping-first, keeping-mark, keeping-taken, keeping-then, every_mark}

-- ---- how many ----

-- a command keeps at most so many marks
most_marks : Command → ℕ
most_marks (mark m) = 1
most_marks (p then q) = most_marks p + most_marks q
most_marks (p or q) = max (most_marks p) (most_marks q)
most_marks nothing = 0
most_marks unset = 0

-- so many it keeps
trace-most_marks : (p : Command) (cs : List ℕ) → Keeping (λ ts. length ts ≤ most_marks p) (trace p cs)
unfolding trace trace_of most_marks run
trace-most_marks (mark m) cs = keeping-mark m cs (post-map (λ k f h. omega arith) (run-least (mark m) cs))
trace-most_marks (p then q) cs =
    keeping-then (trace-most_marks p cs) λ ts h k.
    keeping-map (λ us i. omega (arith, length-append ts us)) (trace-most_marks q (drop k cs))
trace-most_marks (p or q) cs = keeping-first (keeping-map (λ ts h. omega arith) (trace-most_marks p cs)) (keeping-map (λ ts h. omega arith) (trace-most_marks q cs))
trace-most_marks nothing cs = keeping [] (omega arith)
trace-most_marks unset cs = keeping [] (omega arith)

-- the stage keeps at most three marks
pub stage_marks-most : (cs : List ℕ) → length (stage_marks cs) ≤ most_pieces
unfolding stage_marks
stage_marks-most cs =
    let three : most_marks branches ≡ most_pieces = unfold most_pieces most_marks branches branch1 branch2 branch3 branch4 branch5 branch6 person try in refl in
    keeping-taken {P = λ ts. length ts ≤ most_pieces} (omega arith) (keeping-map (λ ts h. omega arith) (trace-most_marks branches cs))

-- ---- their numbers and sizes ----

-- a mark that was taken has a number, 1 to 12, and took a character
pub record Numbered (t : Taken) : Type 0 where
  pub low : 0 < t.kind
  pub high : t.kind ≤ 12
  pub some : 0 < t.size

module _ {A : Type 0} where
  -- of each in a list P holds
  abbrev pub Each : (A → Type 0) → List A → Type 0
  Each P xs = (x : A) → Memᴰ x xs → P x

-- a mark of the grammar with such a number, and of which no key is empty
numbered : Mark → Bool
numbered m = leb 1 m.kind && leb m.kind 12 && leb 1 (shortest m.keys)

-- what a passed mark takes is numbered
mark-numbered : (m : Mark) (cs : List ℕ) → numbered m ≡ true → Keeping (Each Numbered) (trace_of m cs)
unfolding trace_of numbered run least
mark-numbered m cs e =
    let a = and-each (leb 1 m.kind) (leb m.kind 12) (leb 1 (shortest m.keys)) e in
    let one : (k : ℕ) → shortest m.keys ≤ k → Numbered (taken_by m cs k) = λ k h. record {
      low = leb-true 1 m.kind a.0;
      high = leb-true m.kind 12 a.1;
      some = omega (arith, leb-true 1 (shortest m.keys) a.2);
    } in
    keeping-mark m cs (post-map (λ k f h t i. rw (Memᴰ.eq_of_singleton i) (one k h)) (run-least (mark m) cs))

-- so are the marks that a command of such marks keeps
trace-numbered : (p : Command) (cs : List ℕ) → every_mark numbered p ≡ true → Keeping (Each Numbered) (trace p cs)
unfolding trace every_mark
trace-numbered (mark m) cs e = mark-numbered m cs e
trace-numbered (p then q) cs e =
    keeping-then (trace-numbered p cs (and_left (every_mark numbered p) (every_mark numbered q) e)) λ ts h k.
    keeping-map (λ us i t m. ⊎_elim (h t) (i t) (Memᴰ.append_cases ts m))
    (trace-numbered q (drop k cs) (and_right (every_mark numbered p) (every_mark numbered q) e))
trace-numbered (p or q) cs e =
    keeping-first (trace-numbered p cs (and_left (every_mark numbered p) (every_mark numbered q) e)) (trace-numbered q cs (and_right (every_mark numbered p) (every_mark numbered q) e))
trace-numbered nothing cs e = keeping [] (λ t m. absurd (Memᴰ.not-nil m))
trace-numbered unset cs e = keeping [] (λ t m. absurd (Memᴰ.not-nil m))

-- the stage's marks pass
branches-numbered : every_mark numbered branches ≡ true
unfolding every_mark numbered shortest branches branch1 branch2 branch3 branch4 branch5 branch6 person try marked yUm sUn yUz sUnUz lAr nUz DUr cAsInA yDU ysA ymUs yken from_end text
branches-numbered = refl

-- so every mark that the stage keeps has a number and took a character
pub stage_marks-numbered : (cs : List ℕ) → Each Numbered (stage_marks cs)
unfolding stage_marks
stage_marks-numbered cs = keeping-taken (λ t m. absurd (Memᴰ.not-nil m)) (trace-numbered branches cs branches-numbered)

-- ---- with their places ----

-- a mark that was kept has a number, 1 to 12, and some characters of the first n
pub record Placed (n : ℕ) (k : Kept) : Type 0 where
  pub low : 0 < k.kind
  pub high : k.kind ≤ 12
  pub some : k.to < k.from
  pub within : k.from ≤ n

-- as many have places
pub length-located : (n : ℕ) (ts : List Taken) → length (located n ts) ≡ length ts
unfolding located
length-located n [] = refl
length-located n (t ∷ ts) = ap suc (length-located (n - t.size) ts)

-- where each is numbered, and all together took no more than n characters, these places are such
pub located-placed : (n : ℕ) (ts : List Taken) → Each Numbered ts → total ts ≤ n → Each (Placed n) (located n ts)
unfolding located total
located-placed n [] s h k i = absurd (Memᴰ.not-nil i)
located-placed n (t ∷ ts) s h k i =
    let here = s t (Memᴰ.head refl) in
    let rest = located-placed (n - t.size) ts (λ u j. s u (Memᴰ.tail j)) (omega arith) k in
    ⊎_elim
    (λ e. rw e (record { low = here.low; high = here.high; some = omega arith; within = omega arith }))
    (λ j. let r = rest j in record { low = r.low; high = r.high; some = r.some; within = omega arith })
    (Memᴰ.cases_cons i)
