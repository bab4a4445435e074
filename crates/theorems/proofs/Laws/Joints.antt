-- How the marks that a command keeps joined: each tells it by its number and by the first letter of what it took. Assumes nothing.
use Prim.Native.Nat.{ℕ}
use mathlib.Core.Path.{◌≡◌, refl, ap}
use mathlib.Core.Bool.{Bool, true, ◌||◌}
use mathlib.Core.List.{List, ◌∷◌}
use lib.ListN.{drop}
use lib.Dec.{eqb}
use Rattle.theorems.specs.Simple.Grammar.{Mark, mark_of, try}
use Rattle.theorems.specs.Simple.Marks.{unjoined, by_y, marked, yUm, sUn, yUz, sUnUz, lAr, nUz, DUr, cAsInA, yDU, ysA, ymUs, yken}
use Rattle.theorems.specs.Simple.Stage.{person, branch1, branch2, branch3, branch4, branch5, branch6, branches}
use Rattle.theorems.specs.Simple.Pieces.{Taken, joint_by, stage_marks}
use Rattle.theorems.proofs.Laws.Tests.{agrees, agrees-equal}
use Rattle.theorems.proofs.Laws.Outcome.{Post, post-all}
use Rattle.theorems.proofs.Laws.Keeping.{every_mark}
use Rattle.theorems.proofs.Laws.Along.{Along, along-head, along-tail, stage_marks-along}

-- the numbers of the marks that an optional y joins
unfoldable pub joins : ℕ → Bool
joins k = (eqb k 1 || eqb k 3) || ((eqb k 9 || eqb k 10) || (eqb k 11 || eqb k 12))

-- of marks taken one after the other before a place, each joined as its number and its first letter say
abbrev pub JoinedAs : List ℕ → List Taken → Type 0
JoinedAs = Along (λ cs t. t.joined ≡ joint_by (joins t.kind) t.size cs)

module _ {cs : List ℕ} {t : Taken} {ts : List Taken} where
  -- so did the first of them
  pub joined_as-head : JoinedAs cs (t ∷ ts) → t.joined ≡ joint_by (joins t.kind) t.size cs
  joined_as-head j = along-head j

  -- and the others, from where it ends
  pub joined_as-tail : JoinedAs cs (t ∷ ts) → JoinedAs (drop t.size cs) ts
  joined_as-tail j = along-tail j

-- a mark of the grammar whose number says whether an optional y joins it
says : Mark → Bool
says m = agrees m.joint.asked (joins m.kind)

-- such a mark joins as its number says
mark-joined_as : (m : Mark) (cs : List ℕ) → says m ≡ true → Post (λ k. joint_by m.joint.asked k cs ≡ joint_by (joins m.kind) k cs) (mark_of m cs)
unfolding says
mark-joined_as m cs e = post-all (mark_of m cs) (λ k f. ap (λ (b : Bool). joint_by b k cs) (agrees-equal m.joint.asked (joins m.kind) e))

-- the stage's marks say so
branches-say : every_mark says branches ≡ true
unfolding every_mark says agrees joins branches branch1 branch2 branch3 branch4 branch5 branch6 person try unjoined by_y marked yUm sUn yUz sUnUz lAr nUz DUr cAsInA yDU ysA ymUs yken
branches-say = refl

-- so every mark that the stage keeps joined as its number and its first letter say
pub stage_marks-joined_as : (cs : List ℕ) → JoinedAs cs (stage_marks cs)
stage_marks-joined_as cs = stage_marks-along says mark-joined_as cs branches-say
