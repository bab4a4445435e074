-- The branches of the stage: a person's ending as the grammar has it, what is seen from a record, which branches the last letter rules out, and
-- what the stage answers where a branch fits, and where none does. Assumes nothing.
use Prim.Native.Nat.{ℕ}
use Prim.Native.Char.{code}
use mathlib.Core.Path.{◌≡◌, refl, sym, ap, ◌∙◌}
use mathlib.Core.Bool.{Bool, true, false}
use mathlib.Core.List.{List, [], append-nil}
use native.Mathlib.Omega.{arith}
use lib.ListN.{length, drop}
use lib.Dec.{eqb}
use Rattle.utf8.specs.declared.cursor.Cursor.{Cursor}
use Rattle.utf8.specs.Characters.{back}
use Rattle.utf8.specs.Behind.{behind, back_by, deleted, Open}
use Rattle.utf8.proofs.Laws.Behind.{behind-before, back_by-back, open-start}
use Rattle.theorems.specs.Simple.Grammar.{Out, took, Command, mark, ◌then◌, ◌or◌, run}
use Rattle.turkish.specs.Letters.{text, from_end}
use Rattle.theorems.specs.Simple.Marks.{marked, yUm, sUn, yUz, sUnUz, lAr, nUz, DUr, cAsInA, yDU, ysA, ymUs, yken}
use Rattle.theorems.specs.Simple.Stage.{person, branch1, branch2, branch3, branch4, branch5, branch6, branches, staged, stage, kept_length}
use Rattle.theorems.specs.Simple.Pieces.{Taken, Trace, none, keeps, total, more_trace, after_trace, first_trace, trace_of, trace, summed, taken_of, stage_marks}
use Rattle.turkish.specs.Calls.{chars}
use Rattle.theorems.proofs.Laws.Outcome.{Flagged, unfit, fits}
use Rattle.theorems.proofs.Laws.Traces.{run-trace}
use Rattle.std.specs.Prelude.{Option, Some, None}
use Rattle.keys.specs.declared.seen.Seen.{Seen}
use Rattle.keys.specs.Seen.{seen_at, Sees}
use Rattle.theorems.proofs.Laws.Tests.{every}
use Rattle.keys.specs.Ends.{is_U_of, is_a, is_kmn_of}
use Rattle.keys.proofs.Laws.Ends.{last_passes, begins, trace-unfit, last-seen}
use Rattle.keys.proofs.Laws.Sees.{seen-c, sees-made}
use Rattle.std.specs.Prelude.{MatchOption}
use Rattle.marks.specs.Reach.{Answer, reach}
use Rattle.marks.proofs.Laws.Marks.{reach-fails}
use Rattle.stages.specs.declared.trail.Branch.{Branch}
use Rattle.stages.specs.Groups.{person_mark, first_ends_of, fifth_ends}
use Rattle.stages.specs.Trail.{trail_of, heard_along, way_of, no_way, along, cut_to}
use Rattle.stages.specs.Outcome.{whole, outcome, outcome_of}
use Rattle.stages.proofs.Laws.Trails.{Steps, only_marks, steps-group, first_step}

-- `unset` after the second of two commands cuts no more
pub cut-unset : (w : List ℕ) (c : Cursor) (o : Trace) (q : ℕ → Trace)
    → cut_to w c (after_trace o q) ≡ cut_to w c (after_trace o (λ k. after_trace (q k) (λ j. keeps [] false)))
unfolding cut_to after_trace more_trace
cut-unset w c none q = refl
cut-unset w c (keeps ts f) q = go (q (total ts))
  where
    go : (o : Trace) → cut_to w c (more_trace ts f o) ≡ cut_to w c (more_trace ts f (after_trace o (λ j. keeps [] false)))
    go none = refl
    go (keeps us g) = ap (λ (vs : List Taken). cut_to w c (more_trace ts f (keeps vs g))) (sym (append-nil us))

-- ---- groups ----

-- a group may be taken in parts
pub first-assoc : (o p q : Trace) → first_trace (first_trace o p) q ≡ first_trace o (first_trace p q)
unfolding first_trace
first-assoc none p q = refl
first-assoc (keeps ts f) p q = refl

module _ (cs : List ℕ) where
  -- a person's ending or nothing
  person-first : first_trace (trace person_mark cs) (keeps [] true) ≡ trace person cs
  unfolding trace person
  person-first = simp first-assoc

  -- where no person's ending fits, ymUs_ stands alone
  pub person-absent : trace person_mark cs ≡ none → trace (person then mark ymUs) cs ≡ trace (mark ymUs) cs
  unfolding trace after_trace first_trace total
  person-absent fails =
      ap (λ (o : Trace). after_trace o (λ k. trace_of ymUs (drop k cs)))
      (sym person-first ∙ ap (λ (o : Trace). first_trace o (keeps [] true)) fails)
      ∙ go (trace_of ymUs cs)
    where
      go : (o : Trace) → more_trace [] true o ≡ o
      go none = unfold more_trace in refl
      go (keeps us g) = unfold more_trace in refl

-- a person's ending that fits is a step
pub steps-person : (w : List ℕ) (c : Cursor) {r : Option Answer} {m : Answer} → r ≡ reach w c (trace person_mark (behind w c)) → r ≡ Some m
    → Steps w c (trace person (behind w c)) m
unfolding only_marks
steps-person w c is to = rw (person-first (behind w c)) at (first_step w c (steps-group w c person_mark refl is to) (keeps [] true))

-- the next of a group's marks, tried where those before it fail
pub reach-else : (w : List ℕ) (c : Cursor) (o q : Trace) {a r : Option Answer} {P : Type 0} → a ≡ reach w c o → MatchOption a P (λ m. r ≡ Some m)
    → (P → r ≡ reach w c q) → r ≡ reach w c (first_trace o q)
unfolding first_trace
reach-else w c o q {a = None} is tried next = next tried ∙ sym (ap (λ (x : Trace). reach w c (first_trace x q)) (reach-fails w c o is refl))
reach-else w c none q {a = Some m} is tried next = unfold reach in cc
reach-else w c (keeps ts f) q {a = Some m} is tried next = tried ∙ is

-- ---- what is seen from a record ----

-- an answer from what is seen is one from the record
from-seen : {R : Type 0} (f : List ℕ → Cursor → Trace → R) (w : List ℕ) (c : Cursor) (q : List ℕ → Trace) {s : Seen} {r : R} → s ≡ seen_at w c
    → r ≡ f w s.c (q (behind w s.c)) → r ≡ f w c (q (behind w c))
from-seen f w c q e is = is ∙ ap (λ (x : Cursor). f w x (q (behind w x))) (seen-c w c e)

-- a mark's or a group's
pub reach-seen : (w : List ℕ) (c : Cursor) (q : List ℕ → Trace) {s : Seen} {r : Option Answer} → s ≡ seen_at w c → r ≡ reach w s.c (q (behind w s.c))
    → r ≡ reach w c (q (behind w c))
reach-seen = from-seen reach

-- that of what keeps more than one mark
pub along-seen : (w : List ℕ) (c : Cursor) (q : List ℕ → Trace) {s : Seen} {r : Option Branch} → s ≡ seen_at w c → r ≡ along w s.c (q (behind w s.c))
    → r ≡ along w c (q (behind w c))
along-seen = from-seen along

-- ---- the last letters with which a branch may begin ----

pub first-begins : begins first_ends_of branch1 ≡ true
unfolding begins every last_passes first_ends_of is_U_of is_a is_kmn_of branch1 ymUs yDU ysA yken marked from_end text
first-begins = refl

pub second-begins : begins is_a branch2 ≡ true
unfolding begins every last_passes is_a branch2 cAsInA marked from_end text
second-begins = refl

pub third-begins : begins (λ a. eqb a (code "r")) branch3 ≡ true
unfolding begins every last_passes branch3 lAr marked from_end text
third-begins = refl

pub fourth-begins : begins (λ a. eqb a (code "z")) branch4 ≡ true
unfolding begins every last_passes branch4 nUz marked from_end text
fourth-begins = refl

pub fifth-begins : begins fifth_ends branch5 ≡ true
unfolding begins every last_passes fifth_ends branch5 sUnUz yUz sUn yUm marked from_end text
fifth-begins = refl

pub sixth-begins : begins (λ a. eqb a (code "r")) branch6 ≡ true
unfolding begins every last_passes branch6 DUr marked from_end text
sixth-begins = refl

-- a branch that may not begin with the last letter seen keeps nothing
pub branch-out : (p : ℕ → Bool) (b : Command) → begins p b ≡ true → (w : List ℕ) (s : Seen) → Sees w s → p s.ending.last ≡ false
    → trace b (behind w s.c) ≡ none
branch-out p b e w s sees f = trace-unfit p b (behind w s.c) e (sym (ap p (last-seen w s sees)) ∙ f)

-- so it does not fit
pub cut-unbegun : (p : ℕ → Bool) (b : Command) → begins p b ≡ true → (w : List ℕ) (s : Seen) → Sees w s → p s.ending.last ≡ false
    → None ≡ cut_to w s.c (trace b (behind w s.c))
unfolding cut_to
cut-unbegun p b e w s sees f = sym (ap (cut_to w s.c) (branch-out p b e w s sees f))

-- ---- the stage ----

-- a branch that keeps nothing is passed over
pub passed_over : (b q : Command) (cs : List ℕ) → trace b cs ≡ none → trace (b or q) cs ≡ trace q cs
unfolding trace first_trace
passed_over b q cs e = ap (λ (o : Trace). first_trace o (trace q cs)) e

-- where the stage is a branch and others, and this one keeps nothing, it is the others
pub next_guarded : (w : List ℕ) (b q : Command) → trace branches (chars w) ≡ trace (b or q) (chars w) → trace b (chars w) ≡ none
    → trace branches (chars w) ≡ trace q (chars w)
next_guarded w b q left out = left ∙ passed_over b q (chars w) out

-- a branch that is cut keeps these marks, and its flag is f
record Cut (w : List ℕ) (c : Cursor) (o : Trace) (f : Bool) (b : Branch) : Type 0 where
  marks : List Taken
  keeps-is : o ≡ keeps marks f
  is : b ≡ record { end = deleted (back_by w c (total marks)); way = way_of w c marks }

-- an answer that is known to leave the flag at f, and that takes some, has the flag f
flagged-took : (o : Out) {f g : Bool} {k : ℕ} → Flagged f o → o ≡ took k g → g ≡ f
flagged-took o unfit e = let z : ◌≡◌ {A = ℕ} 0 1 = cc in absurd (omega arith)
flagged-took o (fits k h) e = cc

-- a branch whose flag is known, taken apart
cut_fits : (w : List ℕ) (c : Cursor) (o : Trace) {f : Bool} {b : Branch} → Flagged f (summed o) → Some b ≡ cut_to w c o → Cut w c o f b
unfolding cut_to summed
cut_fits w c none flag is = cc
cut_fits w c (keeps ts g) flag is = record { marks = ts; keeps-is = ap (keeps ts) (flagged-took _ flag refl); is = cc }

-- a branch that answers that it does not fit keeps nothing
cut-unfit : (w : List ℕ) (c : Cursor) (o : Trace) {b : Option Branch} → b ≡ cut_to w c o → b ≡ None → o ≡ none
unfolding cut_to
cut-unfit w c none is fails = refl
cut-unfit w c (keeps ts f) is fails = cc

-- the stage's answer where a branch fits
outcome-keeps : (w : List ℕ) {o : Trace} {f : Bool} {b : Branch} (a : Cut w (whole w) o f b) → trace branches (chars w) ≡ keeps a.marks f
    → outcome b f ≡ outcome_of w
unfolding outcome outcome_of kept_length stage staged stage_marks taken_of summed whole deleted
outcome-keeps w a e =
    rw (run-trace branches (chars w), e, a.is, back_by-back w (length w) (length w) (total a.marks))

-- and where none does
pub outcome-none : (w : List ℕ) → trace branches (chars w) ≡ none
    → record { kept = length w; yes = false; flag = true; way = no_way } ≡ outcome_of w
unfolding outcome_of kept_length stage staged stage_marks taken_of summed back no_way way_of trail_of heard_along
outcome-none w e = rw (run-trace branches (chars w), e)

-- ---- at the word's end ----

-- the record at the word's end is open
pub open-whole : (w : List ℕ) → Open w (whole w)
unfolding whole
open-whole w = open-start w (length w) (length w) (omega arith) (omega arith)

-- a branch that may not begin with the last letter seen there keeps nothing
pub branch-out-end : (w : List ℕ) {s : Seen} → s ≡ seen_at w (whole w) → (p : ℕ → Bool) (b : Command) → begins p b ≡ true → p s.ending.last ≡ false
    → trace b (chars w) ≡ none
unfolding chars whole
branch-out-end w {s = s} is p b e f =
    let characters = ap (behind w) (seen-c w (whole w) is) ∙ behind-before w (length w) (length w) in
    sym (ap (trace b) characters) ∙ branch-out p b e w s (sees-made w (whole w) is (open-whole w)) f

module _ (w : List ℕ) {s : Seen} (is : s ≡ seen_at w (whole w)) (b : Command) {r : Option Branch} (e : r ≡ cut_to w s.c (trace b (behind w s.c))) where
  -- a branch from what is seen there is one on all the word's characters
  at-end : r ≡ cut_to w (whole w) (trace b (chars w))
  unfolding chars whole
  at-end = from-seen cut_to w (whole w) (trace b) is e ∙ ap (λ (cs : List ℕ). cut_to w (whole w) (trace b cs)) (behind-before w (length w) (length w))

  -- a branch that does not fit keeps nothing
  pub branch-unfit : r ≡ None → trace b (chars w) ≡ none
  branch-unfit = cut-unfit w (whole w) (trace b (chars w)) at-end

  module _ {f : Bool} {x : Branch} (flag : Flagged f (run b (chars w))) (to : r ≡ Some x) where
    -- the branch that fits, taken apart
    cuts : Cut w (whole w) (trace b (chars w)) f x
    cuts = cut_fits w (whole w) (trace b (chars w)) (rw (run-trace b (chars w)) at flag) (sym to ∙ at-end)

    -- the stage's answer where it is the last one left
    pub outcome-last : trace branches (chars w) ≡ trace b (chars w) → outcome x f ≡ outcome_of w
    outcome-last left = outcome-keeps w cuts (left ∙ cuts.keeps-is)

    -- or one before others
    pub outcome-cut : (q : Command) → trace branches (chars w) ≡ trace (b or q) (chars w) → outcome x f ≡ outcome_of w
    unfolding trace first_trace
    outcome-cut q left = outcome-keeps w cuts (left ∙ ap (λ (o : Trace). first_trace o (trace q (chars w))) cuts.keeps-is)

  -- where the stage is this branch and others, and this one does not fit, it is the others
  pub next_branch : (q : Command) → trace branches (chars w) ≡ trace (b or q) (chars w) → r ≡ None → trace branches (chars w) ≡ trace q (chars w)
  next_branch q left fails = next_guarded w b q left (branch-unfit fails)
