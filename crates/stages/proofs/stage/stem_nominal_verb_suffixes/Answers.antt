-- `stages::stage::stem_nominal_verb_suffixes` meets its contract: the first branch that fits is the stage's answer, each being tried where the last
-- letter does not rule it out. Where the branches before the n-th have failed, left-n says that the stage is the others. Assumes nothing.
use Prim.Native.Char.{code}
use mathlib.Core.Path.{◌≡◌, refl, sym, ◌∙◌}
use lib.Dec.{eqb}
use borrow.Author.Tests.{ne_eqb}
use Rattle.theorems.specs.Simple.Stage.{branch1, branch2, branch3, branch4, branch5, branch6, branches}
use Rattle.theorems.specs.Simple.Pieces.{none, trace}
use Rattle.turkish.specs.Calls.{chars}
use Rattle.theorems.proofs.Laws.Flag.{branch1-keeps, branch2-keeps, branch3-lowers, branch4-keeps, branch5-keeps, branch6-keeps}
use Rattle.keys.specs.Ends.{is_a}
use Rattle.keys.proofs.Laws.Sees.{sees-made}
use Rattle.stages.specs.Groups.{first_ends_of, fifth_ends}
use Rattle.stages.specs.Trail.{no_trail, no_way}
use Rattle.stages.specs.Outcome.{whole}
use Rattle.stages.proofs.Laws.Branches.{first-begins, second-begins, third-begins, fourth-begins, fifth-begins, sixth-begins}
use Rattle.stages.proofs.Laws.Branches.{open-whole, branch-unfit, branch-out-end, outcome-cut, outcome-last, outcome-none, next_guarded}
use Rattle.stages.proofs.stage.stem_nominal_verb_suffixes.Goals.{Joined-ends_first, Joined-is_A, Joined-last-eq114, Joined-last-eq122, Joined-ends_fifth}
use Rattle.stages.proofs.stage.stem_nominal_verb_suffixes.Goals.{then-ends_first+in_default, else-ends_first, then-is_A+in_default-second_branch, else-is_A}
use Rattle.stages.proofs.stage.stem_nominal_verb_suffixes.Goals.{then-last-eq114+in_default-third_branch, else-last-eq114, then-last-eq122+in_default-fourth_branch, else-last-eq122}
use Rattle.stages.proofs.stage.stem_nominal_verb_suffixes.Goals.{then-ends_fifth+in_default-fifth_branch, else-ends_fifth}
use Rattle.stages.proofs.stage.stem_nominal_verb_suffixes.Goals as goal

-- ---- the word's end ----

pub look_back-s-requires : goal.look_back-s-requires
unfolding whole
look_back-s-requires c = open-whole c.args.w.now

pub first_branch-requires : goal.first_branch-requires
unfolding whole
first_branch-requires c = sees-made c.args.w.now (whole c.args.w.now) c.look_back-s.ensures (open-whole c.args.w.now)

pub second_branch-requires : goal.second_branch-requires
unfolding whole
second_branch-requires c = sees-made c.args.w.now (whole c.args.w.now) c.look_back-s.ensures (open-whole c.args.w.now)

pub third_branch-requires : goal.third_branch-requires
unfolding whole
third_branch-requires c = sees-made c.args.w.now (whole c.args.w.now) c.look_back-s.ensures (open-whole c.args.w.now)

pub fourth_branch-requires : goal.fourth_branch-requires
unfolding whole
fourth_branch-requires c = sees-made c.args.w.now (whole c.args.w.now) c.look_back-s.ensures (open-whole c.args.w.now)

pub fifth_branch-requires : goal.fifth_branch-requires
unfolding whole
fifth_branch-requires c = sees-made c.args.w.now (whole c.args.w.now) c.look_back-s.ensures (open-whole c.args.w.now)

pub sixth_branch-requires : goal.sixth_branch-requires
unfolding whole
sixth_branch-requires c = sees-made c.args.w.now (whole c.args.w.now) c.look_back-s.ensures (open-whole c.args.w.now)

-- ---- a branch behind which the code goes on keeps nothing ----

out1 : (c : Joined-ends_first) → trace branch1 (chars c.args.w.now) ≡ none
unfolding whole
out1 c = elim c.if-ends_first.branch [
  | then-ends_first+in_default w ↦ branch-unfit c.args.w.now c.look_back-s.ensures branch1 w.first_branch.ensures w.in_default.is
  | else-ends_first w ↦ branch-out-end c.args.w.now c.look_back-s.ensures first_ends_of branch1 first-begins (sym c.ends_first.ensures ∙ w.if-ends_first.false)
]

out2 : (c : Joined-is_A) → trace branch2 (chars c.args.w.now) ≡ none
unfolding whole
out2 c = elim c.if-is_A.branch [
  | then-is_A+in_default-second_branch w ↦ branch-unfit c.args.w.now c.look_back-s.ensures branch2 w.second_branch.ensures w.in_default-second_branch.is
  | else-is_A w ↦ branch-out-end c.args.w.now c.look_back-s.ensures is_a branch2 second-begins (sym c.is_A.ensures ∙ w.if-is_A.false)
]

out3 : (c : Joined-last-eq114) → trace branch3 (chars c.args.w.now) ≡ none
unfolding whole
out3 c = elim c.if-last-eq114.branch [
  | then-last-eq114+in_default-third_branch w ↦ branch-unfit c.args.w.now c.look_back-s.ensures branch3 w.third_branch.ensures w.in_default-third_branch.is
  | else-last-eq114 w ↦ branch-out-end c.args.w.now c.look_back-s.ensures (λ a. eqb a (code "r")) branch3 third-begins (ne_eqb _ (code "r") w.if-last-eq114.false)
]

out4 : (c : Joined-last-eq122) → trace branch4 (chars c.args.w.now) ≡ none
unfolding whole
out4 c = elim c.if-last-eq122.branch [
  | then-last-eq122+in_default-fourth_branch w ↦ branch-unfit c.args.w.now c.look_back-s.ensures branch4 w.fourth_branch.ensures w.in_default-fourth_branch.is
  | else-last-eq122 w ↦ branch-out-end c.args.w.now c.look_back-s.ensures (λ a. eqb a (code "z")) branch4 fourth-begins (ne_eqb _ (code "z") w.if-last-eq122.false)
]

out5 : (c : Joined-ends_fifth) → trace branch5 (chars c.args.w.now) ≡ none
unfolding whole
out5 c = elim c.if-ends_fifth.branch [
  | then-ends_fifth+in_default-fifth_branch w ↦ branch-unfit c.args.w.now c.look_back-s.ensures branch5 w.fifth_branch.ensures w.in_default-fifth_branch.is
  | else-ends_fifth w ↦ branch-out-end c.args.w.now c.look_back-s.ensures fifth_ends branch5 fifth-begins (sym c.ends_fifth.ensures ∙ w.if-ends_fifth.false)
]

-- ---- what the function returns ----

pub returns-in-Some : goal.returns-in-Some
unfolding whole branches
returns-in-Some c =
    c.of.ensures ∙ outcome-cut _ c.look_back-s.ensures branch1 c.first_branch.ensures (branch1-keeps _) c.in-Some.is _ refl

pub returns-in-Some-second_branch : goal.returns-in-Some-second_branch
unfolding whole branches
returns-in-Some-second_branch c =
    let at = goal.at.returns-in-Some-second_branch c in
    let left2 = next_guarded c.args.w.now branch1 _ refl (out1 at.Joined-ends_first) in
    c.of-in-Some-second_branch.ensures ∙ outcome-cut _ c.look_back-s.ensures branch2 c.second_branch.ensures (branch2-keeps _) c.in-Some-second_branch.is _ left2

pub returns-in-Some-third_branch : goal.returns-in-Some-third_branch
unfolding whole branches
returns-in-Some-third_branch c =
    let at = goal.at.returns-in-Some-third_branch c in
    let left2 = next_guarded c.args.w.now branch1 _ refl (out1 at.Joined-ends_first) in
    let left3 = next_guarded c.args.w.now branch2 _ left2 (out2 at.Joined-is_A) in
    c.of-in-Some-third_branch.ensures ∙ outcome-cut _ c.look_back-s.ensures branch3 c.third_branch.ensures (branch3-lowers _) c.in-Some-third_branch.is _ left3

pub returns-in-Some-fourth_branch : goal.returns-in-Some-fourth_branch
unfolding whole branches
returns-in-Some-fourth_branch c =
    let at = goal.at.returns-in-Some-fourth_branch c in
    let left2 = next_guarded c.args.w.now branch1 _ refl (out1 at.Joined-ends_first) in
    let left3 = next_guarded c.args.w.now branch2 _ left2 (out2 at.Joined-is_A) in
    let left4 = next_guarded c.args.w.now branch3 _ left3 (out3 at.Joined-last-eq114) in
    c.of-in-Some-fourth_branch.ensures ∙ outcome-cut _ c.look_back-s.ensures branch4 c.fourth_branch.ensures (branch4-keeps _) c.in-Some-fourth_branch.is _ left4

pub returns-in-Some-fifth_branch : goal.returns-in-Some-fifth_branch
unfolding whole branches
returns-in-Some-fifth_branch c =
    let at = goal.at.returns-in-Some-fifth_branch c in
    let left2 = next_guarded c.args.w.now branch1 _ refl (out1 at.Joined-ends_first) in
    let left3 = next_guarded c.args.w.now branch2 _ left2 (out2 at.Joined-is_A) in
    let left4 = next_guarded c.args.w.now branch3 _ left3 (out3 at.Joined-last-eq114) in
    let left5 = next_guarded c.args.w.now branch4 _ left4 (out4 at.Joined-last-eq122) in
    c.of-in-Some-fifth_branch.ensures ∙ outcome-cut _ c.look_back-s.ensures branch5 c.fifth_branch.ensures (branch5-keeps _) c.in-Some-fifth_branch.is _ left5

pub returns-in-Some-sixth_branch : goal.returns-in-Some-sixth_branch
unfolding whole branches
returns-in-Some-sixth_branch c =
    let at = goal.at.returns-in-Some-sixth_branch c in
    let left2 = next_guarded c.args.w.now branch1 _ refl (out1 at.Joined-ends_first) in
    let left3 = next_guarded c.args.w.now branch2 _ left2 (out2 at.Joined-is_A) in
    let left4 = next_guarded c.args.w.now branch3 _ left3 (out3 at.Joined-last-eq114) in
    let left5 = next_guarded c.args.w.now branch4 _ left4 (out4 at.Joined-last-eq122) in
    let left6 = next_guarded c.args.w.now branch5 _ left5 (out5 at.Joined-ends_fifth) in
    c.of-in-Some-sixth_branch.ensures ∙ outcome-last _ c.look_back-s.ensures branch6 c.sixth_branch.ensures (branch6-keeps _) c.in-Some-sixth_branch.is left6

pub returns-in_default-sixth_branch : goal.returns-in_default-sixth_branch
unfolding whole branches no_way no_trail
returns-in_default-sixth_branch c =
    let at = goal.at.returns-in_default-sixth_branch c in
    let left2 = next_guarded c.args.w.now branch1 _ refl (out1 at.Joined-ends_first) in
    let left3 = next_guarded c.args.w.now branch2 _ left2 (out2 at.Joined-is_A) in
    let left4 = next_guarded c.args.w.now branch3 _ left3 (out3 at.Joined-last-eq114) in
    let left5 = next_guarded c.args.w.now branch4 _ left4 (out4 at.Joined-last-eq122) in
    let left6 = next_guarded c.args.w.now branch5 _ left5 (out5 at.Joined-ends_fifth) in
    outcome-none _ (left6 ∙ branch-unfit c.args.w.now c.look_back-s.ensures branch6 c.sixth_branch.ensures c.in_default-sixth_branch.is)

pub returns-else-last-eq114-2 : goal.returns-else-last-eq114-2
unfolding whole branches no_way no_trail
returns-else-last-eq114-2 c =
    let at = goal.at.returns-else-last-eq114-2 c in
    let left2 = next_guarded c.args.w.now branch1 _ refl (out1 at.Joined-ends_first) in
    let left3 = next_guarded c.args.w.now branch2 _ left2 (out2 at.Joined-is_A) in
    let left4 = next_guarded c.args.w.now branch3 _ left3 (out3 at.Joined-last-eq114) in
    let left5 = next_guarded c.args.w.now branch4 _ left4 (out4 at.Joined-last-eq122) in
    let left6 = next_guarded c.args.w.now branch5 _ left5 (out5 at.Joined-ends_fifth) in
    outcome-none _ (left6 ∙ branch-out-end c.args.w.now c.look_back-s.ensures (λ a. eqb a (code "r")) branch6 sixth-begins (ne_eqb _ (code "r") c.if-last-eq114-2.false))
