-- `nouns::link::one_link` meets its contract: `ki`, and before it DA or nUn with what stands behind that. Assumes nothing.
use mathlib.Core.Path.{refl, ◌∙◌}
use Rattle.theorems.specs.Simple.Grammar.{mark_of}
use Rattle.theorems.specs.Simple.NounMarks.{nUn, DA, ki}
use Rattle.marks.proofs.Laws.Marks.{place-reach}
use Rattle.nouns.specs.Link.{unfit, before_DA_of, before_nUn_of, before_ki, link_of, linked}
use Rattle.nouns.proofs.Laws.Passing.{leads-open, step-sees}
use Rattle.nouns.proofs.Laws.Links.{or-none, or-then}
use Rattle.nouns.proofs.link.one_link.Goals as goal

pub returns-in_err-place : goal.returns-in_err-place
unfolding link_of linked
returns-in_err-place c =
    let k = place-reach ki _ _ c.mark_ki.ensures c.place.ensures in
    c.from_residual.ensures ∙ or-none _ _ (mark_of ki) unfit k _ c.in_err-place.was refl

pub step_to-t-requires : goal.step_to-t-requires
step_to-t-requires c =
    let k = place-reach ki _ _ c.mark_ki.ensures c.place.ensures in
    leads-open _ _ _ k c.requires.opens c.in_ok-place.was

pub mark_DA-requires : goal.mark_DA-requires
mark_DA-requires c =
    let k = place-reach ki _ _ c.mark_ki.ensures c.place.ensures in
    step-sees _ _ _ k c.requires c.in_ok-place.was c.step_to-t.ensures

pub step_to-requires : goal.step_to-requires
step_to-requires c =
    let k = place-reach ki _ _ c.mark_ki.ensures c.place.ensures in
    let sees = step-sees _ _ _ k c.requires c.in_ok-place.was c.step_to-t.ensures in
    leads-open _ _ _ (place-reach DA _ _ c.mark_DA.ensures c.place-2.ensures) sees.opens c.in-Some.is

pub before_DA-requires : goal.before_DA-requires
before_DA-requires c =
    let k = place-reach ki _ _ c.mark_ki.ensures c.place.ensures in
    let sees = step-sees _ _ _ k c.requires c.in_ok-place.was c.step_to-t.ensures in
    step-sees _ _ _ (place-reach DA _ _ c.mark_DA.ensures c.place-2.ensures) sees c.in-Some.is c.step_to.ensures

pub returns-in-Some : goal.returns-in-Some
unfolding link_of before_ki
returns-in-Some c =
    let k = place-reach ki _ _ c.mark_ki.ensures c.place.ensures in
    let d = place-reach DA _ _ c.mark_DA.ensures c.place-2.ensures in
    or-then _ _ (mark_of ki) unfit k c.in_ok-place.was before_ki c.step_to-t.ensures
    (or-then _ _ (mark_of DA) _ d c.in-Some.is before_DA_of c.step_to.ensures c.before_DA.ensures)

pub mark_nUn-requires : goal.mark_nUn-requires
mark_nUn-requires c =
    let k = place-reach ki _ _ c.mark_ki.ensures c.place.ensures in
    step-sees _ _ _ k c.requires c.in_ok-place.was c.step_to-t.ensures

pub returns-in_err-p : goal.returns-in_err-p
unfolding link_of before_ki linked
returns-in_err-p c =
    let k = place-reach ki _ _ c.mark_ki.ensures c.place.ensures in
    let d = place-reach DA _ _ c.mark_DA.ensures c.place-2.ensures in
    let n = place-reach nUn _ _ c.mark_nUn.ensures c.place-3.ensures in
    c.from_residual-in_err-p.ensures
    ∙ or-then _ _ (mark_of ki) unfit k c.in_ok-place.was before_ki c.step_to-t.ensures
    (or-none _ _ (mark_of DA) _ d _ c.in_default.is (or-none _ _ (mark_of nUn) unfit n _ c.in_err-p.was refl))

pub step_to-requires-2 : goal.step_to-requires-2
step_to-requires-2 c =
    let k = place-reach ki _ _ c.mark_ki.ensures c.place.ensures in
    let sees = step-sees _ _ _ k c.requires c.in_ok-place.was c.step_to-t.ensures in
    leads-open _ _ _ (place-reach nUn _ _ c.mark_nUn.ensures c.place-3.ensures) sees.opens c.in_ok-p.was

pub before_nUn-requires : goal.before_nUn-requires
before_nUn-requires c =
    let k = place-reach ki _ _ c.mark_ki.ensures c.place.ensures in
    let sees = step-sees _ _ _ k c.requires c.in_ok-place.was c.step_to-t.ensures in
    step-sees _ _ _ (place-reach nUn _ _ c.mark_nUn.ensures c.place-3.ensures) sees c.in_ok-p.was c.step_to-2.ensures

pub returns : goal.returns
unfolding link_of before_ki
returns c =
    let k = place-reach ki _ _ c.mark_ki.ensures c.place.ensures in
    let d = place-reach DA _ _ c.mark_DA.ensures c.place-2.ensures in
    let n = place-reach nUn _ _ c.mark_nUn.ensures c.place-3.ensures in
    or-then _ _ (mark_of ki) unfit k c.in_ok-place.was before_ki c.step_to-t.ensures
    (or-none _ _ (mark_of DA) _ d _ c.in_default.is
    (or-then _ _ (mark_of nUn) unfit n c.in_ok-p.was before_nUn_of c.step_to-2.ensures c.before_nUn.ensures))
