-- `nouns::link::before_nUn` meets its contract: lArI, or possessives or sU and what stands behind that, or the chain. Assumes nothing.
use Rattle.theorems.specs.Simple.Grammar.{mark_of}
use Rattle.theorems.specs.Simple.NounMarks.{possessives, sU, lArI}
use Rattle.marks.proofs.Laws.Marks.{place-reach}
use Rattle.nouns.specs.Link.{ends, calls, before_lAr, before_nUn_of}
use Rattle.nouns.proofs.Laws.Passing.{leads-open, step-sees}
use Rattle.nouns.proofs.Laws.Links.{or-none, or-then, or-ends, calls-here}
use Rattle.nouns.proofs.link.before_nUn.Goals as goal

pub returns-in-Some : goal.returns-in-Some
unfolding before_nUn_of
returns-in-Some c = or-ends _ _ (mark_of lArI) _ (place-reach lArI _ _ c.mark_lArI.ensures c.place.ensures) c.in-Some.is

pub step_to-requires : goal.step_to-requires
step_to-requires c = leads-open _ _ _ (place-reach possessives _ _ c.mark_possessives.ensures c.place-2.ensures) c.requires.opens c.in-Some-place.is

pub before_possessive-requires : goal.before_possessive-requires
before_possessive-requires c = step-sees _ _ _ (place-reach possessives _ _ c.mark_possessives.ensures c.place-2.ensures) c.requires c.in-Some-place.is c.step_to.ensures

pub returns-in-Some-place : goal.returns-in-Some-place
unfolding before_nUn_of
returns-in-Some-place c =
    let l = place-reach lArI _ _ c.mark_lArI.ensures c.place.ensures in
    let p = place-reach possessives _ _ c.mark_possessives.ensures c.place-2.ensures in
    or-none _ _ (mark_of lArI) _ l (λ k. ends 0) c.in_default.is
    (or-then _ _ (mark_of possessives) _ p c.in-Some-place.is before_lAr c.step_to.ensures c.before_possessive.ensures)

pub step_to-requires-in-Some-place-2 : goal.step_to-requires-in-Some-place-2
step_to-requires-in-Some-place-2 c = leads-open _ _ _ (place-reach sU _ _ c.mark_sU.ensures c.place-3.ensures) c.requires.opens c.in-Some-place-2.is

pub before_possessive-requires-in-Some-place-2 : goal.before_possessive-requires-in-Some-place-2
before_possessive-requires-in-Some-place-2 c =
    step-sees _ _ _ (place-reach sU _ _ c.mark_sU.ensures c.place-3.ensures) c.requires c.in-Some-place-2.is c.step_to-in-Some-place-2.ensures

pub returns-in-Some-place-2 : goal.returns-in-Some-place-2
unfolding before_nUn_of
returns-in-Some-place-2 c =
    let l = place-reach lArI _ _ c.mark_lArI.ensures c.place.ensures in
    let p = place-reach possessives _ _ c.mark_possessives.ensures c.place-2.ensures in
    let u = place-reach sU _ _ c.mark_sU.ensures c.place-3.ensures in
    or-none _ _ (mark_of lArI) _ l (λ k. ends 0) c.in_default.is
    (or-none _ _ (mark_of possessives) _ p _ c.in_default-place.is
    (or-then _ _ (mark_of sU) (calls 0) u c.in-Some-place-2.is before_lAr c.step_to-in-Some-place-2.ensures
    c.before_possessive-in-Some-place-2.ensures))

pub returns : goal.returns
unfolding before_nUn_of
returns c =
    let l = place-reach lArI _ _ c.mark_lArI.ensures c.place.ensures in
    let p = place-reach possessives _ _ c.mark_possessives.ensures c.place-2.ensures in
    let u = place-reach sU _ _ c.mark_sU.ensures c.place-3.ensures in
    or-none _ _ (mark_of lArI) _ l (λ k. ends 0) c.in_default.is
    (or-none _ _ (mark_of possessives) _ p _ c.in_default-place.is
    (or-none _ _ (mark_of sU) (calls 0) u _ c.in_default-place-2.is (calls-here _ _ c.requires.opens)))
