-- `nouns::link::before_DA` meets its contract: lAr, or possessives and what stands behind that, or nothing. Assumes nothing.
use Rattle.theorems.specs.Simple.Grammar.{mark_of}
use Rattle.theorems.specs.Simple.Marks.{lAr}
use Rattle.theorems.specs.Simple.NounMarks.{possessives}
use Rattle.marks.proofs.Laws.Marks.{place-reach}
use Rattle.nouns.specs.Link.{ends, calls, before_lAr, before_DA_of}
use Rattle.nouns.proofs.Laws.Passing.{leads-open, step-sees}
use Rattle.nouns.proofs.Laws.Links.{or-none, or-then, or-calls, ends-here}
use Rattle.nouns.proofs.link.before_DA.Goals as goal

pub returns-in-Some : goal.returns-in-Some
unfolding before_DA_of
returns-in-Some c = or-calls _ _ (mark_of lAr) _ (place-reach lAr _ _ c.mark_lAr.ensures c.place.ensures) c.in-Some.is

pub step_to-requires : goal.step_to-requires
step_to-requires c = leads-open _ _ _ (place-reach possessives _ _ c.mark_possessives.ensures c.place-2.ensures) c.requires.opens c.in-Some-place.is

pub before_possessive-requires : goal.before_possessive-requires
before_possessive-requires c = step-sees _ _ _ (place-reach possessives _ _ c.mark_possessives.ensures c.place-2.ensures) c.requires c.in-Some-place.is c.step_to.ensures

pub returns-in-Some-place : goal.returns-in-Some-place
unfolding before_DA_of
returns-in-Some-place c =
    let l = place-reach lAr _ _ c.mark_lAr.ensures c.place.ensures in
    let p = place-reach possessives _ _ c.mark_possessives.ensures c.place-2.ensures in
    or-none _ _ (mark_of lAr) _ l (λ k. calls 0) c.in_default.is
    (or-then _ _ (mark_of possessives) (ends 0) p c.in-Some-place.is before_lAr c.step_to.ensures
    c.before_possessive.ensures)

pub returns : goal.returns
unfolding before_DA_of
returns c =
    let l = place-reach lAr _ _ c.mark_lAr.ensures c.place.ensures in
    let p = place-reach possessives _ _ c.mark_possessives.ensures c.place-2.ensures in
    or-none _ _ (mark_of lAr) _ l (λ k. calls 0) c.in_default.is
    (or-none _ _ (mark_of possessives) (ends 0) p _ c.in_default-place.is (ends-here _ _ c.requires.opens))
