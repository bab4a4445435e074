-- `nouns::link::before_possessive` meets its contract: lAr, behind which the chain is called, or nothing. Assumes nothing.
use Rattle.theorems.specs.Simple.Grammar.{mark_of}
use Rattle.theorems.specs.Simple.Marks.{lAr}
use Rattle.marks.proofs.Laws.Marks.{place-reach}
use Rattle.nouns.specs.Link.{calls, before_lAr}
use Rattle.nouns.proofs.Laws.Links.{or-none, or-calls, ends-here}
use Rattle.nouns.proofs.link.before_possessive.Goals as goal

pub returns-in-Some : goal.returns-in-Some
unfolding before_lAr
returns-in-Some c = or-calls _ _ (mark_of lAr) _ (place-reach lAr _ _ c.mark_lAr.ensures c.place.ensures) c.in-Some.is

pub returns-in-None : goal.returns-in-None
unfolding before_lAr
returns-in-None c =
    let l = place-reach lAr _ _ c.mark_lAr.ensures c.place.ensures in
    or-none _ _ (mark_of lAr) _ l (λ k. calls 0) c.in-None.is (ends-here _ _ c.requires.opens)
