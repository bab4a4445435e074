-- `marks::mark::mark_lAr` meets its contract: by the last letter, else by the key found in its table, the key alone and harmony. Assumes nothing.
use mathlib.Core.Path.{refl}
use lib.Dec.{eqb}
use borrow.Author.Tests.{ne_eqb}
use Rattle.turkish.specs.Letters.{text, from_end}
use Rattle.theorems.specs.Simple.Marks.{unjoined, marked, lAr}
use Rattle.theorems.proofs.Laws.Tests.{every}
use Rattle.keys.specs.Keys.{up_to_zero, rows}
use Rattle.keys.proofs.Laws.Ends.{last_passes, begins}
use Rattle.marks.specs.Reach.{mark_numbered}
use Rattle.marks.proofs.Laws.Marks.{mark-unfit, mark-nothing, mark-in-harmony, key-alone}
use Rattle.marks.proofs.mark.mark_lAr.Goals as goal

pub returns-then-s-ne114 : goal.returns-then-s-ne114
unfolding begins every last_passes lAr marked from_end text
returns-then-s-ne114 c = mark-unfit lAr (λ a. eqb a 0x72) refl _ c.args.s c.requires (ne_eqb _ 0x72 c.if-s-ne114.true)

pub returns-in_default : goal.returns-in_default
unfolding lAr marked rows up_to_zero from_end text
returns-in_default c = mark-nothing lAr _ _ _ c.find_among_b.ensures refl c.in_default.is

pub returns : goal.returns
unfolding unjoined mark_numbered lAr marked rows up_to_zero from_end text
returns c =
    let p = key-alone lAr _ _ _ c.find_among_b.ensures refl c.in-Some.is refl in
    mark-in-harmony lAr _ _ p refl c.in_harmony.ensures
