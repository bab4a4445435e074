-- `marks::mark::mark_sUn` meets its contract: by the last letter, else by the key found in its table, the key alone and harmony. Assumes nothing.
use mathlib.Core.Path.{refl}
use lib.Dec.{eqb}
use borrow.Author.Tests.{ne_eqb}
use Rattle.turkish.specs.Letters.{text, from_end}
use Rattle.theorems.specs.Simple.Marks.{unjoined, marked, sUn}
use Rattle.theorems.proofs.Laws.Tests.{every}
use Rattle.keys.specs.Keys.{up_to_zero, rows}
use Rattle.keys.proofs.Laws.Ends.{last_passes, begins}
use Rattle.marks.specs.Reach.{mark_numbered}
use Rattle.marks.proofs.Laws.Marks.{mark-unfit, mark-nothing, mark-in-harmony, key-alone}
use Rattle.marks.proofs.mark.mark_sUn.Goals as goal

pub returns-then-s-ne110 : goal.returns-then-s-ne110
unfolding begins every last_passes sUn marked from_end text
returns-then-s-ne110 c = mark-unfit sUn (λ a. eqb a 0x6E) refl _ c.args.s c.requires (ne_eqb _ 0x6E c.if-s-ne110.true)

pub returns-in_default : goal.returns-in_default
unfolding sUn marked rows up_to_zero from_end text
returns-in_default c = mark-nothing sUn _ _ _ c.find_among_b.ensures refl c.in_default.is

pub returns : goal.returns
unfolding unjoined mark_numbered sUn marked rows up_to_zero from_end text
returns c =
    let p = key-alone sUn _ _ _ c.find_among_b.ensures refl c.in-Some.is refl in
    mark-in-harmony sUn _ _ p refl c.in_harmony.ensures
