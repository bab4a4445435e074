-- `marks::mark::mark_sUnUz` meets its contract: by the last letter, else by the key found in its table, the key alone. Assumes nothing.
use mathlib.Core.Path.{refl}
use lib.Dec.{eqb}
use borrow.Author.Tests.{ne_eqb}
use Rattle.turkish.specs.Letters.{text, from_end}
use Rattle.theorems.specs.Simple.Marks.{unjoined, marked, sUnUz}
use Rattle.theorems.proofs.Laws.Tests.{every}
use Rattle.keys.specs.Keys.{up_to_zero, rows}
use Rattle.keys.proofs.Laws.Ends.{last_passes, begins}
use Rattle.marks.specs.Reach.{mark_numbered}
use Rattle.marks.proofs.Laws.Marks.{mark-unfit, mark-nothing, mark-kept, key-alone}
use Rattle.marks.proofs.mark.mark_sUnUz.Goals as goal

pub returns-then-s-ne122 : goal.returns-then-s-ne122
unfolding begins every last_passes sUnUz marked from_end text
returns-then-s-ne122 c = mark-unfit sUnUz (λ a. eqb a 0x7A) refl _ c.args.s c.requires (ne_eqb _ 0x7A c.if-s-ne122.true)

pub returns-in_default : goal.returns-in_default
unfolding sUnUz marked rows up_to_zero from_end text
returns-in_default c = mark-nothing sUnUz _ _ _ c.find_among_b.ensures refl c.in_default.is

pub returns : goal.returns
unfolding unjoined mark_numbered sUnUz marked rows up_to_zero from_end text
returns c =
    let p = key-alone sUnUz _ _ _ c.find_among_b.ensures refl c.in-Some.is refl in
    mark-kept sUnUz _ _ p refl c.kept.ensures
