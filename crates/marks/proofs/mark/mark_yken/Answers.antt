-- `marks::mark::mark_yken` meets its contract: by the last letter, else by the literal `ken` and the optional y. Assumes nothing.
use mathlib.Core.Path.{refl}
use lib.Dec.{eqb}
use borrow.Author.Tests.{ne_eqb}
use Rattle.turkish.specs.Letters.{text, from_end}
use Rattle.theorems.specs.Simple.Grammar.{mark_of, asking}
use Rattle.theorems.specs.Simple.Marks.{marked, yken}
use Rattle.theorems.proofs.Laws.Tests.{every}
use Rattle.keys.proofs.Laws.Ends.{last_passes, begins}
use Rattle.marks.specs.Reach.{mark_numbered}
use Rattle.marks.proofs.Laws.Marks.{keyed, mark-unfit, mark-kept}
use Rattle.marks.proofs.mark.mark_yken.Goals as goal

pub returns-then-s-ne110 : goal.returns-then-s-ne110
unfolding begins every last_passes yken marked from_end text
returns-then-s-ne110 c = mark-unfit yken (λ a. eqb a 0x6E) refl _ c.args.s c.requires (ne_eqb _ 0x6E c.if-s-ne110.true)

pub returns : goal.returns
unfolding mark_of asking keyed mark_numbered yken marked
returns c = mark-kept yken _ _ c.back_over_yken.ensures refl c.kept.ensures
