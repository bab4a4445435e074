-- `marks::mark::mark_cAsInA` meets its contract: by the last letter, else by the key found in its table, the key alone. Assumes nothing.
use mathlib.Core.Path.{refl, sym, ◌∙◌}
use Rattle.turkish.specs.Letters.{text, from_end}
use Rattle.theorems.specs.Simple.Marks.{unjoined, marked, cAsInA}
use Rattle.theorems.proofs.Laws.Tests.{every}
use Rattle.keys.specs.Ends.{is_a}
use Rattle.keys.specs.Keys.{up_to_zero, rows}
use Rattle.keys.proofs.Laws.Ends.{last_passes, begins}
use Rattle.marks.specs.Reach.{mark_numbered}
use Rattle.marks.proofs.Laws.Marks.{mark-unfit, mark-nothing, mark-kept, key-alone}
use Rattle.marks.proofs.mark.mark_cAsInA.Goals as goal

pub returns-then-not-is_A : goal.returns-then-not-is_A
unfolding begins every last_passes cAsInA marked from_end text is_a
returns-then-not-is_A c = mark-unfit cAsInA is_a refl _ c.args.s c.requires (sym c.is_A.ensures ∙ c.if-not-is_A.true)

pub returns-in_default : goal.returns-in_default
unfolding cAsInA marked rows up_to_zero from_end text
returns-in_default c = mark-nothing cAsInA _ _ _ c.find_among_b.ensures refl c.in_default.is

pub returns : goal.returns
unfolding unjoined mark_numbered cAsInA marked rows up_to_zero from_end text
returns c =
    let p = key-alone cAsInA _ _ _ c.find_among_b.ensures refl c.in-Some.is refl in
    mark-kept cAsInA _ _ p refl c.kept.ensures
