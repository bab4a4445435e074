-- `marks::mark::mark_yUz` meets its contract: by the last letter, else by the key found in its table, what joins it and harmony. Assumes nothing.
use mathlib.Core.Path.{refl}
use lib.Dec.{eqb}
use borrow.Author.Tests.{ne_eqb}
use Rattle.turkish.specs.Letters.{text, from_end}
use Rattle.theorems.specs.Simple.Grammar.{joining}
use Rattle.theorems.specs.Simple.Marks.{by_y, marked, yUz}
use Rattle.theorems.proofs.Laws.Tests.{every}
use Rattle.keys.specs.Keys.{up_to_zero, rows}
use Rattle.keys.proofs.Laws.Ends.{last_passes, begins}
use Rattle.marks.specs.Reach.{mark_numbered}
use Rattle.marks.proofs.Laws.Marks.{mark-unfit, mark-nothing, mark-in-harmony, key-open, key-joined}
use Rattle.marks.proofs.mark.mark_yUz.Goals as goal

pub returns-then-s-ne122 : goal.returns-then-s-ne122
unfolding begins every last_passes yUz marked from_end text
returns-then-s-ne122 c = mark-unfit yUz (λ a. eqb a 0x7A) refl _ c.args.s c.requires (ne_eqb _ 0x7A c.if-s-ne122.true)

pub returns-in_default : goal.returns-in_default
unfolding yUz marked rows up_to_zero from_end text
returns-in_default c = mark-nothing yUz _ _ _ c.find_among_b.ensures refl c.in_default.is

pub mark_suffix_with_optional_consonant-p-requires : goal.mark_suffix_with_optional_consonant-p-requires
unfolding yUz marked rows up_to_zero from_end text
mark_suffix_with_optional_consonant-p-requires c = key-open yUz _ _ _ c.find_among_b.ensures refl c.in-Some.is c.requires.opens

pub returns : goal.returns
unfolding joining by_y mark_numbered yUz marked rows up_to_zero from_end text
returns c =
    let p = key-joined yUz _ _ _ c.find_among_b.ensures refl c.in-Some.is c.mark_suffix_with_optional_consonant-p.ensures in
    mark-in-harmony yUz _ _ p refl c.kept_in_harmony.ensures
