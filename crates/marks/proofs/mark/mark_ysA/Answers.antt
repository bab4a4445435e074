-- `marks::mark::mark_ysA` meets its contract: by the last letter, else by the key found in its table, what joins it. Assumes nothing.
use mathlib.Core.Bool.{◌||◌}
use mathlib.Core.Path.{refl}
use Rattle.turkish.specs.Letters.{text, from_end}
use Rattle.theorems.specs.Simple.Grammar.{joining}
use Rattle.theorems.specs.Simple.Marks.{by_y, marked, ysA}
use Rattle.theorems.proofs.Laws.Tests.{every}
use Rattle.keys.specs.Ends.{is_a, is_kmn_of}
use Rattle.keys.specs.Keys.{up_to_zero, rows}
use Rattle.keys.proofs.Laws.Ends.{last_passes, begins}
use Rattle.marks.specs.Reach.{mark_numbered}
use Rattle.marks.proofs.Laws.Marks.{mark-unfit, mark-nothing, mark-kept, key-open, key-joined}
use Rattle.marks.proofs.mark.mark_ysA.Goals as goal

pub returns-then-not-is_A-is_kmn : goal.returns-then-not-is_A-is_kmn
unfolding begins every last_passes ysA marked from_end text is_a is_kmn_of
returns-then-not-is_A-is_kmn c =
    mark-unfit ysA (λ a. is_a a || is_kmn_of a) refl _ c.args.s c.requires
    (rw (← c.is_A.ensures, ← c.is_kmn.ensures) c.if-not-is_A-is_kmn.true)

pub returns-in_default : goal.returns-in_default
unfolding ysA marked rows up_to_zero from_end text
returns-in_default c = mark-nothing ysA _ _ _ c.find_among_b.ensures refl c.in_default.is

pub mark_suffix_with_optional_consonant-p-requires : goal.mark_suffix_with_optional_consonant-p-requires
unfolding ysA marked rows up_to_zero from_end text
mark_suffix_with_optional_consonant-p-requires c = key-open ysA _ _ _ c.find_among_b.ensures refl c.in-Some.is c.requires.opens

pub returns : goal.returns
unfolding joining by_y mark_numbered ysA marked rows up_to_zero from_end text
returns c =
    let p = key-joined ysA _ _ _ c.find_among_b.ensures refl c.in-Some.is c.mark_suffix_with_optional_consonant-p.ensures in
    mark-kept ysA _ _ p refl c.kept.ensures
