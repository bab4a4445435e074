-- `nouns::mark::mark_possessives` meets its contract: by the key found in its table and what joins it. Assumes nothing.
use mathlib.Core.Path.{refl}
use Rattle.turkish.specs.Letters.{text, from_end}
use Rattle.theorems.specs.Simple.Grammar.{joining}
use Rattle.theorems.specs.Simple.Marks.{marked}
use Rattle.theorems.specs.Simple.NounMarks.{possessives, by_U}
use Rattle.keys.specs.Keys.{up_to_zero, rows}
use Rattle.marks.specs.Reach.{mark_numbered}
use Rattle.marks.proofs.Laws.Marks.{mark-nothing, mark-kept, key-open, key-joined}
use Rattle.nouns.proofs.mark.mark_possessives.Goals as goal

pub returns-in_default : goal.returns-in_default
unfolding possessives marked rows up_to_zero from_end text
returns-in_default c = mark-nothing possessives _ _ _ c.find_among_b.ensures refl c.in_default.is

pub mark_suffix_with_optional_U_vowel-p-requires : goal.mark_suffix_with_optional_U_vowel-p-requires
unfolding possessives marked rows up_to_zero from_end text
mark_suffix_with_optional_U_vowel-p-requires c = key-open possessives _ _ _ c.find_among_b.ensures refl c.in-Some.is c.requires.opens

pub returns : goal.returns
unfolding joining by_U mark_numbered possessives marked rows up_to_zero from_end text
returns c =
    let p = key-joined possessives _ _ _ c.find_among_b.ensures refl c.in-Some.is c.mark_suffix_with_optional_U_vowel-p.ensures in
    mark-kept possessives _ _ p refl c.kept.ensures
