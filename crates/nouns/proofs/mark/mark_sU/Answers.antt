-- `nouns::mark::mark_sU` meets its contract: by the key found in its table and what joins it, and harmony. Assumes nothing.
use mathlib.Core.Path.{refl}
use Rattle.turkish.specs.Letters.{text, from_end}
use Rattle.theorems.specs.Simple.Grammar.{joining}
use Rattle.theorems.specs.Simple.Marks.{marked}
use Rattle.theorems.specs.Simple.NounMarks.{sU, letters_U, by_s}
use Rattle.keys.specs.Keys.{up_to_zero, rows}
use Rattle.marks.specs.Reach.{mark_numbered}
use Rattle.marks.proofs.Laws.Marks.{mark-nothing, mark-in-harmony, key-open, key-joined}
use Rattle.nouns.proofs.mark.mark_sU.Goals as goal

pub returns-in_default : goal.returns-in_default
unfolding sU letters_U marked rows up_to_zero from_end text
returns-in_default c = mark-nothing sU _ _ _ c.find_among_b.ensures refl c.in_default.is

pub mark_suffix_with_optional_consonant-p-requires : goal.mark_suffix_with_optional_consonant-p-requires
unfolding sU letters_U marked rows up_to_zero from_end text
mark_suffix_with_optional_consonant-p-requires c = key-open sU _ _ _ c.find_among_b.ensures refl c.in-Some.is c.requires.opens

pub returns : goal.returns
unfolding joining by_s mark_numbered sU letters_U marked rows up_to_zero from_end text
returns c =
    let p = key-joined sU _ _ _ c.find_among_b.ensures refl c.in-Some.is c.mark_suffix_with_optional_consonant-p.ensures in
    mark-in-harmony sU _ _ p refl c.kept_in_harmony.ensures
