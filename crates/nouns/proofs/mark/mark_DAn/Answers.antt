-- `nouns::mark::mark_DAn` meets its contract: by the key found in its table alone, and harmony. Assumes nothing.
use mathlib.Core.Path.{refl}
use Rattle.turkish.specs.Letters.{text, from_end}
use Rattle.theorems.specs.Simple.Marks.{marked, unjoined}
use Rattle.theorems.specs.Simple.NounMarks.{DAn}
use Rattle.keys.specs.Keys.{up_to_zero, rows}
use Rattle.marks.specs.Reach.{mark_numbered}
use Rattle.marks.proofs.Laws.Marks.{mark-nothing, mark-in-harmony, key-alone}
use Rattle.nouns.proofs.mark.mark_DAn.Goals as goal

pub returns-in_default : goal.returns-in_default
unfolding DAn marked rows up_to_zero from_end text
returns-in_default c = mark-nothing DAn _ _ _ c.find_among_b.ensures refl c.in_default.is

pub returns : goal.returns
unfolding unjoined mark_numbered DAn marked rows up_to_zero from_end text
returns c =
    let p = key-alone DAn _ _ _ c.find_among_b.ensures refl c.in-Some.is refl in
    mark-in-harmony DAn _ _ p refl c.in_harmony.ensures
