-- `marks::mark::mark_yDU` meets its contract: by the key found among those that end in the last letter, what joins it and harmony. Assumes
-- nothing.
use Prim.Native.Nat.{ℕ}
use mathlib.Core.Path.{◌≡◌, refl, ap, ◌∙◌}
use mathlib.Core.List.{List}
use Rattle.utf8.specs.Behind.{behind}
use Rattle.turkish.specs.Letters.{text, from_end}
use Rattle.theorems.specs.Simple.Grammar.{among, joining}
use Rattle.theorems.specs.Simple.Marks.{by_y, marked, yDU}
use Rattle.theorems.proofs.Laws.Tests.{every}
use Rattle.keys.specs.declared.seen.Seen.{Seen}
use Rattle.keys.specs.Ends.{ending_in}
use Rattle.keys.specs.Seen.{Sees}
use Rattle.keys.proofs.Laws.Ends.{last_passes, among-ending, last-seen}
use Rattle.marks.specs.Reach.{mark_numbered}
use Rattle.marks.proofs.Laws.Marks.{mark-nothing, mark-in-harmony, key-open, key-joined}
use Rattle.marks.proofs.mark.mark_yDU.Goals as goal

-- the keys that end in the last letter are enough
enough : (w : List ℕ) (s : Seen) → Sees w s → among (ending_in s.ending.last yDU.keys) (behind w s.c) ≡ among yDU.keys (behind w s.c)
unfolding every last_passes yDU marked from_end text
enough w s sees =
    let cs = behind w s.c in
    ap (λ (a : ℕ). among (ending_in a yDU.keys) cs) (last-seen w s sees) ∙ among-ending yDU.keys cs refl

pub returns-in_default : goal.returns-in_default
returns-in_default c = mark-nothing yDU _ _ _ c.find_yDU.ensures (enough _ c.args.s c.requires) c.in_default.is

pub mark_suffix_with_optional_consonant-p-requires : goal.mark_suffix_with_optional_consonant-p-requires
mark_suffix_with_optional_consonant-p-requires c =
    key-open yDU _ _ _ c.find_yDU.ensures (enough _ c.args.s c.requires) c.in-Some.is c.requires.opens

pub returns : goal.returns
unfolding joining by_y mark_numbered yDU marked text
returns c =
    let p = key-joined yDU _ _ _ c.find_yDU.ensures (enough _ c.args.s c.requires) c.in-Some.is c.mark_suffix_with_optional_consonant-p.ensures in
    mark-in-harmony yDU _ _ p refl c.kept_in_harmony.ensures
