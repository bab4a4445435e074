-- The word that the listing lists for a line of its input: the line as it stands or, where that is asked, in small letters (document 01,
-- "Fold"). Assumes nothing.
use Rattle.std.specs.Prelude.{ℕ, Bool, cond, ◌&&◌, List}
use Rattle.turkish.specs.Calls.{accepted, fold_text}

-- a word over the limit or not UTF-8 is not folded, and the listing refuses it as it stands
unfoldable pub listed : Bool → List ℕ → List ℕ
listed folded w = cond (folded && accepted w) (fold_text w) w
