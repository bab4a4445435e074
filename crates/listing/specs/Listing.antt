-- The listing (document 01, "stemlist"): a line for each word of the input, as it stands or in small letters. Assumes nothing.
use Rattle.std.specs.Prelude.{ℕ, Bool, List, [], ◌∷◌, ◌++◌, map}
use Rattle.turkish.specs.Lines.{lines_from}
use Rattle.lines.specs.Line.{list_line}
use Rattle.lines.specs.Listed.{listed}

-- the output lines of words, one after the other
unfoldable pub list_all : List (List ℕ) → List ℕ
list_all [] = []
list_all (w ∷ ws) = list_line w ++ list_all ws

-- the whole listing of an input, of the words' folded forms where that is asked
unfoldable pub listing : Bool → List ℕ → List ℕ
listing folded input = list_all (map (listed folded) (lines_from [] input))
