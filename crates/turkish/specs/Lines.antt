-- The lines of bytes: the words of a stream (document 01, "stemlist") and the tails of a slice (document 02, request 7). Assumes nothing.
use Rattle.std.specs.Prelude.{ℕ, cond, List, [], ◌∷◌, ◌++◌, eqb}
use Rattle.turkish.specs.Letters.{lf}

-- a last line without a line feed counts if it is not empty
unfoldable pub unclosed : List ℕ → List (List ℕ)
unclosed [] = []
unclosed (b ∷ bs) = (b ∷ bs) ∷ []

-- the lines of bytes, with `line` read so far: each ended by a line feed
unfoldable pub lines_from : List ℕ → List ℕ → List (List ℕ)
lines_from line [] = unclosed line
lines_from line (b ∷ bs) = cond (eqb b lf) (line ∷ lines_from [] bs) (lines_from (line ++ (b ∷ [])) bs)
