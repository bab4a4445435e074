-- The listing made from blocks of input: between blocks only a line read so far is held, and of that no more than one byte over the
-- limit. Assumes nothing.
use Rattle.std.specs.Prelude.{ℕ, ◌+◌, Bool, cond, List, [], ◌∷◌, ◌++◌, map, take, eqb}
use Rattle.turkish.specs.Letters.{lf}
use Rattle.turkish.specs.Lines.{unclosed}
use Rattle.lines.specs.Line.{list_line}
use Rattle.lines.specs.Listed.{listed}
use Rattle.listing.specs.Listing.{list_all}
-- the longest word, in bytes
unfoldable pub use Rattle.turkish.specs.Calls.{limit}

-- the most bytes held of a line: a longer line is refused whatever follows
unfoldable pub most : ℕ
most = limit + 1

-- a line with one byte more, as far as it is held
unfoldable pub hold : List ℕ → ℕ → List ℕ
hold line b = take most (line ++ (b ∷ []))

-- the output for a block, with `line` held before it
unfoldable pub fed_out : Bool → List ℕ → List ℕ → List ℕ
fed_out folded line [] = []
fed_out folded line (b ∷ bs) = cond (eqb b lf) (list_line (listed folded line) ++ fed_out folded [] bs) (fed_out folded (hold line b) bs)

-- the line held after the block
unfoldable pub fed_line : List ℕ → List ℕ → List ℕ
fed_line line [] = line
fed_line line (b ∷ bs) = cond (eqb b lf) (fed_line [] bs) (fed_line (hold line b) bs)

-- the output at the end of the input, with `line` held
unfoldable pub last_out : Bool → List ℕ → List ℕ
last_out folded line = list_all (map (listed folded) (unclosed line))
