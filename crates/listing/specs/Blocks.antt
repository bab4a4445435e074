-- The listing of an input that comes in blocks: as the parts of it make it, one after the other, and as calls of `feed` and `finish` do.
-- Assumes nothing.
use Rattle.std.specs.Prelude.{ℕ, ◌-◌, Bool, List, [], ◌∷◌, ◌++◌, take, drop}
use Rattle.listing.specs.Feed.{fed_out, fed_line, last_out}
use Rattle.listing.specs.Fed.{feeding}

-- the outputs of the blocks, one after the other, with `line` held before them, and at the end that of the line left
unfoldable pub fed_all : Bool → List ℕ → List (List ℕ) → List ℕ
fed_all folded line [] = last_out folded line
fed_all folded line (block ∷ blocks) = fed_out folded line block ++ fed_all folded (fed_line line block) blocks

-- a call of `feed`: the block, the place in it from which it is fed, and the output lent
pub record Call : Type 0 where
  pub block : List ℕ
  pub from : ℕ
  pub out : List ℕ

-- the parts of their blocks that calls take, with `held` held before them
unfoldable pub taken_by : Bool → List Call → List ℕ → List (List ℕ)
taken_by folded [] held = []
taken_by folded (c ∷ cs) held =
    let s = feeding folded c.block c.from held c.out in
    take (s.used - c.from) (drop c.from c.block) ∷ taken_by folded cs s.held

-- the bytes that the calls write, one after the other, and at the end those of `finish`
unfoldable pub written_by : Bool → List Call → List ℕ → List ℕ
written_by folded [] held = last_out folded held
written_by folded (c ∷ cs) held =
    let s = feeding folded c.block c.from held c.out in
    take s.written s.out ++ written_by folded cs s.held
