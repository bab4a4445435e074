-- A part copied to an output, where it fits. Assumes nothing.
use Rattle.std.specs.Prelude.{ℕ, cond, List, length, ltb}
use Rattle.turkish.specs.Calls.{written}

unfoldable pub part_length : List ℕ → ℕ → ℕ
part_length part room = cond (ltb room (length part)) 0 (length part)

unfoldable pub part_out : List ℕ → List ℕ → List ℕ
part_out part out = cond (ltb (length out) (length part)) out (written part out)
