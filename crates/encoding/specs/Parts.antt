-- Where a part of a word may end, as the code cuts it for document 02's request 3. That the check of the word is then the check of its parts is
-- proved in proofs/Laws/Parts. Assumes nothing.
use Rattle.std.specs.Prelude.{ℕ, Bool, true, not, List, [], ◌∷◌}
use Rattle.encoding.specs.Encoding.{continuation}

-- no character goes on here: nothing follows, or a byte that goes on with none
unfoldable pub boundary : List ℕ → Bool
boundary [] = true
boundary (x ∷ xs) = not (continuation x)
