-- The terms of the theorems on the pieces of an ending (document 02, request 1): pieces end to end, the bytes that they cover and spell, and the
-- most that are removed. Assumes nothing.
use Rattle.std.specs.Prelude.{ℕ, ◌+◌, ◌≤◌, ◌≡◌, cond, ◌&&◌, List, [], ◌∷◌, ◌++◌, ltb, leb}
use Rattle.turkish.specs.PieceCalls.{Span, letters_of}

-- pieces that lie end to end from one offset down to another: none is empty, and each ends where the one before it begins
pub data EndToEnd : ℕ → List Span → ℕ → Type 0 where
  empty : {n : ℕ} → EndToEnd n [] n
  onward : {m n : ℕ} (p : Span) {ps : List Span} → p.first ≤ p.last → p.last + 1 ≡ n → EndToEnd p.first ps m → EndToEnd n (p ∷ ps) m

-- 1 where a number lies from m up to n and is not n, else 0
unfoldable pub between : ℕ → ℕ → ℕ → ℕ
between m n i = cond (leb m i && ltb i n) 1 0

-- how many of the pieces have the byte at an offset
unfoldable pub covering : ℕ → List Span → ℕ
covering i [] = 0
covering i (p ∷ ps) = between p.first (p.last + 1) i + covering i ps

-- the pieces' own bytes, in the word's order: the last one kept stands first
unfoldable pub spelled : List ℕ → List Span → List ℕ
spelled w [] = []
spelled w (p ∷ ps) = spelled w ps ++ letters_of w p

-- the most bytes that the suffix stage removes
unfoldable pub most_bytes : ℕ
most_bytes = 20
