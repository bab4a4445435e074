-- Bytes written at a place of an output. Assumes nothing.
use Rattle.std.specs.Prelude.{ℕ, ◌+◌, List, ◌++◌, length, take, drop}

-- out with the bytes s at place `at`; all other bytes stay
unfoldable pub put : ℕ → List ℕ → List ℕ → List ℕ
put at s out = take at out ++ (s ++ drop (at + length s) out)
