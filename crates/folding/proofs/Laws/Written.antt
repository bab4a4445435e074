-- What a step writes into an output, byte by byte. Assumes nothing.
use Prim.Native.Nat.{ℕ}
use mathlib.Core.Path.{◌≡◌}
use mathlib.Core.List.{List}
use native.Mathlib.Nat.{zero-add}
use Rattle.turkish.specs.Calls.{written}
use Rattle.writing.specs.Put.{put}

-- a text written at an output's start
pub put_written : (s out : List ℕ) → put 0 s out ≡ written s out
unfolding put written
put_written s out = rw zero-add
