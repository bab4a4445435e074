-- What the copy of a part leaves, by whether it fits. Assumes nothing.
use Prim.Native.Nat.{ℕ, ◌≤◌, ◌<◌}
use mathlib.Core.Path.{◌≡◌, refl, ◌∙◌}
use mathlib.Core.List.{List, ◌++◌}
use lib.ListN.{length, take, drop}
use borrow.Author.Tests.{lt-ltb, le-ltb}
use Rattle.outputs.proofs.Laws.Writing.{copy_written}
use Rattle.probe.specs.Part.{part_length, part_out}

-- a part longer than the output: length 0, and the output stays
pub part-short : (p s out : List ℕ) → p ≡ s → length out < length p → (0 ≡ part_length s (length out)) × (out ≡ part_out s out)
unfolding part_length part_out
part-short p s out e h = rw (← e, lt-ltb (length out) (length p) h) (refl, refl)

-- one that fits: its length, and it is written
pub part-copied : (p s out then : List ℕ) (n : ℕ) → p ≡ s → length p ≤ length out
    → n ≡ length p → then ≡ take (length p) p ++ drop (length p) out
    → (n ≡ part_length s (length out)) × (then ≡ part_out s out)
unfolding part_length part_out
part-copied p s out then n e h f g = rw (← e, le-ltb (length out) (length p) h) (f, g ∙ copy_written p out)
