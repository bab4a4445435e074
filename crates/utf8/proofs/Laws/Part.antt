-- The part of a word from limit_backward on, as the code slices it: it is all from there on, and the places of an open record lie within the
-- word and its part. Assumes nothing.
use Prim.Native.Nat.{ℕ, ◌-◌, ◌≤◌}
use mathlib.Core.Path.{◌≡◌, ap, ◌∙◌}
use mathlib.Core.List.{List}
use native.Mathlib.Omega.{arith}
use lib.ListN.{length, take, drop, length-drop}
use lib.Seq.{take_all}
use Rattle.utf8.specs.declared.cursor.Cursor.{Cursor}
use Rattle.utf8.specs.Behind.{Open}
use Rattle.utf8.proofs.Laws.Steps.{stands-within}

-- the slice `&w[low..]`
abbrev pub part_from : List ℕ → ℕ → List ℕ
part_from w low = take (length w - low) (drop low w)

-- it is all from there on
pub part_from-drop : (w : List ℕ) (low : ℕ) → part_from w low ≡ drop low w
part_from-drop w low = take_all (length w - low) (drop low w) (omega (arith, length-drop low w))

-- and has so many bytes
pub length-part_from : (w : List ℕ) (low : ℕ) → length (part_from w low) ≡ length w - low
length-part_from w low = ap length (part_from-drop w low) ∙ length-drop low w

module _ (w : List ℕ) (c : Cursor) where
  -- limit_backward of an open record lies within the word
  pub low-length-le : Open w c → c.limit_backward ≤ length w
  low-length-le o = let within = stands-within w c o.within in omega (arith, within.low, within.high, within.end)

  -- and is not past the cursor
  pub low-cursor-le : Open w c → c.limit_backward ≤ c.cursor
  low-cursor-le o = (stands-within w c o.within).low

  -- which lies within the word
  pub cursor-length-le : Open w c → c.cursor ≤ length w
  cursor-length-le o = let within = stands-within w c o.within in omega (arith, within.high, within.end)

  -- and its place in the part within that
  pub cursor-part-le : Open w c → c.cursor - c.limit_backward ≤ length (part_from w c.limit_backward)
  cursor-part-le o = omega (arith, length-part_from w c.limit_backward, cursor-length-le o)
