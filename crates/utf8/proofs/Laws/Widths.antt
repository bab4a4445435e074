-- A character's width, by the bytes that the code tests. Assumes nothing.
use Prim.Native.Nat.{ℕ, ◌-◌, ◌≤◌, ◌<◌}
use mathlib.Core.Path.{◌≡◌}
use mathlib.Core.Bool.{Bool, true, false}
use mathlib.Core.List.{List}
use lib.ListN.{length, get_or, get_or-eq_default}
use borrow.Author.Tests.{le-ltb, lt-ltb}
use Rattle.encoding.specs.Encoding.{continuation}
use Rattle.utf8.specs.Characters.{width, goes_on_of}

-- the width by the first byte that does not go on
pub width_one : (r s t : Bool) → r ≡ false → width r s t ≡ 1
unfolding width
width_one r s t e = rw e

-- two bytes
pub width_two : (r s t : Bool) → r ≡ true → s ≡ false → width r s t ≡ 2
unfolding width
width_two r s t e f = rw (e, f)

-- three bytes
pub width_three : (r s t : Bool) → r ≡ true → s ≡ true → t ≡ false → width r s t ≡ 3
unfolding width
width_three r s t e f g = rw (e, f, g)

-- four bytes
pub width-fourth : (r s t : Bool) → r ≡ true → s ≡ true → t ≡ true → width r s t ≡ 4
unfolding width
width-fourth r s t e f g = rw (e, f, g)

-- at the word's first byte, and before it, nothing goes on
pub goes_on_of-start : (w : List ℕ) (c k : ℕ) → c ≤ k → goes_on_of w c k ≡ false
unfolding goes_on_of
goes_on_of-start w c k h = rw (le-ltb k c h)

-- elsewhere the byte tells
pub goes_on_of-byte : (w : List ℕ) (c k : ℕ) → k < c → goes_on_of w c k ≡ continuation (get_or w (c - k) 0)
unfolding goes_on_of
goes_on_of-byte w c k h = rw (lt-ltb k c h)

-- past the end nothing goes on
pub continuation-end : (w : List ℕ) (i : ℕ) → length w ≤ i → continuation (get_or w i 0) ≡ false
unfolding continuation
continuation-end w i h = rw (get_or-eq_default w 0 {n = i} h)
