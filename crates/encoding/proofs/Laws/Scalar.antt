-- Which code points are scalar values and which are surrogates, by their place.
-- Assumes nothing.
use Prim.Native.Nat.{ℕ, ◌≤◌, ◌<◌}
use mathlib.Core.Path.{◌≡◌, refl}
use mathlib.Core.Bool.{Bool, true, false, not, ◌&&◌}
use lib.Dec.{leb}
use borrow.Author.Tests.{le-leb, lt-leb, leb-true}
use Rattle.encoding.specs.Scalar.{surrogate, scalar}
use Rattle.encoding.proofs.Laws.Booleans.{and-false}

-- up to U+10FFFF, what is not below the surrogates being above them
pub is-scalar : (c : ℕ) → c ≤ 0x10FFFF → (0xD800 ≤ c → 0xDFFF < c) → scalar c ≡ true
unfolding scalar surrogate
is-scalar c h s = rw (le-leb c 0x10FFFF h) (go (leb 0xD800 c) refl)
  where
    go : (t : Bool) → leb 0xD800 c ≡ t → not (t && leb c 0xDFFF) ≡ true
    go true e = rw (lt-leb c 0xDFFF (s (leb-true 0xD800 c e)))
    go false e = refl

-- from U+D800 to U+DFFF
pub is-surrogate : (c : ℕ) → 0xD800 ≤ c → c ≤ 0xDFFF → surrogate c ≡ true
unfolding surrogate
is-surrogate c l h = rw (le-leb 0xD800 c l, le-leb c 0xDFFF h)

-- a surrogate is no scalar value
pub surrogate-not-scalar : (c : ℕ) → surrogate c ≡ true → scalar c ≡ false
unfolding scalar
surrogate-not-scalar c e = rw e (and-false (leb c 0x10FFFF))

-- nothing above U+10FFFF is a scalar value
pub above-not-scalar : (c : ℕ) → 0x10FFFF < c → scalar c ≡ false
unfolding scalar
above-not-scalar c h = rw (lt-leb c 0x10FFFF h)
