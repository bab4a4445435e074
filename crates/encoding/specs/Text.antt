-- A text: bytes that are the encoding of some scalar values. The check's theorem is stated with it.
-- Assumes nothing.
use Rattle.std.specs.Prelude.{ℕ, ◌≡◌, true, List}
use Rattle.encoding.specs.Scalar.{scalars}
use Rattle.encoding.specs.Encoding.{encode_all}

pub record TextOf (w : List ℕ) : Type 0 where
  pub chars : List ℕ
  pub valid : scalars chars ≡ true
  pub encoded : encode_all chars ≡ w
