-- `utf8::characters::decode_two` meets its contract: `decode` at two bytes, as sums that fit. Assumes nothing.
use Rattle.encoding.specs.Encoding.{decode}
use native.Mathlib.Omega.{arith}
use Rattle.utf8.proofs.characters.decode_two.Goals as goal

pub returns : goal.returns
unfolding decode
returns c = omega arith
