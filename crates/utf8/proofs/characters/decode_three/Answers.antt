-- `utf8::characters::decode_three` meets its contract: `decode` at three bytes, as sums that fit. Assumes nothing.
use Rattle.encoding.specs.Encoding.{decode}
use native.Mathlib.Omega.{arith}
use Rattle.utf8.proofs.characters.decode_three.Goals as goal

pub returns : goal.returns
unfolding decode
returns c = omega arith
