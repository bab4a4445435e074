-- `utf8::characters::decode_four` meets its contract: `decode` at four bytes, as sums that fit. Assumes nothing.
use Rattle.encoding.specs.Encoding.{decode}
use native.Mathlib.Omega.{arith}
use Rattle.utf8.proofs.characters.decode_four.Goals as goal

pub returns : goal.returns
unfolding decode
returns c = omega arith
