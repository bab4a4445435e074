-- `utf8::characters::low_bits` meets its contract: a remainder is below its modulus, which fits. Assumes nothing.
use mathlib.Core.Path.{refl}
use native.Mathlib.Nat.{mod-lt}
use native.Mathlib.Omega.{arith}
use Rattle.utf8.proofs.characters.low_bits.Goals as goal

pub overflow_cast-result : goal.overflow_cast-result
overflow_cast-result c = omega (arith, mod-lt c.args.b c.requires)

pub returns : goal.returns
returns c = record { value = refl; upper_bound = mod-lt c.args.b c.requires }
