-- `encoding::validity::lowest` meets its contract: two rows of table 3-7 raise the least byte, no other. Assumes nothing.
use Prim.Native.Nat.{ℕ}
use mathlib.Core.Path.{sym, ap}
use native.Mathlib.Omega.{arith}
use Rattle.encoding.specs.Validity.{lead, lead_in, table37, due}
use Rattle.encoding.proofs.Laws.Table37.{lead_low}
use Rattle.encoding.proofs.validity.lowest.Goals as goal

pub returns-in-224 : goal.returns-in-224
unfolding lead lead_in table37 due
returns-in-224 c = sym (ap (λ (k : ℕ). (lead k).low) c.in-224.is)

pub returns-in-240 : goal.returns-in-240
unfolding lead lead_in table37 due
returns-in-240 c = sym (ap (λ (k : ℕ). (lead k).low) c.in-240.is)

pub returns-in_default : goal.returns-in_default
returns-in_default c = sym (lead_low c.args.a (λ e. omega arith) (λ e. omega arith))
