-- `encoding::validity::highest` meets its contract: two rows of table 3-7 lower the greatest byte, no other. Assumes nothing.
use Prim.Native.Nat.{ℕ}
use mathlib.Core.Path.{sym, ap}
use native.Mathlib.Omega.{arith}
use Rattle.encoding.specs.Validity.{lead, lead_in, table37, due}
use Rattle.encoding.proofs.Laws.Table37.{lead_high}
use Rattle.encoding.proofs.validity.highest.Goals as goal

pub returns-in-237 : goal.returns-in-237
unfolding lead lead_in table37 due
returns-in-237 c = sym (ap (λ (k : ℕ). (lead k).high) c.in-237.is)

pub returns-in-244 : goal.returns-in-244
unfolding lead lead_in table37 due
returns-in-244 c = sym (ap (λ (k : ℕ). (lead k).high) c.in-244.is)

pub returns-in_default : goal.returns-in_default
returns-in_default c = sym (lead_high c.args.a (λ e. omega arith) (λ e. omega arith))
