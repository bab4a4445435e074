-- `repairs::postlude::Repair::unchanged` meets its contract. Assumes nothing.
use mathlib.Core.Path.{refl}
use Rattle.repairs.specs.Repairs.{unchanged}
use Rattle.repairs.proofs.postlude.Repair.unchanged.Goals as goal

pub returns : goal.returns
unfolding unchanged
returns c = refl
