-- `repairs::postlude::Repair::followed` meets its contract. Assumes nothing.
use Rattle.repairs.specs.Repairs.{followed}
use Rattle.repairs.proofs.postlude.Repair.followed.Goals as goal

pub returns : goal.returns
unfolding followed
returns c = rw c.of.ensures
