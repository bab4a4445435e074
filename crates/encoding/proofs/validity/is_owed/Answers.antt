-- `encoding::validity::is_owed` meets its contract: its three tests are the definition's. Assumes nothing.
use Rattle.encoding.specs.Neighbours.{owed}
use mathlib.Core.Path.{refl}
use Rattle.encoding.proofs.validity.is_owed.Goals as goal

pub returns : goal.returns
unfolding owed
returns c = refl
