-- `keys::ends::is_A` meets its contract: its code is the definition. Assumes nothing.
use mathlib.Core.Path.{refl}
use Rattle.keys.specs.Ends.{is_a}
use Rattle.keys.proofs.ends.is_A.Goals as goal

pub returns : goal.returns
unfolding is_a
returns c = refl
