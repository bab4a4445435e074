-- `keys::ends::is_U` meets its contract: its code is the definition. Assumes nothing.
use mathlib.Core.Path.{refl}
use Rattle.keys.specs.Ends.{is_U_of}
use Rattle.keys.proofs.ends.is_U.Goals as goal

pub returns : goal.returns
unfolding is_U_of
returns c = refl
