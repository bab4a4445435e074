-- `keys::ends::is_kmn` meets its contract: its code is the definition. Assumes nothing.
use mathlib.Core.Path.{refl}
use Rattle.keys.specs.Ends.{is_kmn_of}
use Rattle.keys.proofs.ends.is_kmn.Goals as goal

pub returns : goal.returns
unfolding is_kmn_of
returns c = refl
