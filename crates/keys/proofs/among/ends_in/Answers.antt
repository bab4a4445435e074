-- `keys::among::ends_in` meets its contract: its code is the definition. Assumes nothing.
use mathlib.Core.Path.{refl}
use Rattle.keys.specs.Search.{ends_in_of}
use Rattle.keys.proofs.among.ends_in.Goals as goal

pub returns : goal.returns
unfolding ends_in_of
returns c = refl
