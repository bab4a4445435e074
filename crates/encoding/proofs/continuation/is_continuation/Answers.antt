-- `encoding::continuation::is_continuation` meets its contract: its two tests are the definition's. Assumes nothing.
use Rattle.encoding.specs.Encoding.{continuation}
use mathlib.Core.Path.{refl}
use Rattle.encoding.proofs.continuation.is_continuation.Goals as goal

pub returns : goal.returns
unfolding continuation
returns c = refl
