-- `encoding::short::begins` meets its contract: its tests are the definition's. Assumes nothing.
use Rattle.encoding.specs.Neighbours.{short_begins}
use mathlib.Core.Path.{refl}
use Rattle.encoding.proofs.short.begins.Goals as goal

pub returns : goal.returns
unfolding short_begins
returns c = refl
