-- `folding::step::is_paired` meets its contract: its tests are the definition's. Assumes nothing.
use mathlib.Core.Path.{refl}
use Rattle.folding.specs.FoldBytes.{paired}
use Rattle.folding.proofs.step.is_paired.Goals as goal

pub returns : goal.returns
unfolding paired
returns c = refl
