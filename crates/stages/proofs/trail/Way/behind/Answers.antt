-- `stages::trail::Way::behind` meets its contract: it is made as the definition has it. Assumes nothing.
use Rattle.stages.specs.Trail.{behind_trail, behind_way}
use Rattle.stages.proofs.trail.Way.behind.Goals as goal

pub returns : goal.returns
unfolding behind_trail behind_way
returns g c = rw (c.of.ensures, c.or.ensures)
