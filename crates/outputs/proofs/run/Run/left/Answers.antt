-- `outputs::run::Run::left` meets its contract: the definition is its text. Assumes nothing.
use Rattle.outputs.specs.Runs.{left_run}
use Rattle.outputs.proofs.run.Run.left.Goals as goal

pub returns-in_default : goal.returns-in_default
unfolding left_run
returns-in_default c = rw c.in_default.is c.front.ensures

pub returns : goal.returns
unfolding left_run
returns c = rw (c.in-Some.is, c.unchanged.ensures)
