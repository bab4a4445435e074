-- `lines::line::either` meets its contract: the definition computes by the test. Assumes nothing.
use Rattle.lines.proofs.line.either.Goals as goal

pub returns-then-t : goal.returns-then-t
returns-then-t c = rw c.if-t.true

pub returns : goal.returns
returns c = rw c.if-t.false
