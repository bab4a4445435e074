-- `probe::probe_eq_s` meets its contract: the step's own answer from the record made of the numbers, laid out flat. Assumes nothing.
use Rattle.probe.proofs.probe_eq_s.Goals as goal

pub returns : goal.returns
returns c =
    rw (c.flat_literal.ensures, c.eq_s.ensures, c.cursor_of-r.ensures)
