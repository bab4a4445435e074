-- `probe::probe_next_char` meets its contract: the step's own answer from the record made of the numbers, laid out flat. Assumes nothing.
use Rattle.probe.proofs.probe_next_char.Goals as goal

pub returns : goal.returns
returns c =
    rw (c.flat_step.ensures, c.next_char.ensures, c.cursor_of-r.ensures)
