-- `pieces::removed::removed_word` meets its contract: an accepted word has its own pieces. Assumes nothing.
use Rattle.pieces.proofs.Laws.Calls.{listed-length, listed-pieces}
use Rattle.pieces.proofs.removed.removed_word.Goals as goal

pub returns-clause-length_value : goal.returns-clause-length_value
returns-clause-length_value c = rw (← c.in_ok-word.ensures.same) (listed-length _ c.in_ok-word.word.is_accepted c.pieces_of.ensures)

pub returns-clause-lists : goal.returns-clause-lists
returns-clause-lists c = rw (← c.in_ok-word.ensures.same) (listed-pieces _ c.in_ok-word.word.is_accepted c.pieces_of.ensures)
