-- `encoding::validity::may_follow` meets its contract: the choice that the definition makes is made here of tests alone. Assumes
-- nothing.
use Rattle.encoding.proofs.Laws.Neighbours.{follows-tests}
use Rattle.encoding.proofs.validity.may_follow.Goals as goal

pub returns : goal.returns
returns c = follows-tests _ _ _ _ _ _ _ _ c.is_owed-due.ensures c.lowest.ensures c.highest.ensures c.begins.ensures
