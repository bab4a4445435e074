-- `encoding::short::may_follow` meets its contract: the choice that the definition makes is made here of tests alone. Assumes nothing.
use Rattle.encoding.proofs.Laws.Neighbours.{short-follows-tests}
use Rattle.encoding.proofs.short.may_follow.Goals as goal

pub returns : goal.returns
returns c = short-follows-tests _ _ _ _ c.is_continuation.ensures c.begins.ensures
