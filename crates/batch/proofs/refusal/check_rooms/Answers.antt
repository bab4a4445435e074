-- `batch::refusal::check_rooms` meets its contract: each test's answer, and those before it, tell the number. Assumes nothing.
use borrow.Author.Tests.{lt-ltb, le-ltb}
use Rattle.batches.specs.BatchCalls.{most_tails, rooms_refusal_of}
use Rattle.batch.proofs.refusal.check_rooms.Goals as goal

pub returns-then-lengths-lt-TAILS : goal.returns-then-lengths-lt-TAILS
unfolding rooms_refusal_of most_tails
returns-then-lengths-lt-TAILS c = rw (lt-ltb _ _ c.if-lengths-lt-TAILS.true)

pub returns-then-answers-lt-TAILS : goal.returns-then-answers-lt-TAILS
unfolding rooms_refusal_of most_tails
returns-then-answers-lt-TAILS c = rw (le-ltb _ _ c.if-lengths-lt-TAILS.false, lt-ltb _ _ c.if-answers-lt-TAILS.true)

pub returns-then-flags-lt-TAILS : goal.returns-then-flags-lt-TAILS
unfolding rooms_refusal_of most_tails
returns-then-flags-lt-TAILS c = rw (le-ltb _ _ c.if-lengths-lt-TAILS.false, le-ltb _ _ c.if-answers-lt-TAILS.false, lt-ltb _ _ c.if-flags-lt-TAILS.true)

pub returns : goal.returns
unfolding rooms_refusal_of most_tails
returns c = rw (le-ltb _ _ c.if-lengths-lt-TAILS.false, le-ltb _ _ c.if-answers-lt-TAILS.false, le-ltb _ _ c.if-flags-lt-TAILS.false)
