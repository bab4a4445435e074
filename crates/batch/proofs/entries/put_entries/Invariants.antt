-- `batch::entries::put_entries` meets its contract. The loop's invariant: the buffers hold the entries of the tails done, and the stand-in stands before the
-- next. Assumes nothing.
use Rattle.batches.specs.BatchCalls.{batch}
use Rattle.batch.proofs.Laws.Entries.{Entered}
use Rattle.batch.proofs.entries.put_entries.Given as goal

abbrev pub invariant-loop-i : goal.invariant-loop-i
invariant-loop-i l =
    Entered (batch l.front l.slice l.initial.lengths l.initial.answers l.initial.flags) l.m l.lengths l.answers l.flags l.word l.at l.i
