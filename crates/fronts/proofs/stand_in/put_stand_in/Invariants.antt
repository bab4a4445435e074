-- `fronts::stand_in::put_stand_in` meets its contract. The loop's invariant: of the vowels passed those that are counted are written, `at` is their
-- end, and there is room for the others. Assumes nothing.
use mathlib.Core.Path.{◌≡◌}
use lib.ListN.{length}
use Rattle.writing.proofs.Laws.Put.{Wrote}
use Rattle.fronts.proofs.Laws.StandIn.{so_far, room_from}
use Rattle.fronts.proofs.stand_in.put_stand_in.Given as goal

abbrev pub invariant-loop-k : goal.invariant-loop-k
invariant-loop-k l = (length l.out ≡ length l.initial.out) × Wrote 0 l.at (so_far l.s.counts l.k) l.initial.out l.out (room_from l.k)
