-- `encoding::walk::all_follow` meets its contract. The loop's invariant: what passed so far and the walk from the place are the walk from
-- the start. Assumes nothing.
use Prim.Native.Nat.{◌+◌, ◌-◌}
use mathlib.Core.Path.{◌≡◌}
use mathlib.Core.Bool.{◌&&◌}
use lib.ListN.{drop}
use Rattle.encoding.specs.Walked.{byte_before, short_next}
use Rattle.encoding.proofs.walk.all_follow.Given as goal

abbrev pub invariant-loop-i : goal.invariant-loop-i
invariant-loop-i g l =
    l.ok && short_next (l.from + g.row.N - l.i) (byte_before l.w l.i) (drop l.i l.w) ≡ short_next g.row.N (byte_before l.w l.from) (drop l.from l.w)
