-- `keys::among::find_among_b` meets its contract. The loop's invariant: the search from the i-th key on answers as the whole search does.
-- Assumes nothing.
use mathlib.Core.Path.{◌≡◌}
use lib.ListN.{drop}
use Rattle.keys.specs.Keys.{rows}
use Rattle.keys.specs.Search.{found_from, found}
use Rattle.keys.proofs.among.find_among_b.Given as goal

abbrev pub invariant-loop-i : goal.invariant-loop-i
invariant-loop-i g l = found_from l.i (rows (drop l.i l.keys)) l.w l.s.c ≡ found (rows l.keys) l.w l.s.c
