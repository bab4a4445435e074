-- `kinds::entries::put_pieces` meets its contract. The loop's invariant: the entries of the pieces passed are written. Assumes nothing.
use mathlib.Core.Path.{◌≡◌}
use mathlib.Core.List.{map}
use lib.ListN.{take}
use Rattle.turkish.specs.Calls.{written}
use Rattle.turkish.specs.PieceCalls.{told, buffer}
use Rattle.kinds.proofs.entries.put_pieces.Given as goal

abbrev pub invariant-loop-i : goal.invariant-loop-i
invariant-loop-i l = l.out ≡ written (buffer l.fn.r.length (map told (take l.i l.pieces))) l.initial.out
