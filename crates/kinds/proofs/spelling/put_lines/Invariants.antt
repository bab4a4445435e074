-- `kinds::spelling::put_lines` meets its contract. The loop's invariant: the lines of the pieces passed are written, and `at` is their end.
-- Assumes nothing.
use mathlib.Core.Path.{◌≡◌}
use mathlib.Core.List.{map}
use lib.ListN.{length, take}
use Rattle.turkish.specs.Calls.{written}
use Rattle.turkish.specs.PieceCalls.{told, text_of}
use Rattle.kinds.proofs.spelling.put_lines.Given as goal

abbrev pub invariant-loop-p : goal.invariant-loop-p
invariant-loop-p l =
    let lines = text_of l.w (map told (take l.p-index l.pieces)) in
    record { place : l.at ≡ length lines; output : l.out ≡ written lines l.initial.out }
