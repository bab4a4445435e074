-- `keys::among::key_rest` meets its contract. The loop's invariant: what is left of the key has to be passed from where the letters
-- before it have led. Assumes nothing.
use Prim.Native.Nat.{◌≤◌}
use mathlib.Core.Path.{◌≡◌}
use lib.ListN.{length, drop}
use Rattle.keys.specs.Keys.{up_to_zero}
use Rattle.keys.proofs.Laws.Search.{over_part}
use Rattle.keys.proofs.among.key_rest.Given as goal

abbrev pub invariant-loop-letter : goal.invariant-loop-letter
invariant-loop-letter l = record {
  in_part : l.at ≤ length l.part;
  left : over_part l.low l.part l.at 0 (up_to_zero (drop l.letter-index l.letters)) ≡ over_part l.low l.part l.initial.at 0 (up_to_zero l.letters);
}
