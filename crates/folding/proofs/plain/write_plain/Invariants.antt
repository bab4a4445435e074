-- `folding::plain::write_plain`: the bytes passed are written, folded, and what stands behind them stays.
use mathlib.Core.Path.{◌≡◌}
use mathlib.Core.List.{map, ◌++◌}
use lib.ListN.{take, drop}
use Rattle.folding.specs.FoldBytes.{small_byte}
use Rattle.folding.proofs.plain.write_plain.Given as goal

abbrev pub invariant-loop-i : goal.invariant-loop-i
invariant-loop-i l = l.out ≡ map small_byte (take l.i l.w) ++ drop l.i l.initial.out
