-- `folding::step::small` meets its contract: its test is the definition's. Assumes nothing.
use native.Mathlib.Omega.{arith}
use Rattle.folding.specs.FoldBytes.{small_byte}
use Rattle.folding.proofs.Laws.Bytes.{range-high}
use Rattle.folding.proofs.step.small.Goals as goal

pub overflow_add-result : goal.overflow_add-result
overflow_add-result c = omega (arith, range-high 0x41 0x5A c.args.b c.if-b.true)

pub returns-then-b : goal.returns-then-b
unfolding small_byte
returns-then-b c = rw c.if-b.true

pub returns : goal.returns
unfolding small_byte
returns c = rw c.if-b.false
