-- `folding::step::fold_second` meets its contract: its tests are the definition's. Assumes nothing.
use native.Mathlib.Omega.{arith}
use Rattle.folding.specs.FoldBytes.{second}
use Rattle.folding.proofs.Laws.Bytes.{after-C3-high, after-others-is}
use Rattle.folding.proofs.step.fold_second.Goals as goal

pub overflow_add-result : goal.overflow_add-result
overflow_add-result c = omega (arith, after-C3-high c.args.a c.args.b c.if-a-b.true)

pub returns-then-a-b : goal.returns-then-a-b
unfolding second
returns-then-a-b c = rw c.if-a-b.true

pub overflow_add-result-then-a-b-2 : goal.overflow_add-result-then-a-b-2
overflow_add-result-then-a-b-2 c = omega (arith, after-others-is c.args.a c.args.b c.if-a-b-2.true)

pub returns-then-a-b-2 : goal.returns-then-a-b-2
unfolding second
returns-then-a-b-2 c = rw (c.if-a-b.false, c.if-a-b-2.true)

pub returns : goal.returns
unfolding second
returns c = rw (c.if-a-b.false, c.if-a-b-2.false)
