-- `batch::tails::line_length` meets its contract. The loop's invariant: the bytes passed are none, so the line is as many longer than the one
-- from there on. Assumes nothing.
use mathlib.Core.Path.{ap}
use native.Mathlib.Omega.{arith}
use native.Mathlib.Nat.{zero-add}
use lib.ListN.{length}
use borrow.Author.Tests.{eq-eqb, ne_eqb}
use Rattle.turkish.specs.Letters.{lf}
use Rattle.batch.proofs.Laws.Tails.{line-byte, line-lf, line-end}
use Rattle.batch.proofs.tails.line_length.Goals as goal

pub loop-i-init : goal.loop-i-init
loop-i-init c = zero-add _

pub loop-i-preserved : goal.loop-i-preserved
unfolding lf
loop-i-preserved c =
    omega (arith, c.loop-i.invariant, ap length (line-byte c.args.rest.now c.loop-i.i c.loop-i-test.true (ne_eqb _ _ c.if-rest-i-eq-LF.false)))

pub returns-then-rest-i-eq-LF : goal.returns-then-rest-i-eq-LF
unfolding lf
returns-then-rest-i-eq-LF c =
    omega (arith, c.loop-i.invariant, ap length (line-lf c.args.rest.now c.loop-i.i c.loop-i-test.true (eq-eqb _ _ c.if-rest-i-eq-LF.true)))

pub returns : goal.returns
returns c =
    omega (arith, c.loop-i.invariant, c.loop-i.auto.i-end, ap length (line-end c.args.rest.now c.loop-i.i c.loop-i-test.false))
