-- `folding::plain::write_plain` meets its contract. Assumes nothing.
use mathlib.Core.Path.{◌∙◌}
use native.Mathlib.Omega.{arith}
use Rattle.folding.proofs.Laws.Plain.{small-stored, small-written}
use Rattle.folding.proofs.plain.write_plain.Goals as goal

pub loop-i-preserved : goal.loop-i-preserved
loop-i-preserved c =
    let a = c.args in
    let stored = small-stored a.w.now a.out.now c.loop-i.i c.small.result c.loop-i-test.true c.requires c.small.ensures in
    rw (← c.loop-i.invariant) at stored

pub returns : goal.returns
returns c =
    let l = c.loop-i in
    l.invariant ∙ small-written c.args.w.now c.args.out.now l.i (omega arith)
