-- `folding::plain::is_plain` meets its contract. Assumes nothing.
use mathlib.Core.Path.{◌∙◌}
use Rattle.folding.proofs.Laws.Plain.{plain_at, plain_end}
use Rattle.folding.proofs.plain.is_plain.Goals as goal

pub loop-b-preserved : goal.loop-b-preserved
loop-b-preserved c =
    let l = c.loop-b in
    plain_at c.args.w.now l.b-index l.ok c.loop-b-test.true ∙ l.invariant

pub returns : goal.returns
returns c =
    let l = c.loop-b in
    plain_end c.args.w.now l.b-index l.ok c.loop-b-test.false ∙ l.invariant
