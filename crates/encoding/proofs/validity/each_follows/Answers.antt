-- `encoding::validity::each_follows` meets its contract: the loop's invariant: what passed so far and the walk from the place are the
-- walk from the start. Assumes nothing.
use mathlib.Core.Path.{◌∙◌}
use Rattle.encoding.proofs.Laws.Neighbours.{text_at, text-end}
use Rattle.encoding.proofs.validity.each_follows.Goals as goal

pub loop-x-preserved : goal.loop-x-preserved
loop-x-preserved c = let l = c.loop-x in text_at c.args.w.now _ _ _ _ l.ok _ c.loop-x-test.true c.may_follow-ok.ensures ∙ l.invariant

pub returns : goal.returns
returns c = let l = c.loop-x in text-end c.args.w.now _ _ _ _ l.ok _ c.loop-x-test.false c.is_owed.ensures ∙ l.invariant
