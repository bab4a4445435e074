-- `stages::stage::person_alone` meets its contract: the first mark of the group that fits. Assumes nothing.
use Rattle.std.proofs.Common.{rules}
use Rattle.utf8.specs.Behind.{behind}
use Rattle.theorems.specs.Simple.Marks.{yUz, sUn, yUm}
use Rattle.theorems.specs.Simple.Pieces.{trace_of, trace}
use Rattle.stages.proofs.Laws.Branches.{first-assoc, reach-else}
use Rattle.stages.proofs.stage.person_alone.Goals as goal

pub returns : goal.returns
unfolding trace
returns c =
    let cs = behind c.args.w.now c.args.s.c in
    let by2 = reach-else _ _ _ (trace_of yUz cs) c.mark_sUnUz.ensures c.or_else.ensures (λ k. search rules) in
    let by3 = reach-else _ _ _ (trace_of sUn cs) by2 c.or_else-2.ensures (λ k. search rules) in
    simp first-assoc at (reach-else _ _ _ (trace_of yUm cs) by3 c.or_else-3.ensures (λ k. search rules))
