-- `stages::stage::person` meets its contract: the first mark of the group that fits. Assumes nothing.
use Rattle.std.proofs.Common.{rules}
use Rattle.utf8.specs.Behind.{behind}
use Rattle.theorems.specs.Simple.Marks.{lAr, yUm, sUn, yUz}
use Rattle.theorems.specs.Simple.Pieces.{trace_of, trace}
use Rattle.stages.proofs.Laws.Branches.{first-assoc, reach-else}
use Rattle.stages.proofs.stage.person.Goals as goal

pub returns : goal.returns
unfolding trace
returns c =
    let cs = behind c.args.w.now c.args.s.c in
    let by2 = reach-else _ _ _ (trace_of lAr cs) c.mark_sUnUz.ensures c.or_else.ensures (λ k. search rules) in
    let by3 = reach-else _ _ _ (trace_of yUm cs) by2 c.or_else-2.ensures (λ k. search rules) in
    let by4 = reach-else _ _ _ (trace_of sUn cs) by3 c.or_else-3.ensures (λ k. search rules) in
    simp first-assoc at (reach-else _ _ _ (trace_of yUz cs) by4 c.or_else-4.ensures (λ k. search rules))
