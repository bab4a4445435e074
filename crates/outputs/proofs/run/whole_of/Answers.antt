-- `outputs::run::whole_of` meets its contract: the flag and the place where letters stay say which of the runs it is. Assumes nothing.
use borrow.Author.Tests.{not-true, not-false}
use Rattle.stages.proofs.Laws.Kept.{kept-le}
use Rattle.outputs.proofs.Laws.Runs.{uninflected_of-front, whole_run_of-front, whole_run_of-whole, whole_run_of-left, whole_run_of-repaired}
use Rattle.outputs.proofs.run.whole_of.Goals as goal

pub returns-then-not-s : goal.returns-then-not-s
returns-then-not-s c = whole_run_of-front _ _ c.requires (not-true _ c.if-not-s.true) _ c.front.ensures

pub stem_noun_suffixes-requires : goal.stem_noun_suffixes-requires
stem_noun_suffixes-requires c = kept-le _ _ c.requires

pub repaired-requires : goal.repaired-requires
repaired-requires c = kept-le _ _ c.requires

pub returns-in_default : goal.returns-in_default
returns-in_default c = whole_run_of-whole _ _ c.requires (not-false _ c.if-not-s.false) c.in_default.ensures _ c.repaired.ensures

pub returns-then-u-kept : goal.returns-then-u-kept
returns-then-u-kept c =
    whole_run_of-left _ _ c.requires (not-false _ c.if-not-s.false) c.in-Some.ensures c.if-u-kept.true _ c.left.ensures

pub repaired-requires-2 : goal.repaired-requires-2
repaired-requires-2 c = uninflected_of-front _ _ (kept-le _ _ c.requires) c.in-Some.ensures

pub returns : goal.returns
returns c = whole_run_of-repaired _ _ c.requires (not-false _ c.if-not-s.false) c.in-Some.ensures c.if-u-kept.false _ c.repaired-2.ensures
