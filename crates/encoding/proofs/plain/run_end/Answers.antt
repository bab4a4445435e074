-- `encoding::plain::run_end` meets its contract: where eight bytes are not plain the run has ended. Assumes nothing.
use mathlib.Core.Path.{sym, ◌∙◌}
use Rattle.encoding.proofs.Laws.PlainRuns.{run_ends}
use Rattle.encoding.proofs.plain.run_end.Goals as goal

pub returns : goal.returns
returns c =
    sym (run_ends c.args.w.now c.skip_plain-2.result c.skip_plain-2.ensures.stops) ∙ c.skip_plain-2.ensures.same_run ∙ c.skip_plain.ensures.same_run
