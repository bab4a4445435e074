-- `probe::probe_run_end` meets its contract: past the word there is no run, elsewhere the library's answer. Assumes nothing.
use mathlib.Core.Path.{sym}
use native.Mathlib.Omega.{arith}
use lib.ListN.{drop, length-drop}
use Rattle.encoding.specs.PlainRuns.{word_bytes}
use Rattle.encoding.proofs.Laws.PlainRuns.{plain-short, run_ends}
use Rattle.probe.proofs.probe_run_end.Goals as goal

pub returns-then-w-from : goal.returns-then-w-from
returns-then-w-from c =
    let w = c.args.w.now in
    let i = c.args.from in
    sym (run_ends w i (plain-short word_bytes (drop i w) (omega (arith, length-drop i w))))

pub returns : goal.returns
returns c = c.run_end.ensures
