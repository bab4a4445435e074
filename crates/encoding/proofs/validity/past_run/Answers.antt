-- `encoding::validity::past_run` meets its contract: past a plain run the check is the same. Assumes nothing.
use mathlib.Core.Path.{◌∙◌, ap}
use Prim.Native.Nat.{zero-le}
use native.Mathlib.Omega.{arith}
use Rattle.encoding.specs.Validity.{is_text}
use Rattle.encoding.proofs.Laws.PlainRuns.{run-upto}
use Rattle.encoding.proofs.Laws.Parts.{text-run}
use Rattle.encoding.proofs.validity.past_run.Goals as goal

pub split_at-requires : goal.split_at-requires
split_at-requires c = omega (arith, c.run_end.ensures, run-upto c.args.w.now 0 zero-le)

pub returns-clause-w_value : goal.returns-clause-w_value
returns-clause-w_value c =
    let w = c.args.w.now in
    let at = rw c.run_end.ensures at c.split_at.ensures.back in
    ap is_text at ∙ text-run w 0
