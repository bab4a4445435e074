-- `encoding::walk::Walk::skip` meets its contract: the run is walked over where no byte is owed. Assumes nothing.
use Prim.Native.Nat.{ℕ, ◌≤◌}
use mathlib.Core.Bool.{true}
use mathlib.Core.Path.{◌≡◌, sym, ◌∙◌, subst}
use native.Mathlib.Omega.{arith}
use lib.ListN.{length}
use Rattle.encoding.specs.Walked.{walked}
use Rattle.encoding.proofs.Laws.PlainRuns.{run-from, run-upto}
use Rattle.encoding.proofs.Laws.Walked.{walked-run}
use Rattle.encoding.proofs.walk.Walk.skip.Goals as goal

pub invariant_of-result : goal.invariant_of-result
invariant_of-result c =
    let s = c.args.self in
    let w = s.word.now in
    let over = walked-run w s.at s.over (sym c.is_owed.ensures ∙ c.if-is_owed.false) in
    let p = subst (λ (r : ℕ). (r ≤ length w) × (walked w r ≡ true)) (sym c.run_end.ensures) (run-upto w s.at s.within, over) in
    record { begun = omega (arith, c.run_end.ensures, run-from w s.at, s.begun); within = p.0; over = p.1 }

pub returns-clause-lower_bound : goal.returns-clause-lower_bound
returns-clause-lower_bound c = let s = c.args.self in omega (arith, c.run_end.ensures, run-from s.word.now s.at)
