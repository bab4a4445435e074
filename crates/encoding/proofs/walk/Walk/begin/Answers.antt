-- `encoding::walk::Walk::begin` meets its contract: past the run, or past a byte that begins a character. Assumes nothing.
use Prim.Native.Nat.{ℕ, ◌≤◌, zero-le}
use mathlib.Core.Bool.{true}
use mathlib.Core.Path.{◌≡◌, refl, sym, ◌∙◌, subst}
use native.Mathlib.Omega.{arith}
use lib.ListN.{length}
use Rattle.encoding.specs.Walked.{byte_before, short_next, walked}
use Rattle.encoding.proofs.Laws.PlainRuns.{run-upto}
use Rattle.encoding.proofs.Laws.Walked.{walked-run, walked-first}
use Rattle.encoding.proofs.walk.Walk.begin.Goals as goal

pub invariant_of-result : goal.invariant_of-result
invariant_of-result c =
    let w = c.args.word.now in
    let run = walked-run w 0 (unfold short_next in refl) (unfold byte_before in refl) in
    let p = subst (λ (r : ℕ). (r ≤ length w) × (walked w r ≡ true)) (sym c.run_end-run.ensures) (run-upto w 0 zero-le, run) in
    record { begun = c.if-run-gt0.true; within = p.0; over = p.1 }

pub invariant_of-result-then-begins : goal.invariant_of-result-then-begins
invariant_of-result-then-begins c = record {
  begun = omega arith;
  within = c.requires;
  over = walked-first c.args.word.now c.requires (sym c.begins.ensures ∙ c.if-begins.true);
}
