-- `batch::tails::find_tails` meets its contract. The loop's invariant: what is found of the lines before the place and what the rest has are
-- what all have. The measure is what is left of the slice. Assumes nothing.
use Prim.Native.Nat.{◌-◌, ◌≤◌, ◌<◌, max}
use mathlib.Core.Path.{◌≡◌, ◌∙◌}
use native.Mathlib.Omega.{arith}
use lib.ListN.{set}
use Rattle.batches.specs.BatchCalls.{most_tails}
use Rattle.batch.proofs.Laws.Tails.{nat_max, line-ends, line-within, found_none, found-line, found_all}
use Rattle.batch.proofs.tails.find_tails.Goals.{then-count-lt-TAILS, else-count-lt-TAILS}
use Rattle.batch.proofs.tails.find_tails.Goals as goal

pub loop-at-init : goal.loop-at-init
unfolding most_tails
loop-at-init c = found_none _

pub overflow_sub-end : goal.overflow_sub-end
overflow_sub-end c = omega (arith, line-ends _ _ c.line_at-line.ensures)

pub overflow_add-at : goal.overflow_add-at
overflow_add-at c =
    let w = c.args.slice.now in
    let l = c.loop-at in
    omega (arith, line-ends w l.at c.line_at-line.ensures, line-within w l.at (omega arith))

pub loop-at-smaller : goal.loop-at-smaller
loop-at-smaller c = omega (arith, line-ends _ _ c.line_at-line.ensures)

pub loop-at-preserved : goal.loop-at-preserved
unfolding most_tails
loop-at-preserved c =
    let l = c.loop-at in
    let line = c.line_at-line in
    let end = line.result.end in
    let stored : l.count < most_tails → c.if-count-lt-TAILS.ends ≡ set l.ends l.count end =
    elim c.if-count-lt-TAILS.branch [ then-count-lt-TAILS u ↦ λ h. u.ends-is | else-count-lt-TAILS u ↦ λ h. absurd (omega arith) ] in
    let kept : most_tails ≤ l.count → c.if-count-lt-TAILS.ends ≡ l.ends =
    elim c.if-count-lt-TAILS.branch [ then-count-lt-TAILS u ↦ λ h. absurd (omega arith) | else-count-lt-TAILS u ↦ λ h. u.ends-is ] in
    let most : c.max-longest.result ≡ max l.longest (end - l.at) = c.max-longest.ensures ∙ nat_max _ _ in
    found-line _ _ line.result l.invariant c.loop-at-test.true line.ensures stored kept most

pub returns : goal.returns
returns c = found_all c.loop-at.invariant c.loop-at-test.false
