-- `batch::tails::line_at` meets its contract. The loop's invariant: what remains of the line ends where the line ends, and has the
-- characters that are not counted yet. The measure is what is left of the slice. Assumes nothing.
use Prim.Native.Nat.{◌+◌, ◌≤◌}
use mathlib.Core.Path.{sym, ◌∙◌}
use native.Mathlib.Omega.{arith}
use lib.ListN.{length}
use borrow.Author.Rules.{rules}
use borrow.Author.Tests.{not-true, not-false}
use Rattle.batch.proofs.Laws.Tails.{remains-start, remains-fit, remains-part, left-within, left-taken, left-few, left-closed, left-fits, left-line}
use Rattle.batch.proofs.tails.line_at.Goals.{then-loop-at-test+else-not-has_lf, else-loop-at-test}
use Rattle.batch.proofs.tails.line_at.Goals as goal

pub loop-at-init : goal.loop-at-init
loop-at-init c = remains-start _ _ (omega arith)

pub overflow_add-chars : goal.overflow_add-chars
overflow_add-chars c =
    let l = c.loop-at in
    let clear = sym c.has_lf.ensures ∙ not-true _ c.if-not-has_lf.true-raw in
    omega (arith, remains-fit (remains-part (l.at + 16) _ l.invariant (omega arith) (omega arith) clear c.count_leads.ensures))

pub loop-at-preserved : goal.loop-at-preserved
loop-at-preserved c =
    let l = c.loop-at in
    let clear = sym c.has_lf.ensures ∙ not-true _ c.if-not-has_lf.true-raw in
    remains-part (l.at + 16) _ l.invariant (omega arith) (omega arith) clear c.count_leads.ensures

pub overflow_add-result : goal.overflow_add-result
overflow_add-result c =
    let l = c.loop-at in
    let within : l.at + c.line_length-n.result ≤ length c.args.w.now = left-within l.invariant _ c.line_length-n.ensures in
    search rules

pub slice_bounds-count_leads-end-2 : goal.slice_bounds-count_leads-end-2
slice_bounds-count_leads-end-2 c = left-taken c.loop-at.invariant _ c.line_length-n.ensures

pub count_leads-requires-2 : goal.count_leads-requires-2
count_leads-requires-2 c =
    let l = c.loop-at in
    let n : c.line_length-n.result ≤ 16 =
    elim c.loop-at-test.branch [
      | then-loop-at-test+else-not-has_lf u ↦
          omega (arith, left-closed l.invariant _ c.line_length-n.ensures _ (sym u.has_lf.ensures ∙ not-false _ u.if-not-has_lf.false-raw))
      | else-loop-at-test u ↦ omega (arith, left-few l.invariant _ c.line_length-n.ensures, u.loop-at-test.false)
    ] in
    omega (arith, left-taken l.invariant _ c.line_length-n.ensures)

pub overflow_add-result-2 : goal.overflow_add-result-2
overflow_add-result-2 c =
    let l = c.loop-at in
    let fits : l.chars + c.count_leads-2.result ≤ length c.args.w.now = left-fits l.invariant _ c.line_length-n.ensures _ c.count_leads-2.ensures in
    search rules

pub returns : goal.returns
returns c = left-line c.loop-at.invariant _ c.line_length-n.ensures _ c.count_leads-2.ensures
