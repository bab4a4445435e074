-- `encoding::plain::skip_plain` meets its contract. The loop's invariant: the run from the place on ends where the run from the start does.
-- Assumes nothing.
use Prim.Native.Nat.{◌+◌, ◌-◌}
use mathlib.Core.Path.{sym, ◌∙◌}
use native.Mathlib.Nat.{add-sub_cancel_left}
use native.Mathlib.Omega.{arith}
use lib.ListN.{drop, length-drop}
use Rattle.encoding.proofs.Laws.PlainRuns.{plain-short, plain-by-eights, run-on-bytes}
use Rattle.encoding.proofs.plain.skip_plain.Goals as goal

pub returns-then-not-are_plain-clause-stops : goal.returns-then-not-are_plain-clause-stops
returns-then-not-are_plain-clause-stops g c =
    let i = c.loop-i.i in
    let n = g.row.N in
    sym (plain-by-eights c.args.w.now i n (i + n - i) (add-sub_cancel_left i n) c.requires.whole_eights (omega (arith, c.loop-i-test.true)) c.as_chunks.ensures.front c.are_plain.ensures)
    ∙ c.if-not-are_plain.true

pub loop-i-preserved : goal.loop-i-preserved
loop-i-preserved g c =
    let l = c.loop-i in
    let w = c.args.w.now in
    let i = l.i in
    let n = g.row.N in
    let told = plain-by-eights w i n (i + n - i) (add-sub_cancel_left i n) c.requires.whole_eights (omega (arith, c.loop-i-test.true)) c.as_chunks.ensures.front c.are_plain.ensures in
    record { within = omega arith; same_run = run-on-bytes w i n c.requires.whole_eights (sym told ∙ c.if-not-are_plain.false) ∙ l.invariant.same_run }

pub returns-clause-stops : goal.returns-clause-stops
returns-clause-stops g c = let w = c.args.w.now in let i = c.loop-i.i in plain-short g.row.N (drop i w) (omega (arith, length-drop i w))
