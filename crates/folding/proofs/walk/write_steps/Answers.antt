-- `folding::walk::write_steps` meets its contract. The loop's invariant: the fold of what was passed is written, `at` is its end, and there is room
-- for the rest. The measure is what is left of the word. Assumes nothing.
use mathlib.Core.Path.{refl}
use native.Mathlib.Omega.{arith}
use borrow.Author.Rules.{rules}
use Rattle.folding.specs.FoldBytes.{taking}
use Rattle.folding.proofs.Laws.Steps.{stepped-at}
use Rattle.folding.proofs.Laws.Walks.{stepped-ascii, reached-start, reached-room, reached-next, reached-end}
use Rattle.folding.proofs.walk.write_steps.Goals as goal

pub loop-i-init : goal.loop-i-init
loop-i-init c = (omega arith, refl, reached-start c.args.w.now c.args.out.now c.requires)

pub put-at-requires : goal.put-at-requires
put-at-requires c =
    let l = c.loop-i in
    let given = c.fold_alone in
    let z = stepped-ascii c.args.w.now l.i given.result c.loop-i-test.true c.if-b-lt128.true given.ensures in
    reached-room c.args.w.now c.args.out.now l.out l.at l.i l.invariant.2 (taking 1 given.result) z l.invariant.1

pub loop-i-preserved-then-b-lt128 : goal.loop-i-preserved-then-b-lt128
loop-i-preserved-then-b-lt128 c =
    let given = c.fold_alone in
    let l = c.loop-i in
    let z = stepped-ascii c.args.w.now l.i given.result c.loop-i-test.true c.if-b-lt128.true given.ensures in
    let wrote = c.put-at.ensures in
    (omega arith, search rules, reached-next c.args.w.now c.args.out.now l.out l.at l.i l.invariant.2 (taking 1 given.result) z _ _ (wrote.value, wrote.out_after))

pub put-at-requires-in-loop-i : goal.put-at-requires-in-loop-i
put-at-requires-in-loop-i c =
    let l = c.loop-i in
    let step = c.fold_at-s in
    let z = stepped-at c.args.w.now l.i step.result c.loop-i-test.true step.ensures in
    reached-room c.args.w.now c.args.out.now l.out l.at l.i l.invariant.2 step.result z l.invariant.1

pub overflow_add-i-in-loop-i : goal.overflow_add-i-in-loop-i
overflow_add-i-in-loop-i c =
    let z = stepped-at c.args.w.now c.loop-i.i c.fold_at-s.result c.loop-i-test.true c.fold_at-s.ensures in
    omega arith

pub loop-i-smaller : goal.loop-i-smaller
loop-i-smaller c =
    let z = stepped-at c.args.w.now c.loop-i.i c.fold_at-s.result c.loop-i-test.true c.fold_at-s.ensures in
    omega arith

pub loop-i-preserved : goal.loop-i-preserved
loop-i-preserved c =
    let l = c.loop-i in
    let r = c.fold_at-s.result in
    let z = stepped-at c.args.w.now l.i r c.loop-i-test.true c.fold_at-s.ensures in
    let next = reached-next c.args.w.now c.args.out.now l.out l.at l.i l.invariant.2 r z _ _ (c.put-at-in-loop-i.ensures.value, c.put-at-in-loop-i.ensures.out_after) in
    (omega arith, search rules, next)

pub returns : goal.returns
returns c =
    let l = c.loop-i in let p = reached-end c.args.w.now c.args.out.now l.out l.at l.i l.invariant.2 c.loop-i-test.false in
    record { value = p.0; out_after = p.1 }
