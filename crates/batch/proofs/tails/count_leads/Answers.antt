-- `batch::tails::count_leads` meets its contract. The loop's invariant: those counted so far and those of the bytes from the place on are those
-- of all of them. Assumes nothing.
use Prim.Native.Nat.{◌+◌, ◌≤◌}
use mathlib.Core.Path.{◌≡◌}
use native.Mathlib.Nat.{zero-add}
use native.Mathlib.Omega.{arith}
use lib.ListN.{get_or}
use borrow.Author.Rules.{rules}
use Rattle.batch.proofs.Laws.Tails.{lead, lead-bit, leads-next, leads-last, leads-le}
use Rattle.batch.proofs.tails.count_leads.Goals as goal

pub loop-b-init : goal.loop-b-init
loop-b-init c = zero-add _

pub overflow_add-k : goal.overflow_add-k
overflow_add-k c =
    let w = c.args.part.now in
    let one : c.from-k.result ≡ lead (get_or w c.loop-b.b-index 0) = lead-bit _ c.is_continuation.ensures c.from-k.ensures in
    let few : c.loop-b.k + c.from-k.result ≤ 16 =
    omega (arith, c.requires, c.loop-b.invariant, one, leads-next w c.loop-b.b-index c.loop-b-test.true, leads-le w) in
    search rules

pub loop-b-preserved : goal.loop-b-preserved
loop-b-preserved c =
    let w = c.args.part.now in
    let one : c.from-k.result ≡ lead (get_or w c.loop-b.b-index 0) = lead-bit _ c.is_continuation.ensures c.from-k.ensures in
    omega (arith, c.loop-b.invariant, one, leads-next w c.loop-b.b-index c.loop-b-test.true)

pub returns : goal.returns
returns c = omega (arith, c.loop-b.invariant, leads-last c.args.part.now c.loop-b.b-index c.loop-b-test.false)
