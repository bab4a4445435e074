-- `encoding::validity::part_len` meets its contract: nothing follows there, or a byte that does not go on with a character. Assumes nothing.
use native.Mathlib.Nat.{le_refl}
use native.Mathlib.Omega.{arith}
use lib.ListN.{length, drop, length-drop}
use Rattle.std.proofs.lemmas.List.{take_rest}
use Rattle.std.proofs.lemmas.List.Sums.{prefix_len-le-length}
use Rattle.encoding.specs.Encoding.{continuation}
use Rattle.encoding.proofs.Laws.Parts.{boundary_end, boundary-past}
use Rattle.encoding.proofs.validity.part_len.Goals as goal

pub returns-then-w-le128-clause-w_value : goal.returns-then-w-le128-clause-w_value
returns-then-w-le128-clause-w_value c = let w = c.args.w.now in boundary_end w (length w) (le_refl (length w))

pub overflow_add-result : goal.overflow_add-result
overflow_add-result c =
    let w = c.args.w.now in
    let e = rw take_rest at c.continuations.ensures in
    omega (arith, e, prefix_len-le-length continuation (drop 128 w), length-drop 128 w)

pub returns-clause-upper_bound : goal.returns-clause-upper_bound
returns-clause-upper_bound c =
    let w = c.args.w.now in
    let e = rw take_rest at c.continuations.ensures in
    omega (arith, e, prefix_len-le-length continuation (drop 128 w), length-drop 128 w)

pub returns-clause-w_value : goal.returns-clause-w_value
returns-clause-w_value c = boundary-past c.args.w.now 128 c.continuations.result (rw take_rest at c.continuations.ensures)
