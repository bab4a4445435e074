-- `keys::seen::read_three` meets its contract: three characters read one after the other. Assumes nothing.
use native.Mathlib.Omega.{arith}
use Rattle.utf8.proofs.Laws.Part.{low-length-le, low-cursor-le, cursor-length-le, cursor-part-le}
use Rattle.keys.proofs.Laws.Reads.{first-le, second-le, third-le, three_at-made}
use Rattle.keys.proofs.seen.read_three.Goals as goal

pub slice_bounds-part-count : goal.slice_bounds-part-count
slice_bounds-part-count c = low-length-le _ _ c.requires

pub slice_bounds-part-start : goal.slice_bounds-part-start
slice_bounds-part-start c = low-length-le _ _ c.requires

pub overflow_sub-c : goal.overflow_sub-c
overflow_sub-c c = low-cursor-le _ _ c.requires

pub read_short_back-a-requires : goal.read_short_back-a-requires
read_short_back-a-requires c = cursor-part-le _ _ c.requires

pub read_short_back-b-requires : goal.read_short_back-b-requires
read_short_back-b-requires c =
    let w = c.args.w.now in
    let r = c.args.c in
    omega (arith, cursor-part-le w r c.requires, first-le w r c.read_short_back-a.ensures)

pub read_short_back-d-requires : goal.read_short_back-d-requires
read_short_back-d-requires c =
    let w = c.args.w.now in
    let r = c.args.c in
    omega (arith, cursor-part-le w r c.requires, second-le w r c.read_short_back-a.ensures c.read_short_back-b.ensures)

pub overflow_add-result : goal.overflow_add-result
overflow_add-result c =
    let w = c.args.w.now in
    let r = c.args.c in
    omega (arith, cursor-length-le w r c.requires, low-cursor-le w r c.requires, first-le w r c.read_short_back-a.ensures)

pub overflow_add-result-2 : goal.overflow_add-result-2
overflow_add-result-2 c =
    let w = c.args.w.now in
    let r = c.args.c in
    omega (arith, cursor-length-le w r c.requires, low-cursor-le w r c.requires, second-le w r c.read_short_back-a.ensures c.read_short_back-b.ensures)

pub overflow_add-result-3 : goal.overflow_add-result-3
overflow_add-result-3 c =
    let w = c.args.w.now in
    let r = c.args.c in
    let third = third-le w r c.read_short_back-a.ensures c.read_short_back-b.ensures c.read_short_back-d.ensures in
    omega (arith, cursor-length-le w r c.requires, low-cursor-le w r c.requires, third)

pub returns : goal.returns
returns c =
    three_at-made c.args.w.now c.args.c c.read_short_back-a.ensures c.read_short_back-b.ensures c.read_short_back-d.ensures
