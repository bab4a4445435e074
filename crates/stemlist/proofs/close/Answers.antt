-- `stemlist::close` writes what the input's end closes: it ends within the output, which kept its length. Assumes nothing.
use Rattle.std.proofs.Common.{◌≡◌, arith, ap, length, take, length-take}
use Rattle.writing.proofs.Laws.Put.{put-end}
use Rattle.listing.specs.Feed.{last_out}
use Rattle.stemlist.proofs.Turns.{front-written}
use Rattle.stemlist.proofs.close.Goals as goal

pub slice_bounds-write_all-end : goal.slice_bounds-write_all-end
slice_bounds-write_all-end g c =
    let a = c.args in
    omega (arith, put-end 0 (last_out a.folded c.as_slice.result.now) a.out.now (omega arith), ap length c.finish-last.ensures.out_after)

pub slice_bounds-write_all-end-2 : goal.slice_bounds-write_all-end-2
slice_bounds-write_all-end-2 g c =
    let a = c.args in
    let written = put-end 0 (last_out a.folded c.as_slice.result.now) a.out.now (omega arith) in
    omega (arith, written, ap length c.finish-last.ensures.out_after, length-take c.finish-last.result c.finish-last.new.out)

pub returns-clause-written : goal.returns-clause-written
returns-clause-written g c =
    let a = c.args in
    let e = c.finish-last.ensures in
    let text : take c.finish-last.result c.finish-last.new.out ≡ last_out a.folded a.held.now =
    rw (← c.as_slice.ensures) (front-written _ a.out.now _ _ e.value e.out_after) in
    rw (← text) c.write_all.ensures.bytes
