-- `stemlist::drain`: each call of `feed` takes some of the block, and writes and holds what the listing's definitions say of that part.
-- Assumes nothing.
use Rattle.std.proofs.Common.{◌≡◌, ◌++◌, arith, ap, sym, ◌∙◌, length, take, length-take}
use Rattle.std.proofs.KnownBytes.{Appends-trans}
use Rattle.listing.specs.Feed.{fed_out}
use Rattle.listing.proofs.Laws.OneCall.{feeding-call, call-turn, fed_line-end}
use Rattle.stemlist.proofs.Turns.{out-turn, written-turn, written-end}
use Rattle.stemlist.proofs.drain.Goals as goal

pub slice_bounds-write_all-end : goal.slice_bounds-write_all-end
slice_bounds-write_all-end g c =
    let a = c.args in
    let l = c.loop-used in
    let call = feeding-call a.folded a.block.now l.used l.held l.out in
    omega (arith, c.feed-p.ensures.written_value, call.within, ap length c.feed-p.ensures.out_after)

pub slice_bounds-write_all-end-in-loop-used : goal.slice_bounds-write_all-end-in-loop-used
slice_bounds-write_all-end-in-loop-used g c =
    let a = c.args in
    let l = c.loop-used in
    let call = feeding-call a.folded a.block.now l.used l.held l.out in
    omega (arith, c.feed-p.ensures.written_value, call.within, ap length c.feed-p.ensures.out_after, length-take c.feed-p.result.written c.feed-p.new.out)

pub loop-used-smaller : goal.loop-used-smaller
loop-used-smaller g c =
    let a = c.args in
    let l = c.loop-used in
    let call = feeding-call a.folded a.block.now l.used l.held l.out in
    omega (arith, c.feed-p.ensures.used_value, call.used-more (omega arith) (omega arith))

pub loop-used-preserved : goal.loop-used-preserved
loop-used-preserved g c =
    let a = c.args in
    let l = c.loop-used in
    let e = c.feed-p.ensures in
    let call = feeding-call a.folded a.block.now l.used l.held l.out in
    let (written, joined, appended) = l.invariant.lines in
    record {
      out_len = omega (arith, c.feed-p.auto.out, l.invariant.out_len);
      within = omega (arith, e.used_value, call.used_le (omega arith));
      line = call-turn call e.used_value e.held_after ∙ l.invariant.line;
      lines = (
        written ++ take c.feed-p.result.written c.feed-p.new.out,
        written-turn written _ _ joined (out-turn call e.used_value e.held_after e.written_value e.out_after),
        Appends-trans _ _ _ _ _ appended c.in_ok-write_all.ensures.bytes,
      );
    }

pub returns-clause-held_after : goal.returns-clause-held_after
returns-clause-held_after g c =
    let l = c.loop-used in
    sym (fed_line-end l.held c.args.block.now l.used (omega arith)) ∙ l.invariant.line

pub returns-clause-written : goal.returns-clause-written
returns-clause-written g c =
    let l = c.loop-used in
    let (written, joined, appended) = l.invariant.lines in
    let all : written ≡ fed_out c.args.folded c.args.held.now c.args.block.now =
    written-end c.args.folded l.held c.args.block.now l.used (omega arith) joined in
    rw (← all) appended
