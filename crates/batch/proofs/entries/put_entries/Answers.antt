-- `batch::entries::put_entries` meets its contract. The loop's invariant: the buffers hold the entries of the tails done, and the stand-in stands before the
-- next. Assumes nothing.
use Prim.Native.Nat.{◌≤◌, ◌<◌}
use mathlib.Core.Path.{refl}
use native.Mathlib.Omega.{arith}
use lib.ListN.{length, get_or}
use borrow.Author.Rules.{rules}
use Rattle.turkish.specs.Calls.{limit}
use Rattle.batches.specs.BatchCalls.{most_tails}
use Rattle.batches.proofs.Laws.Batches.{batch-answered}
use Rattle.fronts.proofs.Laws.StandIn.{stand_in_room-is}
use Rattle.batch.specs.Removal.{word_room}
use Rattle.batch.proofs.Laws.Tails.{survey-count, tails-survey}
use Rattle.batch.proofs.Laws.Entries.{entered-none, entered_all, below, at-end, end-within, ready, again}
use Rattle.batch.proofs.entries.put_entries.Goals as goal

pub summary_of-requires : goal.summary_of-requires
summary_of-requires c = (batch-answered _ c.requires.flags_value).front

pub slice_bounds-put_stand_in-end : goal.slice_bounds-put_stand_in-end
slice_bounds-put_stand_in-end c = refl

pub put_stand_in-m-requires : goal.put_stand_in-m-requires
put_stand_in-m-requires c = omega (arith, stand_in_room-is)

pub loop-i-init : goal.loop-i-init
unfolding word_room limit
loop-i-init c = entered-none _ _ _ _ (omega (arith, stand_in_room-is)) (rw c.summary_of.ensures at c.put_stand_in-m.ensures.value, rw c.summary_of.ensures at c.put_stand_in-m.ensures.out_after)

pub offset_bounds-t-i : goal.offset_bounds-t-i
unfolding most_tails
offset_bounds-t-i c =
    let few : c.loop-i.i < 64 = below _ _ _ _ _ _ _ _ c.loop-i.invariant c.requires.flags_value _ c.requires.t_value c.loop-i-test.true in
    search rules

pub bounds-t-i : goal.bounds-t-i
unfolding most_tails
bounds-t-i c =
    below _ _ _ _ _ _ _ _ c.loop-i.invariant c.requires.flags_value _ c.requires.t_value c.loop-i-test.true

pub slice_bounds-put_entry-end : goal.slice_bounds-put_entry-end
unfolding word_room limit
slice_bounds-put_entry-end c = omega (arith, c.loop-i.invariant.room, stand_in_room-is)

pub slice_bounds-put_entry-count : goal.slice_bounds-put_entry-count
slice_bounds-put_entry-count c =
    let l = c.loop-i in
    at-end _ _ _ _ _ _ _ _ l.invariant c.requires.flags_value _ c.requires.t_value c.loop-i-test.true

pub slice_bounds-put_entry-start : goal.slice_bounds-put_entry-start
slice_bounds-put_entry-start c =
    let l = c.loop-i in
    at-end _ _ _ _ _ _ _ _ l.invariant c.requires.flags_value _ c.requires.t_value c.loop-i-test.true

pub slice_bounds-put_entry-end-in-loop-i : goal.slice_bounds-put_entry-end-in-loop-i
slice_bounds-put_entry-end-in-loop-i c =
    let l = c.loop-i in
    end-within _ _ _ _ _ _ _ _ l.invariant c.requires.flags_value _ c.requires.t_value c.loop-i-test.true

pub put_entry-requires : goal.put_entry-requires
put_entry-requires c =
    let l = c.loop-i in let p = ready _ _ _ _ _ _ _ _ l.invariant c.requires.flags_value _ c.requires.t_value c.loop-i-test.true in
    record {
      tail_in_bounds = p.0;
      tail_bound = p.1.0;
      tail_bound_2 = p.1.1.0;
      i_in_bounds = p.1.1.1.0;
      i_in_bounds_2 = p.1.1.1.1.0;
      i_in_bounds_3 = p.1.1.1.1.1;
    }

pub overflow_add-at : goal.overflow_add-at
overflow_add-at c =
    let l = c.loop-i in
    let inside : get_or c.args.t.ends l.i 0 ≤ length c.args.slice.now =
    end-within _ _ _ _ _ _ _ _ l.invariant c.requires.flags_value _ c.requires.t_value c.loop-i-test.true in
    search rules

pub loop-i-preserved : goal.loop-i-preserved
loop-i-preserved c =
    let l = c.loop-i in
    again _ _ _ _ _ _ _ _ l.invariant c.requires.flags_value _ c.requires.t_value c.loop-i-test.true _ _ _ _ (c.put_entry.ensures.word_after, (c.put_entry.ensures.lengths_after, (c.put_entry.ensures.answers_after, c.put_entry.ensures.flags_after)))

pub shape_of-lengths : goal.shape_of-lengths
shape_of-lengths c = c.loop-i.invariant.sizes.0

pub shape_of-answers : goal.shape_of-answers
shape_of-answers c = c.loop-i.invariant.sizes.1

pub shape_of-flags : goal.shape_of-flags
shape_of-flags c = c.loop-i.invariant.sizes.2

pub returns : goal.returns
returns c =
    let p = entered_all _ _ _ _ _ _ _ _ c.loop-i.invariant c.requires.flags_value (omega (arith, survey-count _ (tails-survey _ c.requires.t_value), c.loop-i-test.false)) in
    record { lengths_after = p.0; answers_after = p.1.0; flags_after = p.1.1 }
