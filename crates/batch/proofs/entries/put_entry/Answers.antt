-- `batch::entries::put_entry` meets its contract: the stage's answers at the entry's place, the length kept as a byte, since a joined word is within the
-- limit. Assumes nothing.
use Prim.Native.Nat.{◌+◌, ◌-◌, ◌≤◌}
use mathlib.Core.Path.{ap, ◌∙◌}
use lib.ListN.{length, set}
use borrow.Author.Rules.{rules}
use Rattle.turkish.specs.Calls.{limit}
use Rattle.batches.specs.BatchCalls.{bit}
use Rattle.batch.specs.declared.entries.Removal.{Removal}
use Rattle.batch.proofs.Laws.Removals.{from_bool-bit}
use Rattle.batch.proofs.entries.put_entry.Goals as goal

pub overflow_add-lengths : goal.overflow_add-lengths
unfolding limit
overflow_add-lengths c =
    let within : c.args.n + length c.args.tail.now ≤ limit = c.requires.tail_bound in
    search rules

pub overflow_sub-lengths : goal.overflow_sub-lengths
overflow_sub-lengths c =
    rw c.stem_behind-r.ensures.value c.requires.tail_bound_2

pub overflow_cast-lengths : goal.overflow_cast-lengths
unfolding limit
overflow_cast-lengths c =
    let within : c.args.n + length c.args.tail.now ≤ limit = c.requires.tail_bound in
    search rules

pub returns : goal.returns
returns c =
    let removal = c.stem_behind-r.ensures.value in
    record {
      word_after = c.stem_behind-r.ensures.word_after;
      lengths_after = ap (λ (r : Removal). set c.args.lengths.now c.args.i (c.args.n + length c.args.tail.now - r.bytes)) removal;
      answers_after = ap (set c.args.answers.now c.args.i) (c.from.ensures ∙ from_bool-bit _ ∙ ap (λ (r : Removal). bit r.yes) removal);
      flags_after = ap (set c.args.flags.now c.args.i) (c.from-2.ensures ∙ from_bool-bit _ ∙ ap (λ (r : Removal). bit r.flag) removal);
    }
