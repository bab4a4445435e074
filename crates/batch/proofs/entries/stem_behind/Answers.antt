-- `batch::entries::stem_behind` meets its contract: the tail is put behind the first bytes of the word, and the stage's word ends with it.
-- Assumes nothing.
use Rattle.batch.proofs.Laws.Removals.{behind-end, behind-kept, behind-removal}
use Rattle.batch.proofs.entries.stem_behind.Goals as goal

pub slice_bounds-stem_nominal_verb_suffixes-end-2 : goal.slice_bounds-stem_nominal_verb_suffixes-end-2
slice_bounds-stem_nominal_verb_suffixes-end-2 c =
    behind-end _ _ c.args.tail.now c.args.word.now _ c.requires (c.put_all-end.ensures.value, c.put_all-end.ensures.out_after)

pub overflow_sub-result : goal.overflow_sub-result
overflow_sub-result c =
    behind-kept _ _ c.args.tail.now c.args.word.now _ c.requires (c.put_all-end.ensures.value, c.put_all-end.ensures.out_after) _ c.stem_nominal_verb_suffixes-o.ensures

pub returns : goal.returns
returns c = record {
  value = behind-removal _ _ c.args.tail.now c.args.word.now _ c.requires (c.put_all-end.ensures.value, c.put_all-end.ensures.out_after) _ c.stem_nominal_verb_suffixes-o.ensures;
  word_after = c.put_all-end.ensures.out_after;
}
