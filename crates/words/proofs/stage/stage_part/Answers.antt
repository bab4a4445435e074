-- `words::stage::stage_part` meets its contract: whether the word is refused says which case of `stage_part_of` holds; the text kept lies within
-- the word. Assumes nothing.
use mathlib.Core.Path.{sym, ◌∙◌}
use Rattle.stages.proofs.Laws.Kept.{kept-length-take}
use Rattle.words.proofs.Laws.WordCalls.{stage_part_of-refused, stage_part_of-given}
use native.Mathlib.Omega.{arith}
use Rattle.words.proofs.stage.stage_part.Goals as goal

pub returns-then-refused : goal.returns-then-refused
returns-then-refused c = stage_part_of-refused _ _ c.new.ensures.number (sym c.is_err-refused.ensures.value ∙ c.if-refused.true)

pub slice_bounds-result-end-2 : goal.slice_bounds-result-end-2
slice_bounds-result-end-2 c =
    let as_long = kept-length-take _ _ c.stem_nominal_verb_suffixes-s.ensures in omega arith

pub returns : goal.returns
returns c =
    stage_part_of-given _ _ c.new.ensures.number (sym c.is_err-refused.ensures.value ∙ c.if-refused.false) _ c.stem_nominal_verb_suffixes-s.ensures
