-- `utf8::characters::width` meets its contract: the first byte that does not go on tells the width. Assumes nothing.
use Rattle.utf8.proofs.Laws.Widths.{width_one, width_two, width_three, width-fourth}
use mathlib.Core.Path.{sym, ◌∙◌}
use Rattle.utf8.proofs.characters.width.Goals as goal

pub returns-then-not-goes_on : goal.returns-then-not-goes_on
returns-then-not-goes_on g c t h = sym (width_one _ _ _ (sym (h 1 _ c.goes_on.ensures) ∙ c.if-not-goes_on.true))

pub returns-then-not-goes_on-2 : goal.returns-then-not-goes_on-2
returns-then-not-goes_on-2 g c t h =
    let first = sym (h 1 _ c.goes_on.ensures) ∙ c.if-not-goes_on.false in
    sym (width_two _ _ _ first (sym (h 2 _ c.goes_on-2.ensures) ∙ c.if-not-goes_on-2.true))

pub returns-then-not-goes_on-3 : goal.returns-then-not-goes_on-3
returns-then-not-goes_on-3 g c t h =
    let first = sym (h 1 _ c.goes_on.ensures) ∙ c.if-not-goes_on.false in
    let second = sym (h 2 _ c.goes_on-2.ensures) ∙ c.if-not-goes_on-2.false in
    sym (width_three _ _ _ first second (sym (h 3 _ c.goes_on-3.ensures) ∙ c.if-not-goes_on-3.true))

pub returns : goal.returns
returns g c t h =
    let first = sym (h 1 _ c.goes_on.ensures) ∙ c.if-not-goes_on.false in
    let second = sym (h 2 _ c.goes_on-2.ensures) ∙ c.if-not-goes_on-2.false in
    sym (width-fourth _ _ _ first second (sym (h 3 _ c.goes_on-3.ensures) ∙ c.if-not-goes_on-3.false))
