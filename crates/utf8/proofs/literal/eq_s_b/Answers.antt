-- `utf8::literal::eq_s_b` meets its contract: the bytes between limit_backward and the cursor decide. Assumes nothing.
use Rattle.utf8.proofs.Laws.Steps.{stands-within, eq_s_b_of-sliced}
use Rattle.utf8.specs.Steps.{eq_s_b_of}
use native.Mathlib.Omega.{arith}
use mathlib.Core.Path.{sym, ◌∙◌}
use Rattle.utf8.proofs.literal.eq_s_b.Goals as goal

pub returns-then-not-stands_in : goal.returns-then-not-stands_in
unfolding eq_s_b_of
returns-then-not-stands_in c = rw (← c.stands_in.ensures, c.if-not-stands_in.true)

pub slice_bounds-before-count : goal.slice_bounds-before-count
slice_bounds-before-count c = (stands-within _ _ (sym c.stands_in.ensures ∙ c.if-not-stands_in.false)).low

pub slice_bounds-before-start : goal.slice_bounds-before-start
slice_bounds-before-start c =
    let h = stands-within _ _ (sym c.stands_in.ensures ∙ c.if-not-stands_in.false) in
    omega (arith, h.low, h.high, h.end)

pub slice_bounds-before-end : goal.slice_bounds-before-end
slice_bounds-before-end c =
    let h = stands-within _ _ (sym c.stands_in.ensures ∙ c.if-not-stands_in.false) in
    omega (arith, h.low, h.high, h.end)

pub returns-then-not-ends_with : goal.returns-then-not-ends_with
returns-then-not-ends_with c =
    rw (eq_s_b_of-sliced _ _ _ (sym c.stands_in.ensures ∙ c.if-not-stands_in.false), ← c.ends_with.ensures.value, c.if-not-ends_with.true)

pub returns : goal.returns
returns c =
    rw (eq_s_b_of-sliced _ _ _ (sym c.stands_in.ensures ∙ c.if-not-stands_in.false), ← c.ends_with.ensures.value, c.if-not-ends_with.false, c.moved_to.ensures)
