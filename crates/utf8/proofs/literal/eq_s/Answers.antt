-- `utf8::literal::eq_s` meets its contract: the bytes between the cursor and limit decide, where there are some. Assumes nothing.
use Rattle.utf8.proofs.Laws.Steps.{stands-within, eq_s_of-edge, eq_s_of-sliced}
use Rattle.utf8.specs.Steps.{eq_s_of}
use native.Mathlib.Omega.{arith}
use mathlib.Core.Path.{sym, ◌∙◌}
use Rattle.utf8.proofs.literal.eq_s.Goals as goal

pub returns-then-not-stands_in : goal.returns-then-not-stands_in
unfolding eq_s_of
returns-then-not-stands_in c = rw (← c.stands_in.ensures, c.if-not-stands_in.true)

pub returns-then-r : goal.returns-then-r
returns-then-r c = sym (eq_s_of-edge _ _ _ c.if-r.true)

pub slice_bounds-after-count : goal.slice_bounds-after-count
slice_bounds-after-count c = (stands-within _ _ (sym c.stands_in.ensures ∙ c.if-not-stands_in.false)).high

pub slice_bounds-after-start : goal.slice_bounds-after-start
slice_bounds-after-start c =
    let h = stands-within _ _ (sym c.stands_in.ensures ∙ c.if-not-stands_in.false) in
    omega (arith, h.high, h.end)

pub slice_bounds-after-end : goal.slice_bounds-after-end
slice_bounds-after-end c =
    let h = stands-within _ _ (sym c.stands_in.ensures ∙ c.if-not-stands_in.false) in
    omega (arith, h.high, h.end)

pub returns-then-not-starts_with : goal.returns-then-not-starts_with
returns-then-not-starts_with c =
    rw (eq_s_of-sliced _ _ _ (sym c.stands_in.ensures ∙ c.if-not-stands_in.false) c.if-r.false, ← c.starts_with.ensures.value, c.if-not-starts_with.true)

pub returns : goal.returns
returns c =
    rw (eq_s_of-sliced _ _ _ (sym c.stands_in.ensures ∙ c.if-not-stands_in.false) c.if-r.false, ← c.starts_with.ensures.value, c.if-not-starts_with.false, c.moved_to.ensures)
