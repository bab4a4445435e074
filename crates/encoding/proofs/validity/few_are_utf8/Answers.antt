-- `encoding::validity::few_are_utf8` meets its contract: what passes as characters of one and two bytes is text, and the walk by neighbours
-- is the check. Assumes nothing.
use Rattle.encoding.proofs.Laws.Neighbours.{text-after, short-text}
use mathlib.Core.Path.{sym, ◌∙◌}
use Rattle.encoding.proofs.validity.few_are_utf8.Goals as goal

pub returns-then-each_follows : goal.returns-then-each_follows
returns-then-each_follows c = sym (short-text _ (sym c.each_follows.ensures ∙ c.if-each_follows.true))

pub returns : goal.returns
returns c = c.each_follows-2.ensures ∙ text-after _
