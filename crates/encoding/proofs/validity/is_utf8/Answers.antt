-- `encoding::validity::is_utf8` meets its contract. The loop's invariant: the check of the rest is the check of the word. Assumes nothing.
use mathlib.Core.Path.{sym, ap, ◌∙◌}
use native.Mathlib.Nat.{le_of_eq}
use borrow.Author.Tests.{eqb-true}
use Rattle.encoding.specs.Validity.{is_text}
use Rattle.encoding.proofs.Laws.Neighbours.{text-after}
use Rattle.encoding.proofs.Laws.Parts.{text-parts, text-over}
use Rattle.encoding.proofs.validity.is_utf8.Goals as goal

pub returns-then-not-each_follows : goal.returns-then-not-each_follows
returns-then-not-each_follows c =
    let l = c.loop-rest in
    let fails = sym (ap is_text c.split_at.ensures.front) ∙ sym (c.each_follows.ensures ∙ text-after _) ∙ c.if-not-each_follows.true in
    text-parts l.rest.now c.part_len.result c.part_len.ensures.w_value fails ∙ l.invariant

pub loop-rest-preserved : goal.loop-rest-preserved
loop-rest-preserved c =
    let l = c.loop-rest in
    let passes = sym (ap is_text c.split_at.ensures.front) ∙ sym (c.each_follows.ensures ∙ text-after _) ∙ c.if-not-each_follows.false in
    c.past_run-rest.ensures.w_value ∙ ap is_text c.split_at.ensures.back ∙ text-parts l.rest.now c.part_len.result c.part_len.ensures.w_value passes ∙ l.invariant

pub returns : goal.returns
returns c = let l = c.loop-rest in text-over l.rest.now 0 (le_of_eq (eqb-true _ 0 (sym c.is_empty.ensures ∙ c.loop-rest-test.false))) ∙ l.invariant
