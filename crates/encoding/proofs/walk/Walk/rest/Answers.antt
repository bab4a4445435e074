-- `encoding::walk::Walk::rest` meets its contract: no byte is owed at the place, or the one before it asks for one. Assumes nothing.
use mathlib.Core.Path.{sym, ◌∙◌}
use Rattle.std.proofs.lemmas.List.{take_rest}
use Rattle.encoding.proofs.Laws.Walked.{text-from, text-before}
use Rattle.encoding.proofs.walk.Walk.rest.Goals as goal

pub returns-then-is_owed : goal.returns-then-is_owed
returns-then-is_owed c =
    let s = c.args.self in rw take_rest (text-before s.word.now s.at s.begun s.over (sym c.is_owed.ensures ∙ c.if-is_owed.true))

pub returns : goal.returns
returns c = let s = c.args.self in rw take_rest (text-from s.word.now s.at s.over (sym c.is_owed.ensures ∙ c.if-is_owed.false))
