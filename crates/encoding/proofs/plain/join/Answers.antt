-- `encoding::plain::join` meets its contract: what std makes of eight bytes is the joined bytes. Assumes nothing.
use mathlib.Core.Path.{◌∙◌}
use Rattle.encoding.proofs.Laws.PlainRuns.{joined_word}
use Rattle.encoding.proofs.plain.join.Goals as goal

pub returns : goal.returns
returns c = c.from_le_bytes.ensures ∙ joined_word c.args.eight.now c.told-eight
