-- `lines::line::has_tab` meets its contract: the slice's search is the definition's. Assumes nothing.
use mathlib.Core.Path.{◌∙◌}
use Rattle.lines.proofs.Laws.Tab.{list_any-tab}
use Rattle.lines.proofs.line.has_tab.Goals as goal

pub returns : goal.returns
returns c = c.contains.ensures.value ∙ list_any-tab c.args.w.now
