-- `encoding::validity::begins` meets its contract: the rows of table 3-7 leave out just these bytes. Assumes nothing.
use Rattle.encoding.proofs.Laws.Table37.{lead-ok}
use Rattle.encoding.proofs.validity.begins.Goals as goal

pub returns : goal.returns
returns c = lead-ok _
