-- `writing::put::put_byte` meets its contract: a byte stored is a text of one byte written.
-- Assumes nothing.
use mathlib.Core.Path.{refl}
use Rattle.writing.proofs.Laws.Put.{set-put}
use Rattle.writing.proofs.put.put_byte.Goals as goal

pub returns : goal.returns
returns c = record { value = refl; out_after = set-put _ _ _ c.requires }
