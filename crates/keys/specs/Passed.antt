-- A step back within one record, as the code holds it: the place that it came to, if it moved. Assumes nothing.
use Rattle.std.specs.Prelude.{ℕ, List, Option, Some, None}
use Rattle.utf8.specs.declared.cursor.Cursor.{Cursor}
use Rattle.utf8.specs.Behind.{back_by}
use Rattle.theorems.specs.Simple.Grammar.{Out, fail, took}

-- a command's answer from a record
unfoldable pub passes : List ℕ → Cursor → Out → Option ℕ
passes w c fail = None
passes w c (took k f) = Some (back_by w c k).cursor
