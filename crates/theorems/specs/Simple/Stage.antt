-- The suffix stage in the simple form (document 01, "Suffix stage"): six branches of marks, and how many characters they take. The
-- routine that turkish.sbl calls mark_ymUs_ is ymUs here. Assumes nothing.
use Rattle.std.specs.Prelude.{ℕ, Bool, true, false, List, length, drop}
use Rattle.utf8.specs.Characters.{back}
use Rattle.theorems.specs.Simple.Grammar.{Out, fail, took, Command, mark, ◌then◌, ◌or◌, nothing, unset, try, run}
use Rattle.turkish.specs.Calls.{chars}
use Rattle.theorems.specs.Simple.Marks.{yUm, sUn, yUz, sUnUz, lAr, nUz, DUr, cAsInA, yDU, ysA, ymUs, yken}

-- lines 316 and 327 share this group
unfoldable pub person : Command
person = mark sUnUz or mark lAr or mark yUm or mark sUn or mark yUz or nothing

-- line 314
unfoldable pub branch1 : Command
branch1 = mark ymUs or mark yDU or mark ysA or mark yken

-- line 316
unfoldable pub branch2 : Command
branch2 = mark cAsInA then person then mark ymUs

-- lines 318 to 320
unfoldable pub branch3 : Command
branch3 = mark lAr then try (mark DUr or mark yDU or mark ysA or mark ymUs) then unset

-- line 323
unfoldable pub branch4 : Command
branch4 = mark nUz then (mark yDU or mark ysA)

-- line 325
unfoldable pub branch5 : Command
branch5 = (mark sUnUz or mark yUz or mark sUn or mark yUm) then try (mark ymUs)

-- line 327
unfoldable pub branch6 : Command
branch6 = mark DUr then try (person then mark ymUs)

unfoldable pub branches : Command
branches = branch1 or branch2 or branch3 or branch4 or branch5 or branch6

-- what the stage answers: the characters that it removes, yes or no, and the flag; none fits: no, nothing removed, flag true
pub record Staged : Type 0 where
  pub removed : ℕ
  pub yes : Bool
  pub flag : Bool

unfoldable pub staged : Out → Staged
staged fail = record { removed = 0; yes = false; flag = true }
staged (took k f) = record { removed = k; yes = true; flag = f }

unfoldable pub stage : List ℕ → Staged
stage cs = staged (run branches cs)

-- the characters that the stage keeps
unfoldable pub kept : List ℕ → List ℕ
kept cs = drop (stage cs).removed cs

-- the place in a word of bytes before which they stand
unfoldable pub kept_length : List ℕ → ℕ
kept_length w = back w (length w) (stage (chars w)).removed
