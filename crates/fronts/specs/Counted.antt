-- When a character can be added to a summary: no count grows out of its number. Assumes nothing.
use Rattle.std.specs.Prelude.{ℕ, ◌≤◌, ◌<◌, List, length, get_or}
use Rattle.turkish.specs.declared.summary.Summary.{Summary}
use Rattle.turkish.specs.Vowels.{vowels}
use Rattle.turkish.specs.Calls.{limit}

-- the number is a vowel's or 0, and no count is at the limit
pub record Countable (number : ℕ) (counts : List ℕ) : Type 0 where
  pub known : number ≤ length vowels
  pub below : (k : ℕ) → get_or counts k 0 < limit

-- so of a summary
abbrev pub Counted : Summary → Type 0
Counted s = Countable s.last s.counts
