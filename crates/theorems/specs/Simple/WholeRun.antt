-- The whole run in the simple form: the syllable check, the suffix stage, the noun stage unless the flag is down, and the postlude. Assumes nothing.
use Rattle.std.specs.Prelude.{ℕ, cond, List}
use Rattle.theorems.specs.Simple.Harmony.{more_than_one_syllable}
use Rattle.theorems.specs.Simple.Stage.{stage, kept}
use Rattle.theorems.specs.Simple.Nouns.{noun_leaves}
use Rattle.theorems.specs.Simple.Postlude.{postlude}

-- a word of one syllable stays; a flag that is down ends the run behind the suffix stage
unfoldable pub whole_leaves : List ℕ → List ℕ
whole_leaves cs = cond (more_than_one_syllable cs) (cond (stage cs).flag (postlude (noun_leaves (kept cs))) (kept cs)) cs
