-- The word pass (document 01, "Word pass"), an addition to turkish.sbl. Assumes nothing.
use Rattle.std.specs.Prelude.{ℕ, Bool, true, false, cond, List}
use Rattle.turkish.specs.Answers.{syllable_check, Stemmed, suffix_stage, postlude_of}

-- the pass: its text, the syllable answer, the stage's answer and the flag
pub record Passed : Type 0 where
  pub text : List ℕ
  pub syllable : Bool
  pub yes : Bool
  pub flag : Bool

-- where the stage's flag is true the postlude of the text that it leaves, else that text
unfoldable pub pass_stage : Stemmed → Passed
pass_stage t = record { text = cond t.flag (postlude_of t.text).text t.text; syllable = true; yes = t.yes; flag = t.flag }

-- a word of one syllable or none is copied
unfoldable pub pass : List ℕ → Passed
pass cs = cond (syllable_check cs) (pass_stage (suffix_stage cs)) (record { text = cs; syllable = false; yes = false; flag = true })
