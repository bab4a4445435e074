-- What turkish.sbl's routines answer for a word, entered where documents 01 and 02 (request 4) enter them: the suffix stage and the noun
-- stage backwards at the word's end, the syllable check, the postlude and the whole run forwards at its start. A word is the list of its characters, the last one first. Assumes nothing.
use Rattle.std.specs.Prelude.{ℕ, Bool, true, false, List, reverse}
use Rattle.turkish.specs.Snowball.{State, Result, done, failed, Direction, forward, backward, Command, run}
use Rattle.turkish.specs.Source.{stem_nominal_verb_suffixes, stem_noun_suffixes, more_than_one_syllable_word, postlude, stem}

-- a text at its first character, with nothing set; no answer depends on what is set
unfoldable pub entered : List ℕ → State
entered t = record { text = t; cursor = 0; ket = 0; bra = 0; flag = false; strlen = 0; found = 0 }

-- a routine of the source; what stands for `self` is never asked, since the only call of `itself` is inside `routine`
unfoldable pub called : Direction → Command → State → Result
called d p s = run d failed p s

-- whether it succeeded, and the state that it left
unfoldable pub succeeded : Result → Bool
succeeded (done s) = true
succeeded (failed s) = false

unfoldable pub left : Result → State
left (done s) = s
left (failed s) = s

-- more_than_one_syllable_word: yes or no
unfoldable pub syllable_check : List ℕ → Bool
syllable_check cs = succeeded (called forward more_than_one_syllable_word (entered (reverse cs)))

-- stem_nominal_verb_suffixes: yes or no, the text it leaves, and the flag
pub record Stemmed : Type 0 where
  pub yes : Bool
  pub text : List ℕ
  pub flag : Bool

unfoldable pub stemmed : Result → Stemmed
stemmed r = record { yes = succeeded r; text = (left r).text; flag = (left r).flag }

unfoldable pub suffix_stage : List ℕ → Stemmed
suffix_stage cs = stemmed (called backward stem_nominal_verb_suffixes (entered cs))

-- postlude: yes or no, and the text it leaves
pub record Repaired : Type 0 where
  pub yes : Bool
  pub text : List ℕ

unfoldable pub repaired : Result → Repaired
repaired r = record { yes = succeeded r; text = reverse (left r).text }

unfoldable pub postlude_of : List ℕ → Repaired
postlude_of cs = repaired (called forward postlude (entered (reverse cs)))

-- stem_noun_suffixes: yes or no, and the text it leaves
pub record Uninflected : Type 0 where
  pub yes : Bool
  pub text : List ℕ

unfoldable pub uninflected : Result → Uninflected
uninflected r = record { yes = succeeded r; text = (left r).text }

unfoldable pub noun_stage : List ℕ → Uninflected
noun_stage cs = uninflected (called backward stem_noun_suffixes (entered cs))

-- stem, the whole run: the text it leaves, whether it succeeded or ended early
unfoldable pub whole_run : List ℕ → List ℕ
whole_run cs = reverse (left (called forward stem (entered (reverse cs)))).text
