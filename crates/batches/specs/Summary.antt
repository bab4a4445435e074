-- The summary of a front (document 02, request 7): its last vowel, and how often each of the eight vowels stands before that one. Characters are
-- told nearest first. Assumes nothing.
use Rattle.std.specs.Prelude.{ℕ, zero, suc, ◌+◌, ◌-◌, cond, List, [], ◌∷◌, map, length, get_or, set, eqb}
use Rattle.turkish.specs.declared.summary.Summary.{Summary}
use Rattle.turkish.specs.Vowels.{vowels, vowel, last_vowel_of, before_last_vowel}
use Rattle.turkish.specs.Answers.{suffix_stage}
use Rattle.theorems.specs.Simple.Harmony.{to_first}
use Rattle.turkish.specs.Calls.{chars}

-- a vowel's number, from 1 in the order of turkish.sbl's `vowel`; 0 for any other character
unfoldable pub vowel_number : ℕ → ℕ
vowel_number c = cond (vowel c) (to_first (eqb c) vowels) 0

-- how often a character stands among others
unfoldable pub times : ℕ → List ℕ → ℕ
times v [] = 0
times v (c ∷ cs) = cond (eqb v c) (suc (times v cs)) (times v cs)

-- the summary of characters, and of a front of bytes
unfoldable pub summary_from : List ℕ → Summary
summary_from cs = record { last = vowel_number (last_vowel_of cs); counts = map (λ (v : ℕ). times v (before_last_vowel cs)) vowels }

unfoldable pub summary : List ℕ → Summary
summary front = summary_from (chars front)

-- the counts with that of the vowel of a number one greater; 0 is no vowel's
unfoldable pub raised : ℕ → List ℕ → List ℕ
raised zero counts = counts
raised (suc k) counts = set counts k (get_or counts k 0 + 1)

-- what a character added at the front's end makes of a summary: a vowel is the last one now, and that which was is counted
unfoldable pub added : ℕ → Summary → Summary
added c s = cond (vowel c) (record { last = vowel_number c; counts = raised s.last s.counts }) s

-- ---- for the theorems ----

-- how many characters the suffix stage removes of a word
unfoldable pub removed_from : List ℕ → ℕ
removed_from w = length (chars w) - length (suffix_stage (chars w)).text
