-- A text made of a word's own bytes as the code holds it: a repair of a front part, and the bytes from one place to another behind it; those
-- of the noun stage and of the whole run. Assumes nothing.
use Rattle.std.specs.Prelude.{ℕ, ◌-◌, true, cond, List, ◌++◌, take, drop, ltb, Option, Some, None}
use Rattle.theorems.specs.Simple.Stage.{stage, kept_length}
use Rattle.turkish.specs.Calls.{chars}
use Rattle.repairs.specs.Repairs.{repair_text, unchanged, repair_of}
use Rattle.nouns.specs.declared.stage.Uninflected.{Uninflected}
use Rattle.nouns.specs.Stage.{uninflected_of}
use Rattle.outputs.specs.declared.run.Run.{Run}

-- the text of a run over w
unfoldable pub run_text : List ℕ → Run → List ℕ
run_text w r = repair_text w r.repair ++ take (r.upto - r.from) (drop r.from w)

-- the first n bytes alone
unfoldable pub front_run : ℕ → Run
front_run n = record { repair = unchanged n true; from = n; upto = n }

-- what the noun stage leaves of the first n bytes
unfoldable pub left_run : Option Uninflected → ℕ → Run
left_run None n = front_run n
left_run (Some u) n = record { repair = unchanged u.front true; from = u.from; upto = n }

unfoldable pub noun_run : List ℕ → ℕ → Run
noun_run w n = left_run (uninflected_of w n) n

-- the same after the postlude, which leaves a text whose own last letters stay behind a cut
unfoldable pub front_repaired : List ℕ → ℕ → ℕ → Run
front_repaired w front n = record { repair = repair_of w front; from = n; upto = n }

unfoldable pub repaired_run : List ℕ → Option Uninflected → ℕ → Run
repaired_run w None n = front_repaired w n n
repaired_run w (Some u) n = cond (ltb u.from n) (left_run (Some u) n) (front_repaired w u.front n)

-- the whole run of a word of more than one syllable: where the suffix stage's flag is false the text that it keeps, else the noun stage and the
-- postlude of that
unfoldable pub whole_run_of : List ℕ → Run
whole_run_of w =
    cond (stage (chars w)).flag (repaired_run w (uninflected_of w (kept_length w)) (kept_length w)) (front_run (kept_length w))
