-- The tails of a slice as the code walks over it, and what it finds out of them. Assumes nothing.
use Rattle.std.specs.Prelude.{ℕ, suc, ◌+◌, max, Bool, cond, List, [], ◌∷◌, length, take, drop, replicate, eqb, ltb}
use Rattle.encoding.specs.Encoding.{continuation}
use Rattle.turkish.specs.Letters.{lf}
use Rattle.turkish.specs.Calls.{written}
use Rattle.theorems.specs.Fronts.{end_length}
use Rattle.batches.specs.BatchCalls.{most_tails, some}
use Rattle.batch.specs.declared.tails.Line.{Line}
use Rattle.batch.specs.declared.tails.Survey.{Survey}
use Rattle.batch.specs.declared.tails.Tails.{Tails}

-- ---- one line ----

-- the bytes before the first line feed
unfoldable pub line_of : List ℕ → List ℕ
line_of [] = []
line_of (b ∷ bs) = cond (eqb b lf) [] (b ∷ line_of bs)

-- how many of some bytes begin a character
unfoldable pub leads : List ℕ → ℕ
leads [] = 0
leads (b ∷ bs) = cond (continuation b) (leads bs) (suc (leads bs))

-- the line that begins at a place
unfoldable pub line_at : List ℕ → ℕ → Line
line_at w from =
    let line = line_of (drop from w) in
    record { end = from + length line; chars = leads line }

-- the bytes that are passed in one step
abbrev pub block : ℕ
block = 16

-- ---- all of them ----

-- the bytes of the longest
unfoldable pub longest : List (List ℕ) → ℕ
longest [] = 0
longest (t ∷ ts) = max (length t) (longest ts)

-- fewer than 16 bytes begin a character: in a text, it has fewer characters
unfoldable pub few : List ℕ → Bool
few t = ltb (leads t) end_length

-- what the refusals ask of them
unfoldable pub survey_of : List (List ℕ) → Survey
survey_of ts = record { count = length ts; longest = longest ts; short = some few ts }

-- the places where lines end, the first beginning at `at`
unfoldable pub ends_from : ℕ → List (List ℕ) → List ℕ
ends_from at [] = []
ends_from at (t ∷ ts) = (at + length t) ∷ ends_from (at + length t + 1) ts

-- the first 64 places, zeros where there are fewer
unfoldable pub first_places : List ℕ → List ℕ
first_places es = written (take most_tails es) (replicate most_tails 0)

-- all that is found out of them
unfoldable pub tails_of : List (List ℕ) → Tails
tails_of ts = record { survey = survey_of ts; ends = first_places (ends_from 0 ts) }
