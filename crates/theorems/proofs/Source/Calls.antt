-- What the calls and the pass give, which is what the source answers, in the words of the simple forms. The code's proofs cite these.
-- Assumes nothing.
use Prim.Native.Nat.{ℕ}
use mathlib.Core.Path.{◌≡◌, ap}
use mathlib.Core.Bool.{true, false, cond, ◌&&◌, or-false}
use mathlib.Core.List.{List}
use Rattle.utf8.specs.Steps.{same}
use Rattle.turkish.specs.Letters.{from_end}
use Rattle.turkish.specs.Answers.{suffix_stage, postlude_of, noun_stage}
use Rattle.turkish.specs.WordPass.{Passed, pass_stage, pass}
use Rattle.turkish.specs.Calls.{chars, bytes, refusal, accepted, syllable_call, postlude_text, noun_text, whole_text}
use Rattle.theorems.specs.Fronts.{one_of, reaches_reserved}
use Rattle.theorems.specs.Simple.Harmony.{more_than_one_syllable}
use Rattle.theorems.specs.Simple.Stage.{stage, kept}
use Rattle.theorems.specs.Simple.Postlude.{reserved, postlude, postlude_yes}
use Rattle.theorems.specs.Simple.Nouns as nouns
use Rattle.theorems.specs.Simple.WholeRun as whole
use Rattle.theorems.proofs.Source.Syllables.{syllable_check-simple}
use Rattle.theorems.proofs.Source.Stage.{suffix_stage-simple}
use Rattle.theorems.proofs.Source.Postlude.{postlude_of-simple}
use Rattle.theorems.proofs.Source.NounStage.{noun_stage-simple}
use Rattle.theorems.proofs.Source.WholeRun.{whole_run-simple}

-- the stage's answer
pub suffix_stage-yes : (cs : List ℕ) → (suffix_stage cs).yes ≡ (stage cs).yes
suffix_stage-yes cs = rw (suffix_stage-simple cs)

-- its flag
pub suffix_stage-flag : (cs : List ℕ) → (suffix_stage cs).flag ≡ (stage cs).flag
suffix_stage-flag cs = rw (suffix_stage-simple cs)

-- and its text
pub suffix_stage-text : (cs : List ℕ) → (suffix_stage cs).text ≡ kept cs
suffix_stage-text cs = rw (suffix_stage-simple cs)

-- the postlude's answer
pub postlude_of-yes : (cs : List ℕ) → (postlude_of cs).yes ≡ postlude_yes cs
postlude_of-yes cs = rw (postlude_of-simple cs)

-- and its text
pub postlude_of-text : (cs : List ℕ) → (postlude_of cs).text ≡ postlude cs
postlude_of-text cs = rw (postlude_of-simple cs)

-- the noun stage's answer
pub noun_stage-yes : (cs : List ℕ) → (noun_stage cs).yes ≡ nouns.noun_yes cs
noun_stage-yes cs = rw (noun_stage-simple cs)

-- the pass
unfoldable pub simple_pass : List ℕ → Passed
simple_pass cs =
    cond (more_than_one_syllable cs)
    (record { text = cond (stage cs).flag (postlude (kept cs)) (kept cs); syllable = true; yes = (stage cs).yes; flag = (stage cs).flag })
    (record { text = cs; syllable = false; yes = false; flag = true })

-- is the pass over what the source answers
pub pass-simple : (cs : List ℕ) → pass cs ≡ simple_pass cs
unfolding pass pass_stage simple_pass
pass-simple cs = rw (syllable_check-simple cs, suffix_stage-simple cs, postlude_of-text (kept cs))

-- a reserved text reaches the postlude
pub reaches_reserved-simple : (cs : List ℕ) → reaches_reserved cs ≡ (more_than_one_syllable cs && (stage cs).flag && reserved (kept cs))
unfolding reaches_reserved one_of reserved
reaches_reserved-simple cs = rw (syllable_check-simple cs, suffix_stage-simple cs, or-false (same (kept cs) (from_end "soyad")))

-- ---- the calls ----

-- the syllable check's answer
pub syllable_call-simple : (w : List ℕ) → syllable_call w ≡ cond (accepted w) (record { refusal = 0; yes = more_than_one_syllable (chars w) }) (record { refusal = refusal w; yes = false })
unfolding syllable_call
syllable_call-simple w = rw (syllable_check-simple (chars w))

-- the postlude's text
pub postlude_text-simple : (w : List ℕ) → postlude_text w ≡ bytes (postlude (chars w))
unfolding postlude_text
postlude_text-simple w = ap bytes (postlude_of-text (chars w))

-- the noun stage's
pub noun_text-simple : (w : List ℕ) → noun_text w ≡ bytes (nouns.noun_leaves (chars w))
unfolding noun_text
noun_text-simple w = rw (noun_stage-simple (chars w))

-- and the whole run's
pub whole_text-simple : (w : List ℕ) → whole_text w ≡ bytes (whole.whole_leaves (chars w))
unfolding whole_text
whole_text-simple w = ap bytes (whole_run-simple (chars w))
