-- What the suffix stage, the postlude, the pass, the noun stage and the whole run give of an accepted word is a text: each of them makes
-- scalar values of scalar values, as it keeps parts of a word and adds letters of its own. Assumes nothing.
use Prim.Native.Nat.{ℕ, ◌+◌}
use mathlib.Core.Path.{◌≡◌, refl}
use mathlib.Core.Bool.{true, ◌&&◌}
use mathlib.Core.List.{List, [], ◌∷◌, ◌++◌, reverse}
use lib.ListN.{take, drop, take-append-drop}
use Rattle.encoding.specs.Scalar.{surrogate, scalar, scalars}
use Rattle.encoding.specs.Text.{TextOf}
use Rattle.encoding.specs.Validity.{is_text}
use Rattle.encoding.proofs.CheckExact.{encodes-is_text}
use Rattle.encoding.proofs.Laws.Booleans.{and_left, and_right, cond_both}
use Rattle.utf8.proofs.TextCharacters.{encode_all-append, scalar-head, scalars-tail, scalars-append, scalars-reverse, before-whole}
use Rattle.turkish.specs.Vowels.{last_vowel_of}
use Rattle.turkish.specs.WordPass.{Passed}
use Rattle.turkish.specs.Calls.{chars, bytes, accepted, stage_text, postlude_text, pass_text, noun_text, whole_text}
use Rattle.theorems.specs.Simple.Harmony.{more_than_one_syllable}
use Rattle.theorems.specs.Simple.Stage.{stage, kept}
use Rattle.theorems.specs.Simple.Postlude.{reserved, gained, appends, append_U, hard, harden, postlude}
use Rattle.theorems.specs.Simple.Nouns.{noun_leaves}
use Rattle.theorems.specs.Simple.WholeRun.{whole_leaves}
use Rattle.theorems.proofs.Laws.Accepted.{accepted-text}
use Rattle.theorems.proofs.Laws.NounText.{Shape, front, closed, noun-shape}
use Rattle.theorems.proofs.Source.Calls.{suffix_stage-text, postlude_of-text, simple_pass, pass-simple}
use Rattle.theorems.proofs.Source.NounStage.{noun_stage-simple}
use Rattle.theorems.proofs.Source.WholeRun.{whole_run-simple}
use Rattle.theorems.proofs.PostludeRules.{gained-elim, hard-elim, postlude-one}

-- ---- scalar values ----

-- scalar values cut in two are scalar values
pub scalars-cut : (n : ℕ) (cs : List ℕ) → scalars cs ≡ true → (scalars (take n cs) ≡ true) × (scalars (drop n cs) ≡ true)
scalars-cut n cs s =
    let both : scalars (take n cs) && scalars (drop n cs) ≡ true = rw (← scalars-append, take-append-drop) s in
    (and_left (scalars (take n cs)) (scalars (drop n cs)) both, and_right (scalars (take n cs)) (scalars (drop n cs)) both)

-- a gained vowel is one
scalar-gained : (v : ℕ) → scalar (gained v) ≡ true
unfolding scalar surrogate
scalar-gained v = gained-elim (λ c. scalar c ≡ true) v refl refl refl refl refl

-- and so is what a consonant hardens to
scalar-hard : (c : ℕ) → scalar c ≡ true → scalar (hard c) ≡ true
unfolding scalar surrogate
scalar-hard c s = hard-elim (λ d. scalar d ≡ true) c refl refl refl refl s

-- ---- the stages ----

-- a step makes scalar values of scalar values
abbrev Keeps : (List ℕ → List ℕ) → Type 0
Keeps step = (cs : List ℕ) → scalars cs ≡ true → scalars (step cs) ≡ true

-- as the suffix stage does, which keeps a front
kept-keeps : Keeps kept
unfolding kept
kept-keeps cs s = (scalars-cut (stage cs).removed cs s).1

-- the noun stage, which keeps a front or two parts
noun-keeps : Keeps noun_leaves
noun-keeps cs s = go (noun-shape cs)
  where
    go : {ds : List ℕ} → Shape cs ds → scalars ds ≡ true
    go (front k h e) = rw e (scalars-cut k cs s).1
    go (closed j k o h l e) = rw (e, scalars-append, (scalars-cut j cs s).0) (scalars-cut (j + k) cs s).1

-- a vowel gained
append_U-keeps : Keeps append_U
unfolding append_U scalars
append_U-keeps [] s = refl
append_U-keeps (c ∷ cs) s = cond_both (λ ds. scalars ds ≡ true) (appends (c ∷ cs)) _ _ (rw (scalar-gained (last_vowel_of cs)) s) s

-- a consonant hardened
harden-keeps : Keeps harden
unfolding harden scalars
harden-keeps [] s = refl
harden-keeps (c ∷ cs) s = rw (scalar-hard c (scalar-head c cs s)) (scalars-tail c cs s)

-- so the postlude, which does one of the two or neither
postlude-keeps : Keeps postlude
postlude-keeps cs s =
    rw (postlude-one cs)
    (cond_both (λ ds. scalars ds ≡ true) (reserved cs) _ _ s
    (cond_both (λ ds. scalars ds ≡ true) (appends cs) _ _ (append_U-keeps cs s) (harden-keeps cs s)))

-- the pass
pass-keeps : Keeps (λ cs. (simple_pass cs).text)
unfolding simple_pass
pass-keeps cs s =
    let k = kept-keeps cs s in
    cond_both (λ (r : Passed). scalars r.text ≡ true) (more_than_one_syllable cs) _ _
    (cond_both (λ ds. scalars ds ≡ true) (stage cs).flag _ _ (postlude-keeps (kept cs) k) k) s

-- and the whole run
whole-keeps : Keeps whole_leaves
unfolding whole_leaves
whole-keeps cs s =
    let k = kept-keeps cs s in
    cond_both (λ ds. scalars ds ≡ true) (more_than_one_syllable cs) _ _
    (cond_both (λ ds. scalars ds ≡ true) (stage cs).flag _ _ (postlude-keeps (noun_leaves (kept cs)) (noun-keeps (kept cs) k)) k) s

-- ---- words ----

-- two texts joined are a text
unfoldable pub text-joined : {f t : List ℕ} → TextOf f → TextOf t → TextOf (f ++ t)
text-joined {f} {t} a b =
    record {
      chars = a.chars ++ b.chars;
      valid = rw (scalars-append, a.valid) b.valid;
      encoded = rw (encode_all-append, a.encoded, b.encoded);
    }

-- what such a step leaves of an accepted word is a text
leaves-text : (step : List ℕ → List ℕ) → Keeps step → (w : List ℕ) → accepted w ≡ true → is_text (bytes (step (chars w))) ≡ true
unfolding bytes chars
leaves-text step k w a =
    let t = accepted-text w a in
    let s : scalars (chars w) ≡ true = rw (before-whole w t) (scalars-reverse t.chars t.valid) in
    encodes-is_text (reverse (step (chars w))) (scalars-reverse (step (chars w)) (k (chars w) s))

-- so is what each of the five calls gives
pub calls-text : (w : List ℕ) → accepted w ≡ true
    → (is_text (stage_text w) ≡ true) × (is_text (postlude_text w) ≡ true) × (is_text (pass_text w) ≡ true)
    × (is_text (noun_text w) ≡ true) × (is_text (whole_text w) ≡ true)
unfolding stage_text postlude_text pass_text noun_text whole_text
calls-text w a =
    let cs = chars w in (
      rw (suffix_stage-text cs) (leaves-text kept kept-keeps w a),
      rw (postlude_of-text cs) (leaves-text postlude postlude-keeps w a),
      rw (pass-simple cs) (leaves-text (λ ds. (simple_pass ds).text) pass-keeps w a),
      rw (noun_stage-simple cs) (leaves-text noun_leaves noun-keeps w a),
      rw (whole_run-simple cs) (leaves-text whole_leaves whole-keeps w a),
    )
