-- How many bytes the postlude, the pass, the noun stage and the whole run give: never more than their outputs must hold. And the part that
-- the stage hands back: a front of the word, the bytes of the characters kept. Assumes nothing.
use Prim.Native.Nat.{ℕ, zero, suc, ◌+◌, ◌≤◌}
use mathlib.Core.Path.{◌≡◌, refl, sym, ap, ◌∙◌}
use mathlib.Core.Bool.{true}
use mathlib.Core.List.{List, [], ◌∷◌, ◌++◌}
use native.Mathlib.Omega.{arith}
use lib.ListN.{length, take, drop, take-append-drop, length-append}
use lib.Seq.{length-take-le, drop-drop}
use Rattle.encoding.specs.Encoding.{encode}
use Rattle.encoding.specs.Text.{TextOf}
use Rattle.encoding.proofs.Laws.Booleans.{cond-test}
use Rattle.utf8.proofs.Laws.Characters.{back-le}
use Rattle.utf8.proofs.TextCharacters.{take_back}
use Rattle.turkish.specs.Vowels.{last_vowel_of}
use Rattle.theorems.specs.Simple.Harmony.{more_than_one_syllable}
use Rattle.theorems.specs.Simple.Stage.{stage, kept, kept_length}
use Rattle.theorems.specs.Simple.Postlude.{reserved, gained, appends, append_U, hard, harden, postlude}
use Rattle.theorems.specs.Simple.Nouns as nouns
use Rattle.theorems.specs.Simple.Nouns.{Rest, whole, cut, parted, noun_rest, rest_text}
use Rattle.theorems.specs.Simple.WholeRun as runs
use Rattle.turkish.specs.WordPass.{Passed, pass}
use Rattle.turkish.specs.Calls.{chars, bytes, accepted, stage_text, stage_part_of, postlude_text, pass_text, noun_text, whole_text}
use Rattle.theorems.proofs.Laws.Accepted.{accepted-text, bytes-chars}
use Rattle.theorems.proofs.Laws.Words.{bytes-append, length-bytes-cons}
use Rattle.theorems.proofs.Source.Calls.{suffix_stage-text, postlude_of-text, simple_pass, pass-simple, noun_text-simple, whole_text-simple}
use Rattle.theorems.proofs.PostludeRules.{gained-elim, hard-elim, postlude-one}

-- ---- characters ----

-- some characters fewer take no more bytes
bytes_drop : (n : ℕ) (cs : List ℕ) → length (bytes (drop n cs)) ≤ length (bytes cs)
bytes_drop zero cs = omega arith
bytes_drop (suc n) [] = omega arith
bytes_drop (suc n) (c ∷ cs) = omega (arith, bytes_drop n cs, length-bytes-cons c cs)

-- a gained vowel takes two bytes at most
gained-size : (v : ℕ) → length (encode (gained v)) ≤ 2
unfolding encode
gained-size v = gained-elim (λ c. length (encode c) ≤ 2) v (omega arith) (omega arith) (omega arith) (omega arith) (omega arith)

-- a hardened character takes two bytes more at most
hard-size : (c : ℕ) → length (encode (hard c)) ≤ length (encode c) + 2
unfolding encode
hard-size c = hard-elim (λ d. length (encode d) ≤ length (encode c) + 2) c (omega arith) (omega arith) (omega arith) (omega arith) (omega arith)

-- ---- texts ----

-- one text takes two bytes more than another, at most
abbrev TwoMore : List ℕ → List ℕ → Type 0
TwoMore cs ds = length (bytes ds) ≤ length (bytes cs) + 2

-- a gained vowel adds two bytes at most
append_U-size : (cs : List ℕ) → TwoMore cs (append_U cs)
unfolding append_U
append_U-size [] = omega arith
append_U-size (c ∷ cs) =
    cond-test (TwoMore (c ∷ cs)) (appends (c ∷ cs))
    (λ e. omega (arith, length-bytes-cons (gained (last_vowel_of cs)) (c ∷ cs), gained-size (last_vowel_of cs)))
    (omega arith)

-- so does a hardened consonant
harden-size : (cs : List ℕ) → TwoMore cs (harden cs)
unfolding harden
harden-size [] = omega arith
harden-size (c ∷ cs) = omega (arith, length-bytes-cons c cs, length-bytes-cons (hard c) cs, hard-size c)

-- so does the postlude
postlude-size : (cs : List ℕ) → TwoMore cs (postlude cs)
postlude-size cs =
    rw (postlude-one cs)
    (cond-test (TwoMore cs) (reserved cs) (λ e. omega arith) (cond-test (TwoMore cs) (appends cs) (λ e. append_U-size cs) (harden-size cs)))

-- two parts of a text take the bytes of both
pub bytes-parts : (ds es : List ℕ) → length (bytes (ds ++ es)) ≡ length (bytes ds) + length (bytes es)
bytes-parts ds es =
    let l : length (bytes (ds ++ es)) ≡ length (bytes es) + length (bytes ds) = rw (bytes-append, length-append) in
    omega arith

-- the noun stage adds none
noun-size : (cs : List ℕ) → length (bytes (nouns.noun_leaves cs)) ≤ length (bytes cs)
unfolding nouns.noun_leaves rest_text
noun-size cs = go (noun_rest cs)
  where
    go : (r : Rest) → length (bytes (rest_text r cs)) ≤ length (bytes cs)
    go whole = omega arith
    go (cut k) = bytes_drop k cs
    go (parted j k) =
        let parts = ap (λ (ds : List ℕ). length (bytes ds)) (take-append-drop j cs) in
        let rest = ap (λ (ds : List ℕ). length (bytes ds)) (drop-drop k j cs) in
        omega (arith, bytes-parts (take j cs) (drop j cs), bytes-parts (take j cs) (drop (j + k) cs), bytes_drop k (drop j cs))

-- so the whole run adds two at most
whole-size : (cs : List ℕ) → length (bytes (runs.whole_leaves cs)) ≤ length (bytes cs) + 2
unfolding runs.whole_leaves kept
whole-size cs =
    let d : length (bytes (kept cs)) ≤ length (bytes cs) = bytes_drop (stage cs).removed cs in
    cond-test (TwoMore cs) (more_than_one_syllable cs)
    (λ e. cond-test (TwoMore cs) (stage cs).flag (λ f. omega (arith, postlude-size (nouns.noun_leaves (kept cs)), noun-size (kept cs))) (omega arith))
    (omega arith)

-- and so does the pass
pass-size : (cs : List ℕ) → TwoMore cs (pass cs).text
unfolding simple_pass kept
pass-size cs =
    let d : length (bytes (kept cs)) ≤ length (bytes cs) = bytes_drop (stage cs).removed cs in
    rw (pass-simple cs)
    (cond-test (λ (r : Passed). TwoMore cs r.text) (more_than_one_syllable cs)
    (λ e. cond-test (TwoMore cs) (stage cs).flag (λ e. omega (arith, postlude-size (kept cs))) (omega arith))
    (omega arith))

-- ---- words ----

-- the postlude's output of n + 2 bytes is long enough
pub postlude_text-size : (w : List ℕ) → accepted w ≡ true → length (postlude_text w) ≤ length w + 2
unfolding postlude_text
postlude_text-size w e = rw (postlude_of-text (chars w)) (rw (bytes-chars w e) at (postlude-size (chars w)))

-- and the pass's
pub pass_text-size : (w : List ℕ) → accepted w ≡ true → length (pass_text w) ≤ length w + 2
unfolding pass_text
pass_text-size w e = rw (bytes-chars w e) at (pass-size (chars w))

-- the noun stage's of n
pub noun_text-size : (w : List ℕ) → accepted w ≡ true → length (noun_text w) ≤ length w
noun_text-size w e = rw (noun_text-simple w) (rw (bytes-chars w e) at (noun-size (chars w)))

-- and the whole run's of n + 2
pub whole_text-size : (w : List ℕ) → accepted w ≡ true → length (whole_text w) ≤ length w + 2
whole_text-size w e = rw (whole_text-simple w) (rw (bytes-chars w e) at (whole-size (chars w)))

-- the bytes of the characters kept are a front of the text
pub kept-text : (w : List ℕ) → TextOf w → take (kept_length w) w ≡ bytes (kept (chars w))
unfolding kept_length bytes kept chars
kept-text w t = take_back w t (stage (chars w)).removed

-- so of the word
pub kept-bytes : (w : List ℕ) → accepted w ≡ true → take (kept_length w) w ≡ bytes (kept (chars w))
kept-bytes w e = kept-text w (accepted-text w e)

-- the text that the stage leaves is that front
pub stage_text-kept : (w : List ℕ) → accepted w ≡ true → stage_text w ≡ take (kept_length w) w
unfolding stage_text
stage_text-kept w e = rw (suffix_stage-text (chars w)) (sym (kept-bytes w e))

-- and has its length
pub stage_text-length : (w : List ℕ) → accepted w ≡ true → length (stage_text w) ≡ kept_length w
unfolding kept_length
stage_text-length w e = ap length (stage_text-kept w e) ∙ length-take-le (kept_length w) w (back-le w (length w) (stage (chars w)).removed)

-- so it is the word's front of its own length
pub stage_text-front : (w : List ℕ) → accepted w ≡ true → stage_text w ≡ take (length (stage_text w)) w
stage_text-front w e = stage_text-kept w e ∙ ap (λ (n : ℕ). take n w) (sym (stage_text-length w e))

-- and what is handed back is a front of the word
pub stage_part_of-front : (w : List ℕ) → stage_part_of w ≡ take (length (stage_part_of w)) w
unfolding stage_part_of
stage_part_of-front w = cond-test (λ s. s ≡ take (length s) w) (accepted w) (stage_text-front w) refl
