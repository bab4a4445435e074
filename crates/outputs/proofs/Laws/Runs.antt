-- The runs that the code writes: those of the noun stage and of the whole run have the texts that the definitions give, lie within the word
-- and fit the output. Assumes nothing.
use Prim.Native.Nat.{ℕ, zero, suc, ◌+◌, ◌-◌, ◌≤◌, ◌<◌}
use mathlib.Core.Path.{◌≡◌, refl, sym, ap, ◌∙◌, subst}
use mathlib.Core.Bool.{Bool, true, false, cond, false≢true}
use mathlib.Core.List.{List, ◌++◌, append-nil, append_cancel_left}
use native.Mathlib.Nat.{sub_self}
use native.Mathlib.Omega.{arith}
use lib.ListN.{length, take, drop, take-append-drop}
use lib.Seq.{take-add, drop-drop}
use lib.Dec.{ltb}
use borrow.Author.Tests.{lt-ltb, le-ltb}
use Rattle.encoding.specs.Text.{TextOf}
use Rattle.utf8.specs.Characters.{before, back}
use Rattle.utf8.specs.Steps.{same}
use Rattle.utf8.proofs.Laws.Characters.{back-le, back-less, back-add, before_back}
use Rattle.utf8.proofs.Laws.Behind.{back_by-back}
use Rattle.utf8.proofs.TextCharacters.{take_back}
use Rattle.turkish.specs.Letters.{text, from_end, any}
use Rattle.theorems.specs.Fronts.{one_of}
use Rattle.theorems.specs.Simple.Harmony.{more_than_one_syllable}
use Rattle.theorems.specs.Simple.Stage.{stage, kept, kept_length}
use Rattle.theorems.specs.Simple.Postlude.{postlude}
use Rattle.theorems.specs.Simple.Nouns as nouns
use Rattle.theorems.specs.Simple.Nouns.{Rest, whole, cut, parted, noun_rest, rest_text, is_cut, noun_yes}
use Rattle.theorems.specs.Simple.WholeRun as runs
use Rattle.turkish.specs.Answers.{noun_stage}
use Rattle.turkish.specs.Calls.{chars, bytes, accepted, noun_text, whole_text}
use Rattle.theorems.proofs.Laws.Accepted.{accepted-text, bytes-chars}
use Rattle.theorems.proofs.Laws.Words.{bytes-append, text-back}
use Rattle.theorems.proofs.Sizes.{kept-bytes}
use Rattle.theorems.proofs.Laws.NounText.{staying, Rests, all, shorter, closer, noun_rest-rests}
use Rattle.theorems.proofs.PostludeRules.{parted-postlude}
use Rattle.theorems.proofs.Source.Calls.{noun_stage-yes, noun_text-simple, whole_text-simple}
use Rattle.stages.specs.declared.stage.Outcome.{Outcome}
use Rattle.stages.specs.Outcome.{outcome_of}
use Rattle.repairs.specs.Repairs.{ending, letter_bytes, repair_text, unchanged, repair_of}
use Rattle.repairs.proofs.RepairText.{repair-text, repair-size}
use Rattle.encoding.proofs.Laws.Booleans.{cond_cases}
use Rattle.std.specs.Prelude.{Option, Some, None, is_some}
use Rattle.nouns.specs.declared.stage.Uninflected.{Uninflected}
use Rattle.nouns.specs.Stage.{left_at, uninflected_of}
use Rattle.outputs.specs.declared.run.Run.{Run}
use Rattle.outputs.specs.Runs.{run_text, front_run, left_run, noun_run, front_repaired, repaired_run, whole_run_of}
use Rattle.outputs.proofs.Laws.RepairCalls.{before-kept_length}

-- ---- the text of a run ----

-- a repair with nothing behind it has its own text
repaired-text : (w : List ℕ) (r : Run) → r.from ≡ r.upto → run_text w r ≡ repair_text w r.repair
unfolding run_text
repaired-text w r e = rw (e, sub_self r.upto) (append-nil (repair_text w r.repair))

module _ (w : List ℕ) (front from n : ℕ) where
  -- a front part and the bytes from a place on
  parts-text : run_text w (record { repair = unchanged front true; from = from; upto = n }) ≡ take front w ++ take (n - from) (drop from w)
  unfolding run_text repair_text unchanged
  parts-text = ap (λ (s : List ℕ). s ++ take (n - from) (drop from w)) (append-nil (take front w))

  -- a front part alone
  front-text : from ≡ n → run_text w (record { repair = unchanged front true; from = from; upto = n }) ≡ take front w
  front-text e = parts-text ∙ rw (e, sub_self n) (append-nil (take front w))

-- ---- what is left of the bytes before a place ----

-- na, ne, nda or nde has a letter
staying-some : (j : ℕ) (cs : List ℕ) → one_of staying (take j cs) ≡ true → 0 < j
unfolding one_of any staying same from_end text
staying-some zero cs o = absurd (false≢true o)
staying-some (suc j) cs o = omega arith

-- a text, and the place m characters before its end
module _ (w : List ℕ) (t : TextOf w) (m n : ℕ) (e : n ≡ back w (length w) m) where
  -- it is no more than the text has
  place-le : n ≤ length w
  place-le = omega (arith, back-le w (length w) m)

  -- before the place k characters further back stands a text
  text-before : (k : ℕ) → TextOf (take (back w n k) w)
  text-before k = rw (e, back-add w (length w) m k) (text-back w t (m + k))

  -- whose bytes are those of all but the nearest k characters
  bytes-front : (k : ℕ) → take (back w n k) w ≡ bytes (drop k (before w n))
  unfolding bytes
  bytes-front k = rw (e, back-add w (length w) m k, before_back w (length w) m, drop-drop k m (before w (length w))) (take_back w t (m + k))

  -- and from there to the place stand the bytes of those
  bytes-between : (j : ℕ) → take (n - back w n j) (drop (back w n j) w) ≡ bytes (take j (before w n))
  unfolding back
  bytes-between j =
      let k = back w n j in
      let whole : k + (n - k) ≡ n = omega (arith, back-le w n j) in
      let parts : take k w ++ take (n - k) (drop k w) ≡ take k w ++ bytes (take j (before w n)) =
      sym (take-add k (n - k) w) ∙ ap (λ (i : ℕ). take i w) whole ∙ bytes-front 0
      ∙ rw (bytes-front j, ← bytes-append, take-append-drop) in
      append_cancel_left (take k w) _ _ parts

  -- what the noun stage leaves of the first n bytes has its text
  left-text : (r : Rest) → run_text w (left_run (left_at w (ending n) r) n) ≡ bytes (rest_text r (before w n))
  unfolding ending left_at left_run front_run rest_text back
  left-text whole = front-text w _ _ n refl ∙ bytes-front 0
  left-text (cut k) = front-text w _ _ n refl ∙ rw (back_by-back w n n k) (bytes-front k)
  left-text (parted j k) =
      parts-text w _ _ n ∙ rw (back_by-back w n n (j + k), back_by-back w n n j, bytes-front (j + k), bytes-between j, ← bytes-append)

  -- so its run has the simple form's text
  noun-leaves : run_text w (noun_run w n) ≡ bytes (nouns.noun_leaves (before w n))
  unfolding noun_run uninflected_of ending nouns.noun_leaves
  noun-leaves = left-text (noun_rest (before w n))

  -- the postlude of what stands before a place
  repair-before : (k : ℕ) → repair_text w (repair_of w (back w n k)) ≡ bytes (postlude (drop k (before w n)))
  repair-before k =
      repair-text w (back w n k) (text-before k) (omega (arith, back-le w n k, place-le))
      ∙ ap (λ (cs : List ℕ). bytes (postlude cs)) (before_back w n k)

  -- what the noun stage leaves after the postlude: letters that stay begin before the place, and the postlude leaves them
  repaired-left : {r : Rest} → noun_rest (before w n) ≡ r → Rests (before w n) r
      → run_text w (repaired_run w (left_at w (ending n) r) n) ≡ bytes (postlude (rest_text r (before w n)))
  unfolding repaired_run front_repaired ending left_at rest_text back nouns.noun_leaves
  repaired-left e all = repaired-text w _ refl ∙ repair-before 0
  repaired-left e (shorter k p q) = rw (le-ltb n n (omega arith), back_by-back w n n k) (repaired-text w _ refl ∙ repair-before k)
  repaired-left e (closer j k o p q) =
      let less : back w n j < n = back-less w n j (staying-some j (before w n) o) (omega arith) in
      let stays : postlude (take j (before w n) ++ drop (j + k) (before w n)) ≡ take j (before w n) ++ drop (j + k) (before w n) =
      rw e at (parted-postlude (before w n) j k e) in
      rw (stays, back_by-back w n n j, lt-ltb (back w n j) n less) (rw (back_by-back w n n j) at (left-text (parted j k)))

  -- so its run has the text of the postlude of the simple form's
  repaired-leaves : run_text w (repaired_run w (uninflected_of w n) n) ≡ bytes (postlude (nouns.noun_leaves (before w n)))
  unfolding uninflected_of ending nouns.noun_leaves
  repaired-leaves = repaired-left refl (noun_rest-rests (before w n))

-- ---- of a word ----

-- the code's yes is the noun stage's
pub uninflected_of-yes : (w : List ℕ) → is_some (uninflected_of w (length w)) ≡ (noun_stage (chars w)).yes
unfolding uninflected_of left_at noun_yes is_cut chars
uninflected_of-yes w = go (noun_rest (chars w)) ∙ sym (noun_stage-yes (chars w))
  where
    go : (r : Rest) → is_some (left_at w (record { cursor = length w; limit = length w; limit_backward = 0 }) r) ≡ is_cut r
    go whole = refl
    go (cut k) = refl
    go (parted j k) = refl

module _ (w : List ℕ) (a : accepted w ≡ true) where
  -- the noun stage's run of an accepted word has the noun stage's text
  pub noun_run-text : run_text w (noun_run w (length w)) ≡ noun_text w
  unfolding back chars
  noun_run-text = noun-leaves w (accepted-text w a) 0 (length w) refl ∙ sym (noun_text-simple w)

  -- the whole run's text of a word of one syllable is the word
  pub whole_text-short : more_than_one_syllable (chars w) ≡ false → whole_text w ≡ w
  unfolding runs.whole_leaves
  whole_text-short s = rw (whole_text-simple w, s) (bytes-chars w a)

  -- of any other it is the text of the whole run's run
  pub whole_run_of-text : more_than_one_syllable (chars w) ≡ true → (r : Run) → r ≡ whole_run_of w → run_text w r ≡ whole_text w
  unfolding whole_run_of front_run kept_length runs.whole_leaves
  whole_run_of-text s r e = rw (whole_text-simple w, s, e) (go (stage (chars w)).flag)
    where
      n : ℕ
      n = kept_length w

      go : (f : Bool) → run_text w (cond f (repaired_run w (uninflected_of w n) n) (front_run n))
          ≡ bytes (cond f (postlude (nouns.noun_leaves (kept (chars w)))) (kept (chars w)))
      go true =
          repaired-leaves w (accepted-text w a) (stage (chars w)).removed n refl
          ∙ ap (λ (cs : List ℕ). bytes (postlude (nouns.noun_leaves cs))) (before-kept_length w)
      go false = front-text w n n n refl ∙ kept-bytes w a

-- the whole run's run, where what the suffix stage leaves is known
module _ (w : List ℕ) (s : Outcome) (q : s ≡ outcome_of w) where
  -- it goes by the flag and the text kept
  whole_run_of-outcome : whole_run_of w ≡ cond s.flag (repaired_run w (uninflected_of w s.kept) s.kept) (front_run s.kept)
  unfolding whole_run_of outcome_of
  whole_run_of-outcome = rw q

  -- where the flag is false it is the text kept
  pub whole_run_of-front : s.flag ≡ false → (r : Run) → r ≡ front_run s.kept → r ≡ whole_run_of w
  whole_run_of-front f r e = e ∙ rw (whole_run_of-outcome, f)

  module _ (f : s.flag ≡ true) where
    -- else the postlude of the whole, where the noun stage leaves that
    pub whole_run_of-whole : None ≡ uninflected_of w s.kept → (r : Run) → r ≡ front_repaired w s.kept s.kept → r ≡ whole_run_of w
    unfolding repaired_run
    whole_run_of-whole p r e = e ∙ rw (whole_run_of-outcome, f, ← p)

    module _ {u : Uninflected} (p : Some u ≡ uninflected_of w s.kept) where
      -- else what the noun stage leaves, where letters stay behind a cut
      pub whole_run_of-left : u.from < s.kept → (r : Run) → r ≡ left_run (Some u) s.kept → r ≡ whole_run_of w
      unfolding repaired_run
      whole_run_of-left l r e = e ∙ rw (whole_run_of-outcome, f, ← p, lt-ltb u.from s.kept l)

      -- or the postlude of that
      pub whole_run_of-repaired : s.kept ≤ u.from → (r : Run) → r ≡ front_repaired w u.front s.kept → r ≡ whole_run_of w
      unfolding repaired_run
      whole_run_of-repaired l r e = e ∙ rw (whole_run_of-outcome, f, ← p, le-ltb u.from s.kept l)

-- ---- the room ----

-- a run lies within the word, and its text takes no more than so many bytes
abbrev pub Fits : List ℕ → Run → ℕ → Type 0
Fits w r room =
    (r.repair.keep ≤ length w)
    × ((r.from ≤ r.upto) × ((r.upto ≤ length w) × (r.repair.keep + length (letter_bytes r.repair.letter) + (r.upto - r.from) ≤ room)))

-- more room is no harm
fits_more : (w : List ℕ) (r : Run) (n room : ℕ) → n ≤ room → Fits w r n → Fits w r room
fits_more w r n room h (k, (f, (u, l))) = (k, (f, (u, omega arith)))

module _ (w : List ℕ) (n : ℕ) (h : n ≤ length w) where
  -- what the noun stage leaves of the first n bytes takes no more
  left-fits : (r : Rest) → Fits w (left_run (left_at w (ending n) r) n) n
  unfolding ending left_at left_run front_run unchanged
  left-fits whole = omega arith
  left-fits (cut k) = rw (back_by-back w n n k) (omega (arith, back-le w n k))
  left-fits (parted j k) =
      rw (back_by-back w n n (j + k), back_by-back w n n j, ← back-add w n j k) (omega (arith, back-le w n j, back-le w (back w n j) k))

  -- so its run takes none
  noun-fits : Fits w (noun_run w n) n
  unfolding noun_run uninflected_of ending
  noun-fits = left-fits (noun_rest (before w n))

  -- and two more after the postlude
  repaired-fits : Fits w (repaired_run w (uninflected_of w n) n) (n + 2)
  unfolding repaired_run front_repaired noun_run left_run unchanged
  repaired-fits = go (uninflected_of w n) noun-fits
    where
      go : (u : Option Uninflected) → Fits w (left_run u n) n → Fits w (repaired_run w u n) (n + 2)
      go None f = let s = repair-size w n h in omega (arith, s.keeps, s.adds)
      go (Some u) f =
          cond_cases (λ (r : Run). Fits w r (n + 2)) (ltb u.from n) (λ e. fits_more w (left_run (Some u) n) n (n + 2) (omega arith) f)
          (λ e. let s = repair-size w u.front f.0 in omega (arith, s.keeps, s.adds, f.1.1.1))

-- what stands before the cut lies within the word
pub uninflected_of-front : (w : List ℕ) (n : ℕ) → n ≤ length w → {u : Uninflected} → Some u ≡ uninflected_of w n → u.front ≤ length w
unfolding noun_run left_run unchanged
uninflected_of-front w n h {u} p =
    let P : Option Uninflected → Type 0 = λ o. Fits w (left_run o n) n in
    let fits : P (Some u) = subst P (sym p) (noun-fits w n h) in
    fits.0

-- an output of n bytes has room for what the noun stage leaves of a word
pub left_run-fits : (w : List ℕ) (room : ℕ) → length w ≤ room → (u : Option Uninflected) → u ≡ uninflected_of w (length w)
    → (r : Run) → r ≡ left_run u (length w) → Fits w r room
unfolding noun_run
left_run-fits w room l u p r q = rw (q, p) (fits_more w (noun_run w (length w)) (length w) room l (noun-fits w (length w) (omega arith)))

-- and one of n + 2 for what the whole run leaves
pub whole_run_of-fits : (w : List ℕ) (room : ℕ) → length w + 2 ≤ room → (r : Run) → r ≡ whole_run_of w → Fits w r room
unfolding whole_run_of kept_length front_run unchanged
whole_run_of-fits w room l r q = rw q (go (stage (chars w)).flag)
  where
    n : ℕ
    n = kept_length w

    k : n ≤ length w
    k = back-le w (length w) (stage (chars w)).removed

    go : (f : Bool) → Fits w (cond f (repaired_run w (uninflected_of w n) n) (front_run n)) room
    go true = fits_more w (repaired_run w (uninflected_of w n) n) (n + 2) room (omega (arith, k)) (repaired-fits w n k)
    go false = omega (arith, k)
