-- What the calls of postlude and pass give and leave in the output, refused and not, by the number that the code found. Both write
-- the text of a repair, which fits. Assumes nothing.
use Prim.Native.Nat.{ℕ, ◌+◌, ◌≤◌}
use mathlib.Core.Path.{◌≡◌, sym, ap, ◌∙◌}
use mathlib.Core.Bool.{true, false}
use mathlib.Core.List.{List}
use lib.ListN.{length, take, length-take}
use lib.Seq.{take-length}
use native.Mathlib.Nat.{le_refl}
use native.Mathlib.Omega.{arith}
use borrow.Author.Tests.{ne_eqb}
use Rattle.utf8.specs.Characters.{before}
use Rattle.encoding.specs.Text.{TextOf}
use Rattle.utf8.proofs.Laws.Characters.{back-le, before_back}
use Rattle.turkish.specs.declared.answer.TextAnswer.{TextAnswer}
use Rattle.turkish.specs.declared.answer.PassAnswer.{PassAnswer}
use Rattle.theorems.specs.Simple.Harmony.{more_than_one_syllable}
use Rattle.theorems.specs.Simple.Stage.{stage, kept, kept_length}
use Rattle.theorems.specs.Simple.Postlude.{postlude}
use Rattle.turkish.specs.Calls.{chars, bytes, accepted, written, refusal_into_of}
use Rattle.turkish.specs.Calls.{postlude_text, postlude_refusal, postlude_call, postlude_out, pass_text, pass_refusal, pass_call, pass_out}
use Rattle.theorems.proofs.Source.Calls.{postlude_of-yes, simple_pass, pass-simple, postlude_text-simple}
use Rattle.theorems.proofs.Laws.Accepted.{accepted-text, bytes-chars}
use Rattle.theorems.proofs.Laws.Words.{text-back}
use Rattle.theorems.proofs.Sizes.{kept-bytes}
use Rattle.stages.specs.declared.stage.Outcome.{Outcome}
use Rattle.repairs.specs.declared.postlude.Repair.{Repair}
use Rattle.stages.specs.Outcome.{outcome_of}
use Rattle.repairs.specs.Repairs.{letter_bytes, repair_text, repair_of}
use Rattle.repairs.proofs.RepairText.{repair-text, repair-answer, repair-size}
use Rattle.refusals.proofs.Laws.Refusals.{into-accepted, into-room}

-- ---- the texts ----

-- the characters before the place where the text kept ends are those kept
pub before-kept_length : (w : List ℕ) → before w (kept_length w) ≡ kept (chars w)
unfolding kept_length kept chars
before-kept_length w = before_back w (length w) (stage (chars w)).removed

-- the repair of an accepted word has the postlude's text
repair_text-postlude_text : (w : List ℕ) → accepted w ≡ true → repair_text w (repair_of w (length w)) ≡ postlude_text w
unfolding chars
repair_text-postlude_text w a = repair-text w (length w) (rw take-length (accepted-text w a)) (le_refl (length w)) ∙ sym (postlude_text-simple w)

module _ (w : List ℕ) (a : accepted w ≡ true) where
  -- the repair of the text kept is the postlude of it
  repair_text-kept : repair_text w (repair_of w (kept_length w)) ≡ bytes (postlude (kept (chars w)))
  unfolding kept_length
  repair_text-kept =
      let t : TextOf (take (kept_length w) w) = text-back w (accepted-text w a) (stage (chars w)).removed in
      let h : kept_length w ≤ length w = back-le w (length w) (stage (chars w)).removed in
      repair-text w (kept_length w) t h ∙ ap (λ (cs : List ℕ). bytes (postlude cs)) (before-kept_length w)

  -- the pass of a word of one syllable is the word
  pub pass-short : more_than_one_syllable (chars w) ≡ false → pass_text w ≡ w
  unfolding pass_text simple_pass
  pass-short s = rw (pass-simple (chars w), s) (bytes-chars w a)

  -- the pass of one whose flag is false is the text kept
  pub pass_kept : more_than_one_syllable (chars w) ≡ true → (stage (chars w)).flag ≡ false → pass_text w ≡ take (kept_length w) w
  unfolding pass_text simple_pass
  pass_kept s f = rw (pass-simple (chars w), s, f) (sym (kept-bytes w a))

  -- the pass of any other is the repair of the text kept
  pub pass-repaired : more_than_one_syllable (chars w) ≡ true → (stage (chars w)).flag ≡ true → pass_text w ≡ repair_text w (repair_of w (kept_length w))
  unfolding pass_text simple_pass
  pass-repaired s f = rw (pass-simple (chars w), s, f) (sym repair_text-kept)

-- ---- the room ----

-- an output of two bytes more than the word
module _ (w : List ℕ) (room n : ℕ) (e : n ≡ refusal_into_of w (length w + 2) room) (z : n ≡ 0) where
  -- the word fits
  pub word_fits : length w ≤ room
  word_fits = omega (arith, into-room w (length w + 2) room n e z)

  -- and a front part of it
  pub front_fits : (k : ℕ) → length (take k w) ≤ room
  front_fits k = omega (arith, into-room w (length w + 2) room n e z, length-take k w)

-- a repair of a front part of the word fits an output of two bytes more than the word
pub repair-fits : (w : List ℕ) (k room : ℕ) (r : Repair) → r ≡ repair_of w k → k ≤ length w → length w + 2 ≤ room
    → (r.keep ≤ length w) × (r.keep + length (letter_bytes r.letter) ≤ room)
repair-fits w k room r q h l = rw q (let s = repair-size w k h in (omega arith, omega (arith, s.sum, s.fits)))

-- ---- the calls ----

module _ (w out : List ℕ) (n : ℕ) (e : n ≡ refusal_into_of w (length w + 2) (length out)) where
  -- ---- postlude ----

  -- a refused call gives its number and leaves the output
  pub postlude_call-postlude_out-refused : (n ≡ 0 → ⊥)
      → (◌≡◌ {A = TextAnswer} (record { refusal = n; length = 0; yes = false }) (postlude_call w (length out)))
      × (out ≡ postlude_out w out)
  unfolding postlude_call postlude_out postlude_refusal
  postlude_call-postlude_out-refused h = (rw (← e, ne_eqb n 0 h), rw (← e, ne_eqb n 0 h))

  -- any other gives the length of the repair's text, and leaves it written
  pub postlude_call-postlude_out-given : n ≡ 0 → (r : Repair) → r ≡ repair_of w (length w)
      → (k : ℕ) (last : List ℕ) → k ≡ length (repair_text w r) → last ≡ written (repair_text w r) out
      → (◌≡◌ {A = TextAnswer} (record { refusal = 0; length = k; yes = r.yes }) (postlude_call w (length out)))
      × (last ≡ postlude_out w out)
  unfolding postlude_call postlude_out postlude_refusal chars
  postlude_call-postlude_out-given z r q k last l o =
      let t = repair_text-postlude_text w (into-accepted w (length w + 2) (length out) n e z) in
      (rw (← e, z, ← t, l, q, repair-answer w (length w), postlude_of-yes (before w (length w))), o ∙ rw (← e, z, ← t, q))

  -- ---- pass ----

  -- a refused call gives its number and leaves the output
  pub pass_call-pass_out-refused : (n ≡ 0 → ⊥)
      → (◌≡◌ {A = PassAnswer} (record { refusal = n; length = 0; syllable = false; yes = false; flag = false }) (pass_call w (length out)))
      × (out ≡ pass_out w out)
  unfolding pass_call pass_out pass_refusal
  pass_call-pass_out-refused h = (rw (← e, ne_eqb n 0 h), rw (← e, ne_eqb n 0 h))

  -- a word of one syllable is written as it is
  pub pass_call-pass_out-short : n ≡ 0 → more_than_one_syllable (chars w) ≡ false
      → (k : ℕ) (last : List ℕ) → k ≡ length w → last ≡ written w out
      → (◌≡◌ {A = PassAnswer} (record { refusal = 0; length = k; syllable = false; yes = false; flag = true }) (pass_call w (length out)))
      × (last ≡ pass_out w out)
  unfolding pass_call pass_out pass_refusal simple_pass
  pass_call-pass_out-short z y k last l o =
      let t = pass-short w (into-accepted w (length w + 2) (length out) n e z) y in
      (rw (← e, z, t, pass-simple (chars w), y, l), o ∙ rw (← e, z, t))

  module _ (z : n ≡ 0) (y : more_than_one_syllable (chars w) ≡ true) (s : Outcome) (q : s ≡ outcome_of w) where
    -- the code's flag is the stage's
    outcome_of-flag : s.flag ≡ (stage (chars w)).flag
    unfolding outcome_of
    outcome_of-flag = ap (λ (x : Outcome). x.flag) q

    -- where the flag is false the text kept is written
    pub pass_call-pass_out-kept : s.flag ≡ false
        → (k : ℕ) (last : List ℕ) → k ≡ length (take s.kept w) → last ≡ written (take s.kept w) out
        → (◌≡◌ {A = PassAnswer} (record { refusal = 0; length = k; syllable = true; yes = s.yes; flag = false }) (pass_call w (length out)))
        × (last ≡ pass_out w out)
    unfolding pass_call pass_out pass_refusal simple_pass outcome_of
    pass_call-pass_out-kept f k last l o =
        let g : (stage (chars w)).flag ≡ false = sym outcome_of-flag ∙ f in
        let t = pass_kept w (into-accepted w (length w + 2) (length out) n e z) y g in
        (rw (← e, z, t, pass-simple (chars w), y, l, q, g), o ∙ rw (← e, z, t, q))

    -- where it is true, its repair
    pub pass_call-pass_out-repaired : s.flag ≡ true → (r : Repair) → r ≡ repair_of w s.kept
        → (k : ℕ) (last : List ℕ) → k ≡ length (repair_text w r) → last ≡ written (repair_text w r) out
        → (◌≡◌ {A = PassAnswer} (record { refusal = 0; length = k; syllable = true; yes = s.yes; flag = true }) (pass_call w (length out)))
        × (last ≡ pass_out w out)
    unfolding pass_call pass_out pass_refusal simple_pass outcome_of
    pass_call-pass_out-repaired f r p k last l o =
        let g : (stage (chars w)).flag ≡ true = sym outcome_of-flag ∙ f in
        let t = pass-repaired w (into-accepted w (length w + 2) (length out) n e z) y g in
        (rw (← e, z, t, pass-simple (chars w), y, l, p, q, g), o ∙ rw (← e, z, t, p, q))
