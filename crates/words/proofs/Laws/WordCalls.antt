-- What the syllable check's and the suffix stage's calls give, refused and not, by the number that the code found.
-- Assumes nothing.
use Prim.Native.Nat.{ℕ}
use mathlib.Core.Path.{◌≡◌, refl, sym, ap, ◌∙◌}
use mathlib.Core.Bool.{Bool, true, false, cond}
use mathlib.Core.List.{List, []}
use lib.ListN.{length, take}
use borrow.Author.Tests.{eq-eqb, ne_eqb}
use Rattle.std.specs.Prelude.{Some, None, Result, Ok, Err, is_err, option_map}
use Rattle.utf8.specs.Characters.{before}
use Rattle.turkish.specs.declared.refusal.Refusal.{Refusal}
use Rattle.turkish.specs.declared.reply.Stage.{Stage}
use Rattle.theorems.specs.Simple.Harmony.{more_than_one_syllable}
use Rattle.turkish.specs.Heard.{Heard, unheard, heard, is_heard, loan_in}
use Rattle.turkish.specs.Pieces.{stage_heard}
use Rattle.turkish.specs.Calls.{chars, refusal, accepted, syllable_call, stage_part_of, last_offset, partner_offset, stage_call}
use Rattle.turkish.specs.Refusals.{refusal_number, result_number}
use Rattle.turkish.specs.Results.{syllable_answer, heard_answer, stage_answer}
use Rattle.turkish.proofs.OneToOne.{refusal_number-some}
use Rattle.theorems.proofs.Source.Calls.{suffix_stage-yes, suffix_stage-flag, syllable_call-simple}
use Rattle.theorems.proofs.Sizes.{stage_text-kept, stage_text-length}
use Rattle.stages.specs.declared.stage.Outcome.{Outcome}
use Rattle.stages.specs.Outcome.{outcome_of}
use Rattle.stages.proofs.Laws.Heard.{told, outcome-heard}
use Rattle.words.specs.Stage.{harmony_of, told_of}

-- the answer of a stage says what harmony found
heard_told : (w : List ℕ) (s : Stage) (h : Heard)
    → heard_answer s (cond (is_heard h) (Some (record { last = last_offset w h; partner = partner_offset w h; loan = loan_in (chars w) h })) None)
    ≡ record { refusal = 0; length = s.length; yes = s.yes; flag = s.flag; harmonic = is_heard h; last = last_offset w h; partner = partner_offset w h; loan = loan_in (chars w) h }
unfolding is_heard last_offset partner_offset loan_in
heard_told w s unheard = refl
heard_told w s (heard last partner) = refl

-- what harmony found is told of what was heard
told-harmony : (w : List ℕ) (h : Heard)
    → option_map harmony_of (told w h)
    ≡ cond (is_heard h) (Some (record { last = last_offset w h; partner = partner_offset w h; loan = loan_in (chars w) h })) None
unfolding told is_heard last_offset partner_offset loan_in
told-harmony w unheard = refl
told-harmony w (heard last partner) = refl

module _ (w : List ℕ) where
  -- a number means that the word is not accepted
  accepted-no : (r : Refusal) → refusal_number r ≡ refusal w → accepted w ≡ false
  unfolding accepted
  accepted-no r e = rw (← e, ne_eqb (refusal_number r) 0 (refusal_number-some r))

  -- no number that it is
  accepted-yes : 0 ≡ refusal w → accepted w ≡ true
  unfolding accepted
  accepted-yes e = eq-eqb (refusal w) 0 (sym e)

  -- ---- syllable check ----

  -- a refused check gives its refusal
  pub syllable_call-refused : (r : Refusal) → refusal_number r ≡ refusal w → syllable_answer (Err r) ≡ syllable_call w
  unfolding syllable_call
  syllable_call-refused r e = rw (accepted-no r e, ← e)

  -- any other tells whether the word has two vowels or more
  pub syllable_call-given : 0 ≡ refusal w → {t : Bool} → t ≡ more_than_one_syllable (before w (length w)) → syllable_answer (Ok t) ≡ syllable_call w
  unfolding chars
  syllable_call-given e q = rw (syllable_call-simple w, accepted-yes e, q)

  -- ---- suffix stage ----

  -- a refused stage hands back nothing
  pub stage_part_of-refused : {A : Type 0} (x : Result A Refusal) → result_number x ≡ refusal w → is_err x ≡ true → [] ≡ stage_part_of w
  unfolding stage_part_of
  stage_part_of-refused (Ok x) e t = cc
  stage_part_of-refused (Err r) e t = rw (accepted-no r e)

  -- any other the front of the word that it keeps
  pub stage_part_of-given : {A : Type 0} (x : Result A Refusal) → result_number x ≡ refusal w → is_err x ≡ false
      → (s : Outcome) → s ≡ outcome_of w → take s.kept w ≡ stage_part_of w
  unfolding stage_part_of outcome_of
  stage_part_of-given (Ok x) e t s q = rw (accepted-yes e, q, stage_text-kept w (accepted-yes e))
  stage_part_of-given (Err r) e t s q = cc

  -- a refused stage gives its refusal
  pub stage_call-refused : (r : Refusal) → refusal_number r ≡ refusal w → stage_answer (Err r) ≡ stage_call w
  unfolding stage_call
  stage_call-refused r e = rw (accepted-no r e, ← e)

  -- any other the length kept, yes or no, the flag, and what it heard
  pub stage_call-given : 0 ≡ refusal w → {s : Outcome} → s ≡ outcome_of w → {t : Stage} → t ≡ told_of s → stage_answer (Ok t) ≡ stage_call w
  unfolding stage_call
  stage_call-given e q p =
      let a = accepted-yes e in
      ap (λ (x : Stage). stage_answer (Ok x)) p ∙ rw (a, q, outcome-heard w a, told-harmony w (stage_heard (chars w)))
      (heard_told w (told_of (outcome_of w)) (stage_heard (chars w))
      ∙ (unfold outcome_of in rw (stage_text-length w a, suffix_stage-yes (chars w), suffix_stage-flag (chars w))))
