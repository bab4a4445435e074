-- No refusal has the number 0, and no two have one number. So what C gets of a result tells which it was: nothing is lost. Assumes nothing.
use Prim.Native.Nat.{ℕ}
use mathlib.Core.Path.{◌≡◌, refl, sym, ap, ◌∙◌}
use mathlib.Core.Bool.{Bool, cond}
use lib.Dec.{eqb}
use Rattle.std.specs.Prelude.{Option, Some, None, Result, Ok, Err}
use Rattle.turkish.specs.declared.refusal.Refusal.{Refusal}
use Rattle.turkish.specs.declared.refusal.Refusal.TheVariants.{OverLimit, NotUtf8, OutputTooShort, HasTab, BufferTooShort, TailsRefused}
use Rattle.turkish.specs.declared.reply.Harmony.{Harmony}
use Rattle.turkish.specs.declared.reply.Stage.{Stage}
use Rattle.turkish.specs.declared.reply.Text.{Text}
use Rattle.turkish.specs.declared.reply.Pass.{Pass}
use Rattle.turkish.specs.declared.reply.Pieces.{Pieces}
use Rattle.turkish.specs.declared.answer.StageAnswer.{StageAnswer}
use Rattle.turkish.specs.Refusals.{refusal_number}
use Rattle.turkish.specs.Results.{syllable_answer, heard_answer, stage_answer, text_answer, pass_answer, length_answer, pieces_answer, batch_answer}

-- ---- the numbers ----

-- none is 0
pub refusal_number-some : (r : Refusal) → refusal_number r ≡ 0 → ⊥
refusal_number-some OverLimit e = cc
refusal_number-some NotUtf8 e = cc
refusal_number-some OutputTooShort e = cc
refusal_number-some HasTab e = cc
refusal_number-some BufferTooShort e = cc
refusal_number-some TailsRefused e = cc

-- the case of a number
abbrev named : ℕ → Refusal
named n = cond (eqb n 1) OverLimit (cond (eqb n 2) NotUtf8 (cond (eqb n 3) OutputTooShort (cond (eqb n 4) HasTab (cond (eqb n 5) BufferTooShort TailsRefused))))

named-number : (r : Refusal) → named (refusal_number r) ≡ r
named-number OverLimit = refl
named-number NotUtf8 = refl
named-number OutputTooShort = refl
named-number HasTab = refl
named-number BufferTooShort = refl
named-number TailsRefused = refl

-- no two have one
pub refusal_number-one-to-one : (r s : Refusal) → refusal_number r ≡ refusal_number s → r ≡ s
refusal_number-one-to-one r s e = sym (named-number r) ∙ ap named e ∙ named-number s

-- ---- the answers ----

-- an answer that tells the number, and the value where that is 0, tells the result
module _ {A B : Type 0} (f : Result A Refusal → B) (number : B → ℕ) (value : B → A) where
  tells : ((x : A) → number (f (Ok x)) ≡ 0) → ((r : Refusal) → number (f (Err r)) ≡ refusal_number r) → ((x : A) → value (f (Ok x)) ≡ x)
      → (a b : Result A Refusal) → f a ≡ f b → a ≡ b
  tells z n v (Ok x) (Ok y) e = ap Ok (sym (v x) ∙ ap value e ∙ v y)
  tells z n v (Ok x) (Err r) e = absurd (refusal_number-some r (sym (n r) ∙ sym (ap number e) ∙ z x))
  tells z n v (Err r) (Ok x) e = absurd (refusal_number-some r (sym (n r) ∙ ap number e ∙ z x))
  tells z n v (Err r) (Err s) e = ap Err (refusal_number-one-to-one r s (sym (n r) ∙ ap number e ∙ n s))

pub syllable_answer-one-to-one : (a b : Result Bool Refusal) → syllable_answer a ≡ syllable_answer b → a ≡ b
syllable_answer-one-to-one = tells syllable_answer (λ a. a.refusal) (λ a. a.yes) (λ x. refl) (λ r. refl) (λ x. refl)

pub text_answer-one-to-one : (a b : Result Text Refusal) → text_answer a ≡ text_answer b → a ≡ b
text_answer-one-to-one = tells text_answer (λ a. a.refusal) (λ a. record { length = a.length; yes = a.yes }) (λ x. refl) (λ r. refl) (λ x. refl)

pub pass_answer-one-to-one : (a b : Result Pass Refusal) → pass_answer a ≡ pass_answer b → a ≡ b
pass_answer-one-to-one =
    tells pass_answer (λ a. a.refusal) (λ a. record { length = a.length; syllable = a.syllable; yes = a.yes; flag = a.flag }) (λ x. refl) (λ r. refl) (λ x. refl)

pub length_answer-one-to-one : (a b : Result ℕ Refusal) → length_answer a ≡ length_answer b → a ≡ b
length_answer-one-to-one = tells length_answer (λ a. a.refusal) (λ a. a.length) (λ x. refl) (λ r. refl) (λ x. refl)

pub pieces_answer-one-to-one : (a b : Result Pieces Refusal) → pieces_answer a ≡ pieces_answer b → a ≡ b
pieces_answer-one-to-one = tells pieces_answer (λ a. a.refusal) (λ a. record { length = a.length; count = a.count }) (λ x. refl) (λ r. refl) (λ x. refl)

pub batch_answer-one-to-one : (a b : Result ℕ Refusal) → batch_answer a ≡ batch_answer b → a ≡ b
batch_answer-one-to-one = tells batch_answer (λ a. a.refusal) (λ a. a.count) (λ x. refl) (λ r. refl) (λ x. refl)

-- what the stage's answer says that harmony found
abbrev told_harmony : StageAnswer → Option Harmony
told_harmony a = cond a.harmonic (Some (record { last = a.last; partner = a.partner; loan = a.loan })) None

abbrev told_stage : StageAnswer → Stage
told_stage a = record { length = a.length; yes = a.yes; flag = a.flag; harmony = told_harmony a }

stage-number : (s : Stage) (h : Option Harmony) → (heard_answer s h).refusal ≡ 0
stage-number s None = refl
stage-number s (Some h) = refl

stage_told : (s : Stage) (h : Option Harmony) → told_stage (heard_answer s h) ≡ record { length = s.length; yes = s.yes; flag = s.flag; harmony = h }
stage_told s None = refl
stage_told s (Some h) = refl

pub stage_answer-one-to-one : (a b : Result Stage Refusal) → stage_answer a ≡ stage_answer b → a ≡ b
stage_answer-one-to-one =
    tells stage_answer (λ a. a.refusal) told_stage (λ x. stage-number x x.harmony) (λ r. refl) (λ x. stage_told x x.harmony)
