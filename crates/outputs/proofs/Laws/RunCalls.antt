-- What the calls of the noun stage and of the whole run give and leave in the output, refused and not, by the number that the code found.
-- Assumes nothing.
use Prim.Native.Nat.{ℕ, ◌+◌}
use mathlib.Core.Path.{◌≡◌, ◌∙◌}
use mathlib.Core.Bool.{Bool, false}
use mathlib.Core.List.{List}
use lib.ListN.{length}
use borrow.Author.Tests.{ne_eqb}
use Rattle.turkish.specs.declared.answer.TextAnswer.{TextAnswer}
use Rattle.turkish.specs.declared.answer.LengthAnswer.{LengthAnswer}
use Rattle.turkish.specs.Calls.{written, refusal_into_of, noun_refusal, noun_call, noun_out, whole_text, whole_refusal, whole_call, whole_out}
use Rattle.std.specs.Prelude.{Option, is_some}
use Rattle.nouns.specs.declared.stage.Uninflected.{Uninflected}
use Rattle.nouns.specs.Stage.{uninflected_of}
use Rattle.refusals.proofs.Laws.Refusals.{into-accepted}
use Rattle.outputs.specs.declared.run.Run.{Run}
use Rattle.outputs.specs.Runs.{run_text, left_run, noun_run}
use Rattle.outputs.proofs.Laws.Runs.{uninflected_of-yes, noun_run-text}

-- ---- the noun stage ----

module _ (w out : List ℕ) (n : ℕ) (e : n ≡ refusal_into_of w (length w) (length out)) where
  -- a refused call gives its number and leaves the output
  pub noun_call-noun_out-refused : (n ≡ 0 → ⊥)
      → (◌≡◌ {A = TextAnswer} (record { refusal = n; length = 0; yes = false }) (noun_call w (length out))) × (out ≡ noun_out w out)
  unfolding noun_call noun_out noun_refusal
  noun_call-noun_out-refused h = (rw (← e, ne_eqb n 0 h), rw (← e, ne_eqb n 0 h))

  -- any other gives the length of what is left and the stage's answer, and leaves the text written
  pub noun_call-noun_out-given : n ≡ 0 → (u : Option Uninflected) → u ≡ uninflected_of w (length w) → (r : Run) → r ≡ left_run u (length w)
      → {y : Bool} → y ≡ is_some u → (k : ℕ) (last : List ℕ) → k ≡ length (run_text w r) → last ≡ written (run_text w r) out
      → (◌≡◌ {A = TextAnswer} (record { refusal = 0; length = k; yes = y }) (noun_call w (length out))) × (last ≡ noun_out w out)
  unfolding noun_call noun_out noun_refusal noun_run
  noun_call-noun_out-given z u p r q is k last l o =
      let t = noun_run-text w (into-accepted w (length w) (length out) n e z) in
      (rw (← e, z, ← t, ← uninflected_of-yes w, l, is, q, p), o ∙ rw (← e, z, ← t, q, p))

-- ---- the whole run ----

module _ (w out : List ℕ) (n : ℕ) (e : n ≡ refusal_into_of w (length w + 2) (length out)) where
  -- a refused call gives its number and leaves the output
  pub whole_call-whole_out-refused : (n ≡ 0 → ⊥)
      → (◌≡◌ {A = LengthAnswer} (record { refusal = n; length = 0 }) (whole_call w (length out))) × (out ≡ whole_out w out)
  unfolding whole_call whole_out whole_refusal
  whole_call-whole_out-refused h = (rw (← e, ne_eqb n 0 h), rw (← e, ne_eqb n 0 h))

  -- any other gives the length of its text, and leaves that written
  pub whole_call-whole_out-given : n ≡ 0 → (s : List ℕ) → s ≡ whole_text w → (k : ℕ) (last : List ℕ) → k ≡ length s → last ≡ written s out
      → (◌≡◌ {A = LengthAnswer} (record { refusal = 0; length = k }) (whole_call w (length out))) × (last ≡ whole_out w out)
  unfolding whole_call whole_out whole_refusal
  whole_call-whole_out-given z s t k last l o = (rw (← e, z, ← t, l), o ∙ rw (← e, z, ← t))
