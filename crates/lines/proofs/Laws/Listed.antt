-- Which word is listed for a line of the input, and that the fold's call into room for twice the limit gives it. Assumes nothing.
use Prim.Native.Nat.{ℕ, ◌*◌, ◌≤◌}
use mathlib.Core.Path.{◌≡◌, refl, sym, ap, ◌∙◌}
use mathlib.Core.Bool.{Bool, true, false}
use mathlib.Core.List.{List}
use native.Mathlib.Omega.{arith}
use lib.ListN.{length, take, drop, length-append}
use lib.Seq.{take-append_seam}
use lib.Dec.{eqb}
use borrow.Author.Tests.{eqb-true}
use Rattle.encoding.proofs.Laws.Booleans.{and-false, cond_cases}
use Rattle.turkish.specs.declared.answer.LengthAnswer.{LengthAnswer}
use Rattle.turkish.specs.Calls.{limit, accepted, written, fold_text, fold_refusal, fold_call, fold_out}
use Rattle.theorems.proofs.Laws.Accepted.{accepted-iff}
use Rattle.theorems.proofs.Folds.{fold_text-doubled}
use Rattle.refusals.proofs.Laws.Refusals.{into-accepted}
use Rattle.folding.proofs.Laws.FoldCall.{fold-given}
use Rattle.lines.specs.Listed.{listed}

-- ---- which word it is ----

-- where folded forms are not asked for, the line as it stands
pub listed_plain : (w : List ℕ) → listed false w ≡ w
unfolding listed
listed_plain w = refl

-- where they are, the folded text of an accepted word
pub listed-folded : (w : List ℕ) → accepted w ≡ true → listed true w ≡ fold_text w
unfolding listed
listed-folded w ok = rw ok

-- another word is listed as it stands either way
pub listed-refused : (folded : Bool) (w : List ℕ) → accepted w ≡ false → listed folded w ≡ w
unfolding listed
listed-refused folded w n = rw (n, and-false folded)

-- ---- what the call gives of it ----

-- the number in the call's answer is the one that the call has
fold_call-number : (w : List ℕ) (room : ℕ) → (fold_call w room).refusal ≡ fold_refusal w room
unfolding fold_call
fold_call-number w room =
    cond_cases (λ (x : LengthAnswer). x.refusal ≡ fold_refusal w room) (eqb (fold_refusal w room) 0) (λ t. sym (eqb-true (fold_refusal w room) 0 t)) (λ t. refl)

-- f is answered and o left of an output with room for twice the limit
module _ (w out o : List ℕ) (f : LengthAnswer) (room : 2 * limit ≤ length out) (e : (f ≡ fold_call w (length out)) × (o ≡ fold_out w out)) where
  -- an accepted word's folded text always fits
  given : accepted w ≡ true → (record { refusal = 0; length = length (fold_text w) } ≡ f) × (written (fold_text w) out ≡ o)
  given ok =
      let a = (accepted-iff w).0 ok in
      let g = fold-given w ok out (length (fold_text w)) (written (fold_text w) out) (omega (arith, (fold_text-doubled w a.1).0)) refl refl in
      (g.0 ∙ sym e.0, g.1 ∙ sym e.1)

  -- so a number is a refused word's, which is listed as it stands
  pub call-refused : (f.refusal ≡ 0 → ⊥) → w ≡ listed true w
  call-refused h = sym (listed-refused true w (go (accepted w) refl))
    where
      go : (t : Bool) → accepted w ≡ t → accepted w ≡ false
      go true ok = absurd (h (sym (ap (λ (x : LengthAnswer). x.refusal) (given ok).0)))
      go false n = n

  -- with none the word is accepted
  module _ (z : f.refusal ≡ 0) where
    ok : accepted w ≡ true
    unfolding fold_refusal
    ok = into-accepted w (length (fold_text w)) (length out) f.refusal (ap (λ (x : LengthAnswer). x.refusal) e.0 ∙ fold_call-number w (length out)) z

    -- the length is within the output
    pub call_fits : f.length ≤ length o
    unfolding written
    call_fits = rw (← (given ok).0, ← (given ok).1) (simp length-append (omega arith))

    -- and as many bytes of it are the word listed
    pub call-text : take f.length o ≡ listed true w
    unfolding written
    call-text = rw (listed-folded w ok, ← (given ok).0, ← (given ok).1) (take-append_seam (fold_text w) (drop (length (fold_text w)) out))
