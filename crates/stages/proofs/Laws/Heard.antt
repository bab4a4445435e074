-- What the suffix stage heard, as the code holds it, is what the definition tells of an accepted word: where the two vowels start, in bytes,
-- and whether a vowel was skipped between them. Assumes nothing.
use Prim.Native.Nat.{ℕ, ◌+◌, ◌-◌}
use mathlib.Core.Path.{◌≡◌, refl, sym, ap, ◌∙◌}
use mathlib.Core.Bool.{true}
use mathlib.Core.List.{List}
use native.Mathlib.Omega.{arith}
use lib.ListN.{length, drop, length-drop}
use lib.Seq.{drop-drop}
use Rattle.utf8.specs.declared.cursor.Cursor.{Cursor}
use Rattle.utf8.specs.Behind.{behind, back_by}
use Rattle.utf8.proofs.Laws.Behind.{behind-back_by, behind-before, back_by-add, back_by-back, back_by-zero}
use Rattle.turkish.specs.Heard.{Heard, unheard, heard, or_heard, loan_in}
use Rattle.turkish.specs.Pieces.{first_heard, stage_heard}
use Rattle.theorems.specs.Simple.Harmony.{at, harmony_found, skips_vowel}
use Rattle.theorems.specs.Simple.Pieces.{Taken, heard_at, stage_marks, located}
use Rattle.turkish.specs.Calls.{chars, accepted, offset}
use Rattle.theorems.proofs.Laws.Offsets.{offset-back}
use Rattle.theorems.proofs.Laws.Harmony.{harmony_found-bounds}
use Rattle.theorems.proofs.Laws.Heard.{loan-skips}
use Rattle.theorems.proofs.Laws.Along.{Along, none, one}
use Rattle.theorems.proofs.Laws.FirstHeard.{Sounded, silent, sounding, stage_marks-sounded}
use Rattle.theorems.proofs.Source.KeptStage.{kept_marks-simple}
use Rattle.std.specs.Prelude.{Option, Some, None}
use Rattle.vowels.specs.declared.harmony.Harmony.{Harmony}
use Rattle.vowels.specs.Harmony.{heard_of}
use Rattle.stages.specs.Trail.{heard_along, way_of}
use Rattle.stages.specs.Outcome.{whole, outcome_of}
use Rattle.stages.proofs.Laws.Branches.{open-whole}

-- what is told of a word's two vowels
unfoldable pub told : List ℕ → Heard → Option Harmony
told w unheard = None
told w (heard last partner) =
    Some (record { last = offset w last; partner = offset w partner; skips = loan_in (chars w) (heard last partner) })

module _ (w : List ℕ) (a : accepted w ≡ true) where
  -- what stands behind the record k characters back from the word's end
  behind-back : (k : ℕ) → behind w (back_by w (whole w) k) ≡ drop k (chars w)
  unfolding whole chars
  behind-back k = behind-back_by w (whole w) k ∙ ap (drop k) (behind-before w (length w) (length w))

  -- and the place m more back
  place-back : (k m : ℕ) → (back_by w (back_by w (whole w) k) m).cursor ≡ offset w (length (chars w) - k - m)
  unfolding whole
  place-back k m =
      let e : length (chars w) - (k + m) ≡ length (chars w) - k - m = omega arith in
      ap (λ (r : Cursor). r.cursor) (back_by-add w (whole w) k m) ∙ back_by-back w (length w) (length w) (k + m) ∙ sym (offset-back w (k + m) a) ∙ ap (offset w) e

  -- what a mark entered there found
  heard-here : (k l p : ℕ) → harmony_found (drop k (chars w)) ≡ at l p
      → heard_of w (back_by w (whole w) k) (at l p) ≡ told w (heard_at (length (chars w) - k) (at l p))
  unfolding heard_of told heard_at
  heard-here k l p e =
      let bounds = harmony_found-bounds (drop k (chars w)) e in
      let skipped = ap (λ (cs : List ℕ). skips_vowel cs l p) (behind-back k)
      ∙ sym (loan-skips (chars w) k l p bounds.1 (omega (arith, bounds.0, bounds.1, bounds.2, length-drop k (chars w)))) in
      rw (place-back k l, place-back k p, skipped)

  -- so of marks taken one after the other from there
  heard-along : (k : ℕ) {cs : List ℕ} {ts : List Taken} → Along Sounded cs ts → cs ≡ drop k (chars w)
      → heard_along w (back_by w (whole w) k) ts ≡ told w (first_heard (located (length (chars w) - k) ts))
  unfolding heard_along first_heard located heard_of heard_at or_heard told
  heard-along k none e = refl
  heard-along k (one t {ts} (silent u f) x) e =
      let left : length (chars w) - k - t.size ≡ length (chars w) - (k + t.size) = omega arith in
      let rest = heard-along (k + t.size) x (ap (drop t.size) e ∙ drop-drop t.size k (chars w)) in
      rw (f, back_by-add w (whole w) k t.size, left) rest
  heard-along k (one t {ts} (sounding l p u f g i) x) e =
      rw f (heard-here k l p (ap harmony_found (sym e) ∙ g))

  -- so of the stage
  heard-stage : heard_along w (whole w) (stage_marks (chars w)) ≡ told w (stage_heard (chars w))
  unfolding stage_heard
  heard-stage =
      let all : length (chars w) - 0 ≡ length (chars w) = omega arith in
      let from_end = heard-along 0 (stage_marks-sounded (chars w)) refl in
      rw (back_by-zero w (whole w) (open-whole w), all) at from_end ∙ ap (λ ks. told w (first_heard ks)) (sym (kept_marks-simple (chars w)))

-- so the outcome of an accepted word has heard what the definition finds in it
pub outcome-heard : (w : List ℕ) → accepted w ≡ true → (outcome_of w).way.heard ≡ told w (stage_heard (chars w))
unfolding outcome_of way_of
outcome-heard w a = heard-stage w a
