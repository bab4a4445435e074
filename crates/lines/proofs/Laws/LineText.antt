-- The texts of a line as the code writes them part by part, the sizes of the parts.
-- Assumes nothing.
use Prim.Native.Nat.{ℕ, zero, suc, ◌+◌, ◌≤◌}
use mathlib.Core.Path.{◌≡◌, refl, sym, ap, ◌∙◌}
use mathlib.Core.Bool.{Bool, true, false}
use mathlib.Core.List.{List, [], ◌∷◌, ◌++◌, append_assoc, append-nil}
use native.Mathlib.Omega.{arith}
use lib.ListN.{length, take, length-append, length-take}
use Rattle.turkish.specs.Letters.{tab, lf}
use Rattle.theorems.specs.Simple.Harmony.{more_than_one_syllable}
use Rattle.theorems.specs.Simple.Stage.{stage, kept_length}
use Rattle.turkish.specs.Calls.{chars, limit, accepted, pass_text, whole_text}
use Rattle.theorems.proofs.Laws.Accepted.{accepted-iff}
use Rattle.theorems.proofs.Sizes.{pass_text-size, whole_text-size, stage_text-kept}
use Rattle.theorems.proofs.Source.Syllables.{syllable_check-simple}
use Rattle.theorems.proofs.Source.Calls.{suffix_stage-yes, suffix_stage-flag}
use Rattle.stages.specs.declared.stage.Outcome.{Outcome}
use Rattle.repairs.specs.declared.postlude.Repair.{Repair}
use Rattle.stages.specs.Outcome.{outcome_of}
use Rattle.std.specs.Prelude.{Some, None}
use Rattle.writing.specs.declared.letter.Letter.{Letter}
use Rattle.writing.specs.Letter.{bytes_of}
use Rattle.repairs.specs.Repairs.{repair_text, repair_of}
use Rattle.stages.proofs.Laws.Kept.{kept-le}
use Rattle.outputs.specs.declared.run.Run.{Run}
use Rattle.outputs.specs.Runs.{run_text, whole_run_of}
use Rattle.outputs.proofs.Laws.RepairCalls.{pass-short, pass_kept, pass-repaired}
use Rattle.outputs.proofs.Laws.Runs.{whole_text-short, whole_run_of-text}
use Rattle.lines.specs.Line.{yes_no, one_zero, answers, fields, line_refusal_of, refused_line, list_line}
use Rattle.lines.specs.Room.{line_room}
use Rattle.lines.proofs.Laws.LineRefusals.{line_refusal_of-accepted, list_line-fields, list_line-refused}

-- ---- the text of a repair ----

module _ (w : List ℕ) (r : Repair) where
  -- where nothing follows, it is the bytes kept
  pub repair-none : r.letter ≡ None → take r.keep w ≡ repair_text w r
  unfolding repair_text
  repair-none e = rw (e, append-nil)

  -- where a letter follows, its bytes stand behind them
  pub repair-some : (l : Letter) → r.letter ≡ Some l → take r.keep w ++ bytes_of l ≡ repair_text w r
  unfolding repair_text
  repair-some l e = rw e

-- ---- the texts of the pass and of the whole run ----

module _ (w : List ℕ) (ok : accepted w ≡ true) (syllable : Bool) (y : syllable ≡ more_than_one_syllable (chars w)) where
  -- of a word of one syllable the pass's is the word
  pub pass_text-short : syllable ≡ false → w ≡ pass_text w
  pass_text-short n = sym (pass-short w ok (sym y ∙ n))

  module _ (s : Outcome) (q : s ≡ outcome_of w) (yes : syllable ≡ true) where
    -- of one whose flag is false the text kept
    pub pass_text-cut : s.flag ≡ false → take s.kept w ≡ pass_text w
    unfolding outcome_of
    pass_text-cut f = rw q (sym (pass_kept w ok (sym y ∙ yes) (sym (ap (λ (x : Outcome). x.flag) q) ∙ f)))

    -- of any other the repair of that
    pub pass_text-repaired : s.flag ≡ true → (r : Repair) → r ≡ repair_of w s.kept → repair_text w r ≡ pass_text w
    unfolding outcome_of
    pass_text-repaired f r p = rw (p, q) (sym (pass-repaired w ok (sym y ∙ yes) (sym (ap (λ (x : Outcome). x.flag) q) ∙ f)))

  -- the whole run's of a word of one syllable is the word
  pub whole_text-one : syllable ≡ false → w ≡ whole_text w
  whole_text-one n = sym (whole_text-short w ok (sym y ∙ n))

  -- of any other that of its run
  pub whole_text-run : syllable ≡ true → (r : Run) → r ≡ whole_run_of w → run_text w r ≡ whole_text w
  whole_text-run t = whole_run_of-text w ok (sym y ∙ t)

-- ---- the fields ----

-- the answers take seven bytes
pub length-answers : (syllable stages flag : Bool) → length (answers syllable stages flag) ≡ 7
unfolding answers
length-answers syllable stages flag = refl

-- and byte by byte they are what the calls gave, between tabs
pub answers-bytes : (syllable stages flag : Bool) {a b c : ℕ} → a ≡ yes_no syllable → b ≡ yes_no stages → c ≡ one_zero flag
    → tab ∷ a ∷ tab ∷ b ∷ tab ∷ c ∷ tab ∷ [] ≡ answers syllable stages flag
unfolding answers
answers-bytes syllable stages flag p q r = rw (p, q, r)

-- the fields of an accepted word in the words of the simple forms
fields-simple : (w : List ℕ) → accepted w ≡ true → fields w
    ≡ w ++ (answers (more_than_one_syllable (chars w)) (stage (chars w)).yes (stage (chars w)).flag
    ++ (take (kept_length w) w ++ (tab ∷ (pass_text w ++ (tab ∷ (whole_text w ++ (lf ∷ [])))))))
unfolding fields
fields-simple w ok = rw (syllable_check-simple (chars w), suffix_stage-yes (chars w), suffix_stage-flag (chars w), stage_text-kept w ok)

-- the parts one after the other are the fields
pub fields-parts : (w : List ℕ) (syllable : Bool) (s : Outcome) → accepted w ≡ true → syllable ≡ more_than_one_syllable (chars w) → s ≡ outcome_of w
    → ((((((w ++ answers syllable s.yes s.flag) ++ take s.kept w) ++ (tab ∷ [])) ++ pass_text w) ++ (tab ∷ [])) ++ whole_text w) ++ (lf ∷ []) ≡ fields w
unfolding outcome_of
fields-parts w syllable s ok y q = rw (fields-simple w ok, y, q) (simp append_assoc)

-- an accepted word, the text kept and the texts of the pass and of the whole run are short enough that the fields fit a line's room
pub fields-sizes : (w : List ℕ) (s : Outcome) → accepted w ≡ true → s ≡ outcome_of w
    → (length w ≤ limit) × (s.kept ≤ length w) × (length (pass_text w) ≤ length w + 2) × (length (whole_text w) ≤ length w + 2)
unfolding limit
fields-sizes w s ok q = (((accepted-iff w).0 ok).0, kept-le w s q, pass_text-size w ok, whole_text-size w ok)

-- ---- the whole line ----

-- the fields of an accepted word have room for a line
fields-size : (w : List ℕ) → accepted w ≡ true → length (fields w) ≤ line_room
unfolding line_room outcome_of
fields-size w ok =
    let sizes = fields-sizes w (outcome_of w) ok refl in
    rw (fields-simple w ok) (simp (length-append, length-answers, length-take) (omega arith))

-- so have the four bytes of a refused line
refused_line-size : (n : ℕ) → length (refused_line n) ≤ line_room
unfolding refused_line line_room
refused_line-size n = omega arith

-- and any line has
pub list_line-size : (w : List ℕ) → length (list_line w) ≤ line_room
list_line-size w = go (line_refusal_of w) refl
  where
    go : (n : ℕ) → n ≡ line_refusal_of w → length (list_line w) ≤ line_room
    go zero e = rw (← list_line-fields w zero e refl) (fields-size w (line_refusal_of-accepted w zero e refl))
    go (suc n) e = rw (← list_line-refused w (suc n) e (λ z. omega arith)) (refused_line-size (suc n))
