-- What holds of marks that were taken one after the other, of each at the characters before which it stood: a statement about each mark of
-- the grammar goes over to the marks that a command keeps. Assumes nothing.
use Prim.Native.Nat.{ℕ}
use mathlib.Core.Path.{◌≡◌, sym, subst}
use mathlib.Core.Bool.{Bool, true}
use mathlib.Core.List.{List, [], ◌∷◌, ◌++◌}
use lib.ListN.{drop}
use lib.Seq.{drop-drop}
use Rattle.encoding.proofs.Laws.Booleans.{and_left, and_right}
use Rattle.theorems.specs.Simple.Grammar.{Mark, mark_of, Command, mark, ◌then◌, ◌or◌, nothing, unset}
use Rattle.theorems.specs.Simple.Stage.{branches}
use Rattle.theorems.specs.Simple.Pieces.{Taken, total, taken_by, trace_of, trace, stage_marks}
use Rattle.theorems.proofs.Laws.Outcome.{Post, post-map}
use Rattle.theorems.proofs.Laws.Keeping.{Keeping, keeping, keeping-map, keeping-first, keeping-mark, keeping-after, keeping-taken, every_mark}

-- of marks taken one after the other before a place, P holds of each at the characters before it
pub data Along (P : List ℕ → Taken → Type 0) : List ℕ → List Taken → Type 0 where
  none : {cs : List ℕ} → Along P cs []
  one : {cs : List ℕ} (t : Taken) {ts : List Taken} → P cs t → Along P (drop t.size cs) ts → Along P cs (t ∷ ts)

module _ {P : List ℕ → Taken → Type 0} where
  -- so of the first of them
  pub along-head : {cs : List ℕ} {t : Taken} {ts : List Taken} → Along P cs (t ∷ ts) → P cs t
  along-head (one u p x) = p

  -- and of the others, from where it ends
  pub along-tail : {cs : List ℕ} {t : Taken} {ts : List Taken} → Along P cs (t ∷ ts) → Along P (drop t.size cs) ts
  along-tail (one u p x) = x

  -- marks taken and then more, from where the first ones end
  along-append : {cs : List ℕ} {ts us : List Taken} → Along P cs ts → Along P (drop (total ts) cs) us → Along P cs (ts ++ us)
  unfolding total
  along-append none y = y
  along-append {cs} {us = us} (one t {ts} p x) y = one t p (along-append {us = us} x (subst (λ (ds : List ℕ). Along P ds us) (sym (drop-drop (total ts) t.size cs)) y))

  -- where a mark that passes a test takes what P holds of
  module _ (f : Mark → Bool) (passes : (m : Mark) (cs : List ℕ) → f m ≡ true → Post (λ k. P cs (taken_by m cs k)) (mark_of m cs)) where
    -- P holds of the marks that a command of such marks keeps
    trace-along : (p : Command) (cs : List ℕ) → every_mark f p ≡ true → Keeping (Along P cs) (trace p cs)
    unfolding trace trace_of every_mark
    trace-along (mark m) cs e = keeping-mark m cs (post-map (λ k g p. one (taken_by m cs k) p none) (passes m cs e))
    trace-along (p then q) cs e =
        keeping-after (λ k. trace q (drop k cs)) (trace-along p cs (and_left (every_mark f p) (every_mark f q) e)) λ ts x.
        keeping-map (λ us y. along-append x y) (trace-along q (drop (total ts) cs) (and_right (every_mark f p) (every_mark f q) e))
    trace-along (p or q) cs e =
        keeping-first (trace-along p cs (and_left (every_mark f p) (every_mark f q) e)) (trace-along q cs (and_right (every_mark f p) (every_mark f q) e))
    trace-along nothing cs e = keeping [] none
    trace-along unset cs e = keeping [] none

    -- so of those that the stage keeps, where its marks pass
    pub stage_marks-along : (cs : List ℕ) → every_mark f branches ≡ true → Along P cs (stage_marks cs)
    unfolding stage_marks
    stage_marks-along cs e = keeping-taken none (trace-along branches cs e)
