-- A refused call gives its number and nothing else, and one that is answered number 0; and each answer can be read back from where its fields are
-- laid out. Assumes nothing.
use Prim.Native.Nat.{ℕ}
use mathlib.Core.Path.{◌≡◌, refl}
use mathlib.Core.Bool.{Bool, true, false, not}
use mathlib.Core.List.{List, []}
use lib.ListN.{get_or}
use lib.Dec.{eqb}
use borrow.Author.Tests.{eqb-true, eq-eqb, ne_eqb}
use Rattle.encoding.proofs.Laws.Booleans.{not-eq-false}
use Rattle.turkish.specs.Calls.{refusal, accepted, syllable_call, stage_part_of, stage_call, postlude_refusal, postlude_call, fold_refusal, fold_call, pass_refusal, pass_call}
use Rattle.turkish.specs.Calls.{noun_refusal, noun_call, whole_refusal, whole_call}
use Rattle.turkish.specs.PieceCalls.{pieces_refusal, pieces_call, pieces_text_refusal, pieces_text_call}
use Rattle.theorems.specs.Replies.{Call, syllable, stage, postlude, fold, pass, noun, whole, pieces, pieces_text_of, refusal_from, Reply, reply, GivesOnly}
use Rattle.theorems.proofs.Laws.Tests.{every, every-at}

-- an answer whose numbers, yes/no answers and part all pass gives its number alone
pub gives-only : (r : Reply) → every (λ n. eqb n 0) r.numbers ≡ true → every not r.answers ≡ true → r.part ≡ [] → GivesOnly r.number r
gives-only r n b p =
    record { its-number = refl; all-0 = λ m. eqb-true _ 0 (every-at (λ n. eqb n 0) n m); all-no = λ m. not-eq-false _ (every-at not b m); empty-part = p }

-- a refused call
pub refused-only : (c : Call) → (refusal_from c ≡ 0 → ⊥) → GivesOnly (refusal_from c) (reply c)
unfolding refusal_from reply every accepted syllable_call stage_call stage_part_of postlude_call fold_call pass_call noun_call whole_call pieces_call pieces_text_call
refused-only (syllable w) h = rw (ne_eqb (refusal w) 0 h) (gives-only _ refl refl refl)
refused-only (stage w) h = rw (ne_eqb (refusal w) 0 h) (gives-only _ refl refl refl)
refused-only (postlude w room) h = rw (ne_eqb (postlude_refusal w room) 0 h) (gives-only _ refl refl refl)
refused-only (fold w room) h = rw (ne_eqb (fold_refusal w room) 0 h) (gives-only _ refl refl refl)
refused-only (pass w room) h = rw (ne_eqb (pass_refusal w room) 0 h) (gives-only _ refl refl refl)
refused-only (noun w room) h = rw (ne_eqb (noun_refusal w room) 0 h) (gives-only _ refl refl refl)
refused-only (whole w room) h = rw (ne_eqb (whole_refusal w room) 0 h) (gives-only _ refl refl refl)
refused-only (pieces w room) h = rw (ne_eqb (pieces_refusal w room) 0 h) (gives-only _ refl refl refl)
refused-only (pieces_text_of w room) h = rw (ne_eqb (pieces_text_refusal w room) 0 h) (gives-only _ refl refl refl)

-- a call that is answered
pub answered-0 : (c : Call) → refusal_from c ≡ 0 → (reply c).number ≡ 0
unfolding refusal_from reply accepted syllable_call stage_call postlude_call fold_call pass_call noun_call whole_call pieces_call pieces_text_call
answered-0 (syllable w) e = rw (eq-eqb (refusal w) 0 e)
answered-0 (stage w) e = rw (eq-eqb (refusal w) 0 e)
answered-0 (postlude w room) e = rw (eq-eqb (postlude_refusal w room) 0 e)
answered-0 (fold w room) e = rw (eq-eqb (fold_refusal w room) 0 e)
answered-0 (pass w room) e = rw (eq-eqb (pass_refusal w room) 0 e)
answered-0 (noun w room) e = rw (eq-eqb (noun_refusal w room) 0 e)
answered-0 (whole w room) e = rw (eq-eqb (whole_refusal w room) 0 e)
answered-0 (pieces w room) e = rw (eq-eqb (pieces_refusal w room) 0 e)
answered-0 (pieces_text_of w room) e = rw (eq-eqb (pieces_text_refusal w room) 0 e)

-- ---- the layout leaves out no field ----

abbrev number_at : ℕ → Reply → ℕ
number_at k r = get_or r.numbers k 0

abbrev answer_at : ℕ → Reply → Bool
answer_at k r = get_or r.answers k false

-- each call's answer, read back from its reply
pub replies-whole : (w : List ℕ) (room : ℕ)
    → (let r = reply (syllable w) in syllable_call w ≡ record { refusal = r.number; yes = answer_at 0 r })
    × (let r = reply (stage w) in
    stage_call w
    ≡ record {
      refusal = r.number;
      length = number_at 0 r;
      yes = answer_at 0 r;
      flag = answer_at 1 r;
      harmonic = answer_at 2 r;
      last = number_at 1 r;
      partner = number_at 2 r;
      loan = answer_at 3 r;
    })
    × (stage_part_of w ≡ (reply (stage w)).part)
    × (let r = reply (postlude w room) in postlude_call w room ≡ record { refusal = r.number; length = number_at 0 r; yes = answer_at 0 r })
    × (let r = reply (fold w room) in fold_call w room ≡ record { refusal = r.number; length = number_at 0 r })
    × (let r = reply (pass w room) in
    pass_call w room ≡ record { refusal = r.number; length = number_at 0 r; syllable = answer_at 0 r; yes = answer_at 1 r; flag = answer_at 2 r })
    × (let r = reply (noun w room) in noun_call w room ≡ record { refusal = r.number; length = number_at 0 r; yes = answer_at 0 r })
    × (let r = reply (whole w room) in whole_call w room ≡ record { refusal = r.number; length = number_at 0 r })
    × (let r = reply (pieces w room) in pieces_call w room ≡ record { refusal = r.number; length = number_at 0 r; count = number_at 1 r })
    × (let r = reply (pieces_text_of w room) in pieces_text_call w room ≡ record { refusal = r.number; length = number_at 0 r })
unfolding reply
replies-whole w room = (refl, refl, refl, refl, refl, refl, refl, refl, refl, refl)
