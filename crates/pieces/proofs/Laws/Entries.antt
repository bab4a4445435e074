-- The pieces made of the marks that the stage keeps are the word's pieces, from its end inward; and each mark stands in the word where the
-- code looks for its first letter. Assumes nothing.
use Prim.Native.Nat.{ℕ, ◌+◌, ◌-◌, ◌≤◌}
use mathlib.Core.Path.{◌≡◌, refl, sym, ap, ap₂, ◌∙◌}
use mathlib.Core.Bool.{true}
use mathlib.Core.List.Memᴰ
use mathlib.Core.List.{List, [], ◌∷◌, map}
use native.Mathlib.Omega.{arith}
use lib.ListN.{length, drop, get_or}
use lib.Seq.{drop-drop}
use lib.Dec.{eqb}
use Rattle.utf8.specs.declared.cursor.Cursor.{Cursor}
use Rattle.utf8.specs.Characters.{back}
use Rattle.utf8.specs.Behind.{back_by}
use Rattle.utf8.proofs.Laws.Behind.{back_by-add, back_by-back}
use Rattle.theorems.specs.Simple.Pieces.{Taken, total, joint_by, kept_at, located}
use Rattle.turkish.specs.Calls.{chars, accepted}
use Rattle.turkish.specs.PieceCalls.{Span, span_of, told}
use Rattle.theorems.proofs.Laws.PieceCounts.{Numbered, Each}
use Rattle.theorems.proofs.Laws.Joints.{joins, JoinedAs, joined_as-head, joined_as-tail}
use Rattle.theorems.proofs.Laws.Offsets.{offset-back, joint_by-byte}
use Rattle.kinds.proofs.Laws.Kinds.{kind_number-kind_at}
use Rattle.kinds.proofs.Laws.Joined.{kind_joined-kind_at}
use Rattle.marks.specs.Reach.{mark_numbered}
use Rattle.stages.specs.Trail.{stop_at}
use Rattle.stages.specs.Outcome.{whole}
use Rattle.pieces.specs.Removed.{piece_of}
use Rattle.pieces.proofs.Laws.Trails.{held, listed}

module _ (w : List ℕ) (a : accepted w ≡ true) where
  -- a mark that took some characters behind the nearest n is told as the piece that it is
  told-piece : (n : ℕ) (t : Taken) → Numbered t → t.joined ≡ joint_by (joins t.kind) t.size (drop n (chars w)) → n + t.size ≤ length (chars w)
      → told (piece_of w (stop_at (mark_numbered t.kind) (back w (length w) (n + t.size))) (back w (length w) n))
      ≡ span_of w (kept_at (length (chars w) - n) t)
  unfolding told piece_of span_of joins stop_at
  told-piece n t s j h =
      let k = t.kind in
      let y = eqb (get_or w (back w (length w) (n + t.size)) 0) 0x79 in
      let mark = held t s in
      let number = kind_number-kind_at k y s.low s.high in
      let joint = kind_joined-kind_at k y s.low s.high ∙ sym (j ∙ joint_by-byte w (joins k) n t.size a s.some h) in
      let to : length (chars w) - n - t.size ≡ length (chars w) - (n + t.size) = omega arith in
      rw (mark.is, mark.number, number, joint, to, offset-back w (n + t.size) a, offset-back w n a)

  -- the place n characters back from the word's end
  back_whole : (n : ℕ) → (back_by w (whole w) n).cursor ≡ back w (length w) n
  unfolding whole
  back_whole n = back_by-back w (length w) (length w) n

  -- so are all marks taken one after the other
  pub told-listed : (n : ℕ) (ts : List Taken) → Each Numbered ts → JoinedAs (drop n (chars w)) ts → n + total ts ≤ length (chars w)
      → map told (listed w (back_by w (whole w) n) ts) ≡ map (span_of w) (located (length (chars w) - n) ts)
  unfolding listed located total
  told-listed n [] s j h = refl
  told-listed n (t ∷ ts) s j h =
      let c = back_by w (whole w) n in
      let next = back_by-add w (whole w) n t.size in
      let there : (back_by w c t.size).cursor ≡ back w (length w) (n + t.size) = ap (λ (d : Cursor). d.cursor) next ∙ back_whole (n + t.size) in
      let first : told (piece_of w (stop_at (mark_numbered t.kind) (back_by w c t.size).cursor) c.cursor) ≡ span_of w (kept_at (length (chars w) - n) t) =
      rw (there, back_whole n) (told-piece n t (s t (Memᴰ.head refl)) (joined_as-head j) (omega arith)) in
      let left : length (chars w) - n - t.size ≡ length (chars w) - (n + t.size) = omega arith in
      let rest : JoinedAs (drop (n + t.size) (chars w)) ts = rw (drop-drop t.size n (chars w)) at (joined_as-tail j) in
      let others : map told (listed w (back_by w c t.size) ts) ≡ map (span_of w) (located (length (chars w) - n - t.size) ts) =
      rw (next, left) (told-listed (n + t.size) ts (λ u i. s u (Memᴰ.tail i)) rest (omega arith)) in
      ap₂ (λ (p : Span) (ps : List Span). p ∷ ps) first others
