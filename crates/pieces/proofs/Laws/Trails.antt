-- The pieces made of a trail: as many as there are marks, one for each in order, and then entries that are not used; and each mark stands
-- before the one that was kept before it. Assumes nothing.
use Prim.Native.Nat.{ℕ, zero, suc, ◌-◌, ◌≤◌, ◌<◌}
use mathlib.Core.Path.{◌≡◌, refl, sym, ap}
use mathlib.Core.List.{List, [], ◌∷◌, ◌++◌, map, Memᴰ}
use native.Mathlib.Omega.{arith}
use lib.ListN.{length}
use Rattle.std.specs.Prelude.{Option, Some, None}
use Rattle.utf8.specs.declared.cursor.Cursor.{Cursor}
use Rattle.utf8.specs.Behind.{back_by}
use Rattle.turkish.specs.declared.endings.Piece.{Piece}
use Rattle.theorems.specs.Simple.Pieces.{Taken}
use Rattle.turkish.specs.PieceCalls.{Span, told, unused, most_pieces}
use Rattle.theorems.specs.PieceTerms.{EndToEnd, onward}
use Rattle.theorems.proofs.Laws.PieceCounts.{Numbered, Each}
use Rattle.stages.specs.declared.trail.Stop.{Stop}
use Rattle.stages.specs.declared.trail.Trail.{Trail}
use Rattle.kinds.proofs.Laws.Kinds.{from-here}
use Rattle.marks.specs.declared.marked.Mark.{Mark}
use Rattle.marks.specs.declared.marked.Mark.TheVariants.{YUm, SUn, YUz, SUnUz, LAr, NUz, DUr, CAsInA, YDU, YsA, YmUs, Yken}
use Rattle.marks.specs.Reach.{mark_numbered}
use Rattle.stages.specs.Trail.{stop_at, no_trail, behind_trail, trail_of}
use Rattle.pieces.specs.Removed.{Stands, number_of, piece_of, start_of, count_of, entries_of}

-- a mark with a number from 1 to 12
pub record Held (t : Taken) : Type 0 where
  pub mark : Mark
  pub is : mark_numbered t.kind ≡ Some mark
  pub number : number_of mark ≡ t.kind

-- so are the marks that the stage keeps
pub held : (t : Taken) → Numbered t → Held t
unfolding mark_numbered number_of
held t s =
    let n = t.kind in
    let P : Option Mark → Type 0 = λ o. (m : Mark) × ((o ≡ Some m) × (number_of m ≡ n)) in
    let found : P (mark_numbered n) =
    from-here P n 1 s.low (λ e. (YUm, (refl, sym e))) (λ l2.
    from-here P n 2 l2 (λ e. (SUn, (refl, sym e))) (λ l3.
    from-here P n 3 l3 (λ e. (YUz, (refl, sym e))) (λ l4.
    from-here P n 4 l4 (λ e. (SUnUz, (refl, sym e))) (λ l5.
    from-here P n 5 l5 (λ e. (LAr, (refl, sym e))) (λ l6.
    from-here P n 6 l6 (λ e. (NUz, (refl, sym e))) (λ l7.
    from-here P n 7 l7 (λ e. (DUr, (refl, sym e))) (λ l8.
    from-here P n 8 l8 (λ e. (CAsInA, (refl, sym e))) (λ l9.
    from-here P n 9 l9 (λ e. (YDU, (refl, sym e))) (λ l10.
    from-here P n 10 l10 (λ e. (YsA, (refl, sym e))) (λ l11.
    from-here P n 11 l11 (λ e. (YmUs, (refl, sym e))) (λ l12.
    from-here P n 12 l12 (λ e. (Yken, (refl, sym e))) (λ l13. absurd (omega (arith, s.high)))))))))))))) in
    record { mark = found.0; is = found.1.0; number = found.1.1 }

-- a mark that took some characters from a record on, as the trail holds it
abbrev pub stop_of : List ℕ → Cursor → Mark → ℕ → Stop Mark
stop_of w c m n = record { kind = m; at = (back_by w c n).cursor }

-- the pieces of marks taken from a record on
unfoldable pub listed : List ℕ → Cursor → List Taken → List Piece
listed w c [] = []
listed w c (t ∷ ts) = piece_of w (stop_at (mark_numbered t.kind) (back_by w c t.size).cursor) c.cursor ∷ listed w (back_by w c t.size) ts

-- as many entries that are not used
unfoldable pub spare : ℕ → List Piece
spare zero = []
spare (suc n) = unused ∷ spare n

-- ---- the marks of a trail ----

-- a trail of these three
abbrev pub three : Option (Stop Mark) → Option (Stop Mark) → Option (Stop Mark) → Trail Mark
three a b d = record { first = a; second = b; third = d }

-- what stands in the trail of at most three marks: each mark, and none after them
pub data Marks (w : List ℕ) (c : Cursor) : List Taken → Trail Mark → Type 0 where
  none : Marks w c [] (three None None None)
  one : (t : Taken) (a : Held t) → Marks w c (t ∷ []) (three (Some (stop_of w c a.mark t.size)) None None)
  two : (t u : Taken) (a : Held t) (b : Held u)
      → Marks w c (t ∷ u ∷ []) (three (Some (stop_of w c a.mark t.size)) (Some (stop_of w (back_by w c t.size) b.mark u.size)) None)
  all : (t u v : Taken) (a : Held t) (b : Held u) (d : Held v)
      → Marks w c (t ∷ u ∷ v ∷ [])
      (three (Some (stop_of w c a.mark t.size)) (Some (stop_of w (back_by w c t.size) b.mark u.size))
      (Some (stop_of w (back_by w (back_by w c t.size) u.size) d.mark v.size)))

-- the marks that stand in a trail of so many are those that it was made of
pub marks-trail : (w : List ℕ) (c : Cursor) (ts : List Taken) → Each Numbered ts → length ts ≤ most_pieces → Marks w c ts (trail_of w c ts)
unfolding trail_of no_trail behind_trail stop_at most_pieces
marks-trail w c [] s h = none
marks-trail w c (t ∷ []) s h = let a = held t (s t (Memᴰ.head refl)) in rw a.is (one t a)
marks-trail w c (t ∷ u ∷ []) s h =
    let a = held t (s t (Memᴰ.head refl)) in
    let b = held u (s u (Memᴰ.tail (Memᴰ.head refl))) in
    rw (a.is, b.is) (two t u a b)
marks-trail w c (t ∷ u ∷ v ∷ []) s h =
    let a = held t (s t (Memᴰ.head refl)) in
    let b = held u (s u (Memᴰ.tail (Memᴰ.head refl))) in
    let d = held v (s v (Memᴰ.tail (Memᴰ.tail (Memᴰ.head refl)))) in
    rw (a.is, b.is, d.is) (all t u v a b d)
marks-trail w c (t ∷ u ∷ v ∷ x ∷ ts) s h = absurd (omega arith)

-- ---- the pieces made of it ----

module _ (w : List ℕ) (c : Cursor) where
  -- as many as there are marks
  pub count-marks : {ts : List Taken} {t : Trail Mark} → Marks w c ts t → count_of t ≡ length ts
  unfolding count_of
  count-marks none = refl
  count-marks (one t a) = refl
  count-marks (two t u a b) = refl
  count-marks (all t u v a b d) = refl

  -- one for each, and then entries that are not used
  pub entries-marks : {ts : List Taken} {t : Trail Mark} → c.cursor ≡ length w → Marks w c ts t
      → entries_of w t ≡ listed w c ts ++ spare (most_pieces - length ts)
  unfolding entries_of piece_of start_of listed spare most_pieces stop_at
  entries-marks e none = refl
  entries-marks e (one t a) = rw (a.is, e)
  entries-marks e (two t u a b) = rw (a.is, b.is, e)
  entries-marks e (all t u v a b d) = rw (a.is, b.is, d.is, e)

  -- a list of marks has a piece for each
  pub length-listed : (d : Cursor) (ts : List Taken) → length (listed w d ts) ≡ length ts
  unfolding listed
  length-listed d [] = refl
  length-listed d (t ∷ ts) = ap suc (length-listed (back_by w d t.size) ts)

-- the entries that are not used are all alike
pub spare-unused : (n : ℕ) → spare n ≡ map (λ (p : Piece). unused) (spare n)
unfolding spare
spare-unused zero = refl
spare-unused (suc n) = ap (λ (ps : List Piece). unused ∷ ps) (spare-unused n)

-- ---- where the marks stand ----

-- a mark begins where its piece does, before the piece's end
stop-falls : (w : List ℕ) (s : Stop Mark) (end : ℕ) {m n : ℕ} {ps : List Span} → EndToEnd n (told (piece_of w (Some s) end) ∷ ps) m
    → (s.at < n) × EndToEnd s.at ps m
unfolding told piece_of
stop-falls w s end r = go refl r
  where
    go : {m n : ℕ} {p : Span} {ps : List Span} → p.first ≡ s.at → EndToEnd n (p ∷ ps) m → (s.at < n) × EndToEnd s.at ps m
    go is (onward p x y r) = (omega arith, rw is at r)

-- the marks of a trail stand in the word, each before the one that was kept before it
pub record StandAll (w : List ℕ) (t : Trail Mark) : Type 0 where
  pub first : Stands w t.first (length w)
  pub second : Stands w t.second (start_of t.first)
  pub third : Stands w t.third (start_of t.second)

-- no mark stands anywhere
no_stop : (w : List ℕ) (end : ℕ) → end ≤ length w → Stands w None end
no_stop w end h = record { before = λ x e. cc; within = h }

-- one that stands before a place of the word
a-stop : (w : List ℕ) (s : Stop Mark) (end : ℕ) → s.at < end → end ≤ length w → Stands w (Some s) end
a-stop w s end h l = record { before = λ x e. (let same : s ≡ x = cc in rw (← same) h); within = l }

-- so do the marks whose pieces lie end to end from the word's end
pub stands-marks : (w : List ℕ) (c : Cursor) {m : ℕ} {ts : List Taken} {t : Trail Mark} → Marks w c ts t
    → EndToEnd (length w) (map told (listed w c ts)) m → StandAll w t
unfolding listed stop_at start_of
stands-marks w c none r =
    record { first = no_stop w (length w) (omega arith); second = no_stop w 0 (omega arith); third = no_stop w 0 (omega arith) }
stands-marks w c (one t a) r =
    let s = stop_of w c a.mark t.size in
    let f = stop-falls w s c.cursor (rw a.is at r) in
    record { first = a-stop w s (length w) f.0 (omega arith); second = no_stop w s.at (omega (arith, f.0)); third = no_stop w 0 (omega arith) }
stands-marks w c (two t u a b) r =
    let d = back_by w c t.size in
    let s = stop_of w c a.mark t.size in
    let q = stop_of w d b.mark u.size in
    let f = stop-falls w s c.cursor (rw (a.is, b.is) at r) in
    let g = stop-falls w q d.cursor f.1 in
    record {
      first = a-stop w s (length w) f.0 (omega arith);
      second = a-stop w q s.at g.0 (omega (arith, f.0));
      third = no_stop w q.at (omega (arith, f.0, g.0));
    }
stands-marks w c (all t u v a b e) r =
    let d = back_by w c t.size in
    let k = back_by w d u.size in
    let s = stop_of w c a.mark t.size in
    let q = stop_of w d b.mark u.size in
    let x = stop_of w k e.mark v.size in
    let f = stop-falls w s c.cursor (rw (a.is, b.is, e.is) at r) in
    let g = stop-falls w q d.cursor f.1 in
    let h = stop-falls w x k.cursor g.1 in
    record {
      first = a-stop w s (length w) f.0 (omega arith);
      second = a-stop w q s.at g.0 (omega (arith, f.0));
      third = a-stop w x q.at h.0 (omega (arith, f.0, g.0));
    }
