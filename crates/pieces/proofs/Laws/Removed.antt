-- What the code makes of an accepted word is its pieces: as many, the same ones in order of running, then entries that are not used; each
-- behind the kept text, near its end and in the word. Assumes nothing.
use Prim.Native.Nat.{ℕ, ◌-◌, ◌<◌}
use mathlib.Core.Path.{◌≡◌, refl, sym, ap, ◌∙◌}
use mathlib.Core.Bool.{true}
use mathlib.Core.List.{List, [], ◌∷◌, ◌++◌, map, Memᴰ}
use native.Mathlib.Omega.{arith}
use lib.ListN.{length, take, drop, get_or, length-map}
use lib.Seq.{take_at, drop_at, get_or-take}
use Rattle.utf8.proofs.Laws.Behind.{back_by-zero}
use Rattle.turkish.specs.declared.endings.Piece.{Piece}
use Rattle.theorems.specs.Simple.Pieces.{Taken, stage_marks, located}
use Rattle.turkish.specs.Calls.{chars, accepted, stage_text}
use Rattle.turkish.specs.PieceCalls.{Span, span_of, spans_of, told, unused, most_pieces}
use Rattle.theorems.proofs.Laws.Members.{mem-get_or}
use Rattle.theorems.proofs.Laws.PieceCounts.{stage_marks-most, stage_marks-numbered}
use Rattle.theorems.specs.PieceTerms.{most_bytes}
use Rattle.theorems.proofs.Laws.Joints.{stage_marks-joined_as}
use Rattle.theorems.proofs.Sizes.{stage_text-length}
use Rattle.theorems.proofs.Source.KeptStage.{kept_marks-simple}
use Rattle.theorems.proofs.PieceTheorems.{stage_marks-within, at-most-three-pieces, end_to_end, pieces-within, pieces-inside}
use Rattle.kinds.specs.Entries.{entry, Near, Inside}
use Rattle.stages.specs.declared.stage.Outcome.{Outcome}
use Rattle.stages.specs.Trail.{trail_of, way_of}
use Rattle.stages.specs.Outcome.{whole, outcome_of}
use Rattle.stages.proofs.Laws.Branches.{open-whole}
use Rattle.pieces.specs.Removed.{piece_of, start_of, count_of, entries_of, removed_of}
use Rattle.pieces.proofs.Laws.Trails.{listed, length-listed, spare, spare-unused, Marks, marks-trail, count-marks, entries-marks, StandAll, stands-marks}
use Rattle.pieces.proofs.Laws.Entries.{told-listed}

-- the marks that the stage keeps, and their pieces
abbrev marks_of : List ℕ → List Taken
marks_of w = stage_marks (chars w)

abbrev pieces_of : List ℕ → List Piece
pieces_of w = listed w (whole w) (marks_of w)

-- the trail has these marks
marks-in : (w : List ℕ) → Marks w (whole w) (marks_of w) (trail_of w (whole w) (marks_of w))
marks-in w = marks-trail w (whole w) (marks_of w) (stage_marks-numbered (chars w)) (stage_marks-most (chars w))

-- so many pieces were made
count-removed : (w : List ℕ) → (removed_of w).count ≡ length (pieces_of w)
unfolding removed_of outcome_of way_of
count-removed w = count-marks w (whole w) (marks-in w) ∙ sym (length-listed w (whole w) (whole w) (marks_of w))

-- and stand before the entries that are not used
entries-removed : (w : List ℕ) → (removed_of w).pieces ≡ pieces_of w ++ spare (most_pieces - length (marks_of w))
unfolding removed_of outcome_of way_of whole
entries-removed w = entries-marks w (whole w) refl (marks-in w)

-- the entries past them are not used
pub others-removed : (w : List ℕ) → let r = removed_of w in drop r.count r.pieces ≡ map (λ (p : Piece). unused) (drop r.count r.pieces)
others-removed w =
    let n = most_pieces - length (marks_of w) in
    let past : drop (removed_of w).count (removed_of w).pieces ≡ spare n =
    ap (drop (removed_of w).count) (entries-removed w) ∙ drop_at (pieces_of w) (spare n) (removed_of w).count (sym (count-removed w)) in
    past ∙ spare-unused n ∙ ap (map (λ (p : Piece). unused)) (sym past)

-- what is made of the stage's answer, piece by piece
pub made-removed : (w : List ℕ) {o : Outcome} {n i j : ℕ} {p q r : Piece} → o ≡ outcome_of w → n ≡ count_of o.way.trail
    → i ≡ start_of o.way.trail.first → j ≡ start_of o.way.trail.second
    → p ≡ piece_of w o.way.trail.first (length w) → q ≡ piece_of w o.way.trail.second i → r ≡ piece_of w o.way.trail.third j
    → record { length = o.kept; count = n; pieces = p ∷ q ∷ r ∷ [] } ≡ removed_of w
unfolding removed_of entries_of
made-removed w e n i j p q r = rw (n, p, q, r, i, j, e)

module _ (w : List ℕ) (a : accepted w ≡ true) where
  -- the pieces are told as the word's
  told-pieces : map told (pieces_of w) ≡ spans_of w
  unfolding spans_of
  told-pieces =
      let cs = chars w in
      let all : length cs - 0 ≡ length cs = omega arith in
      let start = back_by-zero w (whole w) (open-whole w) in
      let from_end = told-listed w a 0 (marks_of w) (stage_marks-numbered cs) (stage_marks-joined_as cs) (omega (arith, stage_marks-within cs)) in
      (rw start at from_end) ∙ ap (λ (n : ℕ). map (span_of w) (located n (marks_of w))) all ∙ ap (map (span_of w)) (sym (kept_marks-simple cs))

  -- so are the entries below the count
  pub told-removed : map told (take (removed_of w).count (removed_of w).pieces) ≡ spans_of w
  told-removed =
      let n = most_pieces - length (marks_of w) in
      ap (λ (ps : List Piece). map told (take (removed_of w).count ps)) (entries-removed w)
      ∙ ap (map told) (take_at (pieces_of w) (spare n) (removed_of w).count (sym (count-removed w))) ∙ told-pieces

  -- there are as many as the word has
  pub counted-removed : (removed_of w).count ≡ length (spans_of w)
  counted-removed = count-removed w ∙ sym (length-map (pieces_of w) told) ∙ ap length told-pieces

  -- the length is the kept text's
  pub length_removed : (removed_of w).length ≡ length (stage_text w)
  unfolding removed_of outcome_of
  length_removed = sym (stage_text-length w a)

  -- the marks stand where the code looks for them
  pub stands-outcome : {o : Outcome} → o ≡ outcome_of w → StandAll w o.way.trail
  unfolding outcome_of way_of
  stands-outcome e = rw e (stands-marks w (whole w) (marks-in w) (rw (sym told-pieces) at (end_to_end w a)))

  -- an entry below the count is told as one of the word's pieces
  entry_in : (i : ℕ) → i < (removed_of w).count → Memᴰ (told (entry (removed_of w) i)) (spans_of w)
  unfolding entry
  entry_in i h =
      let r = removed_of w in
      let front = take r.count r.pieces in
      let size : length front ≡ r.count = sym (length-map front told) ∙ ap length told-removed ∙ sym counted-removed in
      let here : get_or front i unused ≡ get_or r.pieces i unused = get_or-take r.count r.pieces i unused h in
      let in-front : Memᴰ (get_or r.pieces i unused) front = rw here at (mem-get_or front i unused (omega arith)) in
      rw told-removed at (mathlib.Core.List.Memᴰ.map told in-front)

  -- so they can be written as numbers
  pub near-removed : Near (removed_of w)
  unfolding told most_bytes
  near-removed =
      let p : ℕ → Span = λ i. told (entry (removed_of w) i) in
      record {
        few = omega (arith, counted-removed, at-most-three-pieces w);
        behind = λ i h. omega (arith, length_removed, (pieces-within w (p i) a (entry_in i h)).0);
        whole = λ i h. (pieces-within w (p i) a (entry_in i h)).1;
        near = λ i h. omega (arith, length_removed, (pieces-within w (p i) a (entry_in i h)).2);
      }

  -- and as lines
  pub inside-removed : Inside w (removed_of w)
  unfolding told
  inside-removed =
      let p : ℕ → Span = λ i. told (entry (removed_of w) i) in
      record {
        few = omega (arith, counted-removed, at-most-three-pieces w);
        whole = λ i h. (pieces-within w (p i) a (entry_in i h)).1;
        within = λ i h. pieces-inside w (p i) a (entry_in i h);
      }
