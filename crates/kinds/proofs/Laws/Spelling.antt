-- The lines of the pieces as they are written: a line part by part, and the lines one after the other. Assumes nothing.
use Prim.Native.Nat.{ℕ, ◌+◌, ◌-◌, ◌≤◌, ◌<◌}
use mathlib.Core.Path.{◌≡◌, refl, sym, subst, ◌∙◌}
use mathlib.Core.List.{List, [], ◌∷◌, ◌++◌, map, append_assoc, append-nil, map-append}
use native.Mathlib.Omega.{arith}
use Rattle.std.proofs.lemmas.List.{get_or-take}
use lib.ListN.{length, take, drop, get_or, length-append, length-take}
use lib.Seq.{take-add, take-length}
use Rattle.turkish.specs.declared.endings.Piece.{Piece}
use Rattle.turkish.specs.declared.endings.Removed.{Removed}
use Rattle.turkish.specs.Letters.{tab, lf}
use Rattle.turkish.specs.Pieces.{kind_name}
use Rattle.turkish.specs.Calls.{written}
use Rattle.turkish.specs.PieceCalls.{Span, told, kind_number, unused, letters_of, piece_line, text_of}
use Rattle.writing.specs.Put.{put}
use Rattle.kinds.specs.Entries.{entry, Inside}
use Rattle.kinds.proofs.Laws.Written.{put_written, told-next}

-- ---- one line ----

module _ (w : List ℕ) (p : Piece) {name : List ℕ} (e : name ≡ kind_name (kind_number p.kind)) where
  -- name, tab, letters and LF one after the other are the line
  pub piece_line-parts : ((name ++ (tab ∷ [])) ++ take (p.last + 1 - p.first) (drop p.first w)) ++ (lf ∷ []) ≡ piece_line w (told p)
  unfolding piece_line told letters_of
  piece_line-parts = rw e (simp append_assoc)

  -- and it is as long as these
  pub length-piece_line : length name + (1 + (length (take (p.last + 1 - p.first) (drop p.first w)) + 1)) ≡ length (piece_line w (told p))
  length-piece_line = rw (← piece_line-parts) (simp length-append (omega arith))

-- ---- the lines ----

-- the lines of some pieces stand before those of others
text_of-append : (w : List ℕ) (ps qs : List Span) → text_of w (ps ++ qs) ≡ text_of w ps ++ text_of w qs
unfolding text_of
text_of-append w [] qs = refl
text_of-append w (p ∷ ps) qs = rw (text_of-append w ps qs) (sym (append_assoc (piece_line w p) (text_of w ps) (text_of w qs)))

module _ (w : List ℕ) (ps : List Piece) (i : ℕ) (d : Piece) where
  -- one more piece adds its line
  text_of-next : i < length ps → text_of w (map told (take (i + 1) ps)) ≡ text_of w (map told (take i ps)) ++ piece_line w (told (get_or ps i d))
  unfolding text_of
  text_of-next h = rw (told-next ps i d h, text_of-append, append-nil)

  -- which has room where all have
  pub text_of-room : i < length ps → length (text_of w (map told (take i ps))) + length (piece_line w (told (get_or ps i d))) ≤ length (text_of w (map told ps))
  text_of-room h =
      let m : ℕ = length ps - (i + 1) in
      let e : (i + 1) + m ≡ length ps = omega arith in
      let whole : take (i + 1) ps ++ take m (drop (i + 1) ps) ≡ ps = sym (take-add (i + 1) m ps) ∙ rw e (take-length ps) in
      let room : List Piece → Type 0 = λ qs. length (text_of w (map told (take i ps))) + length (piece_line w (told (get_or ps i d))) ≤ length (text_of w (map told qs)) in
      subst room whole (rw (map-append, text_of-append, length-append, text_of-next h, length-append) (omega arith))

  -- written behind the others it is written with them
  pub put-piece_line : i < length ps → (at : ℕ) (out o : List ℕ) {a : ℕ} {q : List ℕ}
      → at ≡ length (text_of w (map told (take i ps))) → o ≡ written (text_of w (map told (take i ps))) out
      → (a ≡ at + length (piece_line w (told (get_or ps i d)))) × (q ≡ put at (piece_line w (told (get_or ps i d))) o)
      → (a ≡ length (text_of w (map told (take (i + 1) ps)))) × (q ≡ written (text_of w (map told (take (i + 1) ps))) out)
  put-piece_line h at out o e f g =
      rw (text_of-next h)
      (g.0 ∙ rw (e, length-append), g.1 ∙ rw (f, put_written (text_of w (map told (take i ps))) (piece_line w (told (get_or ps i d))) out at e))

-- a piece that is counted lies in the word
pub inside-entry : {w : List ℕ} {r : Removed} {i : ℕ} → i < length (take r.count r.pieces) → Inside w r
    → let p = get_or (take r.count r.pieces) i unused in (p.first ≤ p.last) × (p.last < length w)
unfolding entry
inside-entry {w} {r} {i} h n =
    let l : i < r.count = omega (arith, length-take r.count r.pieces) in
    rw (get_or-take r.count r.pieces i unused l) (n.whole i l, n.within i l)
