-- The entries of the pieces as they are stored, three bytes a turn. Assumes nothing.
use Prim.Native.Nat.{ℕ, suc, ◌+◌, ◌-◌, ◌*◌, ◌≤◌, ◌<◌}
use mathlib.Core.Path.{◌≡◌, refl, sym, ◌∙◌}
use mathlib.Core.List.{List, [], ◌∷◌, ◌++◌, map, append_assoc}
use native.Mathlib.Omega.{arith}
use native.Mathlib.Numerals.{add-one}
use Rattle.std.proofs.lemmas.List.{get_or-take}
use lib.ListN.{length, take, get_or, set, length-map, length-set, length-take}
use lib.Seq.{length-take-le, take_all, sets-eq}
use Rattle.turkish.specs.declared.endings.Piece.{Piece}
use Rattle.turkish.specs.declared.endings.Removed.{Removed}
use Rattle.turkish.specs.Calls.{written}
use Rattle.turkish.specs.PieceCalls.{Span, told, kind_number, unused, buffer}
use Rattle.theorems.specs.PieceTerms.{most_bytes}
use Rattle.kinds.specs.Entries.{entry, Near}
use Rattle.writing.specs.Put.{put}
use Rattle.kinds.proofs.Laws.Written.{written-nothing, put_written, told-next}

-- three bytes stored one after the other are a text of three bytes written
set-three : (n x y z : ℕ) (o : List ℕ) → n + 3 ≤ length o → set (set (set o n x) (n + 1) y) (n + 2) z ≡ put n (x ∷ y ∷ z ∷ []) o
unfolding put
set-three n x y z o h =
    let e : n + 2 ≡ suc (suc n) = omega arith in
    rw (e, add-one) (sets-eq (x ∷ y ∷ z ∷ []) o n h ∙ append_assoc (take n o) (x ∷ y ∷ z ∷ []) _)

-- no pieces have no entries
pub no-entries : (kept : ℕ) (out : List ℕ) → written (buffer kept []) out ≡ out
unfolding buffer
no-entries kept out = sym (written-nothing out)

-- the entries of some pieces stand before those of others
buffer-append : (kept : ℕ) (ps qs : List Span) → buffer kept (ps ++ qs) ≡ buffer kept ps ++ buffer kept qs
unfolding buffer
buffer-append kept [] qs = refl
buffer-append kept (p ∷ ps) qs = rw (buffer-append kept ps qs)

-- each piece has three bytes
length-buffer : (kept : ℕ) (ps : List Span) → length (buffer kept ps) ≡ 3 * length ps
unfolding buffer
length-buffer kept [] = refl
length-buffer kept (p ∷ ps) = omega (arith, length-buffer kept ps)

module _ (kept : ℕ) (ps : List Piece) (i : ℕ) (d : Piece) (h : i < length ps) where
  -- the entries of the first pieces take three bytes each
  length-buffer-take : length (buffer kept (map told (take i ps))) ≡ 3 * i
  length-buffer-take = length-buffer kept (map told (take i ps)) ∙ rw (length-map, length-take-le i ps (omega arith))

  -- one more piece adds its kind and the distances of its first and last byte
  buffer-next : buffer kept (map told (take (i + 1) ps))
      ≡ buffer kept (map told (take i ps)) ++ (kind_number (get_or ps i d).kind ∷ ((get_or ps i d).first - kept) ∷ ((get_or ps i d).last - kept) ∷ [])
  unfolding buffer told
  buffer-next = rw (told-next ps i d h) (buffer-append kept (map told (take i ps)) (told (get_or ps i d) ∷ []))

  -- so stored behind the others it is written with them
  pub set-entry : (k : ℕ) (out o : List ℕ) → k ≡ kind_number (get_or ps i d).kind → 3 * i + 3 ≤ length o → o ≡ written (buffer kept (map told (take i ps))) out
      → set (set (set o (3 * i) k) (3 * i + 1) ((get_or ps i d).first - kept)) (3 * i + 2) ((get_or ps i d).last - kept)
      ≡ written (buffer kept (map told (take (i + 1) ps))) out
  set-entry k out o e r w =
      set-three (3 * i) k ((get_or ps i d).first - kept) ((get_or ps i d).last - kept) o r
      ∙ rw (w, e, put_written (buffer kept (map told (take i ps))) _ out (3 * i) (sym length-buffer-take), ← buffer-next)

-- each piece that is counted is near
pub near-entry : {r : Removed} {i : ℕ} → i < length (take r.count r.pieces) → Near r
    → let p = get_or (take r.count r.pieces) i unused in (r.length ≤ p.first) × (p.first ≤ p.last) × (p.last < r.length + 256)
unfolding entry most_bytes
near-entry {r} {i} h n =
    let l : i < r.count = omega (arith, length-take r.count r.pieces) in
    rw (get_or-take r.count r.pieces i unused l) (n.behind i l, n.whole i l, omega (arith, n.near i l))

-- what the check of the loop needs
pub ruleset entry_laws = (near-entry, set-entry, length-set, length-take, take_all, no-entries)
