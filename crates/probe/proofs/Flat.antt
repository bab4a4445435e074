-- What laying three entries out flat leaves; and the list of a word, laid out flat: of one that is refused, and of any other. Assumes nothing.
use Prim.Native.Nat.{ℕ, ◌<◌}
use mathlib.Core.Path.{◌≡◌, refl, ap, ◌∙◌}
use mathlib.Core.List.{List, [], ◌∷◌}
use native.Mathlib.Omega.{arith}
use lib.ListN.{length, get_or}
use denote.Param.Members.{Mut, Called}
use Rattle.std.specs.Array.{IsMapOf}
use Rattle.turkish.specs.declared.endings.Piece.{Piece}
use Rattle.turkish.specs.PieceCalls.{Span, told, unused, spans_of, given, Lists}
use Rattle.probe.specs.Flat.{column, flat_removed_of, numbered, FlatList}
use borrow.Author.Tests.{ne_eqb}
use Rattle.turkish.specs.declared.endings.Removed.{Removed}
use Rattle.turkish.specs.declared.refusal.Refusal.{Refusal}
use Rattle.turkish.specs.Calls.{refusal, accepted, stage_call}
use Rattle.turkish.specs.Refusals.{refusal_number}
use Rattle.turkish.proofs.OneToOne.{refusal_number-some}
use Rattle.probe.specs.declared.ProbeRemoved.{ProbeRemoved}
use mathlib.Core.List.Permᴰ

-- a column of three entries, entry by entry
column-three : (v : Span → ℕ) (ps : List Piece) (ns : List ℕ) → length ps ≡ 3 → length ns ≡ 3
    → ((i : ℕ) → i < 3 → get_or ns i 0 ≡ v (told (get_or ps i unused))) → ns ≡ column v ps
unfolding column
column-three v (a ∷ b ∷ c ∷ []) (k ∷ l ∷ m ∷ []) e f h = rw (h 0 (omega arith), h 1 (omega arith), h 2 (omega arith))
column-three v [] ns e f h = absurd (omega arith)
column-three v (a ∷ []) ns e f h = absurd (omega arith)
column-three v (a ∷ b ∷ []) ns e f h = absurd (omega arith)
column-three v (a ∷ b ∷ c ∷ d ∷ ps) ns e f h = absurd (omega arith)
column-three v (a ∷ b ∷ c ∷ []) [] e f h = absurd (omega arith)
column-three v (a ∷ b ∷ c ∷ []) (k ∷ []) e f h = absurd (omega arith)
column-three v (a ∷ b ∷ c ∷ []) (k ∷ l ∷ []) e f h = absurd (omega arith)
column-three v (a ∷ b ∷ c ∷ []) (k ∷ l ∷ m ∷ n ∷ ns) e f h = absurd (omega arith)

-- what a closure gives of each entry is a column, where each call gives a piece's number
pub column-mapped : {F : Type 0} {g : Mut F (Piece × Unit {0}) ℕ} (v : Span → ℕ) → ((x : Piece) (y : ℕ) (p q : F) → Called g p (x, tt) y q → y ≡ v (told x))
    → {f : F} {ps : List Piece} {ns : List ℕ} → length ps ≡ 3 → IsMapOf g f ps ns 3 → ns ≡ column v ps
column-mapped v h {ps = ps} {ns = ns} e m = column-three v ps ns e m.long (λ i l. let k = m.at i unused 0 l in h _ _ k.0 k.1 k.2)

module _ (w : List ℕ) where
  -- a word that is not refused has its own list
  pub flat-given : {r : Removed} {p : ProbeRemoved} → 0 ≡ refusal w → r.length ≡ (stage_call w).length → Lists (spans_of w) r.count r.pieces
      → p ≡ flat_removed_of r → FlatList w p
  unfolding given flat_removed_of
  flat-given {r} e l s f =
      record { list = r; kept = l; lists = rw (← e) s; flat = f ∙ ap (λ (n : ℕ). numbered n (flat_removed_of r)) e }

  -- a refused word has none
  pub flat-refused : (r : Refusal) {n : ℕ} {p : ProbeRemoved} → refusal_number r ≡ refusal w → n ≡ refusal_number r
      → p ≡ flat_removed_of (record { length = 0; count = 0; pieces = unused ∷ unused ∷ unused ∷ [] }) → FlatList w (numbered n p)
  unfolding stage_call accepted given
  flat-refused r {n} {p} e m f =
      let none : Removed = record { length = 0; count = 0; pieces = unused ∷ unused ∷ unused ∷ [] } in
      let no = ne_eqb (refusal_number r) 0 (refusal_number-some r) in
      record {
        list = none;
        kept = rw (← e, no);
        lists = rw (← e, no) (record { counted = refl; rearranged = mathlib.Core.List.Permᴰ.nil; others = refl });
        flat = ap (λ (k : ℕ). numbered k p) (m ∙ e) ∙ ap (numbered (refusal w)) f;
      }
