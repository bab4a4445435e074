-- A plain run ends exactly there: it is the one stretch of whole eights from a place on that holds plain bytes alone, and after which
-- fewer than eight bytes are left or one of the next eight has its top bit set. Assumes nothing.
use Prim.Native.Nat.{ℕ, zero, suc, ◌+◌, ◌-◌, ◌≤◌, ◌<◌}
use mathlib.Core.Path.{◌≡◌, sym}
use mathlib.Core.Bool.{false, false≢true}
use mathlib.Core.Logic.{inl, inr, ⊎_elim}
use mathlib.Core.List.{List, [], ◌∷◌}
use native.Mathlib.Nat.{le_antisymm}
use native.Mathlib.Omega.{arith}
use lib.ListN.{length, drop, get_or, length-drop}
use lib.Seq.{get_or-drop}
use borrow.Author.Tests.{lt-ltb}
use Rattle.encoding.specs.PlainRuns.{word_bytes, plain_next, run_end_of, TopIn, RunOf}
use Rattle.encoding.proofs.Laws.Booleans.{lt-or-le}
use Rattle.encoding.proofs.Laws.PlainRuns.{plain-below, run-upto, run-plain, run-eights, run-stops}

-- n bytes that are there and not plain: one of them has its top bit set
top-among : (n : ℕ) (w : List ℕ) → n ≤ length w → plain_next n w ≡ false → (j : ℕ) × (j < n) × (0x80 ≤ get_or w j 0)
unfolding plain_next
top-among zero w h e = absurd (false≢true (sym e))
top-among (suc n) [] h e = absurd (omega arith)
top-among (suc n) (b ∷ bs) h e =
    lt-or-le b 0x80 (λ l. let p = top-among n bs (omega arith) (rw (lt-ltb b 0x80 l) at e) in (suc p.0, omega (arith, p.1), p.2))
    (λ l. (0, omega arith, l))

-- the same for the eight bytes from r on
top_in : (w : List ℕ) (r : ℕ) → r + word_bytes ≤ length w → plain_next word_bytes (drop r w) ≡ false → TopIn w r
top_in w r h e =
    let p = top-among word_bytes (drop r w) (omega (arith, length-drop r w)) e in
    record { at = r + p.0; from = omega arith; upto = omega (arith, p.1); top = rw get_or-drop at p.2 }

-- a byte of the run is plain
run-byte : (w : List ℕ) (i j : ℕ) → i ≤ j → j < run_end_of w i → get_or w j 0 < 0x80
run-byte w i j l h =
    let e : i + (j - i) ≡ j = omega arith in
    rw (get_or-drop, e) at (plain-below (run_end_of w i - i) (drop i w) (j - i) (run-plain w i) (omega arith))

-- the definition's run is one
pub run_end_of-run : (w : List ℕ) (i : ℕ) → i ≤ length w → RunOf w i (run_end_of w i)
run_end_of-run w i h = record {
  eights = run-eights w i;
  within = run-upto w i h;
  plain = run-byte w i;
  stops = lt-or-le (length w) (run_end_of w i + word_bytes) inl (λ l. inr (top_in w (run_end_of w i) l (run-stops w i)));
}

-- of two runs from a place on neither ends later: what stops the one would stand in the other
no-later : {w : List ℕ} {i r r' : ℕ} → RunOf w i r → RunOf w i r' → r' ≤ r
no-later {r = r} {r' = r'} p q =
    let e = p.eights.1 in let f = q.eights.1 in
    lt-or-le r r'
    (λ h. ⊎_elim (λ s. absurd (omega (arith, q.within))) (λ t. absurd (omega (arith, q.plain t.at (omega arith) (omega arith)))) p.stops)
    (λ l. l)

-- so there is one run
pub run-one : {w : List ℕ} {i r r' : ℕ} → RunOf w i r → RunOf w i r' → r ≡ r'
run-one p q = le_antisymm (no-later q p) (no-later p q)

-- and the definition has it
pub run_end_of-only : (w : List ℕ) (i r : ℕ) → RunOf w i r → r ≡ run_end_of w i
run_end_of-only w i r p = run-one p (run_end_of-run w i (omega (arith, p.eights.1, p.within)))
