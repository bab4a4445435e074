-- The two walks over a word: what is counted, and what is written, after each step. Assumes nothing.
use Prim.Native.Nat.{ℕ, ◌+◌, ◌≤◌, ◌<◌}
use mathlib.Core.Path.{◌≡◌, refl, sym, ap, ◌∙◌}
use mathlib.Core.List.{List, [], ◌++◌, append_assoc, append-nil}
use native.Mathlib.Omega.{arith}
use lib.ListN.{length, drop, get_or, length-append, drop_of_length-le}
use Rattle.turkish.specs.Calls.{written}
use Rattle.writing.specs.Put.{put}
use Rattle.writing.specs.declared.letter.Letter.{Letter}
use Rattle.writing.specs.Letter.{bytes_of}
use Rattle.writing.proofs.Laws.Put.{Wrote, wrote_nothing, wrote-text}
use Rattle.folding.specs.declared.step.FoldStep.{FoldStep}
use Rattle.folding.specs.FoldBytes.{alone, taking, fold_bytes}
use Rattle.folding.proofs.Laws.Steps.{SteppedAt, stepped-at}
use Rattle.folding.proofs.Laws.Places.{fold_step-ascii}
use Rattle.folding.proofs.Laws.Written.{put_written}

-- at the word's end nothing is left to fold
pub fold_bytes-end : (w : List ℕ) (i : ℕ) → length w ≤ i → fold_bytes (drop i w) ≡ []
unfolding fold_bytes
fold_bytes-end w i h = rw (drop_of_length-le w h)

-- a step leaves as much less
pub length_rest : (w : List ℕ) (i : ℕ) (s : FoldStep) → SteppedAt s w i
    → length (fold_bytes (drop i w)) ≡ length (bytes_of s.given) + length (fold_bytes (drop (i + s.taken) w))
length_rest w i s z = ap length z.rest ∙ length-append (bytes_of s.given) (fold_bytes (drop (i + s.taken) w))

-- a byte of ASCII makes a step by itself
pub stepped-ascii : (w : List ℕ) (i : ℕ) (g : Letter) → i < length w → get_or w i 0 < 0x80 → g ≡ alone (get_or w i 0) → SteppedAt (taking 1 g) w i
stepped-ascii w i g h k e = stepped-at w i (taking 1 g) h (fold_step-ascii w i h g e k)

-- the output `out`, of which `o` was made, has the fold of w's first i bytes, which ends at `at`, and room for the rest
pub record Reached (w out o : List ℕ) (at i : ℕ) : Type 0 where
  pub done : List ℕ
  pub wrote : Wrote 0 at done out o (length (fold_bytes (drop i w)))
  pub whole : done ++ fold_bytes (drop i w) ≡ fold_bytes w

-- at first it has nothing
pub reached-start : (w out : List ℕ) → length (fold_bytes w) ≤ length out → Reached w out out 0 0
reached-start w out h = record { done = []; wrote = wrote_nothing (omega arith); whole = refl }

module _ (w out o : List ℕ) (at i : ℕ) (r : Reached w out o at i) where
  -- a step
  module _ (s : FoldStep) (z : SteppedAt s w i) where
    -- has room
    pub reached-room : length o ≡ length out → at + length (bytes_of s.given) ≤ length o
    reached-room e = omega (arith, r.wrote.room, length_rest w i s z)

    -- and leads on
    pub reached-next : (b : ℕ) (p : List ℕ) → (b ≡ at + length (bytes_of s.given)) × (p ≡ put at (bytes_of s.given) o) → Reached w out p b (i + s.taken)
    reached-next b p e =
        let rest = fold_bytes (drop (i + s.taken) w) in
        let room : length (fold_bytes (drop i w)) ≡ length (bytes_of s.given) + length rest = length_rest w i s z in
        record {
          done = r.done ++ bytes_of s.given;
          wrote = wrote-text (bytes_of s.given) (length (bytes_of s.given)) refl (rw room at r.wrote) e;
          whole = append_assoc r.done (bytes_of s.given) rest ∙ rw (← z.rest) r.whole;
        }

  -- at the word's end it has all
  pub reached-end : length w ≤ i → (at ≡ length (fold_bytes w)) × (o ≡ written (fold_bytes w) out)
  reached-end h =
      let all : r.done ≡ fold_bytes w = sym (append-nil r.done) ∙ ap (λ (l : List ℕ). r.done ++ l) (sym (fold_bytes-end w i h)) ∙ r.whole in
      (omega (arith, r.wrote.place, ap length all), r.wrote.output ∙ rw (all, put_written))
