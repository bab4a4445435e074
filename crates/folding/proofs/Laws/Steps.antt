-- The steps of the fold: what is taken lies in the word, what is given are one or two bytes, and the rest is folded behind it.
-- Assumes nothing.
use Prim.Native.Nat.{ℕ, ◌+◌, ◌*◌, ◌≤◌, ◌<◌}
use mathlib.Core.Path.{◌≡◌, refl, sym, ◌∙◌}
use mathlib.Core.Bool.{Bool, true, false, cond}
use mathlib.Core.List.{List, [], ◌∷◌, ◌++◌, append-nil}
use native.Mathlib.Omega.{arith}
use lib.ListN.{length, drop, length-drop}
use lib.Seq.{drop-drop}
use Rattle.writing.specs.Letter.{bytes_of}
use Rattle.writing.proofs.Laws.Letter.{bytes_of-two}
use Rattle.folding.specs.declared.step.FoldStep.{FoldStep}
use Rattle.folding.specs.FoldBytes.{alone, pair, paired, taking, fold_step, fold_bytes}

-- a byte from which two are not taken is folded by itself
pub fold_bytes-alone : (b : ℕ) (bs : List ℕ) → paired b ≡ false → fold_bytes (b ∷ bs) ≡ bytes_of (alone b) ++ fold_bytes bs
unfolding fold_bytes
fold_bytes-alone b [] p = sym (append-nil (bytes_of (alone b)))
fold_bytes-alone b (c ∷ cs) p = rw p

-- and one from which they are, with the next
pub fold_bytes-pair : (b c : ℕ) (bs : List ℕ) → paired b ≡ true → fold_bytes (b ∷ c ∷ bs) ≡ bytes_of (pair b c) ++ fold_bytes bs
unfolding fold_bytes
fold_bytes-pair b c bs p = rw p

-- a step at the front of some bytes
pub record Stepped (s : FoldStep) (bs : List ℕ) : Type 0 where
  pub some : 0 < s.taken
  pub within : s.taken ≤ length bs
  pub most : length (bytes_of s.given) ≤ 2 * s.taken
  pub rest : fold_bytes bs ≡ bytes_of s.given ++ fold_bytes (drop s.taken bs)

-- one byte taken
stepped-alone : (b : ℕ) (bs : List ℕ) → fold_bytes (b ∷ bs) ≡ bytes_of (alone b) ++ fold_bytes bs → Stepped (taking 1 (alone b)) (b ∷ bs)
stepped-alone b bs e = record { some = omega arith; within = omega arith; most = omega (arith, bytes_of-two (alone b)); rest = e }

-- two bytes taken
stepped-pair : (b c : ℕ) (bs : List ℕ) → paired b ≡ true → Stepped (taking 2 (pair b c)) (b ∷ c ∷ bs)
stepped-pair b c bs p = record { some = omega arith; within = omega arith; most = omega (arith, bytes_of-two (pair b c)); rest = fold_bytes-pair b c bs p }

-- any step at the front of some bytes
stepped : (bs : List ℕ) → 0 < length bs → Stepped (fold_step bs) bs
unfolding fold_step fold_bytes
stepped [] h = absurd (omega arith)
stepped (b ∷ []) h = stepped-alone b [] (sym (append-nil (bytes_of (alone b))))
stepped (b ∷ c ∷ cs) h = go (paired b) refl
  where
    go : (t : Bool) → paired b ≡ t → Stepped (cond t (taking 2 (pair b c)) (taking 1 (alone b))) (b ∷ c ∷ cs)
    go true e = stepped-pair b c cs e
    go false e = stepped-alone b (c ∷ cs) (fold_bytes-alone b (c ∷ cs) e)

-- and from place i of a word
pub record SteppedAt (s : FoldStep) (w : List ℕ) (i : ℕ) : Type 0 where
  pub some : 0 < s.taken
  pub within : i + s.taken ≤ length w
  pub most : length (bytes_of s.given) ≤ 2 * s.taken
  pub rest : fold_bytes (drop i w) ≡ bytes_of s.given ++ fold_bytes (drop (i + s.taken) w)

-- which holds of every step that the code makes
pub stepped-at : (w : List ℕ) (i : ℕ) (s : FoldStep) → i < length w → s ≡ fold_step (drop i w) → SteppedAt s w i
stepped-at w i s h e =
    let z : Stepped s (drop i w) = rw e (stepped (drop i w) (omega (arith, length-drop i w))) in
    record { some = z.some; within = omega (arith, z.within, length-drop i w); most = z.most; rest = z.rest ∙ rw drop-drop }
