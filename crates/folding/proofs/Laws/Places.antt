-- The step from a place of a word, by the bytes that stand there. Assumes nothing.
use Prim.Native.Nat.{ℕ, ◌+◌, ◌≤◌, ◌<◌}
use mathlib.Core.Path.{◌≡◌, refl, sym}
use mathlib.Core.Bool.{true, false}
use mathlib.Core.List.{List, [], ◌∷◌}
use native.Mathlib.Omega.{arith}
use native.Mathlib.Numerals.{add-one}
use lib.ListN.{length, drop, get_or}
use lib.Seq.{drop-cons, drop-length}
use Rattle.writing.specs.declared.letter.Letter.{Letter}
use Rattle.folding.specs.FoldBytes.{alone, pair, paired, taking, fold_step}
use Rattle.folding.proofs.Laws.Bytes.{not-paired}

-- from a byte that begins no letter which folds
fold_step-one : (b : ℕ) (bs : List ℕ) → paired b ≡ false → fold_step (b ∷ bs) ≡ taking 1 (alone b)
unfolding fold_step
fold_step-one b [] p = refl
fold_step-one b (c ∷ cs) p = rw p

module _ (w : List ℕ) (i : ℕ) (h : i < length w) where
  module _ (g : Letter) (e : g ≡ alone (get_or w i 0)) where
    -- so from such a byte of the word
    pub fold_step-alone : paired (get_or w i 0) ≡ false → taking 1 g ≡ fold_step (drop i w)
    fold_step-alone p = rw (e, drop-cons w i 0 h) (sym (fold_step-one (get_or w i 0) _ p))

    -- and from one of ASCII
    pub fold_step-ascii : get_or w i 0 < 0x80 → taking 1 g ≡ fold_step (drop i w)
    fold_step-ascii k = fold_step-alone (not-paired (get_or w i 0) (λ x y. omega arith))

    -- from the last byte
    pub fold_step-last : length w ≤ i + 1 → taking 1 g ≡ fold_step (drop i w)
    unfolding fold_step
    fold_step-last k =
        let end : i + 1 ≡ length w = omega arith in
        rw (e, drop-cons w i 0 h, ← add-one i, end, drop-length)

  -- from any other that begins a letter which may fold
  pub fold_step-pair : (g : Letter) → g ≡ pair (get_or w i 0) (get_or w (i + 1) 0) → paired (get_or w i 0) ≡ true → i + 1 < length w
      → taking 2 g ≡ fold_step (drop i w)
  unfolding fold_step
  fold_step-pair g e p k = rw (e, drop-cons w i 0 h, ← add-one i, drop-cons w (i + 1) 0 k, p)
