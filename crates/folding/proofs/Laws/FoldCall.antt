-- What the fold's call gives and leaves in the output, refused and not, by what the code found. Assumes nothing.
use Prim.Native.Nat.{ℕ, ◌*◌, ◌≤◌, ◌<◌}
use mathlib.Core.Path.{◌≡◌, sym, ap, ◌∙◌}
use mathlib.Core.Bool.{Bool, true, false, not}
use mathlib.Core.List.{List, map}
use native.Mathlib.Omega.{arith}
use lib.ListN.{length, length-map}
use lib.Dec.{ltb, leb}
use borrow.Author.Tests.{lt-ltb, le-ltb, le-leb, leb-true, leb-false, eq-eqb, ne_eqb, not-true, not-false}
use Rattle.encoding.proofs.Laws.Booleans.{and_right}
use Rattle.turkish.specs.Calls.{limit, refusal, refusal_short_of, accepted, written, fold_text, fold_refusal, fold_call, fold_out}
use Rattle.theorems.proofs.Laws.Accepted.{accepted-iff, accepted-text}
use Rattle.theorems.proofs.Folds.{fold_text-doubled, fold_call-fits, fold_call-short}
use Rattle.refusals.proofs.Laws.Refusals.{refusal_short_of-word}
use Rattle.folding.specs.FoldBytes.{small_byte, fold_bytes, plain, long_plain}
use Rattle.folding.proofs.Laws.FoldText.{fold_bytes-text}
use Rattle.folding.proofs.Laws.Plain.{fold_bytes-plain}

-- a refused word gives its number and leaves the output
pub fold-refused : (w out : List ℕ) (n : ℕ) → n ≡ refusal w → (n ≡ 0 → ⊥)
    → (record { refusal = n; length = 0 } ≡ fold_call w (length out)) × (out ≡ fold_out w out)
unfolding fold_call fold_out fold_refusal
fold-refused w out n e h =
    let r = refusal_short_of-word 3 w (length (fold_text w)) (length out) n e h in
    (rw (← r, ne_eqb n 0 h), rw (← r, ne_eqb n 0 h))

-- one with no number is accepted
pub fold-accepted : (w : List ℕ) (n : ℕ) → n ≡ refusal w → n ≡ 0 → accepted w ≡ true
unfolding accepted
fold-accepted w n e z = eq-eqb (refusal w) 0 (sym e ∙ z)

-- a word that the code folds as a plain one is plain
pub long_plain-plain : (w : List ℕ) (t : Bool) → t ≡ long_plain w → t ≡ true → plain w ≡ true
unfolding long_plain
long_plain-plain w t e y = and_right (not (ltb (length w) 16)) (plain w) (sym e ∙ y)

-- what does not fit is longer than the room
pub not-fitting : (n room : ℕ) (t : Bool) → t ≡ leb n room → not t ≡ true → room < n
not-fitting n room t e y = leb-false n room (sym e ∙ not-true t y)

-- and what fits is not
pub fitting : (n room : ℕ) (t : Bool) → t ≡ leb n room → not t ≡ false → n ≤ room
fitting n room t e y = leb-true n room (sym e ∙ not-false t y)

-- an accepted word
module _ (w : List ℕ) (a : accepted w ≡ true) where
  -- has no more bytes than the limit
  pub accepted-limit : length w ≤ limit
  accepted-limit = ((accepted-iff w).0 a).0

  -- its fold step by step is its folded text
  pub fold_bytes-accepted : fold_bytes w ≡ fold_text w
  fold_bytes-accepted = fold_bytes-text w (accepted-text w a)

  -- which fits where twice the word does
  pub fits-twice : (room : ℕ) → 2 * length w ≤ room → true ≡ leb (length (fold_text w)) room
  fits-twice room h = sym (le-leb (length (fold_text w)) room (omega (arith, (fold_text-doubled w ((accepted-iff w).0 a).1).0)))

  -- and otherwise where as many bytes do as were counted
  pub fits-measured : (room n : ℕ) → n ≡ length (fold_bytes w) → leb n room ≡ leb (length (fold_text w)) room
  fits-measured room n e = rw (e, fold_bytes-accepted)

  module _ (out : List ℕ) where
    -- an output that is too short is refused, and stays
    pub fold-short : length out < length (fold_text w)
        → (record { refusal = 3; length = 0 } ≡ fold_call w (length out)) × (out ≡ fold_out w out)
    unfolding fold_out fold_refusal refusal_short_of accepted
    fold-short h = (sym (fold_call-short w (length out) a h), rw (a, lt-ltb (length out) (length (fold_text w)) h))

    -- in any other the folded text is left, and its length is given
    pub fold-given : (n : ℕ) (o : List ℕ) → length (fold_text w) ≤ length out → n ≡ length (fold_text w) → o ≡ written (fold_text w) out
        → (record { refusal = 0; length = n } ≡ fold_call w (length out)) × (o ≡ fold_out w out)
    unfolding fold_out fold_refusal refusal_short_of accepted
    fold-given n o h e f = (rw e (sym (fold_call-fits w (length out) a h)), f ∙ rw (a, le-ltb (length out) (length (fold_text w)) h))

  -- a plain word's folded text has each byte folded where it stands
  pub fold_text-plain : plain w ≡ true → fold_text w ≡ map small_byte w
  fold_text-plain p = sym fold_bytes-accepted ∙ fold_bytes-plain w p

  -- so it is as long
  pub length-plain : plain w ≡ true → length (fold_text w) ≡ length w
  length-plain p = ap length (fold_text-plain p) ∙ length-map w small_byte
