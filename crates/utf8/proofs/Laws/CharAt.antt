-- A character by its bytes, read one after the other from a place of a word. Assumes nothing.
use Prim.Native.Nat.{ℕ, suc, ◌+◌, ◌≤◌, ◌<◌}
use mathlib.Core.Path.{◌≡◌, ap, ◌∙◌}
use mathlib.Core.List.{List, [], ◌∷◌}
use native.Mathlib.Nat.{add_assoc}
use native.Mathlib.Numerals.{add-one}
use native.Mathlib.Omega.{arith}
use lib.ListN.{length, take, drop, get_or}
use lib.Seq.{drop-cons}
use Rattle.encoding.specs.Encoding.{decode}
use Rattle.utf8.specs.Characters.{char_at}

-- the first of the bytes from place i
pub take-drop-cons : (w : List ℕ) (i n : ℕ) → i < length w → take (suc n) (drop i w) ≡ get_or w i 0 ∷ take n (drop (i + 1) w)
take-drop-cons w i n h = rw (drop-cons w i 0 h, add-one i)

-- the same k bytes on
take-drop-more : (w : List ℕ) (i k n : ℕ) → i + k < length w → take (suc n) (drop (i + k) w) ≡ get_or w (i + k) 0 ∷ take n (drop (i + (k + 1)) w)
take-drop-more w i k n h = take-drop-cons w (i + k) n h ∙ rw (add_assoc i k 1)

-- a character by its bytes
pub char_at-one : (w : List ℕ) (i n : ℕ) → n ≡ 1 → i + n ≤ length w → char_at w i n ≡ decode (get_or w i 0 ∷ [])
unfolding char_at
char_at-one w i n e h = ap (char_at w i) e ∙ ap decode (take-drop-cons w i 0 (omega arith))

-- two bytes
pub char_at-two : (w : List ℕ) (i n : ℕ) → n ≡ 2 → i + n ≤ length w → char_at w i n ≡ decode (get_or w i 0 ∷ get_or w (i + 1) 0 ∷ [])
unfolding char_at
char_at-two w i n e h =
    ap (char_at w i) e ∙ ap decode (take-drop-cons w i 1 (omega arith) ∙ ap (λ (l : List ℕ). get_or w i 0 ∷ l) (take-drop-more w i 1 0 (omega arith)))

-- three bytes
pub char_at-three : (w : List ℕ) (i n : ℕ) → n ≡ 3 → i + n ≤ length w → char_at w i n ≡ decode (get_or w i 0 ∷ get_or w (i + 1) 0 ∷ get_or w (i + 2) 0 ∷ [])
unfolding char_at
char_at-three w i n e h =
    ap (char_at w i) e ∙ ap decode (take-drop-cons w i 2 (omega arith) ∙ ap (λ (l : List ℕ). get_or w i 0 ∷ l)
    (take-drop-more w i 1 1 (omega arith) ∙ ap (λ (l : List ℕ). get_or w (i + 1) 0 ∷ l) (take-drop-more w i 2 0 (omega arith))))

-- four bytes
pub char_at-four : (w : List ℕ) (i n : ℕ) → n ≡ 4 → i + n ≤ length w → char_at w i n ≡ decode (get_or w i 0 ∷ get_or w (i + 1) 0 ∷ get_or w (i + 2) 0 ∷ get_or w (i + 3) 0 ∷ [])
unfolding char_at
char_at-four w i n e h =
    ap (char_at w i) e ∙ ap decode (take-drop-cons w i 3 (omega arith) ∙ ap (λ (l : List ℕ). get_or w i 0 ∷ l)
    (take-drop-more w i 1 2 (omega arith) ∙ ap (λ (l : List ℕ). get_or w (i + 1) 0 ∷ l)
    (take-drop-more w i 2 1 (omega arith) ∙ ap (λ (l : List ℕ). get_or w (i + 2) 0 ∷ l) (take-drop-more w i 3 0 (omega arith)))))
