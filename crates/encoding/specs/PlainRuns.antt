-- Plain runs (document 02, request 3): ASCII passed over eight bytes at a time. The check, `is_text`, knows nothing of them; that it gives the
-- same answer from a run's end on is proved in proofs/Laws/Parts. Assumes nothing.
use Rattle.std.specs.Prelude.{ℕ, zero, suc, ◌+◌, ◌*◌, ◌/◌, ◌≤◌, ◌<◌, ◌≡◌, Bool, true, false, cond, ◌&&◌, ◌⊎◌, List, [], ◌∷◌, length, drop, get_or, ltb}

-- how many values a byte has
abbrev pub byte_values : ℕ
byte_values = 0x100

-- the bytes of a 64-bit word
abbrev pub word_bytes : ℕ
word_bytes = 8

-- the next n bytes are there and none has its top bit set
unfoldable pub plain_next : ℕ → List ℕ → Bool
plain_next zero w = true
plain_next (suc n) [] = false
plain_next (suc n) (b ∷ bs) = ltb b 0x80 && plain_next n bs

-- how many bytes a run at the front has, in whole eights; the first number bounds the eights
unfoldable pub run_in : ℕ → List ℕ → ℕ
run_in zero w = 0
run_in (suc eights) w = cond (plain_next word_bytes w) (word_bytes + run_in eights (drop word_bytes w)) 0

-- where the run from a place on ends; it has no more eights than fit into the rest
unfoldable pub run_end_of : List ℕ → ℕ → ℕ
run_end_of w i = i + run_in (length (drop i w) / word_bytes) (drop i w)

-- the next n bytes as one number, the first lowest
unfoldable pub joined : ℕ → List ℕ → ℕ
joined zero w = 0
joined (suc n) [] = 0
joined (suc n) (b ∷ bs) = joined n bs * byte_values + b

-- ---- what the ticket says of the run's end, for the theorems ----

-- one of the eight bytes from r on has its top bit set
pub record TopIn (w : List ℕ) (r : ℕ) : Type 0 where
  pub at : ℕ
  pub from : r ≤ at
  pub upto : at < r + word_bytes
  pub top : 0x80 ≤ get_or w at 0

-- r is where the skipping step from i on stops: whole eights on from i, within the word, past bytes without their top bit alone, and there
-- fewer than eight bytes are left or one of the next eight has its top bit set
pub record RunOf (w : List ℕ) (i r : ℕ) : Type 0 where
  pub eights : (k : ℕ) × (r ≡ i + k * word_bytes)
  pub within : r ≤ length w
  pub plain : (j : ℕ) → i ≤ j → j < r → get_or w j 0 < 0x80
  pub stops : (length w < r + word_bytes) ⊎ TopIn w r
