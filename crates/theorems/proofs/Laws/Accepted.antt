-- Which words are accepted, and what is known of one that is: it is a text, and its characters' bytes are its own. And under which number a
-- word is refused.
-- Assumes nothing.
use Prim.Native.Nat.{ℕ, ◌≤◌, ◌<◌}
use mathlib.Core.Path.{◌≡◌, refl}
use mathlib.Core.Bool.{Bool, true, false, cond, false≢true}
use mathlib.Core.List.{List}
use mathlib.Core.Logic.{◌↔◌}
use lib.ListN.{length}
use lib.Dec.{eqb, ltb}
use borrow.Author.Tests.{ltb-false, lt-ltb, le-ltb}
use Rattle.encoding.specs.Text.{TextOf}
use Rattle.encoding.specs.Validity.{is_text}
use Rattle.encoding.proofs.CheckExact.{is_text-encodes}
use Rattle.turkish.specs.Calls.{chars, bytes, limit, refusal, accepted}
use Rattle.theorems.proofs.Laws.Words.{bytes-chars-text}

-- a word is accepted exactly when it is short enough and a text
pub accepted-iff : (w : List ℕ) → (accepted w ≡ true) ↔ ((length w ≤ limit) × (is_text w ≡ true))
unfolding accepted refusal
accepted-iff w = (there (ltb limit (length w)) refl (is_text w) refl, λ h. rw (le-ltb limit (length w) h.0, h.1))
  where
    there : (over : Bool) → ltb limit (length w) ≡ over → (valid : Bool) → is_text w ≡ valid
        → eqb (cond over 1 (cond valid 0 2)) 0 ≡ true → (length w ≤ limit) × (is_text w ≡ true)
    there true o valid v e = absurd (false≢true e)
    there false o true v e = (ltb-false limit (length w) o, v)
    there false o false v e = absurd (false≢true e)

-- so an accepted word is a text
pub accepted-text : (w : List ℕ) → accepted w ≡ true → TextOf w
accepted-text w e = is_text-encodes w ((accepted-iff w).0 e).1

-- whose characters' bytes are its own
pub bytes-chars : (w : List ℕ) → accepted w ≡ true → bytes (chars w) ≡ w
bytes-chars w e = bytes-chars-text w (accepted-text w e)

-- a word over the limit is refused under 1, whatever it is
pub refusal-long : (w : List ℕ) → limit < length w → 1 ≡ refusal w
unfolding refusal
refusal-long w h = rw (lt-ltb limit (length w) h)

-- a text within it under none
pub refusal-text : (w : List ℕ) → length w ≤ limit → is_text w ≡ true → 0 ≡ refusal w
unfolding refusal
refusal-text w h e = rw (le-ltb limit (length w) h, e)

-- any other word within it under 2
pub refusal-not-text : (w : List ℕ) → length w ≤ limit → is_text w ≡ false → 2 ≡ refusal w
unfolding refusal
refusal-not-text w h e = rw (le-ltb limit (length w) h, e)
