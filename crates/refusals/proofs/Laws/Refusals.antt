-- Which number a call into a lent output gives, each test's answer as a fact about the word and the room.
-- Assumes nothing.
use Prim.Native.Nat.{ℕ, zero, suc, ◌≤◌, ◌<◌}
use mathlib.Core.Path.{◌≡◌, refl, sym, ap, ◌∙◌}
use mathlib.Core.Bool.{Bool, true, false, cond}
use mathlib.Core.List.{List}
use native.Mathlib.Omega.{arith}
use lib.Dec.{eqb, ltb, eqb-suc-zero}
use borrow.Author.Tests.{lt-ltb, le-ltb, ltb-false, eq-eqb, ne_eqb}
use Rattle.std.specs.Prelude.{Result, Ok, Err, IsErr, IsErrAnd}
use Rattle.turkish.specs.Calls.{refusal, refusal_short_of, refusal_into_of, accepted}

-- an error that `?` hands on is the one that it found
pub raised : {A E : Type 0} (r : Result A E) (e : E) → IsErr r × IsErrAnd r (λ x. x ≡ e) → r ≡ Err e
raised (Ok x) e h = absurd h.1
raised (Err d) e h = ap Err h.1

module _ (number : ℕ) (w : List ℕ) (need room n : ℕ) (e : n ≡ refusal w) where
  -- the number that the word has comes first
  pub refusal_short_of-word : (n ≡ 0 → ⊥) → n ≡ refusal_short_of number w need room
  unfolding refusal_short_of
  refusal_short_of-word h = rw (← e, ne_eqb n 0 h)

  -- then the call's own, where the room is too small
  pub refusal_short_of-room : n ≡ 0 → room < need → number ≡ refusal_short_of number w need room
  unfolding refusal_short_of
  refusal_short_of-room z h = rw (← e, eq-eqb n 0 z, lt-ltb room need h)

  -- then none
  pub refusal_short_of-none : n ≡ 0 → need ≤ room → 0 ≡ refusal_short_of number w need room
  unfolding refusal_short_of
  refusal_short_of-none z h = rw (← e, eq-eqb n 0 z, le-ltb room need h)

-- where none applies the word has none, and the room is large enough
refusal_short_of-zero : (number : ℕ) (w : List ℕ) (need room : ℕ) → 0 < number → refusal_short_of number w need room ≡ 0 → (refusal w ≡ 0) × (need ≤ room)
unfolding refusal_short_of
refusal_short_of-zero number w need room some e = go (refusal w) (ltb room need) refl e
  where
    go : (n : ℕ) (t : Bool) → ltb room need ≡ t → cond (eqb n 0) (cond t number 0) n ≡ 0 → (n ≡ 0) × (need ≤ room)
    go zero true o e = absurd (omega arith)
    go zero false o e = (refl, ltb-false room need o)
    go (suc n) t o e = absurd (omega (arith, rw (eqb-suc-zero n) at e))

-- a call into a lent buffer that gives no number
module _ (number : ℕ) (w : List ℕ) (need room n : ℕ) (some : 0 < number) (e : n ≡ refusal_short_of number w need room) (z : n ≡ 0) where
  -- accepts the word
  pub short-accepted : accepted w ≡ true
  unfolding accepted
  short-accepted = eq-eqb (refusal w) 0 (refusal_short_of-zero number w need room some (sym e ∙ z)).0

  -- and has the room that it needs
  pub short-room : need ≤ room
  short-room = (refusal_short_of-zero number w need room some (sym e ∙ z)).1

-- and so of an output
module _ (w : List ℕ) (need room n : ℕ) (e : n ≡ refusal_into_of w need room) (z : n ≡ 0) where
  -- the word is accepted
  pub into-accepted : accepted w ≡ true
  into-accepted = short-accepted 3 w need room n (omega arith) e z

  -- and the output long enough
  pub into-room : need ≤ room
  into-room = short-room 3 w need room n (omega arith) e z
