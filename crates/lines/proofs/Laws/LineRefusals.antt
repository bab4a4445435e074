-- Why a line is refused, each test's answer as a fact about the word, and the line that the number gives.
-- Assumes nothing.
use Prim.Native.Nat.{ℕ, zero, suc, ◌<◌, ◌≤◌}
use mathlib.Core.Path.{◌≡◌, refl, sym, ◌∙◌}
use mathlib.Core.Bool.{Bool, true, false, cond}
use mathlib.Core.List.{List}
use native.Mathlib.Omega.{arith}
use lib.ListN.{length}
use lib.Dec.{eqb, ltb, eqb-suc-zero}
use borrow.Author.Tests.{eq-eqb, ne_eqb}
use Rattle.encoding.specs.Validity.{is_text}
use Rattle.turkish.specs.declared.refusal.Refusal.{Refusal}
use Rattle.turkish.specs.declared.refusal.Refusal.TheVariants.{OverLimit, NotUtf8, OutputTooShort, HasTab, BufferTooShort, TailsRefused}
use Rattle.turkish.specs.Letters.{tab, has}
use Rattle.turkish.specs.Calls.{limit, refusal, accepted}
use Rattle.turkish.specs.Refusals.{refusal_number}
use Rattle.lines.specs.Line.{line_refusal_of, fields, refused_line, list_line}

-- ---- the number, by the tests ----

module _ (w : List ℕ) (n : ℕ) (e : n ≡ refusal w) where
  -- the number that the word has comes first
  pub line_refusal_of-word : (n ≡ 0 → ⊥) → n ≡ line_refusal_of w
  unfolding line_refusal_of
  line_refusal_of-word h = rw (← e, ne_eqb n 0 h)

  -- then number 4, where a tab stands in it
  pub line_refusal_of-tab : n ≡ 0 → true ≡ has w tab → 4 ≡ line_refusal_of w
  unfolding line_refusal_of
  line_refusal_of-tab z t = rw (← e, z, ← t)

  -- then none
  pub line_refusal_of-none : n ≡ 0 → false ≡ has w tab → 0 ≡ line_refusal_of w
  unfolding line_refusal_of
  line_refusal_of-none z t = rw (← e, z, ← t)

-- ---- what the number says ----

-- no line's number is more than 4
pub line_refusal_of-most : (w : List ℕ) → line_refusal_of w ≤ 4
unfolding line_refusal_of refusal
line_refusal_of-most w = go (ltb limit (length w)) (is_text w) (has w tab)
  where
    go : (over valid t : Bool) → cond (eqb (cond over 1 (cond valid 0 2)) 0) (cond t 4 0) (cond over 1 (cond valid 0 2)) ≤ 4
    go true valid t = omega arith
    go false true true = omega arith
    go false true false = omega arith
    go false false t = omega arith

-- a refusal's number is a digit
pub refusal_number-few : (r : Refusal) → refusal_number r < 10
refusal_number-few OverLimit = omega arith
refusal_number-few NotUtf8 = omega arith
refusal_number-few OutputTooShort = omega arith
refusal_number-few HasTab = omega arith
refusal_number-few BufferTooShort = omega arith
refusal_number-few TailsRefused = omega arith

module _ (w : List ℕ) (n : ℕ) (e : n ≡ line_refusal_of w) where
  -- a line with no number is an accepted word
  pub line_refusal_of-accepted : n ≡ 0 → accepted w ≡ true
  unfolding line_refusal_of accepted
  line_refusal_of-accepted z = eq-eqb (refusal w) 0 (go (refusal w) (has w tab) (sym e ∙ z))
    where
      go : (m : ℕ) (t : Bool) → cond (eqb m 0) (cond t 4 0) m ≡ 0 → m ≡ 0
      go zero t q = refl
      go (suc m) t q = rw (eqb-suc-zero m) at q

  -- and it has its fields
  pub list_line-fields : n ≡ 0 → fields w ≡ list_line w
  unfolding list_line
  list_line-fields z = rw (← e, z)

  -- one with a number has that
  pub list_line-refused : (n ≡ 0 → ⊥) → refused_line n ≡ list_line w
  unfolding list_line
  list_line-refused h = rw (← e, ne_eqb n 0 h)
