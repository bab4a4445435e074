-- The limit's number, 96: what it makes of a text, and of a word over it. Assumes nothing.
use Prim.Native.Nat.{ℕ, ◌≤◌, ◌<◌}
use mathlib.Core.Path.{◌≡◌}
use mathlib.Core.Bool.{true}
use mathlib.Core.List.{List}
use native.Mathlib.Omega.{arith}
use lib.ListN.{length}
use borrow.Author.Tests.{lt-ltb, le-ltb}
use Rattle.encoding.specs.Validity.{is_text}
use Rattle.turkish.specs.Calls.{limit, refusal, accepted}

-- 96 bytes pass and 97 do not
pub limit-96 : (w : List ℕ) → (length w ≤ 96 → is_text w ≡ true → accepted w ≡ true) × (96 < length w → refusal w ≡ 1)
unfolding accepted refusal limit
limit-96 w = (λ n t. rw (le-ltb limit (length w) (omega arith), t), λ n. rw (lt-ltb limit (length w) (omega arith)))
