-- How a piece joined is told by its kind and its first letter: of the six kinds that an optional y may join, with a y exactly where the
-- first letter is one. Assumes nothing.
use Prim.Native.Nat.{ℕ, ◌+◌, ◌-◌, ◌≤◌}
use mathlib.Core.Path.{◌≡◌, refl, ◌∙◌}
use mathlib.Core.Bool.{true, cond}
use mathlib.Core.Logic.{⊎_elim}
use mathlib.Core.List.Memᴰ
use mathlib.Core.List.{List, [], ◌∷◌, map, Memᴰ}
use native.Mathlib.Omega.{arith}
use lib.ListN.{length, drop, get_or}
use lib.Seq.{drop-drop}
use lib.Dec.{eqb}
use Rattle.turkish.specs.Pieces.{Joined, alone, with_y, after_vowel}
use Rattle.theorems.specs.Simple.Pieces.{Taken, total, located}
use Rattle.turkish.specs.Calls.{chars, accepted, offset}
use Rattle.turkish.specs.PieceCalls.{Span, span_of}
use Rattle.theorems.proofs.Laws.PieceCounts.{Numbered, Each}
use Rattle.theorems.proofs.Laws.Joints.{joins, JoinedAs, joined_as-head, joined_as-tail}
use Rattle.theorems.proofs.Laws.Offsets.{offset-back, joint_by-byte}

-- the joining that a kind and a first letter tell
unfoldable pub tell_joined : ℕ → ℕ → Joined
tell_joined kind letter = cond (joins kind) (cond (eqb letter 0x79) with_y after_vowel) alone

-- of a span
abbrev pub ToldByLetter : List ℕ → Span → Type 0
ToldByLetter w p = p.joined ≡ tell_joined p.kind (get_or w p.first 0)

-- marks taken one after the other from the nearest n characters on joined as their first letters tell
pub located-told : (w : List ℕ) → accepted w ≡ true → (n : ℕ) (ts : List Taken) → Each Numbered ts → JoinedAs (drop n (chars w)) ts
    → n + total ts ≤ length (chars w) → (p : Span) → Memᴰ p (map (span_of w) (located (length (chars w) - n) ts)) → ToldByLetter w p
unfolding located total span_of tell_joined
located-told w a n [] s j h p i = absurd (Memᴰ.not-nil i)
located-told w a n (t ∷ ts) s j h p i =
    let m = n + t.size in
    let to : length (chars w) - n - t.size ≡ length (chars w) - m = omega arith in
    let one = (s t (Memᴰ.head refl)).some in
    let first : t.joined ≡ tell_joined t.kind (get_or w (offset w (length (chars w) - n - t.size)) 0) =
    rw (to, offset-back w m a) (joined_as-head j ∙ joint_by-byte w (joins t.kind) n t.size a one (omega arith)) in
    let rest : JoinedAs (drop m (chars w)) ts = rw (drop-drop t.size n (chars w)) at (joined_as-tail j) in
    let others = located-told w a m ts (λ u k. s u (Memᴰ.tail k)) rest (omega arith) p in
    ⊎_elim (λ e. rw e first) (λ k. others (rw to at k)) (Memᴰ.cases_cons i)
