-- A step takes a whole character of a text, there is none at its edge, and none passes the record's limits; past a literal neither.
-- Assumes nothing.
use Prim.Native.Nat.{ℕ, ◌+◌, ◌≤◌}
use mathlib.Core.Path.{◌≡◌}
use mathlib.Core.Bool.{Bool, true, ◌&&◌}
use mathlib.Core.List.{List, [], ◌∷◌, ◌++◌, append_assoc, append-nil}
use native.Mathlib.Omega.{arith}
use lib.ListN.{length, length-append}
use lib.Dec.{leb}
use borrow.Author.Tests.{leb-true, le-leb}
use Rattle.std.specs.Prelude.{Some, None}
use Rattle.std.specs.declared.option.Option.{Option}
use Rattle.std.specs.Option.{ForSome}
use Rattle.std.proofs.lemmas.Option.{cond_some}
use Rattle.utf8.specs.declared.cursor.Cursor.{Cursor}
use Rattle.utf8.specs.declared.step.Step.{Step}
use Rattle.encoding.specs.Scalar.{scalar, scalars}
use Rattle.encoding.specs.Encoding.{encode, encode_all}
use Rattle.utf8.specs.Characters.{last_width_of, first_width_of}
use Rattle.utf8.specs.Steps.{stands, move_to, previous_char_of, next_char_of, eq_s_b_of, eq_s_of}
use Rattle.encoding.proofs.Laws.Booleans.{and_right}
use Rattle.utf8.proofs.Laws.Steps.{stands-ordered, previous_char_of-stays, next_char_of-stays, eq_s_b_of-moved, eq_s_of-moved}
use Rattle.utf8.proofs.Laws.Characters.{last_width_of-pos, first_width_of-pos}
use Rattle.utf8.proofs.TextCharacters.{last_width_of-encoded, last_start-encoded, last_char-encoded, first_width_of-encoded, first_char-encoded}
use Rattle.utf8.proofs.TextCharacters.{encode_all-append, scalar-head, scalars-append}

-- ---- the edges ----

-- at limit_backward there is no step back
pub previous_char_of-edge : (w : List ℕ) (r : Cursor) → r.cursor ≡ r.limit_backward → previous_char_of w r ≡ None
previous_char_of-edge w r e = previous_char_of-stays w r (omega (arith, last_width_of-pos w r.cursor))

-- at limit there is no step on
pub next_char_of-edge : (w : List ℕ) (r : Cursor) → r.cursor ≡ r.limit → next_char_of w r ≡ None
next_char_of-edge w r e = next_char_of-stays w r (omega (arith, first_width_of-pos w r.cursor))

-- ---- within the limits ----

-- the record s is r with its cursor from `low` to `high`
pub record Between (low high : ℕ) (r s : Cursor) : Type 0 where
  pub above : low ≤ s.cursor
  pub below : s.cursor ≤ high
  pub same-limit : s.limit ≡ r.limit
  pub same-backward : s.limit_backward ≡ r.limit_backward

-- a step back comes to between limit_backward and where it began
pub previous_char_of-within : (w : List ℕ) (r : Cursor) → ForSome (previous_char_of w r) (λ s. Between r.limit_backward r.cursor r s.next)
unfolding previous_char_of move_to
previous_char_of-within w r s e =
    let fits : Bool = leb (r.limit_backward + last_width_of w r.cursor) r.cursor in
    let t = cond_some (stands w r && fits) _ s e in
    rw (← t.1) (omega (arith, leb-true (r.limit_backward + last_width_of w r.cursor) r.cursor (and_right (stands w r) fits t.0)))

-- a step on comes to between where it began and limit
pub next_char_of-within : (w : List ℕ) (r : Cursor) → ForSome (next_char_of w r) (λ s. Between r.cursor r.limit r s.next)
unfolding next_char_of move_to
next_char_of-within w r s e =
    let fits : Bool = leb (r.cursor + first_width_of w r.cursor) r.limit in
    let t = cond_some (stands w r && fits) _ s e in
    rw (← t.1) (omega (arith, leb-true (r.cursor + first_width_of w r.cursor) r.limit (and_right (stands w r) fits t.0)))

-- past a literal back likewise
pub eq_s_b_of-within : (w s : List ℕ) (r : Cursor) → ForSome (eq_s_b_of w s r) (λ n. Between r.limit_backward r.cursor r n)
unfolding move_to
eq_s_b_of-within w s r n e = let b = eq_s_b_of-moved w s r n e in rw b.lands (omega (arith, b.room))

-- and past a literal on
pub eq_s_of-within : (w s : List ℕ) (r : Cursor) → ForSome (eq_s_of w s r) (λ n. Between r.cursor r.limit r n)
unfolding move_to
eq_s_of-within w s r n e = let o = eq_s_of-moved w s r n e in rw o.lands (omega (arith, o.room))

-- ---- whole characters ----

-- the step that takes the character c and leads to place i
abbrev took : Cursor → ℕ → ℕ → Option Step
took r c i = Some (record { ch = c; next = move_to r i })

-- a step back from the end of a character's encoding takes that character
previous_char_of-encoded : (p q : List ℕ) (c : ℕ) (r : Cursor) → scalar c ≡ true → r.cursor ≡ length (p ++ encode c)
    → r.limit_backward ≤ length p → r.cursor ≤ r.limit → r.limit ≤ length (p ++ encode c ++ q)
    → previous_char_of (p ++ encode c ++ q) r ≡ took r c (length p)
unfolding previous_char_of
previous_char_of-encoded p q c r s e l m n =
    let w : List ℕ = p ++ encode c ++ q in
    let a : length (p ++ encode c) ≡ length p + length (encode c) = length-append p (encode c) in
    let f : r.limit_backward + last_width_of w r.cursor ≤ r.cursor = rw (e, last_width_of-encoded p q c) (omega arith) in
    rw (
      stands-ordered w r (omega arith) m n,
      le-leb (r.limit_backward + last_width_of w r.cursor) r.cursor f,
      e,
      last_start-encoded p q c,
      last_char-encoded p q c s,
    )

-- a step on from where it begins takes that character too, where a text follows
next_char_of-encoded : (p : List ℕ) (c : ℕ) (ds : List ℕ) (r : Cursor) → scalar c ≡ true → r.cursor ≡ length p
    → r.limit_backward ≤ r.cursor → length (p ++ encode c) ≤ r.limit → r.limit ≤ length (p ++ encode c ++ encode_all ds)
    → next_char_of (p ++ encode c ++ encode_all ds) r ≡ took r c (length (p ++ encode c))
unfolding next_char_of
next_char_of-encoded p c ds r s e l m n =
    let w : List ℕ = p ++ encode c ++ encode_all ds in
    let a : length (p ++ encode c) ≡ length p + length (encode c) = length-append p (encode c) in
    let f : r.cursor + first_width_of w r.cursor ≤ r.limit = rw (e, first_width_of-encoded p c ds) (omega arith) in
    rw (
      stands-ordered w r l (omega arith) n,
      le-leb (r.cursor + first_width_of w r.cursor) r.limit f,
      e,
      first_width_of-encoded p c ds,
      first_char-encoded p c ds s,
      a,
    )

-- what a list of scalar values ends with are scalar values
scalars-middle : (cs : List ℕ) (c : ℕ) (ds : List ℕ) → scalars (cs ++ c ∷ ds) ≡ true → scalars (c ∷ ds) ≡ true
scalars-middle cs c ds s = and_right (scalars cs) (scalars (c ∷ ds)) (rw scalars-append at s)

-- a character's encoding within a text's
encode_all-middle : (cs : List ℕ) (c : ℕ) (ds : List ℕ) → encode_all (cs ++ c ∷ ds) ≡ encode_all cs ++ encode c ++ encode_all ds
unfolding encode_all
encode_all-middle cs c ds = rw (encode_all-append, append_assoc)

-- and at the end of a text's
encode_all-snoc : (cs : List ℕ) (c : ℕ) → encode_all (cs ++ (c ∷ [])) ≡ encode_all cs ++ encode c
unfolding encode_all
encode_all-snoc cs c = rw (encode_all-append, append-nil)

-- a step back from the end of a text's character takes the whole character, where limit_backward is not past its start
pub previous_char_of-whole : (cs : List ℕ) (c : ℕ) (ds : List ℕ) (r : Cursor) → scalars (cs ++ c ∷ ds) ≡ true
    → r.cursor ≡ length (encode_all (cs ++ (c ∷ []))) → r.limit_backward ≤ length (encode_all cs)
    → r.cursor ≤ r.limit → r.limit ≤ length (encode_all (cs ++ c ∷ ds))
    → previous_char_of (encode_all (cs ++ c ∷ ds)) r ≡ Some (record { ch = c; next = move_to r (length (encode_all cs)) })
previous_char_of-whole cs c ds r s e l m n =
    let t = scalars-middle cs c ds s in
    rw (encode_all-middle cs c ds)
    (previous_char_of-encoded (encode_all cs) (encode_all ds) c r (scalar-head c ds t) (rw encode_all-snoc at e) l m (rw encode_all-middle at n))

-- a step on from its start takes the whole character, where limit is not before its end
pub next_char_of-whole : (cs : List ℕ) (c : ℕ) (ds : List ℕ) (r : Cursor) → scalars (cs ++ c ∷ ds) ≡ true
    → r.cursor ≡ length (encode_all cs) → r.limit_backward ≤ r.cursor
    → length (encode_all (cs ++ (c ∷ []))) ≤ r.limit → r.limit ≤ length (encode_all (cs ++ c ∷ ds))
    → next_char_of (encode_all (cs ++ c ∷ ds)) r ≡ Some (record { ch = c; next = move_to r (length (encode_all (cs ++ (c ∷ [])))) })
next_char_of-whole cs c ds r s e l m n =
    let t = scalars-middle cs c ds s in
    rw (encode_all-middle cs c ds, encode_all-snoc cs c)
    (next_char_of-encoded (encode_all cs) c ds r (scalar-head c ds t) e l (rw encode_all-snoc at m) (rw encode_all-middle at n))
