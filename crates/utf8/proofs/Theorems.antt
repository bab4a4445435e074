-- The file to open first: what characters and steps promise. Each theorem is proved in a line or two from the files named for what they
-- prove. That the code gives these definitions' answers is the contracts' part. Assumes nothing.
use Prim.Native.Nat.{ℕ, ◌≤◌, ◌<◌}
use mathlib.Core.Path.{◌≡◌}
use mathlib.Core.Bool.{true}
use mathlib.Core.List.{List, [], ◌∷◌, ◌++◌, reverse}
use lib.ListN.{length, take, drop}
use Rattle.std.specs.Prelude.{Some, None}
use Rattle.std.specs.Option.{ForSome}
use Rattle.utf8.specs.declared.cursor.Cursor.{Cursor}
use Rattle.encoding.specs.Scalar.{scalars}
use Rattle.encoding.specs.Encoding.{encode_all}
use Rattle.encoding.specs.Text.{TextOf}
use Rattle.utf8.specs.Characters.{before, back}
use Rattle.utf8.specs.Steps.{move_to, previous_char_of, next_char_of, eq_s_b_of, eq_s_of}
use Rattle.utf8.proofs.TextCharacters.{before-whole, encode-before, take_back}
use Rattle.utf8.proofs.WholeCharacters.{Between, previous_char_of-edge, next_char_of-edge, previous_char_of-within, next_char_of-within, eq_s_b_of-within, eq_s_of-within}
use Rattle.utf8.proofs.WholeCharacters.{previous_char_of-whole, next_char_of-whole}
use Rattle.utf8.proofs.WholeLiterals.{PassedBack, PassedOn, eq_s_b_of-before, eq_s_b_of-whole, eq_s_b_of-passes, eq_s_of-whole, eq_s_of-passes}

-- ---- the characters before a place ----

-- read back from a text's end they are the scalar values that it encodes, the last one first; encoded again they give the text, and
-- without the nearest n the part before the place n characters back
pub text-read-back : (w : List ℕ) (t : TextOf w) → (before w (length w) ≡ reverse t.chars)
    × (encode_all (reverse (before w (length w))) ≡ w)
    × ((n : ℕ) → take (back w (length w) n) w ≡ encode_all (reverse (drop n (before w (length w)))))
text-read-back w t = (before-whole w t, encode-before w t, take_back w t)

-- ---- the limits ----

-- a step or a literal moves the cursor no farther back than limit_backward and no farther on than limit, and leaves both as they are
pub within-limits : (w s : List ℕ) (r : Cursor) → ForSome (previous_char_of w r) (λ p. Between r.limit_backward r.cursor r p.next)
    × ForSome (next_char_of w r) (λ p. Between r.cursor r.limit r p.next)
    × ForSome (eq_s_b_of w s r) (λ n. Between r.limit_backward r.cursor r n)
    × ForSome (eq_s_of w s r) (λ n. Between r.cursor r.limit r n)
within-limits w s r = (previous_char_of-within w r, next_char_of-within w r, eq_s_b_of-within w s r, eq_s_of-within w s r)

-- at limit_backward there is no step back, and at limit none on
pub stays-at-limits : (w : List ℕ) (r : Cursor)
    → (r.cursor ≡ r.limit_backward → previous_char_of w r ≡ None) × (r.cursor ≡ r.limit → next_char_of w r ≡ None)
stays-at-limits w r = (previous_char_of-edge w r, next_char_of-edge w r)

-- ---- whole characters ----

-- a step back from where a text's character ends takes that character, unless limit_backward is past its start
pub step-back-whole : (cs : List ℕ) (c : ℕ) (ds : List ℕ) (r : Cursor) → scalars (cs ++ c ∷ ds) ≡ true
    → r.cursor ≡ length (encode_all (cs ++ (c ∷ []))) → r.limit_backward ≤ length (encode_all cs)
    → r.cursor ≤ r.limit → r.limit ≤ length (encode_all (cs ++ c ∷ ds))
    → previous_char_of (encode_all (cs ++ c ∷ ds)) r ≡ Some (record { ch = c; next = move_to r (length (encode_all cs)) })
step-back-whole = previous_char_of-whole

-- a step on from where it begins takes it too, unless limit is before its end
pub step-on-whole : (cs : List ℕ) (c : ℕ) (ds : List ℕ) (r : Cursor) → scalars (cs ++ c ∷ ds) ≡ true
    → r.cursor ≡ length (encode_all cs) → r.limit_backward ≤ r.cursor
    → length (encode_all (cs ++ (c ∷ []))) ≤ r.limit → r.limit ≤ length (encode_all (cs ++ c ∷ ds))
    → next_char_of (encode_all (cs ++ c ∷ ds)) r ≡ Some (record { ch = c; next = move_to r (length (encode_all (cs ++ (c ∷ [])))) })
step-on-whole = next_char_of-whole

-- ---- literals that are texts ----

-- back past one, over any bytes: the characters before the cursor are the literal's, from its end, and then those before where it comes to
pub literal-back-characters : (w s : List ℕ) (r : Cursor) (t : TextOf s)
    → ForSome (eq_s_b_of w s r) (λ n. before w r.cursor ≡ reverse t.chars ++ before w n.cursor)
literal-back-characters = eq_s_b_of-before

-- from between two characters of a text, here after cs, it comes back to such a place: the literal's characters end cs
pub literal-back-whole : (cs ds ls : List ℕ) (r : Cursor) → scalars (cs ++ ds) ≡ true → scalars ls ≡ true → r.cursor ≡ length (encode_all cs)
    → ForSome (eq_s_b_of (encode_all (cs ++ ds)) (encode_all ls) r) (λ n. PassedBack cs ls r n)
literal-back-whole = eq_s_b_of-whole

-- and on: the literal's characters begin ds
pub literal-on-whole : (cs ds ls : List ℕ) (r : Cursor) → scalars (cs ++ ds) ≡ true → scalars ls ≡ true → r.cursor ≡ length (encode_all cs)
    → ForSome (eq_s_of (encode_all (cs ++ ds)) (encode_all ls) r) (λ n. PassedOn cs ds ls r n)
literal-on-whole = eq_s_of-whole

-- where the literal's characters stand before the cursor, it is passed back, unless limit_backward is past their start
pub literal-back-passes : (cs ls ds : List ℕ) (r : Cursor) → r.cursor ≡ length (encode_all (cs ++ ls)) → r.limit_backward ≤ length (encode_all cs)
    → r.cursor ≤ r.limit → r.limit ≤ length (encode_all (cs ++ ls ++ ds))
    → eq_s_b_of (encode_all (cs ++ ls ++ ds)) (encode_all ls) r ≡ Some (move_to r (length (encode_all cs)))
literal-back-passes = eq_s_b_of-passes

-- where they stand after it, it is passed on, unless the cursor is at limit or limit is before their end
pub literal-on-passes : (cs ls ds : List ℕ) (r : Cursor) → r.cursor ≡ length (encode_all cs) → r.limit_backward ≤ r.cursor → r.cursor < r.limit
    → length (encode_all (cs ++ ls)) ≤ r.limit → r.limit ≤ length (encode_all (cs ++ ls ++ ds))
    → eq_s_of (encode_all (cs ++ ls ++ ds)) (encode_all ls) r ≡ Some (move_to r (length (encode_all (cs ++ ls))))
literal-on-passes = eq_s_of-passes
