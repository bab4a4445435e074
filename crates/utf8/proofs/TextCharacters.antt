-- The characters of a text, seen from the end and from the start of one of them; and what stands before a place in a text.
-- Assumes nothing.
use Prim.Native.Nat.{ℕ, zero, suc, ◌+◌, ◌-◌, ◌<◌}
use mathlib.Core.Path.{◌≡◌, refl, sym, ap, ◌∙◌, subst}
use mathlib.Core.Bool.{true, false, ◌&&◌, and_assoc}
use mathlib.Core.List.{List, [], ◌∷◌, ◌++◌, reverse, append_assoc, append-nil, reverse-cons, reverse-reverse}
use native.Mathlib.Omega.{arith}
use lib.ListN.{length, take, drop, get_or, length-append}
use lib.Seq.{get_or-append-add, take-append_seam, drop-append_seam}
use lib.Dec.{ltb}
use borrow.Author.Tests.{lt-ltb}
use Rattle.encoding.specs.Scalar.{scalar, scalars}
use Rattle.encoding.specs.Encoding.{encode, encode_all, decode, continuation}
use Rattle.encoding.specs.Text.{TextOf}
use Rattle.utf8.specs.Characters.{width, goes_on_of, last_width_of, first_width_of, char_at, last_char, first_char, before, back}
use Rattle.encoding.proofs.Laws.Booleans.{and_left, and_right, and-false}
use Rattle.utf8.proofs.Laws.Characters.{before-zero, before-step, back-zero}
use Rattle.encoding.proofs.Laws.Decoding.{decode-encode, OneCharacter, one_byte, two_bytes, three-bytes, four_bytes, encode-lead, length_encode_pos}

-- ---- one character ----

-- m bytes back from place m of r stands r's first byte, which goes on with nothing
goes_on_of-first : (p r : List ℕ) (m : ℕ) → continuation (get_or r 0 0) ≡ false → goes_on_of (p ++ r) (length p + m) m ≡ false
unfolding goes_on_of
goes_on_of-first p r m h =
    let e : length p + m - m ≡ length p + 0 = omega arith in
    rw (e, get_or-append-add, h) (and-false (ltb m (length p + m)))

-- fewer bytes back stands a further one, which goes on
goes_on_of-further : (p r : List ℕ) (m k : ℕ) → k < m → continuation (get_or r (m - k) 0) ≡ true → goes_on_of (p ++ r) (length p + m) k ≡ true
unfolding goes_on_of
goes_on_of-further p r m k h t =
    let e : length p + m - k ≡ length p + (m - k) = omega arith in
    rw (lt-ltb k (length p + m) (omega arith), e, get_or-append-add, t)

-- where one character's bytes end, a character of as many bytes ends
last_width_of-bytes : (p q : List ℕ) {e : List ℕ} → OneCharacter e → last_width_of (p ++ (e ++ q)) (length p + length e) ≡ length e
unfolding last_width_of width
last_width_of-bytes p q (one_byte {a} x) = rw (goes_on_of-first p (a ∷ q) 1 x)
last_width_of-bytes p q (two_bytes {a} {b} x y) =
    let r : List ℕ = a ∷ b ∷ q in
    rw (goes_on_of-further p r 2 1 (omega arith) y, goes_on_of-first p r 2 x)
last_width_of-bytes p q (three-bytes {a} {b} {c} x y z) =
    let r : List ℕ = a ∷ b ∷ c ∷ q in
    rw (goes_on_of-further p r 3 1 (omega arith) z, goes_on_of-further p r 3 2 (omega arith) y, goes_on_of-first p r 3 x)
last_width_of-bytes p q (four_bytes {a} {b} {c} {d} x y z t) =
    let r : List ℕ = a ∷ b ∷ c ∷ d ∷ q in
    rw (goes_on_of-further p r 4 1 (omega arith) t, goes_on_of-further p r 4 2 (omega arith) z, goes_on_of-further p r 4 3 (omega arith) y)

-- where one character's bytes begin, a character of as many bytes begins, if what follows them does not go on
first_width_of-bytes : (p s : List ℕ) {e : List ℕ} → OneCharacter e → continuation (get_or s 0 0) ≡ false
    → first_width_of (p ++ (e ++ s)) (length p) ≡ length e
unfolding first_width_of width
first_width_of-bytes p s (one_byte x) h = simp (get_or-append-add, h)
first_width_of-bytes p s (two_bytes x y) h = simp (get_or-append-add, y, h)
first_width_of-bytes p s (three-bytes x y z) h = simp (get_or-append-add, y, z, h)
first_width_of-bytes p s (four_bytes x y z t) h = simp (get_or-append-add, y, z, t)

-- the character at a place is the bytes there decoded
char_at-bytes : (p e q : List ℕ) → char_at (p ++ (e ++ q)) (length p) (length e) ≡ decode e
unfolding char_at
char_at-bytes p e q = rw (drop-append_seam, take-append_seam)

-- where a character's encoding ends, a character of its width ends, whatever stands around it
pub last_width_of-encoded : (p q : List ℕ) (c : ℕ) → last_width_of (p ++ encode c ++ q) (length (p ++ encode c)) ≡ length (encode c)
last_width_of-encoded p q c = rw (append_assoc, length-append) (last_width_of-bytes p q (encode-lead c))

-- that width back is where the encoding begins
pub last_start-encoded : (p q : List ℕ) (c : ℕ)
    → length (p ++ encode c) - last_width_of (p ++ encode c ++ q) (length (p ++ encode c)) ≡ length p
last_start-encoded p q c = rw (last_width_of-encoded p q c) (omega (arith, length-append p (encode c)))

-- and it is that character
pub last_char-encoded : (p q : List ℕ) (c : ℕ) → scalar c ≡ true → last_char (p ++ encode c ++ q) (length (p ++ encode c)) ≡ c
unfolding last_char
last_char-encoded p q c h = rw (last_start-encoded p q c, last_width_of-encoded p q c, append_assoc, char_at-bytes, decode-encode c h)

-- a character's first byte goes on with nothing, whatever follows
lead-bytes : (s : List ℕ) {e : List ℕ} → OneCharacter e → continuation (get_or (e ++ s) 0 0) ≡ false
lead-bytes s (one_byte x) = x
lead-bytes s (two_bytes x y) = x
lead-bytes s (three-bytes x y z) = x
lead-bytes s (four_bytes x y z t) = x

-- so a text does not begin with a byte that goes on
lead-encode_all : (cs : List ℕ) → continuation (get_or (encode_all cs) 0 0) ≡ false
unfolding encode_all continuation
lead-encode_all [] = refl
lead-encode_all (c ∷ cs) = lead-bytes (encode_all cs) (encode-lead c)

-- where a character's encoding begins before a text, a character of its width begins
pub first_width_of-encoded : (p : List ℕ) (c : ℕ) (ds : List ℕ) → first_width_of (p ++ encode c ++ encode_all ds) (length p) ≡ length (encode c)
first_width_of-encoded p c ds = rw append_assoc (first_width_of-bytes p (encode_all ds) (encode-lead c) (lead-encode_all ds))

-- and it is that character
pub first_char-encoded : (p : List ℕ) (c : ℕ) (ds : List ℕ) → scalar c ≡ true → first_char (p ++ encode c ++ encode_all ds) (length p) ≡ c
unfolding first_char
first_char-encoded p c ds h = rw (first_width_of-encoded p c ds, append_assoc, char_at-bytes, decode-encode c h)

-- ---- a text ----

-- a text of two parts is the one's bytes and then the other's
pub encode_all-append : (cs ds : List ℕ) → encode_all (cs ++ ds) ≡ encode_all cs ++ encode_all ds
unfolding encode_all
encode_all-append [] ds = refl
encode_all-append (c ∷ cs) ds = rw (encode_all-append cs ds, append_assoc)

-- the first of a list of scalar values is one
pub scalar-head : (c : ℕ) (cs : List ℕ) → scalars (c ∷ cs) ≡ true → scalar c ≡ true
unfolding scalars
scalar-head c cs h = and_left (scalar c) (scalars cs) h

-- and so are the others
pub scalars-tail : (c : ℕ) (cs : List ℕ) → scalars (c ∷ cs) ≡ true → scalars cs ≡ true
unfolding scalars
scalars-tail c cs h = and_right (scalar c) (scalars cs) h

-- a list is of scalar values where both its parts are
pub scalars-append : (cs ds : List ℕ) → scalars (cs ++ ds) ≡ (scalars cs && scalars ds)
unfolding scalars
scalars-append [] ds = refl
scalars-append (c ∷ cs) ds = rw (scalars-append cs ds) (sym (and_assoc (scalar c) (scalars cs) (scalars ds)))

-- of characters told nearest first, the first one's bytes come last
encode_all-reverse : (c : ℕ) (cs : List ℕ) → encode_all (reverse (c ∷ cs)) ≡ encode_all (reverse cs) ++ encode c
unfolding encode_all
encode_all-reverse c cs = rw (reverse-cons, encode_all-append, append-nil)

-- before the end of a character's encoding stand that character and what stands before it
before-encoded : (w p q : List ℕ) (c : ℕ) → scalar c ≡ true → w ≡ p ++ encode c ++ q → before w (length (p ++ encode c)) ≡ c ∷ before w (length p)
before-encoded w p q c h e =
    let z : 0 < length (p ++ encode c) = omega (arith, length-append p (encode c), length_encode_pos c) in
    before-step w (length (p ++ encode c)) z ∙ rw (e, last_start-encoded p q c, last_char-encoded p q c h)

-- before the end of some characters' encoding stand they, here told nearest first, and then what stands before it
before-reverse : (w p cs q : List ℕ) → scalars cs ≡ true → w ≡ p ++ encode_all (reverse cs) ++ q
    → before w (length (p ++ encode_all (reverse cs))) ≡ cs ++ before w (length p)
unfolding encode_all
before-reverse w p [] q h e = ap (λ (l : List ℕ). before w (length l)) (append-nil p)
before-reverse w p (c ∷ cs) q h e =
    let f : List ℕ = encode_all (reverse cs) in
    let l : p ++ encode_all (reverse (c ∷ cs)) ≡ p ++ f ++ encode c = rw (encode_all-reverse, append_assoc) in
    let k : w ≡ p ++ f ++ encode c ++ q = e ∙ ap (λ (x : List ℕ). x ++ q) l in
    ap (λ (x : List ℕ). before w (length x)) l ∙ before-encoded w (p ++ f) q c (scalar-head c cs h) k
    ∙ ap (λ (x : List ℕ). c ∷ x) (before-reverse w p cs (encode c ++ q) (scalars-tail c cs h) (k ∙ append_assoc (p ++ f) (encode c) q))

-- before the place n characters back from there stands the encoding of all but the nearest n
take-back-reverse : (cs q : List ℕ) (n : ℕ) → scalars cs ≡ true
    → take (back (encode_all (reverse cs) ++ q) (length (encode_all (reverse cs))) n) (encode_all (reverse cs) ++ q) ≡ encode_all (reverse (drop n cs))
unfolding back encode_all
take-back-reverse cs q zero h = rw take-append_seam
take-back-reverse [] q (suc n) h = ap (λ (k : ℕ). take k q) (back-zero q (suc n))
take-back-reverse (c ∷ cs) q (suc n) h =
    let f : List ℕ = encode_all (reverse cs) in
    let y : List ℕ = f ++ (encode c ++ q) in
    let there : List ℕ → ℕ → Type 0 = λ x k. take (back x k n) x ≡ encode_all (reverse (drop n cs)) in
    let whole : (f ++ encode c) ++ q ≡ y = append_assoc f (encode c) q in
    let near : there ((f ++ encode c) ++ q) (length (f ++ encode c) - last_width_of ((f ++ encode c) ++ q) (length (f ++ encode c))) =
    subst (there ((f ++ encode c) ++ q)) (sym (last_start-encoded f q c))
    (subst (λ (x : List ℕ). there x (length f)) (sym whole) (take-back-reverse cs (encode c ++ q) n (scalars-tail c cs h))) in
    subst (λ (x : List ℕ). take (back (x ++ q) (length x) (suc n)) (x ++ q) ≡ encode_all (reverse (drop n cs))) (sym (encode_all-reverse c cs)) near

-- scalar values reversed are scalar values
pub scalars-reverse : (cs : List ℕ) → scalars cs ≡ true → scalars (reverse cs) ≡ true
unfolding scalars
scalars-reverse [] h = refl
scalars-reverse (c ∷ cs) h = rw (reverse-cons, scalars-append, scalars-reverse cs (scalars-tail c cs h), scalar-head c cs h)

-- before the end of some characters' encoding stand they, the last one first, and then what stands before it
pub before-after : (w p cs q : List ℕ) → scalars cs ≡ true → w ≡ p ++ encode_all cs ++ q → before w (length (p ++ encode_all cs)) ≡ reverse cs ++ before w (length p)
before-after w p cs q h e = rw reverse-reverse at (before-reverse w p (reverse cs) q (scalars-reverse cs h) (rw reverse-reverse e))

-- before the end of a text stand its characters, the last one first, whatever follows
pub before_text : (cs q : List ℕ) → scalars cs ≡ true → before (encode_all cs ++ q) (length (encode_all cs)) ≡ reverse cs
before_text cs q h = before-after (encode_all cs ++ q) [] cs q h refl ∙ rw (before-zero, append-nil)

-- and where nothing follows
before-end : (cs : List ℕ) → scalars cs ≡ true → before (encode_all cs) (length (encode_all cs)) ≡ reverse cs
before-end cs h = rw append-nil at (before_text cs [] h)

-- characters whose encodings are equal are equal
pub encode_all-injective : (cs ds : List ℕ) → scalars cs ≡ true → scalars ds ≡ true → encode_all cs ≡ encode_all ds → cs ≡ ds
encode_all-injective cs ds h k e =
    let r : reverse cs ≡ reverse ds = sym (before-end cs h) ∙ ap (λ (w : List ℕ). before w (length w)) e ∙ before-end ds k in
    sym (reverse-reverse cs) ∙ ap reverse r ∙ reverse-reverse ds

-- read back from its end a text has the scalar values that it encodes
pub before-whole : (w : List ℕ) (t : TextOf w) → before w (length w) ≡ reverse t.chars
before-whole w t = rw (← t.encoded) (before-end t.chars t.valid)

-- a text's characters, encoded again, are the text
pub encode-before : (w : List ℕ) → TextOf w → encode_all (reverse (before w (length w))) ≡ w
encode-before w t = rw (← t.encoded, before-end t.chars t.valid, reverse-reverse)

-- the part of a text before the place n characters back is the encoding of the characters that are left
pub take_back : (w : List ℕ) → TextOf w → (n : ℕ) → take (back w (length w) n) w ≡ encode_all (reverse (drop n (before w (length w))))
take_back w t n =
    rw (← t.encoded, before-end t.chars t.valid)
    (rw (reverse-reverse, append-nil) at (take-back-reverse (reverse t.chars) [] n (scalars-reverse t.chars t.valid)))
