-- A text as characters: the bytes of characters told nearest first, and its end and its front, which are its characters' two parts
-- encoded. Assumes nothing.
use Prim.Native.Nat.{ℕ, ◌+◌, ◌≤◌}
use mathlib.Core.Path.{◌≡◌, sym, ◌∙◌}
use mathlib.Core.Bool.{true, ◌&&◌}
use mathlib.Core.List.{List, [], ◌∷◌, ◌++◌, reverse, append-nil, reverse-append, reverse-reverse, append_cancel_left}
use native.Mathlib.Omega.{arith}
use lib.ListN.{length, take, drop, take-append-drop, length-append, length-take}
use borrow.Author.Tests.{leb-true}
use Rattle.encoding.specs.Scalar.{scalars}
use Rattle.encoding.specs.Encoding.{encode, encode_all}
use Rattle.encoding.specs.Text.{TextOf}
use Rattle.utf8.specs.Characters.{back}
use Rattle.encoding.proofs.Laws.Booleans.{and_left, and_right}
use Rattle.utf8.proofs.TextCharacters.{encode_all-append, scalars-append, before_text, encode-before, take_back}
use Rattle.turkish.specs.Calls.{chars, bytes}
use Rattle.theorems.specs.Fronts.{end_length, long, front, end}

-- the bytes of two parts of a word told nearest first: the farther part comes first
pub bytes-append : (e f : List ℕ) → bytes (e ++ f) ≡ bytes f ++ bytes e
unfolding bytes
bytes-append e f = rw (reverse-append, encode_all-append)

-- so of characters told nearest first, the first one's bytes come last
pub bytes-cons : (c : ℕ) (cs : List ℕ) → bytes (c ∷ cs) ≡ bytes cs ++ encode c
unfolding bytes encode_all
bytes-cons c cs = rw append-nil at (bytes-append (c ∷ []) cs)

-- and take its bytes more
pub length-bytes-cons : (c : ℕ) (cs : List ℕ) → length (bytes (c ∷ cs)) ≡ length (bytes cs) + length (encode c)
length-bytes-cons c cs = rw (bytes-cons, length-append)

-- scalar values encoded have themselves for characters
pub chars-bytes : (cs : List ℕ) → scalars (reverse cs) ≡ true → chars (bytes cs) ≡ cs
unfolding chars bytes
chars-bytes cs h = rw (append-nil, reverse-reverse) at (before_text (reverse cs) [] h)

-- a text's characters are scalar values
pub scalars-chars : (w : List ℕ) → TextOf w → scalars (reverse (chars w)) ≡ true
unfolding chars
scalars-chars w t = rw (← t.encoded, rw append-nil at (before_text t.chars [] t.valid), reverse-reverse) t.valid

-- and their bytes are its own
pub bytes-chars-text : (w : List ℕ) → TextOf w → bytes (chars w) ≡ w
unfolding bytes chars
bytes-chars-text w t = encode-before w t

-- those of two parts are scalar values too
scalars-parts : (e f : List ℕ) → scalars (reverse (e ++ f)) ≡ true → (scalars (reverse e) ≡ true) × (scalars (reverse f) ≡ true)
scalars-parts e f h =
    let p : scalars (reverse f) && scalars (reverse e) ≡ true = rw (reverse-append, scalars-append) at h in
    (and_right (scalars (reverse f)) (scalars (reverse e)) p, and_left (scalars (reverse f)) (scalars (reverse e)) p)

module _ (w : List ℕ) (t : TextOf w) where
  -- the front is the encoding of all but the last 16 characters
  front-encoded : front w ≡ bytes (drop end_length (chars w))
  unfolding front chars bytes
  front-encoded = take_back w t end_length

  -- and the end the encoding of those
  end-encoded : end w ≡ bytes (take end_length (chars w))
  unfolding front end bytes chars
  end-encoded =
      let s : front w ++ bytes (take end_length (chars w)) ≡ w = rw (front-encoded, ← bytes-append, take-append-drop) (encode-before w t) in
      append_cancel_left (front w) (end w) (bytes (take end_length (chars w))) (take-append-drop (back w (length w) end_length) w ∙ sym s)

  -- all these characters are scalar values
  parts-scalars : (scalars (reverse (take end_length (chars w))) ≡ true) × (scalars (reverse (drop end_length (chars w))) ≡ true)
  parts-scalars = scalars-parts (take end_length (chars w)) (drop end_length (chars w)) (rw take-append-drop (scalars-chars w t))

  -- the front's characters
  chars-front : chars (front w) ≡ drop end_length (chars w)
  chars-front = rw front-encoded (chars-bytes (drop end_length (chars w)) parts-scalars.1)

  -- the end's
  chars-end : chars (end w) ≡ take end_length (chars w)
  chars-end = rw end-encoded (chars-bytes (take end_length (chars w)) parts-scalars.0)

  -- a text's characters, the nearest first, are its end's and then its front's
  pub chars-parts : chars w ≡ chars (end w) ++ chars (front w)
  chars-parts = rw (chars-end, chars-front, take-append-drop)

  -- the front is a text
  pub front_bytes : front w ≡ bytes (chars (front w))
  front_bytes = rw chars-front front-encoded

  -- a long word's end has 16 characters
  pub end-long : long w ≡ true → end_length ≤ length (chars (end w))
  unfolding long
  end-long h = rw (chars-end, length-take) (omega (arith, leb-true))

-- what stands before the place n characters back in a text is a text
pub text-back : (w : List ℕ) → TextOf w → (n : ℕ) → TextOf (take (back w (length w) n) w)
unfolding chars
text-back w t n =
    let parts : scalars (reverse (take n (chars w) ++ drop n (chars w))) ≡ true = rw take-append-drop (scalars-chars w t) in
    record { chars = reverse (drop n (chars w)); valid = (scalars-parts (take n (chars w)) (drop n (chars w)) parts).1; encoded = sym (take_back w t n) }
