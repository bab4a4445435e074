-- Texts written into an output, one after the other, are one text written at the first place: by the byte, and by a copy.
-- So are a text's front and its end, where they leave no byte between them. Assumes nothing.
use Prim.Native.Nat.{ℕ, ◌+◌, ◌-◌, ◌≤◌, ◌<◌}
use mathlib.Core.Path.{◌≡◌, refl, ap, ◌∙◌}
use mathlib.Core.List.{List, [], ◌∷◌, ◌++◌, append_assoc}
use native.Mathlib.Omega.{arith}
use native.Mathlib.Nat.{add-zero, add_assoc}
use native.Mathlib.Numerals.{add-one}
use lib.ListN.{length, take, drop, get_or, set, length-append, length-take, length-drop, take-append-drop}
use lib.Seq.{length-take-le, take_all, take-length, take_at, take-append_seam, drop-append-add, take-take, drop-drop, take-add, set_split, paste, paste-suc}
use borrow.Rule.Slice.PartMut.{put_mid}
use Rattle.writing.specs.Put.{put}

-- ---- one text ----

-- nothing written leaves the output
pub put-nothing : (at : ℕ) (out : List ℕ) → out ≡ put at [] out
unfolding put
put-nothing at out = rw (add-zero, take-append-drop)

-- a byte stored is a text of one byte written
pub set-put : (at b : ℕ) (out : List ℕ) → at < length out → set out at b ≡ put at (b ∷ []) out
unfolding put
set-put at b out h = set_split out at b h ∙ rw add-one

-- a text written is a copy
put-paste : (at n : ℕ) (s out : List ℕ) → n ≤ length s → put at (take n s) out ≡ paste out at s n
unfolding put
put-paste at n s out h = rw (length-take-le n s h, append_assoc)

-- the byte at place i of a text, stored after the bytes before it
pub set_next : (at i : ℕ) (s out o : List ℕ) → at + i < length out → i < length s → o ≡ put at (take i s) out
    → set o (at + i) (get_or s i 0) ≡ put at (take (i + 1) s) out
set_next at i s out o h l e =
    rw (e, put-paste at i s out (omega arith), paste-suc out at s i 0, put-paste at (i + 1) s out (omega arith), add-one)

-- the first n bytes of a text, copied over the n bytes from place `at` on, are written there
pub put-copied : (at n : ℕ) (s out : List ℕ) {t : List ℕ} → n ≤ length s → t ≡ take n s → put_mid at (at + n - at) out t ≡ put at (take n s) out
unfolding put
put-copied at n s out h e =
    let k : at + n - at ≡ n = omega arith in
    rw (k, e, length-take-le n s h, drop-drop)

-- a text written leaves the output's length
pub length-put : (at : ℕ) (s out : List ℕ) → at + length s ≤ length out → length (put at s out) ≡ length out
unfolding put
length-put at s out h = simp (length-append, length-take, length-drop) (omega arith)

-- what is written in an output ends within what it is then
pub put-end : (at : ℕ) (s out : List ℕ) → at ≤ length out → at + length s ≤ length (put at s out)
unfolding put
put-end at s out h = simp (length-append, length-take, length-drop) (omega arith)

-- a text written after another makes one text of the two
pub put-put : (at : ℕ) (s t out : List ℕ) → at + length s ≤ length out → put (at + length s) t (put at s out) ≡ put at (s ++ t) out
unfolding put
put-put at s t out h =
    let e : length (take at out ++ s) ≡ at + length s = simp (length-append, length-take) (omega arith) in
    rw (← append_assoc (take at out) s (drop (at + length s) out), ← e, take-append_seam, drop-append-add, drop-drop, e)
    (simp (length-append, append_assoc, add_assoc))

-- ---- a text written in two parts that may overlap ----

-- a text written over one that is not longer leaves nothing of it
put-over : (at : ℕ) (s t out : List ℕ) → length s ≤ length t → at + length s ≤ length out → put at t (put at s out) ≡ put at t out
unfolding put
put-over at s t out l h =
    let front : length (take at out) ≡ at = length-take-le at out (omega arith) in
    let e : at + length t ≡ length (take at out ++ s) + (length t - length s) = simp (length-append, front) (omega arith) in
    let f : at + length s + (length t - length s) ≡ at + length t = omega arith in
    rw (take_at (take at out) (s ++ drop (at + length s) out) at front)
    (ap (λ (o : List ℕ). take at out ++ (t ++ o))
    (rw (e, ← append_assoc (take at out) s (drop (at + length s) out), drop-append-add, drop-drop, f, ← e)))

-- k bytes from the front of a text and k from its place d, up to its end, are the text
put-from : (at d k : ℕ) (s out : List ℕ) → d ≤ k → d + k ≡ length s → at + length s ≤ length out
    → put (at + d) (take k (drop d s)) (put at (take k s) out) ≡ put at s out
put-from at d k s out l e h =
    let n : length (take d s) ≡ d = length-take-le d s (omega arith) in
    let f : d + (k - d) ≡ k = omega arith in
    let u : length (take (k - d) (drop d s)) ≡ k - d = length-take-le (k - d) (drop d s) (omega (arith, length-drop d s)) in
    let after : (t : List ℕ) → put (at + d) t (put at (take d s) out) ≡ put at (take d s ++ t) out = λ t. rw n at (put-put at (take d s) t out (omega arith)) in
    let first : take k s ≡ take d s ++ take (k - d) (drop d s) = rw f at (take-add d (k - d) s) in
    rw (take_all k (drop d s) (omega (arith, length-drop d s)), first, ← after (take (k - d) (drop d s)))
    (put-over (at + d) (take (k - d) (drop d s)) (drop d s) (put at (take d s) out) (omega (arith, length-drop d s))
    (omega (arith, length-put at (take d s) out (omega arith))) ∙ rw (after (drop d s), take-append-drop))

-- the first k bytes of a text and then its last k, which leave none between them, are the text
pub put-ends : (at k : ℕ) (s out : List ℕ) {o p : List ℕ} → k ≤ length s → length s ≤ k + k → at + length s ≤ length out → o ≡ put at (take k s) out
    → p ≡ put (at + length s - k) (take k (take (length s - (length s - k)) (drop (length s - k) s))) o → p ≡ put at s out
put-ends at k s out l m h e f =
    let d : at + length s - k ≡ at + (length s - k) = omega arith in
    f ∙ rw (d, take-take k (length s - (length s - k)) (drop (length s - k) s) (omega arith), e)
    (put-from at (length s - k) k s out (omega arith) (omega arith) h)

-- ---- texts one after the other ----

-- s was written at place `at` of `out`, which made `o` of it; `a` is the place after s, with room for k bytes more
pub record Wrote (at a : ℕ) (s out o : List ℕ) (k : ℕ) : Type 0 where
  pub place : a ≡ at + length s
  pub output : o ≡ put at s out
  pub room : a + k ≤ length out

-- at first nothing is written
pub wrote_nothing : {at : ℕ} {out : List ℕ} {k : ℕ} → at + k ≤ length out → Wrote at at [] out out k
wrote_nothing {at} {out} h = record { place = omega arith; output = put-nothing at out; room = h }

module _ {at a b : ℕ} {s out o p : List ℕ} {k : ℕ} where
  -- then a text of n bytes
  pub wrote-text : (t : List ℕ) (n : ℕ) → length t ≡ n → Wrote at a s out o (n + k) → (b ≡ a + n) × (p ≡ put a t o) → Wrote at b (s ++ t) out p k
  wrote-text t n l r e =
      record {
        place = omega (arith, r.place, e.0, length-append s t);
        output = e.1 ∙ rw (r.output, r.place) (put-put at s t out (omega (arith, r.place, r.room)));
        room = omega (arith, r.room, e.0);
      }

  -- then one byte
  pub wrote-byte : (x : ℕ) → Wrote at a s out o (1 + k) → (b ≡ a + 1) × (p ≡ put a (x ∷ []) o) → Wrote at b (s ++ (x ∷ [])) out p k
  wrote-byte x = wrote-text (x ∷ []) 1 refl

  -- then the first n bytes of a text
  pub wrote-bytes : (t : List ℕ) (n : ℕ) → n ≤ length t → Wrote at a s out o (n + k) → (b ≡ a + n) × (p ≡ put a (take n t) o)
      → Wrote at b (s ++ take n t) out p k
  wrote-bytes t n h = wrote-text (take n t) n (length-take-le n t h)

  -- then all of them
  pub wrote-whole : (t : List ℕ) → Wrote at a s out o (length t + k) → (b ≡ a + length t) × (p ≡ put a (take (length t) t) o)
      → Wrote at b (s ++ t) out p k
  wrote-whole t r e = wrote-text t (length t) refl r (rw (take-length t) at e)

-- a text written is the one that it is equal to
pub put-equal : (at : ℕ) (out : List ℕ) {a : ℕ} {s t o : List ℕ} → s ≡ t → (a ≡ at + length s) × (o ≡ put at s out)
    → (a ≡ at + length t) × (o ≡ put at t out)
put-equal at out e h = rw (← e) h

-- and so are texts, where no more room was asked for
pub wrote-all : {at a : ℕ} {s out o t : List ℕ} → s ≡ t → Wrote at a s out o 0 → (a ≡ at + length t) × (o ≡ put at t out)
wrote-all {at} {a} {s} {out} e r = put-equal at out e (r.place, r.output)
