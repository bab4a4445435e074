-- The stand-in for a front: it is a text, it fits its room, and its characters are alike those of the front whose summary it is made of; and
-- its vowels, written one after the other. Assumes nothing.
use Prim.Native.Nat.{ℕ, zero, suc, ◌+◌, ◌-◌, ◌*◌, ◌≤◌, ◌<◌}
use mathlib.Core.Path.{◌≡◌, refl, sym, ap, ◌∙◌}
use mathlib.Core.Bool.{Bool, true, false, cond, not, ◌&&◌, ◌||◌}
use mathlib.Core.Logic.{⊎_elim}
use mathlib.Core.List.{List, [], ◌∷◌, ◌++◌, map, reverse, append-nil, reverse-append}
use native.Mathlib.Omega.{arith}
use native.Mathlib.Numerals.{add-one}
use lib.ListN.{length, take, drop, get_or, length-append}
use lib.Seq.{take-nil, drop-nil}
use lib.Dec.{leb, eqb}
use borrow.Author.Tests.{leb-true, eqb-true, eq-eqb, ne_eqb}
use Rattle.encoding.specs.Scalar.{surrogate, scalar, scalars}
use Rattle.encoding.specs.Encoding.{encode, encode_all}
use Rattle.encoding.specs.Validity.{is_text}
use Rattle.encoding.proofs.CheckExact.{encodes-is_text}
use Rattle.encoding.proofs.Laws.Booleans.{and_left, and_right, and-false, cond_both}
use Rattle.utf8.specs.Steps.{same}
use Rattle.utf8.proofs.TextCharacters.{encode_all-append, before_text}
use Rattle.utf8.proofs.WholeLiterals.{same-equal}
use Rattle.turkish.specs.declared.summary.Summary.{Summary}
use Rattle.turkish.specs.Letters.{text, any, has}
use Rattle.turkish.specs.Vowels.{vowels, vowel, last_vowel_of, before_last_vowel}
use Rattle.theorems.specs.Simple.Harmony.{to_first}
use Rattle.turkish.specs.Calls.{chars}
use Rattle.theorems.specs.Fronts.{Alike}
use Rattle.batches.specs.Summary.{vowel_number, times, summary_from}
use Rattle.theorems.proofs.Laws.Members.{every_append}
use Rattle.theorems.proofs.Laws.Tests.{every, every-at, any-reverse}
use Rattle.theorems.proofs.Laws.Vowels.{has-member}
use Rattle.batches.proofs.Laws.Summary.{times_none, last-or-none}
use Rattle.writing.specs.Put.{put}
use Rattle.writing.proofs.Laws.Put.{put-nothing, Wrote, wrote-text, wrote-all}
use Rattle.writing.specs.declared.letter.Letter.{Letter}
use Rattle.writing.specs.Letter.{letter_of, bytes_of}
use Rattle.writing.proofs.Laws.Letter.{letter_of-encode}
use Rattle.std.specs.Prelude.{Some, None}
use Rattle.vowels.specs.declared.vowel.Vowel.{Vowel}
use Rattle.vowels.specs.Vowel.{vowel_numbered, numbered_vowel_of, most_vowel_bytes}
use Rattle.vowels.proofs.Laws.Vowel.{vowel_numbered-every, vowel_numbered-length, numbered_vowel_of-none, numbered_vowel_of-some, numbered_vowel_of-vowel, vowel-short}
use Rattle.fronts.specs.StandIn.{counted, stand_in_of, stand_in_room}

-- ---- the characters of a stand-in are vowels ----

-- what every vowel passes, those that are counted pass
counted-every : (f : ℕ → Bool) (vs ns : List ℕ) → every f vs ≡ true → every f (counted vs ns) ≡ true
unfolding every counted
counted-every f [] ns h = refl
counted-every f (v ∷ vs) [] h = refl
counted-every f (v ∷ vs) (n ∷ ns) h =
    let r : every f (counted vs ns) ≡ true = counted-every f vs ns (and_right (f v) (every f vs) h) in
    cond_both (λ (xs : List ℕ). every f xs ≡ true) (eqb n 0) (counted vs ns) (v ∷ counted vs ns) r (rw (and_left (f v) (every f vs) h) r)

-- and each character of a stand-in
letters-every : (f : ℕ → Bool) (ns : List ℕ) (n : ℕ) → every f vowels ≡ true → every f (counted vowels ns ++ vowel_numbered n) ≡ true
letters-every f ns n h = rw (every_append, counted-every f vowels ns h) (vowel_numbered-every f n h)

-- ---- it is a text ----

-- characters that are each a scalar value are scalar values
every-scalars : (cs : List ℕ) → every scalar cs ≡ true → scalars cs ≡ true
unfolding every scalars
every-scalars [] h = refl
every-scalars (c ∷ cs) h = rw (and_left (scalar c) (every scalar cs) h) (every-scalars cs (and_right (scalar c) (every scalar cs) h))

-- so the characters of a stand-in are
letters-scalars : (s : Summary) → scalars (counted vowels s.counts ++ vowel_numbered s.last) ≡ true
letters-scalars s =
    every-scalars (counted vowels s.counts ++ vowel_numbered s.last)
    (letters-every scalar s.counts s.last (unfold every vowels text scalar surrogate in refl))

-- a stand-in is a text
pub stand_in_of-text : (s : Summary) → is_text (stand_in_of s) ≡ true
unfolding stand_in_of
stand_in_of-text s = encodes-is_text (counted vowels s.counts ++ vowel_numbered s.last) (letters-scalars s)

-- ---- it fits ----

-- a character of no more bytes than a vowel has at most
small : ℕ → Bool
small c = leb (length (encode c)) most_vowel_bytes

-- such characters take no more than that for each
small-length : (cs : List ℕ) → every small cs ≡ true → length (encode_all cs) ≤ most_vowel_bytes * length cs
unfolding every encode_all most_vowel_bytes small
small-length [] h = omega arith
small-length (c ∷ cs) h =
    let p : length (encode c) ≤ 2 = leb-true (length (encode c)) 2 (and_left (small c) (every small cs) h) in
    let r = small-length cs (and_right (small c) (every small cs) h) in
    omega (arith, length-append (encode c) (encode_all cs))

-- the vowels are such
vowels-small : every small vowels ≡ true
unfolding every vowels text encode most_vowel_bytes small
vowels-small = refl

-- no more vowels are counted than there are
counted-length : (vs ns : List ℕ) → length (counted vs ns) ≤ length vs
unfolding counted
counted-length [] ns = omega arith
counted-length (v ∷ vs) [] = omega arith
counted-length (v ∷ vs) (n ∷ ns) =
    let r = counted-length vs ns in
    cond_both (λ (xs : List ℕ). length xs ≤ length (v ∷ vs)) (eqb n 0) (counted vs ns) (v ∷ counted vs ns) (omega arith) (omega arith)

-- a number's vowel has the bytes of one at most
vowel_numbered-bytes : (n : ℕ) → length (encode_all (vowel_numbered n)) ≤ most_vowel_bytes
unfolding most_vowel_bytes
vowel_numbered-bytes n = omega (arith, vowel_numbered-length n, small-length (vowel_numbered n) (vowel_numbered-every small n vowels-small))

-- the room of a stand-in, as a number
pub stand_in_room-is : stand_in_room ≡ 18
unfolding stand_in_room most_vowel_bytes
stand_in_room-is = refl

-- a stand-in fits its room
pub stand_in_of-length : (s : Summary) → length (stand_in_of s) ≤ stand_in_room
unfolding stand_in_of stand_in_room most_vowel_bytes vowels text
stand_in_of-length s =
    let l : List ℕ = counted vowels s.counts in
    let n : List ℕ = vowel_numbered s.last in
    omega (
      arith,
      small-length (l ++ n) (letters-every small s.counts s.last vowels-small),
      length-append l n,
      counted-length vowels s.counts,
      vowel_numbered-length s.last,
    )

-- ---- it is alike ----

-- the characters of a stand-in, nearest first
stand_in_of-chars : (s : Summary) → chars (stand_in_of s) ≡ reverse (counted vowels s.counts ++ vowel_numbered s.last)
unfolding chars stand_in_of
stand_in_of-chars s = rw append-nil at (before_text (counted vowels s.counts ++ vowel_numbered s.last) [] (letters-scalars s))

-- the vowel of a vowel's number is that vowel
vowel_numbered-vowel : (v : ℕ) → vowel v ≡ true → vowel_numbered (vowel_number v) ≡ v ∷ []
unfolding vowel
vowel_numbered-vowel v h =
    let f : ℕ → Bool = λ w. same (vowel_numbered (vowel_number w)) (w ∷ []) in
    let e : every f vowels ≡ true = unfold every vowels vowel text vowel_numbered vowel_number to_first has any same in refl in
    same-equal (vowel_numbered (vowel_number v)) (v ∷ []) (every-at f e (has-member vowels v h))

-- one vowel more, which is counted where it stands among the characters
has-one-more : (w v : ℕ) (r cs : List ℕ) (q : Bool) → has r w ≡ (q && has cs w)
    → has (cond (not (has cs v)) r (v ∷ r)) w ≡ ((eqb w v || q) && has cs w)
unfolding has any
has-one-more w v r cs q h = go (eqb w v) refl
  where
    itself : (b : Bool) → has r w ≡ (q && b) → has (cond (not b) r (w ∷ r)) w ≡ b
    itself true e = rw (eq-eqb w w refl)
    itself false e = e ∙ and-false q

    go : (t : Bool) → eqb w v ≡ t → has (cond (not (has cs v)) r (v ∷ r)) w ≡ ((t || q) && has cs w)
    go true e = rw (← eqb-true w v e) (itself (has cs w) h)
    go false e = cond_both (λ (xs : List ℕ). has xs w ≡ (q && has cs w)) (not (has cs v)) r (v ∷ r) h (rw e h)

-- so of some vowels those are counted that stand among the characters
has-counted : (vs cs : List ℕ) (w : ℕ) → has (counted vs (map (λ (v : ℕ). times v cs) vs)) w ≡ (has vs w && has cs w)
unfolding counted has any
has-counted [] cs w = refl
has-counted (v ∷ vs) cs w =
    rw times_none (has-one-more w v (counted vs (map (λ (v : ℕ). times v cs) vs)) cs (has vs w) (has-counted vs cs w))

module _ (cs : List ℕ) where
  -- the vowels counted before the last one
  earlier : List ℕ
  earlier = counted vowels (map (λ (v : ℕ). times v (before_last_vowel cs)) vowels)

  -- where they have a last vowel, the stand-in ends with it
  chars-last : vowel (last_vowel_of cs) ≡ true → chars (stand_in_of (summary_from cs)) ≡ last_vowel_of cs ∷ reverse earlier
  unfolding summary_from earlier
  chars-last h = stand_in_of-chars (summary_from cs) ∙ rw (vowel_numbered-vowel (last_vowel_of cs) h, reverse-append)

  -- and before it stand those that stand before it there
  alike-last : vowel (last_vowel_of cs) ≡ true → Alike (chars (stand_in_of (summary_from cs))) cs
  unfolding has vowel earlier
  alike-last h =
      rw (chars-last h)
      (record {
        last = unfold last_vowel_of in rw h;
        others = λ v p. unfold before_last_vowel in rw (h, any-reverse) (has-counted vowels (before_last_vowel cs) v ∙ rw p);
      })

  -- where they have no vowel, it is empty
  chars-none : (last_vowel_of cs ≡ 0) × (before_last_vowel cs ≡ []) → chars (stand_in_of (summary_from cs)) ≡ []
  unfolding summary_from vowel_number times vowels vowel text has any counted vowel_numbered
  chars-none h = stand_in_of-chars (summary_from cs) ∙ rw (h.0, h.1)

  -- and so alike
  alike-none : (last_vowel_of cs ≡ 0) × (before_last_vowel cs ≡ []) → Alike (chars (stand_in_of (summary_from cs))) cs
  unfolding last_vowel_of before_last_vowel
  alike-none h = rw (chars-none h) (record { last = sym h.0; others = λ v p. ap (λ (l : List ℕ). has l v) (sym h.1) })

-- the stand-in made of the summary of some characters is alike to them
pub stand_in_of-alike : (cs : List ℕ) → Alike (chars (stand_in_of (summary_from cs))) cs
stand_in_of-alike cs = ⊎_elim (alike-last cs) (alike-none cs) (last-or-none cs)

-- ---- it is written vowel by vowel ----

module _ (n : ℕ) where
  -- a number without a vowel writes nothing
  pub numbered-none : (at : ℕ) (out : List ℕ) → numbered_vowel_of n ≡ None
      → (at ≡ at + length (encode_all (vowel_numbered n))) × (out ≡ put at (encode_all (vowel_numbered n)) out)
  unfolding encode_all
  numbered-none at out e = rw (numbered_vowel_of-none n e) (omega arith, put-nothing at out)

  module _ (v : Vowel) (e : numbered_vowel_of n ≡ Some v) where
    -- any other has a vowel that is a letter
    pub numbered-short : v.ch < 0x800
    numbered-short = vowel-short v.ch (numbered_vowel_of-vowel n v e)

    -- and writes its bytes
    pub numbered-written : {l : Letter} → l ≡ letter_of v.ch → bytes_of l ≡ encode_all (vowel_numbered n)
    unfolding encode_all
    numbered-written q = rw (q, numbered_vowel_of-some n v e, append-nil) (letter_of-encode v.ch numbered-short)

-- the bytes of the counted among the first k vowels
unfoldable pub so_far : List ℕ → ℕ → List ℕ
so_far ns k = encode_all (counted (take k vowels) ns)

-- what follows either side of a choice follows the choice
cond-append : (b : Bool) (xs ys zs : List ℕ) → cond b (xs ++ zs) (ys ++ zs) ≡ cond b xs ys ++ zs
cond-append true xs ys zs = refl
cond-append false xs ys zs = refl

-- with one vowel more, that one follows where it is counted
counted_next : (k : ℕ) (vs ns : List ℕ)
    → counted (take (suc k) vs) ns ≡ counted (take k vs) ns ++ cond (eqb (get_or ns k 0) 0) [] (take 1 (drop k vs))
unfolding counted
counted_next k [] ns =
    rw (take-nil, drop-nil) (cond_both (λ (xs : List ℕ). [] ≡ xs) (eqb (get_or ns k 0) 0) [] [] refl refl)
counted_next zero (v ∷ vs) [] = refl
counted_next zero (v ∷ vs) (n ∷ ns) = refl
counted_next (suc k) (v ∷ vs) [] = refl
counted_next (suc k) (v ∷ vs) (n ∷ ns) =
    rw (counted_next k vs ns)
    (cond-append (eqb n 0) (counted (take k vs) ns) (v ∷ counted (take k vs) ns) (cond (eqb (get_or ns k 0) 0) [] (take 1 (drop k vs))))

-- room for the vowels from the k-th on and for the last one
unfoldable pub room_from : ℕ → ℕ
room_from k = most_vowel_bytes * (9 - k)

-- where there is room there is less room
less-room : {at a : ℕ} {s out o : List ℕ} (j : ℕ) {k : ℕ} → j ≤ k → Wrote at a s out o k → Wrote at a s out o j
less-room j h w = record { place = w.place; output = w.output; room = omega (arith, w.room) }

module _ (ns : List ℕ) (k : ℕ) where
  -- a vowel that is counted is written behind those before it
  so_far-counted : (get_or ns k 0 ≡ 0 → ⊥) → so_far ns k ++ encode_all (vowel_numbered (k + 1)) ≡ so_far ns (k + 1)
  unfolding so_far vowel_numbered
  so_far-counted h = rw (add-one, counted_next k vowels ns, ne_eqb (get_or ns k 0) 0 h, encode_all-append)

  -- one that is not leaves them
  so_far-skipped : get_or ns k 0 ≡ 0 → so_far ns k ≡ so_far ns (k + 1)
  unfolding so_far
  so_far-skipped h = rw (add-one, counted_next k vowels ns, eq-eqb (get_or ns k 0) 0 h, append-nil)

  module _ {a : ℕ} {out o : List ℕ} (w : Wrote 0 a (so_far ns k) out o (room_from k)) (l : k < 8) where
    -- a turn that writes
    pub turn-counted : {b : ℕ} {p : List ℕ} → (get_or ns k 0 ≡ 0 → ⊥)
        → (b ≡ a + length (encode_all (vowel_numbered (k + 1)))) × (p ≡ put a (encode_all (vowel_numbered (k + 1))) o)
        → Wrote 0 b (so_far ns (k + 1)) out p (room_from (k + 1))
    unfolding room_from most_vowel_bytes
    turn-counted h e =
        let n : ℕ = length (encode_all (vowel_numbered (k + 1))) in
        let r = less-room (n + room_from (k + 1)) (omega (arith, vowel_numbered-bytes (k + 1))) w in
        rw (← so_far-counted h) (wrote-text (encode_all (vowel_numbered (k + 1))) n refl r e)

    -- a turn that does not
    pub turn-skipped : get_or ns k 0 ≡ 0 → Wrote 0 a (so_far ns (k + 1)) out o (room_from (k + 1))
    unfolding room_from most_vowel_bytes
    turn-skipped h = rw (← so_far-skipped h) (less-room (room_from (k + 1)) (omega arith) w)

-- and behind all that are counted the last one
pub written_last : (s : Summary) {a b : ℕ} {out o p : List ℕ} → Wrote 0 a (so_far s.counts 8) out o (room_from 8)
    → (b ≡ a + length (encode_all (vowel_numbered s.last))) × (p ≡ put a (encode_all (vowel_numbered s.last)) o)
    → (b ≡ length (stand_in_of s)) × (p ≡ put 0 (stand_in_of s) out)
unfolding stand_in_of so_far room_from most_vowel_bytes vowels text
written_last s w e =
    let t : List ℕ = encode_all (vowel_numbered s.last) in
    let r = less-room (length t + 0) (omega (arith, vowel_numbered-bytes s.last)) w in
    let all = wrote-all (sym (encode_all-append (counted vowels s.counts) (vowel_numbered s.last))) (wrote-text t (length t) refl r e) in
    (omega (arith, all.0), all.1)
