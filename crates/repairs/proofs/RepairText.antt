-- The repair that the code gives is the postlude of the definition: its text, its answer and its size.
-- Assumes nothing.
use Prim.Native.Nat.{ℕ, zero, suc, ◌+◌, ◌-◌, ◌≤◌, ◌<◌}
use mathlib.Core.Path.{◌≡◌, refl, sym, ap, ◌∙◌}
use mathlib.Core.Bool.{Bool, true, false, cond, not, ◌&&◌}
use mathlib.Core.List.{List, [], ◌∷◌, ◌++◌, append-nil}
use native.Mathlib.Omega.{arith}
use lib.ListN.{length, take, drop, take-append-drop, length-append, length-drop, get_or-append}
use lib.Seq.{take-append-le, drop-append-le, take-take, length-take-le}
use lib.Dec.{ltb, eqb}
use borrow.Author.Tests.{ltb-true, ltb-false, eqb-true, eqb-false}
use Rattle.encoding.proofs.Laws.Booleans.{cond_both}
use Rattle.encoding.specs.Encoding.{encode}
use Rattle.encoding.specs.Text.{TextOf}
use Rattle.utf8.specs.Characters.{goes_on_of, last_width_of, char_at, last_char, before_within, before, back}
use Rattle.utf8.proofs.Laws.Characters.{last_width_of-le, before-zero, before-step}
use Rattle.utf8.proofs.TextCharacters.{encode-before, take_back}
use Rattle.turkish.specs.Letters.{text, has}
use Rattle.turkish.specs.Vowels.{last_vowel_of}
use Rattle.theorems.specs.Simple.Postlude.{reserved, gained, appends, append_U, hard, harden, postlude, postlude_yes}
use Rattle.turkish.specs.Calls.{bytes}
use Rattle.theorems.proofs.Laws.Words.{bytes-cons}
use Rattle.theorems.proofs.PostludeRules.{postlude-one}
use Rattle.repairs.specs.declared.postlude.Repair.{Repair}
use Rattle.std.specs.Prelude.{Option, Some, None}
use Rattle.writing.specs.declared.letter.Letter.{Letter}
use Rattle.writing.proofs.Laws.Letter.{letter_of-encode, bytes_of-two}
use Rattle.repairs.specs.Repairs.{letter_bytes, repair_text, unchanged, followed, appended, hardened, repair_of}
use Rattle.repairs.proofs.Laws.Repairs.{hard-short, appended-short}

-- ---- the bytes before a place ----

-- going back from a place, whether a byte goes on depends only on the bytes before it
goes_on_of-append : (p q : List ℕ) (c k : ℕ) → 0 < c → 0 < k → c ≤ length p → goes_on_of (p ++ q) c k ≡ goes_on_of p c k
unfolding goes_on_of
goes_on_of-append p q c k h j l = rw (get_or-append p q 0 (c - k) (omega arith))

-- and so does the width of the character that ends there
last_width_of-append : (p q : List ℕ) (c : ℕ) → 0 < c → c ≤ length p → last_width_of (p ++ q) c ≡ last_width_of p c
unfolding last_width_of
last_width_of-append p q c h l =
    rw (goes_on_of-append p q c 1 h (omega arith) l, goes_on_of-append p q c 2 h (omega arith) l, goes_on_of-append p q c 3 h (omega arith) l)

-- and the character at bytes before it
char_at-append : (p q : List ℕ) (i n : ℕ) → i + n ≤ length p → char_at (p ++ q) i n ≡ char_at p i n
unfolding char_at
char_at-append p q i n h =
    let l : n ≤ length (drop i p) = omega (arith, length-drop i p) in
    rw (drop-append-le i p q (omega arith), take-append-le n (drop i p) q l)

-- and that character itself
last_char-append : (p q : List ℕ) (c : ℕ) → 0 < c → c ≤ length p → last_char (p ++ q) c ≡ last_char p c
unfolding last_char
last_char-append p q c h l =
    rw (last_width_of-append p q c h l, char_at-append p q (c - last_width_of p c) (last_width_of p c) (omega (arith, last_width_of-le p c h)))

-- and all the characters before it, as far as fuel goes
before_within-append : (f : ℕ) (p q : List ℕ) (c : ℕ) → c ≤ length p → before_within f (p ++ q) c ≡ before_within f p c
unfolding before_within
before_within-append zero p q c l = refl
before_within-append (suc f) p q zero l = refl
before_within-append (suc f) p q (suc c) l =
    rw (last_char-append p q (suc c) (omega arith) l, last_width_of-append p q (suc c) (omega arith) l)
    (ap (λ (cs : List ℕ). last_char p (suc c) ∷ cs) (before_within-append f p q (suc c - last_width_of p (suc c)) (omega arith)))

module _ (w : List ℕ) (c n : ℕ) (h : c ≤ n) (l : n ≤ length w) where
  -- the width of the character that ends at a place depends only on the bytes before it
  pub last_width_of-take : 0 < c → last_width_of (take n w) c ≡ last_width_of w c
  last_width_of-take p = sym (rw (take-append-drop n w) at (last_width_of-append (take n w) (drop n w) c p (omega (arith, length-take-le n w l))))

  -- and so do the characters before it
  pub before-take : before (take n w) c ≡ before w c
  unfolding before
  before-take = sym (rw (take-append-drop n w) at (before_within-append c (take n w) (drop n w) c (omega (arith, length-take-le n w l))))

-- ---- the text of a repair ----

-- where nothing follows, it is the bytes kept
unchanged-text : (w : List ℕ) (n : ℕ) (answer : Bool) → repair_text w (unchanged n answer) ≡ take n w
unfolding repair_text unchanged
unchanged-text w n answer = append-nil (take n w)

-- where a character follows, its bytes stand after those
followed-text : (w : List ℕ) (keep v : ℕ) → v < 0x800 → repair_text w (followed keep v) ≡ take keep w ++ encode v
unfolding repair_text followed
followed-text w keep v h = ap (λ (s : List ℕ). take keep w ++ s) (letter_of-encode v h)

-- ---- the postlude of characters ----

-- characters gain their vowel where it is not 0
append_U-appended : (cs : List ℕ) → cond (appends cs) (append_U cs) (harden cs) ≡ cond (eqb (appended cs) 0) (harden cs) (appended cs ∷ cs)
unfolding appended appends append_U
append_U-appended [] = refl
append_U-appended (c ∷ cs) = go (has (text "dg") c)
  where
    g : ℕ
    g = gained (last_vowel_of cs)

    gains : (u : Bool) (x y z : List ℕ) → cond (not u) (cond (not u) x y) z ≡ cond u z x
    gains true x y z = refl
    gains false x y z = refl

    go : (t : Bool) → cond (t && not (eqb g 0)) (cond (t && not (eqb g 0)) (g ∷ c ∷ cs) (c ∷ cs)) (harden (c ∷ cs))
        ≡ cond (eqb (cond t g 0) 0) (harden (c ∷ cs)) (cond t g 0 ∷ c ∷ cs)
    go true = gains (eqb g 0) (g ∷ c ∷ cs) (c ∷ cs) (harden (c ∷ cs))
    go false = refl

-- so the postlude leaves a reserved word, and of any other hardens or appends
postlude-appended : (cs : List ℕ) → postlude cs ≡ cond (reserved cs) cs (cond (eqb (appended cs) 0) (harden cs) (appended cs ∷ cs))
postlude-appended cs = postlude-one cs ∙ ap (cond (reserved cs) cs) (append_U-appended cs)

-- ---- the repair is the postlude ----

module _ (w : List ℕ) (n : ℕ) (t : TextOf (take n w)) (l : n ≤ length w) where
  -- the bytes kept are those of the characters before their end
  bytes-before : take n w ≡ bytes (before w n)
  unfolding bytes
  bytes-before = sym (rw (length-take-le n w l, before-take w n n (omega arith) l) at (encode-before (take n w) t))

  -- and so are those before the last character
  bytes-before-last : 0 < n → take (n - last_width_of w n) w ≡ bytes (before w (n - last_width_of w n))
  unfolding bytes back
  bytes-before-last h =
      rw (
        length-take-le n w l,
        last_width_of-take w n n (omega arith) l h,
        take-take (n - last_width_of w n) n w (omega arith),
        before-take w n n (omega arith) l,
        before-step w n h,
      ) at (take_back (take n w) t 1)

  -- a vowel gained follows them
  gained-text : repair_text w (followed n (appended (before w n))) ≡ bytes (appended (before w n) ∷ before w n)
  gained-text = followed-text w n (appended (before w n)) (appended-short (before w n)) ∙ rw (bytes-cons, bytes-before)

  -- a consonant hardened takes the last one's place
  hardened-last : 0 < n → repair_text w (hardened w n (before w n)) ≡ bytes (harden (before w n))
  unfolding hardened harden
  hardened-last h = rw (before-step w n h) (go (eqb (hard c) c) refl)
    where
      c : ℕ
      c = last_char w n

      k : ℕ
      k = n - last_width_of w n

      go : (u : Bool) → eqb (hard c) c ≡ u → repair_text w (cond u (unchanged n true) (followed k (hard c))) ≡ bytes (hard c ∷ before w k)
      go true e = unchanged-text w n true ∙ bytes-before ∙ rw (before-step w n h, eqb-true (hard c) c e)
      go false e = followed-text w k (hard c) (hard-short c (eqb-false (hard c) c e)) ∙ rw (bytes-cons, bytes-before-last h)

  -- and where there is none, nothing changes
  hardened-text : repair_text w (hardened w n (before w n)) ≡ bytes (harden (before w n))
  unfolding hardened harden
  hardened-text = go (ltb 0 n) refl
    where
      go : (u : Bool) → ltb 0 n ≡ u → repair_text w (hardened w n (before w n)) ≡ bytes (harden (before w n))
      go true e = hardened-last (ltb-true 0 n e)
      go false e =
          let k : n ≡ 0 = omega (arith, ltb-false 0 n e) in
          let z : before w n ≡ [] = ap (before w) k ∙ before-zero w in
          rw z (unchanged-text w n true ∙ bytes-before ∙ ap bytes z)

  -- the repair's text is the postlude's
  pub repair-text : repair_text w (repair_of w n) ≡ bytes (postlude (before w n))
  unfolding repair_of
  repair-text = go (reserved cs) ∙ ap bytes (sym (postlude-appended cs))
    where
      cs : List ℕ
      cs = before w n

      a : ℕ
      a = appended cs

      rest : (u : Bool) → repair_text w (cond u (hardened w n cs) (followed n a)) ≡ bytes (cond u (harden cs) (a ∷ cs))
      rest true = hardened-text
      rest false = gained-text

      go : (u : Bool) → repair_text w (cond u (unchanged n false) (cond (eqb a 0) (hardened w n cs) (followed n a)))
          ≡ bytes (cond u cs (cond (eqb a 0) (harden cs) (a ∷ cs)))
      go true = unchanged-text w n false ∙ bytes-before
      go false = rest (eqb a 0)

-- ---- its answer and its size ----

-- what holds where nothing follows the bytes, and where a character follows no more than them, holds of the change made
change-elim : (w : List ℕ) (n : ℕ) (P : Repair → Type 0) → P (unchanged n true) → ((k v : ℕ) → k ≤ n → P (followed k v))
    → P (cond (eqb (appended (before w n)) 0) (hardened w n (before w n)) (followed n (appended (before w n))))
unfolding hardened
change-elim w n P p q =
    cond_both P (eqb (appended (before w n)) 0) (hardened w n (before w n)) _ (last (before w n)) (q n (appended (before w n)) (omega arith))
  where
    last : (cs : List ℕ) → P (hardened w n cs)
    last [] = p
    last (c ∷ cs) = cond_both P (eqb (hard c) c) _ _ p (q (n - last_width_of w n) (hard c) (omega arith))

-- the repair's answer is the postlude's
pub repair-answer : (w : List ℕ) (n : ℕ) → (repair_of w n).yes ≡ postlude_yes (before w n)
unfolding repair_of postlude_yes unchanged followed
repair-answer w n = go (reserved (before w n))
  where
    r : Repair
    r = cond (eqb (appended (before w n)) 0) (hardened w n (before w n)) (followed n (appended (before w n)))

    go : (u : Bool) → (cond u (unchanged n false) r).yes ≡ not u
    go true = refl
    go false = change-elim w n (λ x. x.yes ≡ true) refl (λ k v h. refl)

-- a letter that follows has at most two bytes
letter_bytes-two : (l : Option Letter) → length (letter_bytes l) ≤ 2
letter_bytes-two None = omega arith
letter_bytes-two (Some l) = bytes_of-two l

-- a repair's text has the bytes kept, at most n, and at most two more
pub record Sized (w : List ℕ) (n : ℕ) (r : Repair) : Type 0 where
  pub keeps : r.keep ≤ n
  pub adds : length (letter_bytes r.letter) ≤ 2
  pub sum : length (repair_text w r) ≡ r.keep + length (letter_bytes r.letter)
  pub fits : length (repair_text w r) ≤ n + 2

-- where at most n bytes are kept, it is so
sized-kept : (w : List ℕ) (n : ℕ) (r : Repair) → n ≤ length w → r.keep ≤ n → Sized w n r
unfolding repair_text
sized-kept w n r l h =
    let two = letter_bytes-two r.letter in
    let e : length (repair_text w r) ≡ r.keep + length (letter_bytes r.letter) = rw (length-append, length-take-le r.keep w (omega arith)) in
    record { keeps = h; adds = two; sum = e; fits = omega arith }

-- it is so of the repair
pub repair-size : (w : List ℕ) (n : ℕ) → n ≤ length w → Sized w n (repair_of w n)
unfolding repair_of unchanged followed
repair-size w n l =
    let P : Repair → Type 0 = λ r. r.keep ≤ n in
    sized-kept w n (repair_of w n) l
    (cond_both P (reserved (before w n)) (unchanged n false) _ (omega arith) (change-elim w n P (omega arith) (λ k v h. h)))
