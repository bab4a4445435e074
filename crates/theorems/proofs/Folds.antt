-- What the fold gives of a text: a text, which folded again stays, of half to twice as many bytes; where no I and no İ stands in it,
-- what document 01's fold gives, of as many bytes; and of letters I alone twice as many. Assumes nothing.
use Prim.Native.Nat.{ℕ, zero, suc, ◌+◌, ◌*◌, ◌≤◌, ◌<◌}
use Prim.Native.Char.{code}
use mathlib.Core.Path.{◌≡◌, refl, sym, ap, ◌∙◌}
use mathlib.Core.Bool.{Bool, true, false, ◌&&◌, ◌||◌}
use mathlib.Core.Logic.{⊎_elim}
use mathlib.Core.List.{List, [], ◌∷◌, map, reverse}
use native.Mathlib.Omega.{arith}
use native.Mathlib.Nat.{zero-mul, suc-mul}
use lib.ListN.{length, replicate}
use lib.Dec.{eqb, ltb, leb}
use borrow.Author.Tests.{eqb-true, ltb-true, leb-true, ne_eqb, lt-ltb, le-ltb}
use Rattle.encoding.specs.Scalar.{surrogate, scalar, scalars}
use Rattle.encoding.specs.Encoding.{encode, encode_all}
use Rattle.encoding.specs.Validity.{is_text}
use Rattle.encoding.proofs.CheckExact.{is_text-encodes, encodes-is_text}
use Rattle.encoding.proofs.Laws.Booleans.{and_left, and_right, or-either}
use Rattle.encoding.proofs.Laws.Encoding.{encode_one}
use Rattle.encoding.proofs.Laws.Scalar.{is-scalar}
use Rattle.utf8.proofs.TextCharacters.{scalars-reverse}
use Rattle.turkish.specs.Letters.{has}
use Rattle.turkish.specs.Fold.{Letter, capitals01, capitals, fold_by, fold_char, fold}
use Rattle.turkish.specs.Calls.{chars, bytes, limit, refusal_short_of, accepted, fold_text, fold_refusal, fold_call}
use Rattle.theorems.proofs.Laws.Accepted.{refusal-long}
use Rattle.theorems.proofs.Laws.Tests.{every, every-at, has-none}
use Rattle.theorems.proofs.Laws.Words.{length-bytes-cons, chars-bytes, scalars-chars, bytes-chars-text}
use Rattle.theorems.proofs.Laws.Folding.{fold_by-elim, reverse-fold}

-- ---- how many bytes ----

-- of m and n neither is more than twice the other
abbrev Doubled : ℕ → ℕ → Type 0
Doubled m n = (m ≤ 2 * n) × (n ≤ 2 * m)

-- the test that it is so of the bytes of a row's two letters
doubled : Letter → Bool
doubled l =
    leb (length (encode l.small)) (2 * length (encode l.capital)) && leb (length (encode l.capital)) (2 * length (encode l.small))

-- what the test says
row-doubled : (l : Letter) → doubled l ≡ true → Doubled (length (encode l.small)) (length (encode l.capital))
unfolding doubled
row-doubled l t =
    let s = length (encode l.small) in
    let c = length (encode l.capital) in
    (leb-true s (2 * c) (and_left (leb s (2 * c)) (leb c (2 * s)) t), leb-true c (2 * s) (and_right (leb s (2 * c)) (leb c (2 * s)) t))

-- every row passes it
rows-doubled : every doubled capitals ≡ true
unfolding capitals capitals01 every doubled encode
rows-doubled = refl

-- so it is so of a folded character
fold_char-doubled : (c : ℕ) → Doubled (length (encode (fold_char c))) (length (encode c))
unfolding fold_char
fold_char-doubled c =
    fold_by-elim (λ d. Doubled (length (encode d)) (length (encode c))) capitals c
    (λ l m e. rw e (row-doubled l (every-at doubled rows-doubled m)))
    (λ o h k. rw (encode_one (c + 0x20) (omega arith), encode_one c (omega arith)) (omega arith, omega arith))
    (λ o n. (omega arith, omega arith))

-- and so of a text
fold-doubled : (cs : List ℕ) → Doubled (length (bytes (fold cs))) (length (bytes cs))
unfolding fold
fold-doubled [] = (omega arith, omega arith)
fold-doubled (c ∷ cs) =
    let r = fold-doubled cs in
    let e = fold_char-doubled c in
    rw (length-bytes-cons c cs, length-bytes-cons (fold_char c) (fold cs)) (omega arith, omega arith)

-- so the folded text of a text has at most twice its bytes and at least half of them
pub fold_text-doubled : (w : List ℕ) → is_text w ≡ true → Doubled (length (fold_text w)) (length w)
unfolding fold_text
fold_text-doubled w e = rw (bytes-chars-text w (is_text-encodes w e)) at (fold-doubled (chars w))

-- ---- without I and İ ----

-- the test that a row's small letter takes as many bytes as its capital
same_size : Letter → Bool
same_size l = eqb (length (encode l.small)) (length (encode l.capital))

-- all of document 01's rows pass it
rows-same_size : every same_size capitals01 ≡ true
unfolding capitals01 every same_size encode
rows-same_size = refl

-- so a character folded by them takes as many bytes
fold01-size : (c : ℕ) → length (encode (fold_by capitals01 c)) ≡ length (encode c)
unfolding same_size
fold01-size c =
    fold_by-elim (λ d. length (encode d) ≡ length (encode c)) capitals01 c
    (λ l m e. rw e (eqb-true _ _ (every-at same_size rows-same_size m)))
    (λ o h k. ap length (encode_one (c + 0x20) (omega arith)) ∙ sym (ap length (encode_one c (omega arith))))
    (λ o n. refl)

-- characters without I and İ fold by document 01's rows
fold-before : (cs : List ℕ) → has cs (code "I") ≡ false → has cs (code "İ") ≡ false → fold cs ≡ map (fold_by capitals01) cs
unfolding fold fold_char fold_by capitals
fold-before [] i d = refl
fold-before (c ∷ cs) i d =
    let p = has-none (code "I") c cs i in
    let q = has-none (code "İ") c cs d in
    rw (ne_eqb c (code "I") p.0, ne_eqb c (code "İ") q.0, fold-before cs p.1 q.1)

-- and so to as many bytes
fold-before-size : (cs : List ℕ) → length (bytes (map (fold_by capitals01) cs)) ≡ length (bytes cs)
fold-before-size [] = refl
fold-before-size (c ∷ cs) =
    omega (arith, length-bytes-cons c cs, length-bytes-cons (fold_by capitals01 c) (map (fold_by capitals01) cs), fold01-size c, fold-before-size cs)

-- so does a text
pub fold_text-before : (w : List ℕ) → is_text w ≡ true → has (chars w) (code "I") ≡ false → has (chars w) (code "İ") ≡ false
    → (fold_text w ≡ bytes (map (fold_by capitals01) (chars w))) × (length (fold_text w) ≡ length w)
unfolding fold_text
fold_text-before w e i d =
    let b = fold-before (chars w) i d in
    (ap bytes b, rw b (rw (bytes-chars-text w (is_text-encodes w e)) at (fold-before-size (chars w))))

-- ---- a text, and folded once ----

-- the test that a row's small letter is a scalar value
scalar_small : Letter → Bool
scalar_small l = scalar l.small

-- every row passes it
rows-scalar : every scalar_small capitals ≡ true
unfolding capitals capitals01 every scalar_small scalar surrogate
rows-scalar = refl

-- so a scalar value folded is one
scalar-fold_char : (c : ℕ) → scalar c ≡ true → scalar (fold_char c) ≡ true
unfolding fold_char scalar_small
scalar-fold_char c s =
    fold_by-elim (λ d. scalar d ≡ true) capitals c
    (λ l m e. every-at scalar_small rows-scalar m)
    (λ o h k. is-scalar (c + 0x20) (omega arith) (λ x. omega arith))
    (λ o n. s)

-- and so are all of a list
scalars-fold : (cs : List ℕ) → scalars cs ≡ true → scalars (fold cs) ≡ true
unfolding scalars fold
scalars-fold [] s = refl
scalars-fold (c ∷ cs) s = rw (scalar-fold_char c (and_left (scalar c) (scalars cs) s), scalars-fold cs (and_right (scalar c) (scalars cs) s))

-- the characters of a text, folded, are a text's
folded-scalars : (w : List ℕ) → is_text w ≡ true → scalars (reverse (fold (chars w))) ≡ true
folded-scalars w e = rw (reverse-fold (chars w)) (scalars-fold (reverse (chars w)) (scalars-chars w (is_text-encodes w e)))

-- the folded text of a text is a text
pub fold_text-text : (w : List ℕ) → is_text w ≡ true → is_text (fold_text w) ≡ true
unfolding fold_text bytes
fold_text-text w e = encodes-is_text (reverse (fold (chars w))) (folded-scalars w e)

-- the test that a row's capital is none of a to z
outside : Letter → Bool
outside l = ltb l.capital 0x61 || ltb 0x7A l.capital

-- every row passes it
rows-outside : every outside capitals ≡ true
unfolding capitals capitals01 every outside
rows-outside = refl

-- so none of a to z is a row's capital
a-z-outside : (d : ℕ) (l : Letter) → 0x61 ≤ d → d ≤ 0x7A → outside l ≡ true → d ≡ l.capital → ⊥
unfolding outside
a-z-outside d l h k t e =
    ⊎_elim (λ x. omega (arith, ltb-true l.capital 0x61 x)) (λ x. omega (arith, ltb-true 0x7A l.capital x))
    (or-either (ltb l.capital 0x61) (ltb 0x7A l.capital) t)

-- and they stay
fold_char-a-z : (d : ℕ) → 0x61 ≤ d → d ≤ 0x7A → fold_char d ≡ d
unfolding fold_char
fold_char-a-z d h k =
    fold_by-elim (λ e. e ≡ d) capitals d
    (λ l m e. absurd (a-z-outside d l h k (every-at outside rows-outside m) e))
    (λ o x y. absurd (omega arith))
    (λ o n. refl)

-- the test that a row's small letter stays
settled : Letter → Bool
settled l = eqb (fold_char l.small) l.small

-- every row passes it
rows_settled : every settled capitals ≡ true
unfolding capitals capitals01 every settled fold_char fold_by
rows_settled = refl

-- so a folded character stays
fold_char-fold_char : (c : ℕ) → fold_char (fold_char c) ≡ fold_char c
unfolding fold_char settled
fold_char-fold_char c =
    fold_by-elim (λ d. fold_char c ≡ d → fold_char d ≡ d) capitals c
    (λ l m e q. eqb-true (fold_char l.small) l.small (every-at settled rows_settled m))
    (λ o h k q. fold_char-a-z (c + 0x20) (omega arith) (omega arith))
    (λ o n q. q)
    refl

-- and all of a list
fold-fold : (cs : List ℕ) → fold (fold cs) ≡ fold cs
unfolding fold
fold-fold [] = refl
fold-fold (c ∷ cs) = rw (fold_char-fold_char c, fold-fold cs)

-- so a folded text folded again stays
pub fold_text-fold_text : (w : List ℕ) → is_text w ≡ true → fold_text (fold_text w) ≡ fold_text w
unfolding fold_text
fold_text-fold_text w e = rw (chars-bytes (fold (chars w)) (folded-scalars w e), fold-fold (chars w))

-- ---- letters I alone ----

-- so many of one letter take so many times its bytes
length-bytes-replicate : (n c : ℕ) → length (bytes (replicate n c)) ≡ n * length (encode c)
unfolding bytes encode_all
length-bytes-replicate zero c = sym (zero-mul (length (encode c)))
length-bytes-replicate (suc n) c = length-bytes-cons c (replicate n c) ∙ rw (length-bytes-replicate n c, suc-mul n (length (encode c)))

-- they are scalar values where it is one
scalars-replicate : (n c : ℕ) → scalar c ≡ true → scalars (replicate n c) ≡ true
unfolding scalars
scalars-replicate zero c s = refl
scalars-replicate (suc n) c s = rw (s, scalars-replicate n c s)

-- and fold to so many of what it folds to
fold-replicate : (n c : ℕ) → fold (replicate n c) ≡ replicate n (fold_char c)
unfolding fold
fold-replicate zero c = refl
fold-replicate (suc n) c = rw (fold-replicate n c)

-- a word of n letters I
module _ (n : ℕ) where
  -- is a text
  pub letters-I-text : is_text (bytes (replicate n (code "I"))) ≡ true
  unfolding bytes
  letters-I-text =
      encodes-is_text (reverse (replicate n (code "I"))) (scalars-reverse (replicate n (code "I")) (scalars-replicate n (code "I") (unfold scalar surrogate in refl)))

  -- has n bytes
  pub letters-I-length : length (bytes (replicate n (code "I"))) ≡ n
  letters-I-length = length-bytes-replicate n (code "I") ∙ (unfold encode in omega arith)

  -- folds to n letters ı
  pub letters-I-folded : fold_text (bytes (replicate n (code "I"))) ≡ bytes (replicate n (code "ı"))
  unfolding fold_text fold_char fold_by capitals
  letters-I-folded =
      let s = scalars-reverse (replicate n (code "I")) (scalars-replicate n (code "I") (unfold scalar surrogate in refl)) in
      rw (chars-bytes (replicate n (code "I")) s, fold-replicate n (code "I"))

  -- which have twice as many bytes
  pub letters-ı-length : length (bytes (replicate n (code "ı"))) ≡ 2 * n
  letters-ı-length = length-bytes-replicate n (code "ı") ∙ (unfold encode in omega arith)

-- ---- the call ----

-- an accepted word is folded where the output is as long as its folded text
pub fold_call-fits : (w : List ℕ) (room : ℕ) → accepted w ≡ true → length (fold_text w) ≤ room
    → fold_call w room ≡ record { refusal = 0; length = length (fold_text w) }
unfolding fold_call fold_refusal refusal_short_of accepted
fold_call-fits w room a h = rw (a, le-ltb room (length (fold_text w)) h)

-- and refused under 3 where it is shorter
pub fold_call-short : (w : List ℕ) (room : ℕ) → accepted w ≡ true → room < length (fold_text w) → fold_call w room ≡ record { refusal = 3; length = 0 }
unfolding fold_call fold_refusal refusal_short_of accepted
fold_call-short w room a h = rw (a, lt-ltb room (length (fold_text w)) h)

-- a word over the limit is refused under 1, whatever the output
pub fold_call-long : (w : List ℕ) (room : ℕ) → limit < length w → fold_call w room ≡ record { refusal = 1; length = 0 }
unfolding fold_call fold_refusal refusal_short_of
fold_call-long w room h = rw (← refusal-long w h)
