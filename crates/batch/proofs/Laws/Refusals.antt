-- Which number a batch gets, each test's answer as a fact about the front, the tails and the rooms. Assumes nothing.
use Prim.Native.Nat.{ℕ, suc, ◌+◌, ◌-◌, ◌≤◌, ◌<◌}
use mathlib.Core.Path.{◌≡◌, refl, sym, ap, ◌∙◌}
use mathlib.Core.Bool.{Bool, true, false, cond, not, ◌&&◌, ◌||◌, and-true, or-true, or_assoc, false≢true}
use mathlib.Core.List.Memᴰ
use mathlib.Core.List.{List, [], ◌∷◌, ◌++◌, map, append_assoc, append-nil, Memᴰ}
use native.Mathlib.Omega.{arith}
use lib.ListN.{length, length-append, length-reverse}
use lib.Dec.{eqb, ltb, leb}
use borrow.Author.Tests.{eqb-true, lt-ltb, le-ltb, ltb-false, ltb-true, le-leb, lt-leb, eq-eqb, ne_eqb}
use Rattle.encoding.specs.Validity.{due, accepts, is_text}
use Rattle.encoding.specs.Encoding.{encode_all, continuation}
use Rattle.encoding.specs.Parts.{boundary}
use Rattle.encoding.specs.Text.{TextOf}
use Rattle.encoding.proofs.Laws.Parts.{text-plain}
use Rattle.encoding.proofs.Laws.Parts.{text-join}
use Rattle.encoding.proofs.Laws.Booleans.{and_left, and_right, lt-or-le}
use Rattle.encoding.proofs.Laws.Decoding.{OneCharacter, one_byte, two_bytes, three-bytes, four_bytes, encode-lead}
use Rattle.encoding.proofs.CheckExact.{is_text-iff}
use Rattle.utf8.proofs.TextCharacters.{before-whole}
use Rattle.turkish.specs.Letters.{lf}
use Rattle.turkish.specs.Lines.{unclosed, lines_from}
use Rattle.turkish.specs.Calls.{chars, limit, refusal}
use Rattle.theorems.specs.Fronts.{end_length, long}
use Rattle.turkish.specs.declared.answer.BatchAnswer.{BatchAnswer}
use Rattle.batches.specs.BatchCalls.{Batch, most_tails, some, refused_under, joined_words, tails_in, words_refusal_of, tails_refusal, rooms_refusal_of, first_refusal, number_of}
use Rattle.batches.specs.BatchCalls.{batch_refusal, batch_call, lengths_after, answers_after, flags_after}
use Rattle.theorems.proofs.Laws.Tests.{every}
use Rattle.theorems.proofs.Laws.Members.{every_of}
use Rattle.theorems.proofs.Laws.Accepted.{accepted-iff}
use Rattle.batches.proofs.Laws.Batches.{words-accepted}
use Rattle.batches.proofs.BatchTheorems.{entries-refused}
use Rattle.theorems.proofs.Texts.{text-joined}
use Rattle.batch.specs.Tails.{leads, longest, few}

-- ---- lines that are texts ----

-- a line that is not closed is checked as it stands
unclosed-text : (line : List ℕ) → is_text line ≡ every is_text (unclosed line)
unfolding unclosed every is_text accepts due
unclosed-text [] = refl
unclosed-text (b ∷ bs) = sym (and-true _)

-- a text's lines are texts, and lines that are texts make one: a line feed goes on with no character
is_text-lines_from : (line rest : List ℕ) → is_text (line ++ rest) ≡ every is_text (lines_from line rest)
unfolding lines_from every lf boundary continuation
is_text-lines_from line [] = rw (append-nil line) (unclosed-text line)
is_text-lines_from line (b ∷ bs) = go (eqb b lf) refl (is_text-lines_from [] bs) (is_text-lines_from (line ++ (b ∷ [])) bs)
  where
    go : (t : Bool) → eqb b lf ≡ t → is_text bs ≡ every is_text (lines_from [] bs) → is_text (line ++ (b ∷ []) ++ bs) ≡ every is_text (lines_from (line ++ (b ∷ [])) bs)
        → is_text (line ++ (b ∷ bs)) ≡ every is_text (cond t (line ∷ lines_from [] bs) (lines_from (line ++ (b ∷ [])) bs))
    go true e closed open-line =
        let is : b ≡ 0x0A = eqb-true b lf e in
        rw is (text-join line (0x0A ∷ bs) refl) ∙ ap (λ (t : Bool). is_text line && t) (text-plain 0x0A bs (omega arith) ∙ closed)
    go false e closed open-line = ap is_text (sym (append_assoc line (b ∷ []) bs)) ∙ open-line

-- so of the slice of tails
pub is_text-tails : (slice : List ℕ) → is_text slice ≡ every is_text (tails_in slice)
unfolding tails_in
is_text-tails slice = is_text-lines_from [] slice

-- ---- one word ----

module _ (w : List ℕ) where
  -- a word over the limit has number 1
  is-1 : limit < length w → eqb (refusal w) 1 ≡ true
  unfolding refusal
  is-1 h = rw (lt-ltb limit (length w) h)

  -- one within it has not
  not-1 : length w ≤ limit → eqb (refusal w) 1 ≡ false
  unfolding refusal
  not-1 h = rw (le-ltb limit (length w) h) (go (is_text w))
    where
      go : (t : Bool) → eqb (cond t 0 2) 1 ≡ false
      go true = refl
      go false = refl

  -- one within it that is no text has number 2
  is-2 : length w ≤ limit → is_text w ≡ false → eqb (refusal w) 2 ≡ true
  unfolding refusal
  is-2 h e = rw (le-ltb limit (length w) h, e)

  -- and no text has
  not-2 : is_text w ≡ true → eqb (refusal w) 2 ≡ false
  unfolding refusal
  not-2 e = rw e (go (ltb limit (length w)))
    where
      go : (t : Bool) → eqb (cond t 1 0) 2 ≡ false
      go true = refl
      go false = refl

-- ---- some of many ----

-- some of two parts
some-append : (f : List ℕ → Bool) (xs ys : List (List ℕ)) → some f (xs ++ ys) ≡ some f xs || some f ys
unfolding some
some-append f [] ys = refl
some-append f (x ∷ xs) ys = rw (some-append f xs ys) (sym (or_assoc (f x) (some f xs) (some f ys)))

-- some of what a function makes of them
some-map : (f : List ℕ → Bool) (g : List ℕ → List ℕ) (xs : List (List ℕ)) → some f (map g xs) ≡ some (λ x. f (g x)) xs
unfolding some
some-map f g [] = refl
some-map f g (x ∷ xs) = rw (some-map f g xs)

module _ (g : List ℕ → List ℕ) (n : ℕ) where
  -- words that the longest tail keeps within the limit have not number 1
  none_1 : ((t : List ℕ) → length (g t) ≤ n + length t) → (ts : List (List ℕ)) → n + longest ts ≤ limit
      → some (λ t. eqb (refusal (g t)) 1) ts ≡ false
  unfolding some longest
  none_1 le [] h = refl
  none_1 le (t ∷ ts) h = rw (not-1 (g t) (omega (arith, le t)), none_1 le ts (omega arith))

  -- where it does not, one has
  some-1 : ((t : List ℕ) → length (g t) ≡ n + length t) → (ts : List (List ℕ)) → n ≤ limit → limit < n + longest ts
      → some (λ t. eqb (refusal (g t)) 1) ts ≡ true
  unfolding some longest
  some-1 eq [] l h = absurd (omega arith)
  some-1 eq (t ∷ ts) l h = go (ltb limit (n + length t)) refl (some-1 eq ts l)
    where
      rest : Bool
      rest = some (λ t. eqb (refusal (g t)) 1) ts

      go : (b : Bool) → ltb limit (n + length t) ≡ b → (limit < n + longest ts → rest ≡ true) → eqb (refusal (g t)) 1 || rest ≡ true
      go true e later = rw (is-1 (g t) (omega (arith, eq t, ltb-true limit (n + length t) e)))
      go false e later = rw (later (omega (arith, ltb-false limit (n + length t) e))) (or-true (eqb (refusal (g t)) 1))

-- texts have not number 2
none_2 : (g : List ℕ → List ℕ) → ((t : List ℕ) → is_text t ≡ true → is_text (g t) ≡ true) → (ts : List (List ℕ)) → every is_text ts ≡ true
    → some (λ t. eqb (refusal (g t)) 2) ts ≡ false
unfolding some every
none_2 g keeps [] e = refl
none_2 g keeps (t ∷ ts) e =
    rw (not-2 (g t) (keeps t (and_left (is_text t) (every is_text ts) e)), none_2 g keeps ts (and_right (is_text t) (every is_text ts) e))

-- tails within the limit that are not all texts have it
some-2 : (n : ℕ) (ts : List (List ℕ)) → n + longest ts ≤ limit → every is_text ts ≡ false → some (λ t. eqb (refusal t) 2) ts ≡ true
unfolding some every longest
some-2 n [] h e = absurd (false≢true (sym e))
some-2 n (t ∷ ts) h e = go (is_text t) refl e (some-2 n ts (omega arith))
  where
    rest : Bool
    rest = some (λ t. eqb (refusal t) 2) ts

    go : (b : Bool) → is_text t ≡ b → b && every is_text ts ≡ false → (every is_text ts ≡ false → rest ≡ true) → eqb (refusal t) 2 || rest ≡ true
    go true p q later = rw (later q) (or-true (eqb (refusal t) 2))
    go false p q later = rw (is-2 t (omega arith) p)

-- ---- the words of a batch ----

module _ (f : List ℕ) (ts : List (List ℕ)) where
  -- some of the front, the tails and the joined words have a number
  under : ℕ → Bool
  under n = eqb (refusal f) n || (some (λ t. eqb (refusal t) n) ts || some (λ t. eqb (refusal (f ++ t)) n) ts)

  under_some : (n : ℕ) → refused_under n (f ∷ ts ++ joined_words f ts) ≡ under n
  unfolding refused_under joined_words some under
  under_some n =
      ap (λ (b : Bool). eqb (refusal f) n || b)
      (some-append (λ w. eqb (refusal w) n) ts (map (λ t. f ++ t) ts) ∙ rw (some-map (λ w. eqb (refusal w) n) (λ t. f ++ t) ts))

  -- 1 where one has number 1
  words-1 : under 1 ≡ true → 1 ≡ words_refusal_of f ts
  unfolding words_refusal_of
  words-1 e = rw (under_some 1, e)

  -- 2 where none has it and one has number 2
  words-2 : under 1 ≡ false → under 2 ≡ true → 2 ≡ words_refusal_of f ts
  unfolding words_refusal_of
  words-2 e d = rw (under_some 1, e, under_some 2, d)

  -- 0 where none has either
  words-0 : under 1 ≡ false → under 2 ≡ false → 0 ≡ words_refusal_of f ts
  unfolding words_refusal_of
  words-0 e d = rw (under_some 1, e, under_some 2, d)

  -- a front over the limit
  pub words-front-over : limit < length f → 1 ≡ words_refusal_of f ts
  unfolding under
  words-front-over h = words-1 (rw (is-1 f h))

  -- a tail that the front leaves no room for
  pub words-joined-over : length f ≤ limit → limit - length f < longest ts → 1 ≡ words_refusal_of f ts
  unfolding under
  words-joined-over l h =
      words-1
      (rw (some-1 (λ t. f ++ t) (length f) (λ t. length-append f t) ts l (omega arith), or-true (some (λ t. eqb (refusal t) 1) ts))
      (or-true (eqb (refusal f) 1)))

  module _ (l : length f ≤ limit) (h : longest ts ≤ limit - length f) where
    -- within the limit none has number 1
    within : under 1 ≡ false
    unfolding under
    within =
        rw (
          not-1 f l,
          none_1 (λ t. t) (length f) (λ t. omega arith) ts (omega arith),
          none_1 (λ t. f ++ t) (length f) (λ t. omega (arith, length-append f t)) ts (omega arith),
        )

    -- a front that is no text
    pub words-front-no-text : is_text f ≡ false → 2 ≡ words_refusal_of f ts
    unfolding under
    words-front-no-text e = words-2 within (rw (is-2 f l e))

    -- a tail that is none
    pub words-tail-no-text : every is_text ts ≡ false → 2 ≡ words_refusal_of f ts
    unfolding under
    words-tail-no-text e = words-2 within (rw (some-2 (length f) ts (omega arith) e) (or-true (eqb (refusal f) 2)))

    -- all texts
    pub words-texts : is_text f ≡ true → every is_text ts ≡ true → 0 ≡ words_refusal_of f ts
    unfolding under
    words-texts e d =
        let join : (t : List ℕ) → is_text t ≡ true → is_text (f ++ t) ≡ true = λ t p. (is_text-iff (f ++ t)).1 (text-joined ((is_text-iff f).0 e) ((is_text-iff t).0 p)) in
        words-0 within (rw (not-2 f e, none_2 (λ t. t) (λ t p. p) ts d, none_2 (λ t. f ++ t) join ts d))

-- ---- the tails ----

-- in a text as many bytes begin a character as there are characters
leads_one : (rest : List ℕ) {e : List ℕ} → OneCharacter e → leads (e ++ rest) ≡ suc (leads rest)
unfolding leads
leads_one rest (one_byte x) = rw x
leads_one rest (two_bytes x y) = rw (x, y)
leads_one rest (three-bytes x y z) = rw (x, y, z)
leads_one rest (four_bytes x y z t) = rw (x, y, z, t)

leads-encode_all : (cs : List ℕ) → leads (encode_all cs) ≡ length cs
unfolding encode_all leads
leads-encode_all [] = refl
leads-encode_all (c ∷ cs) = leads_one (encode_all cs) (encode-lead c) ∙ ap suc (leads-encode_all cs)

leads-chars : (t : List ℕ) → is_text t ≡ true → leads t ≡ length (chars t)
unfolding chars
leads-chars t e =
    let x : TextOf t = (is_text-iff t).0 e in
    sym (ap leads x.encoded) ∙ leads-encode_all x.chars ∙ sym (length-reverse x.chars) ∙ ap length (sym (before-whole t x))

-- so by these it has too few of them
few-short : (t : List ℕ) → is_text t ≡ true → few t ≡ not (long t)
unfolding few long
few-short t e = rw (leads-chars t e) (lt-or-le (length (chars t)) end_length short enough)
  where
    short : length (chars t) < end_length → ltb (length (chars t)) end_length ≡ not (leb end_length (length (chars t)))
    short h = rw (lt-ltb (length (chars t)) end_length h, lt-leb end_length (length (chars t)) h)

    enough : end_length ≤ length (chars t) → ltb (length (chars t)) end_length ≡ not (leb end_length (length (chars t)))
    enough h = rw (le-ltb (length (chars t)) end_length h, le-leb end_length (length (chars t)) h)

-- and some of many has
some-few : (ts : List (List ℕ)) → every is_text ts ≡ true → some few ts ≡ some (λ t. not (long t)) ts
unfolding some every
some-few [] e = refl
some-few (t ∷ ts) e = rw (few-short t (and_left (is_text t) (every is_text ts) e), some-few ts (and_right (is_text t) (every is_text ts) e))

-- where the words give no number the tails are texts
tails-texts : (f : List ℕ) (ts : List (List ℕ)) → words_refusal_of f ts ≡ 0 → every is_text ts ≡ true
tails-texts f ts z =
    every_of is_text ts (λ t m. ((accepted-iff t).0 (words-accepted f ts z (Memᴰ.tail (Memᴰ.append_left (joined_words f ts) m)))).1)

-- ---- the batch ----

module _ (f : List ℕ) (ts : List (List ℕ)) (lengths answers flags n : ℕ) (e : n ≡ words_refusal_of f ts) where
  -- the words' number comes first
  pub number-words : (n ≡ 0 → ⊥) → n ≡ number_of f ts lengths answers flags
  unfolding number_of first_refusal
  number-words h = rw (← e, ne_eqb n 0 h)

  module _ (z : n ≡ 0) where
    -- then 6 for too many tails
    pub number-many : most_tails < length ts → 6 ≡ number_of f ts lengths answers flags
    unfolding number_of first_refusal tails_refusal
    number-many h = rw (← e, eq-eqb n 0 z, lt-ltb most_tails (length ts) h)

    -- or for one that is too short
    pub number_short : some few ts ≡ true → 6 ≡ number_of f ts lengths answers flags
    unfolding number_of first_refusal tails_refusal
    number_short h =
        rw (← e, eq-eqb n 0 z, ← some-few ts (tails-texts f ts (sym e ∙ z)), h, or-true (ltb most_tails (length ts)))

    -- then that of the rooms
    pub number-rooms : length ts ≤ most_tails → some few ts ≡ false → rooms_refusal_of lengths answers flags ≡ number_of f ts lengths answers flags
    unfolding number_of first_refusal tails_refusal
    number-rooms l h =
        rw (← e, eq-eqb n 0 z, ← some-few ts (tails-texts f ts (sym e ∙ z)), h, le-ltb most_tails (length ts) l)

-- ---- the call ----

module _ (b : Batch) (n : ℕ) (e : n ≡ number_of b.front (tails_in b.tails) (length b.lengths) (length b.answers) (length b.flags)) where
  -- the number found is the batch's
  number-batch : n ≡ batch_refusal b
  unfolding batch_refusal
  number-batch = e

  -- a refused batch gives it and leaves the buffers
  pub call-refused : (n ≡ 0 → ⊥) → (◌≡◌ {A = BatchAnswer} (record { refusal = n; count = 0 }) (batch_call b))
      × ((b.lengths ≡ lengths_after b) × ((b.answers ≡ answers_after b) × (b.flags ≡ flags_after b)))
  unfolding batch_call lengths_after answers_after flags_after
  call-refused h =
      let z : eqb (batch_refusal b) 0 ≡ false = rw (← number-batch) (ne_eqb n 0 h) in
      (rw (z, ← number-batch), (sym (entries-refused _ b _ z), (sym (entries-refused _ b _ z), sym (entries-refused _ b _ z))))

  module _ (z : n ≡ 0) where
    pub call-zero : batch_refusal b ≡ 0
    call-zero = sym number-batch ∙ z

    -- any other the number of tails
    pub call-answered : (k : ℕ) → k ≡ length (tails_in b.tails) → ◌≡◌ {A = BatchAnswer} (record { refusal = 0; count = k }) (batch_call b)
    unfolding batch_call
    call-answered k c = rw (eq-eqb (batch_refusal b) 0 call-zero, c)
