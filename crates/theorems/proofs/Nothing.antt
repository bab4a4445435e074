-- Demand 3, second half: the suffix stage leaves nothing of an accepted word exactly where the word is empty, siniz, sunuz, sınız
-- or sünüz. Assumes nothing.
use Prim.Native.Nat.{ℕ, zero, suc, ◌+◌, ◌≤◌}
use mathlib.Core.Path.{◌≡◌, refl, sym, ap, ◌∙◌}
use mathlib.Core.Bool.{Bool, true, false, false≢true}
use mathlib.Core.List.{List, [], ◌∷◌}
use mathlib.Mathlib.Data.Bool.Basic.{partial_order_laws}
use native.Mathlib.Omega.{arith}
use lib.ListN.{length, drop, length-drop}
use lib.Seq.{drop-cons}
use lib.Dec.{eqb, eqb-suc-zero}
use Rattle.encoding.specs.Encoding.{encode, encode_all, decode, continuation}
use Rattle.utf8.specs.Characters.{width, goes_on_of, last_width_of, char_at, last_char, before_within, before}
use Rattle.utf8.specs.Steps.{same}
use Rattle.utf8.proofs.Laws.Characters.{before-zero, before-step, before_back}
use Rattle.turkish.specs.Letters.{text, any, has, starts}
use Rattle.turkish.specs.Letters
use Rattle.turkish.specs.Vowels.{vowels, vowel, last_vowel_of, before_last_vowel}
use Rattle.theorems.specs.Simple.Harmony.{partner_table, partners_in, partner, harmony_found, is_found, harmony}
use Rattle.theorems.specs.Simple.Grammar.{more, after, first, asking, among, joining, mark_of, mark, ◌or◌, try, run}
use Rattle.theorems.specs.Simple.Marks.{unjoined, by_y, marked, yUm, sUn, yUz, sUnUz, lAr, nUz, DUr, cAsInA, yDU, ysA, ymUs, yken}
use Rattle.theorems.specs.Simple.Stage.{branch1, branch2, branch3, branch4, branch5, branch6, branches, staged, stage, kept, kept_length}
use Rattle.turkish.specs.Calls.{chars, bytes, accepted}
use Rattle.theorems.specs.Fronts.{left_empty, one_of}
use Rattle.theorems.proofs.Laws.Outcome.{Post, post-map, post-first, post-then}
use Rattle.theorems.proofs.Laws.Accepted.{bytes-chars}
use Rattle.theorems.proofs.Laws.Same.{one_of-every}
use Rattle.theorems.proofs.Laws.Tests.{every}
use Rattle.theorems.proofs.Laws.Leaves.{mark-leaves, unharmonic, spares, leaves, run-leaves, staged-leaves}

-- branch 5 leaves a character of a text that is no key of sUnUz
branch5-leaves : (cs : List ℕ) → one_of sUnUz.keys cs ≡ false → Post (λ k. k + 1 ≤ length cs) (run branch5 cs)
unfolding run branch5 try leaves spares every unharmonic harmony harmony_found is_found any partner has partners_in partner_table last_vowel_of before_last_vowel vowel vowels
    text Letters.from_end unjoined by_y marked yUm sUn yUz sUnUz ymUs
branch5-leaves cs h =
    post-then
    (post-first (mark-leaves sUnUz cs 1 (omega arith) (λ t o. absurd (false≢true (sym h ∙ o)))) (run-leaves (mark yUz or mark sUn or mark yUm) 0 cs (omega arith)))
    λ k f p. post-map (λ j f q. omega (arith, length-drop k cs)) (run-leaves (try (mark ymUs)) 1 (drop k cs) (omega (arith, length-drop k cs)))

-- and so does the stage, as the other branches leave one of every text
branches-leaves : (cs : List ℕ) → one_of sUnUz.keys cs ≡ false → Post (λ k. k + 1 ≤ length cs) (run branches cs)
unfolding run branches branch1 branch2 branch3 branch4 branch6 try leaves spares every unharmonic harmony harmony_found is_found any partner has partners_in partner_table last_vowel_of before_last_vowel vowel vowels
    text Letters.from_end unjoined by_y marked lAr DUr yDU ysA ymUs yken
branches-leaves cs h =
    let z : 0 ≤ length cs = omega arith in
    post-first (run-leaves branch1 0 cs z)
    (post-first (run-leaves branch2 0 cs z)
    (post-first (run-leaves branch3 0 cs z)
    (post-first (run-leaves branch4 0 cs z)
    (post-first (branch5-leaves cs h) (run-leaves branch6 0 cs z)))))

-- so the stage keeps something of every other text
kept-others : (cs : List ℕ) → one_of ([] ∷ sUnUz.keys) cs ≡ false → same (kept cs) [] ≡ false
unfolding kept stage one_of same
kept-others [] h = absurd (false≢true (sym h))
kept-others (c ∷ cs) h =
    let s = staged-leaves (omega arith) (branches-leaves (c ∷ cs) h) in
    rw (drop-cons (c ∷ cs) (staged (run branches (c ∷ cs))).removed 0 (omega arith))

-- nothing is kept of nothing, nor of a key of sUnUz
kept-keys : every (λ cs. same (kept cs) []) ([] ∷ sUnUz.keys) ≡ true
unfolding kept stage staged run branches branch1 branch2 branch3 branch4 branch5 branch6 try same every harmony harmony_found is_found any partner has partners_in partner_table
    last_vowel_of before_last_vowel vowel vowels text Letters.from_end unjoined by_y marked yUm sUn yUz sUnUz lAr nUz DUr cAsInA yDU ysA ymUs yken starts among joining mark_of more after first asking
kept-keys = refl

-- the stage keeps nothing exactly of nothing and of the keys of sUnUz
kept-nothing : (cs : List ℕ) → same (kept cs) [] ≡ one_of ([] ∷ sUnUz.keys) cs
kept-nothing cs = go (one_of ([] ∷ sUnUz.keys) cs) refl
  where
    go : (t : Bool) → one_of ([] ∷ sUnUz.keys) cs ≡ t → same (kept cs) [] ≡ t
    go true e = one_of-every (λ x. same (kept x) []) ([] ∷ sUnUz.keys) cs kept-keys e
    go false e = kept-others cs e

-- no character stands before a place exactly where it is the word's start
before-nothing : (w : List ℕ) (p : ℕ) → same (before w p) [] ≡ eqb p 0
unfolding same
before-nothing w zero = rw before-zero
before-nothing w (suc p) = rw (before-step w (suc p) (omega arith), eqb-suc-zero)

-- nothing and the keys of sUnUz as bytes are the five words
bytes-keys : every (λ cs. one_of left_empty (bytes cs)) ([] ∷ sUnUz.keys) ≡ true
unfolding every one_of same left_empty text bytes encode_all encode sUnUz marked Letters.from_end
bytes-keys = refl

-- and the five words as characters are those
chars-words : every (λ w. one_of ([] ∷ sUnUz.keys) (chars w)) left_empty ≡ true
unfolding every one_of same left_empty text encode_all encode sUnUz marked Letters.from_end chars before before_within last_char last_width_of width goes_on_of continuation char_at decode
chars-words = refl

-- an accepted word is one of the five exactly where its characters are nothing or a key of sUnUz
words-keys : (w : List ℕ) → accepted w ≡ true → one_of ([] ∷ sUnUz.keys) (chars w) ≡ one_of left_empty w
words-keys w a =
    partial_order_laws.le_antisymm (one_of ([] ∷ sUnUz.keys) (chars w)) (one_of left_empty w)
    (λ o. rw (bytes-chars w a) at (one_of-every (λ cs. one_of left_empty (bytes cs)) ([] ∷ sUnUz.keys) (chars w) bytes-keys o))
    (one_of-every (λ x. one_of ([] ∷ sUnUz.keys) (chars x)) left_empty w chars-words)

-- the stage leaves nothing of an accepted word exactly where it is one of the five
pub left-empty : (w : List ℕ) → accepted w ≡ true → eqb (kept_length w) 0 ≡ one_of left_empty w
unfolding kept_length kept chars
left-empty w a =
    sym (before-nothing w (kept_length w)) ∙ ap (λ (l : List ℕ). same l []) (before_back w (length w) (stage (chars w)).removed)
    ∙ kept-nothing (chars w) ∙ words-keys w a
