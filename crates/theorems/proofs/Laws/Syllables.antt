-- Where the syllable check says no, the suffix stage says no: every mark that a branch begins with needs two vowels.
-- Assumes nothing.
use Prim.Native.Nat.{ℕ}
use mathlib.Core.Path.{◌≡◌, refl, sym, ap, ap₂, ◌∙◌}
use mathlib.Core.Bool.{Bool, true, false, cond, not, ◌&&◌, ◌||◌, true≢false, false≢true}
use mathlib.Core.List.{List, [], ◌∷◌, ◌++◌}
use mathlib.Mathlib.Data.Bool.Basic.{eq-false_of_not-eq-true, or-eq-false-eq-eq-false-and-eq-false as or_no}
use lib.ListN.{length, drop}
use lib.Dec.{eqb}
use borrow.Author.Tests.{eqb-true}
use Rattle.encoding.proofs.Laws.Booleans.{and_left, and_right, cond-test}
use Rattle.turkish.specs.Letters.{text, from_end, any, has, starts}
use Rattle.turkish.specs.Vowels.{vowels, vowel, last_vowel_of, before_last_vowel}
use Rattle.theorems.specs.Simple.Harmony.{partner, harmony, more_than_one_syllable}
use Rattle.theorems.specs.Simple.Grammar.{Out, fail, more, after, first, asking, among, Joint, optional, joining, mark_of, Command, mark, ◌then◌, ◌or◌, nothing, unset, try, run}
use Rattle.theorems.specs.Simple.Marks.{unjoined, by_y, marked, yUm, sUn, yUz, sUnUz, lAr, nUz, DUr, cAsInA, yDU, ysA, ymUs, yken}
use Rattle.theorems.specs.Simple.Stage.{person, branch1, branch2, branch3, branch4, branch5, branch6, branches, staged, stage}
use Rattle.theorems.proofs.Laws.Tests.{every, any_append}
use Rattle.theorems.proofs.Laws.Harmony.{harmony-any}
use Rattle.theorems.proofs.Laws.Vowels.{partner-vowel}

-- ---- harmony ----

-- where no character passes a test, none passes a stricter one
any-stricter : (f g : ℕ → Bool) → ((c : ℕ) → f c ≡ true → g c ≡ true) → (cs : List ℕ) → any g cs ≡ false → any f cs ≡ false
unfolding any
any-stricter f g h [] e = refl
any-stricter f g h (c ∷ cs) e =
    let n = (or_no (g c) (any g cs)).0 e in
    rw (any-stricter f g h cs n.1, eq-false_of_not-eq-true (λ p. true≢false (sym (h c p) ∙ n.0)))

-- so where there are not two vowels, there is no harmony
harmony-no : (cs : List ℕ) → more_than_one_syllable cs ≡ false → harmony cs ≡ false
unfolding more_than_one_syllable
harmony-no cs e = harmony-any cs ∙ any-stricter (partner (last_vowel_of cs)) vowel (partner-vowel (last_vowel_of cs)) (before_last_vowel cs) e

-- ---- keys ----

-- characters that begin with a key are that key and the rest
pub starts-split : (k cs : List ℕ) → starts k cs ≡ true → k ++ drop (length k) cs ≡ cs
unfolding starts
starts-split [] cs e = refl
starts-split (k ∷ ks) [] e = absurd (false≢true e)
starts-split (k ∷ ks) (c ∷ cs) e =
    ap₂ ◌∷◌ (eqb-true k c (and_left (eqb k c) (starts ks cs) e)) (starts-split ks cs (and_right (eqb k c) (starts ks cs) e))

-- two vowels in two texts joined stand both in the first, one in each or both in the second
pub more_than_one_syllable-append : (cs ds : List ℕ)
    → more_than_one_syllable (cs ++ ds) ≡ (more_than_one_syllable cs || cond (any vowel cs) (any vowel ds) (more_than_one_syllable ds))
unfolding more_than_one_syllable before_last_vowel any
more_than_one_syllable-append [] ds = refl
more_than_one_syllable-append (c ∷ cs) ds =
    elim (vowel c) as (λ t. any vowel (cond t (cs ++ ds) (before_last_vowel (cs ++ ds)))
    ≡ (any vowel (cond t cs (before_last_vowel cs)) || cond (t || any vowel cs) (any vowel ds) (any vowel (before_last_vowel ds))))
    [ true ↦ any_append vowel cs ds | false ↦ more_than_one_syllable-append cs ds ]

-- a joint that asks for a vowel
asks_vowel : Joint → Bool
asks_vowel j = j.asked && j.vowelled

-- fails where there is none
joining-no : (j : Joint) (cs : List ℕ) → asks_vowel j ≡ true → any vowel cs ≡ false → joining j cs ≡ fail
unfolding asks_vowel joining optional any
joining-no j cs a e = rw (and_left j.asked j.vowelled a, and_right j.asked j.vowelled a) (go cs e)
  where
    go : (cs : List ℕ) → any vowel cs ≡ false → optional j.letters true cs ≡ fail
    go [] e = refl
    go (c ∷ []) e = refl
    go (c ∷ d ∷ cs) e = rw ((or_no (vowel d) (any vowel cs)).0 ((or_no (vowel c) (vowel d || any vowel cs)).0 e).1).0

-- a key has two vowels, or one where its joint asks for another
key_two : Joint → List ℕ → Bool
unfolding asks_vowel
key_two j k = more_than_one_syllable k || asks_vowel j && any vowel k

-- after such a key the mark fails
key_two-fails : (j : Joint) (k cs : List ℕ) → more_than_one_syllable cs ≡ false → key_two j k ≡ true → starts k cs ≡ true
    → joining j (drop (length k) cs) ≡ fail
unfolding key_two
key_two-fails j k cs s t e = go (asks_vowel j) refl (more_than_one_syllable k) (any vowel k) t (sym (more_than_one_syllable-append k rest) ∙ ap more_than_one_syllable (starts-split k cs e) ∙ s)
  where
    rest : List ℕ
    rest = drop (length k) cs

    go : (v : Bool) → asks_vowel j ≡ v → (a b : Bool) → (a || v && b) ≡ true → (a || cond b (any vowel rest) (more_than_one_syllable rest)) ≡ false
        → joining j rest ≡ fail
    go v p true b t s = absurd (true≢false s)
    go true p false true t s = joining-no j rest p s
    go true p false false t s = absurd (false≢true t)
    go false p false b t s = absurd (false≢true t)

-- what fails after every key of a table fails after the table
after-among : (f : List ℕ → Bool) (ks : List (List ℕ)) (cs : List ℕ) (q : ℕ → Out) → every f ks ≡ true
    → ((k : List ℕ) → f k ≡ true → starts k cs ≡ true → q (length k) ≡ fail) → after (among ks cs) q ≡ fail
unfolding every among after more
after-among f [] cs q e h = refl
after-among f (k ∷ ks) cs q e h =
    cond-test (λ o. after o q ≡ fail) (starts k cs)
    (λ p. rw (h k (and_left (f k) (every f ks) e) p))
    (after-among f ks cs q (and_right (f k) (every f ks) e) h)

-- ---- commands ----

-- a command that takes nothing unless there are two vowels: it begins with a mark that tests harmony, or all of whose keys ask for two
asks_two : Command → Bool
unfolding key_two
asks_two (mark m) = m.harmonic || every (key_two m.joint) m.keys
asks_two (p then q) = asks_two p
asks_two (p or q) = asks_two p && asks_two q
asks_two nothing = false
asks_two unset = false

-- such a mark fails where there are not two vowels
mark-fails : (h : Bool) (j : Joint) (ks : List (List ℕ)) (cs : List ℕ) → more_than_one_syllable cs ≡ false → (h || every (key_two j) ks) ≡ true
    → asking (not h || harmony cs) (after (among ks cs) (λ k. joining j (drop k cs))) ≡ fail
unfolding asking
mark-fails true j ks cs s t = rw (harmony-no cs s)
mark-fails false j ks cs s t = after-among (key_two j) ks cs (λ k. joining j (drop k cs)) t (λ k. key_two-fails j k cs s)

-- and such a command does
run-fails : (p : Command) (cs : List ℕ) → more_than_one_syllable cs ≡ false → asks_two p ≡ true → run p cs ≡ fail
unfolding run mark_of after first asks_two
run-fails (mark m) cs s t = mark-fails m.harmonic m.joint m.keys cs s t
run-fails (p then q) cs s t = rw (run-fails p cs s t)
run-fails (p or q) cs s t = rw (run-fails p cs s (and_left (asks_two p) (asks_two q) t), run-fails q cs s (and_right (asks_two p) (asks_two q) t))
run-fails nothing cs s t = absurd (false≢true t)
run-fails unset cs s t = absurd (false≢true t)

-- the stage's command is one
branches-asks_two : asks_two branches ≡ true
unfolding asks_two every key_two asks_vowel more_than_one_syllable before_last_vowel any vowel vowels has branches branch1 branch2 branch3 branch4 branch5 branch6 person
    try unjoined by_y marked yUm sUn yUz sUnUz lAr nUz DUr cAsInA yDU ysA ymUs yken from_end text
branches-asks_two = refl

-- where the syllable check says no, the stage says no, removes nothing and leaves the flag true
pub more_than_one_syllable-no : (cs : List ℕ) → more_than_one_syllable cs ≡ false → stage cs ≡ record { removed = 0; yes = false; flag = true }
unfolding stage staged
more_than_one_syllable-no cs s = rw (run-fails branches cs s branches-asks_two)
