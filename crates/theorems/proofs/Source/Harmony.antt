-- check_vowel_harmony and mark_suffix_with_optional_y_consonant are the simple forms of Harmony and Grammar, and so is any routine that has
-- the form of the latter. Assumes nothing.
use Prim.Native.Nat.{ℕ}
use Prim.Native.String.{String}
use mathlib.Core.Path.{◌≡◌, refl, ap, ◌∙◌}
use mathlib.Core.Bool.{Bool, true, false, cond, ◌||◌, and-true, or-false, false≢true}
use mathlib.Core.Bool as Bool
use mathlib.Core.List.{List, [], ◌∷◌}
use lib.ListN.{length, drop}
use lib.Dec.{eqb}
use borrow.Author.Tests.{eqb-true}
use Rattle.turkish.specs.Letters.{text, from_end, any, has, starts}
use Rattle.turkish.specs.Vowels.{vowels, vowel, last_vowel_of, before_last_vowel}
use Rattle.theorems.specs.Simple.Harmony.{partner_table, partners_in, partner, to_first, harmony}
use Rattle.theorems.specs.Simple.Grammar.{Out, fail, more, after, first, optional}
use Rattle.turkish.specs.Snowball.{is_in, is_left, backward, letters, Command, ◌then◌, ◌or◌, test, not, goto, next, literal, grouping}
use Rattle.turkish.specs.Source.{vowel1, vowel2, vowel3, vowel4, vowel5, vowel6, check_vowel_harmony, mark_suffix_with_optional_y_consonant}
use Rattle.turkish.specs.Source as Source
use Rattle.theorems.proofs.Laws.Harmony.{harmony-any, before_last_vowel-none, last_vowel_of-vowel}
use Rattle.theorems.proofs.Laws.Outcome.{first-fail}
use Rattle.theorems.proofs.Laws.Tests.{eqb_comm}
use Rattle.theorems.proofs.Source.Means.{Means, means-define, means-as, means-then, means-or, means-test, means-not, means-next, means-literal, means-grouping}
use Rattle.theorems.proofs.Source.Means.{take_if, peeked, denied}
use Rattle.theorems.proofs.Source.LastVowel.{walk, means-walk, walk-to_first, means-test-goto-vowel}

-- ---- harmony ----

-- what holds of each of some characters
infixr 30 ◌⊹◌
pub data Each (P : ℕ → Type 0) : List ℕ → Type 0 where
  none : Each P []
  ◌⊹◌ : {c : ℕ} {cs : List ℕ} → P c → Each P cs → Each P (c ∷ cs)

-- holds of whatever is one of them
pub each-has : {P : ℕ → Type 0} {xs : List ℕ} (c : ℕ) → Each P xs → has xs c ≡ true → P c
unfolding has any
each-has c none h = absurd (false≢true h)
each-has {P} c (◌⊹◌ {c = x} {cs = xs} p ps) h = go (eqb c x) refl (each-has c ps) h
  where
    go : (t : Bool) → eqb c x ≡ t → (has xs c ≡ true → P c) → t || has xs c ≡ true → P c
    go true e r h = rw (eqb-true c x e) p
    go false e r h = r h

-- the commands of lines 116 to 123: the vowel, then a walk to one of its partners
unfoldable pub partner_ahead : String → String → List ℕ → Out
partner_ahead v g cs = after (take_if (starts (letters backward v) cs) (length (letters backward v))) (λ k. walk (text g) (drop k cs))

-- all eight
unfoldable pub partners : List ℕ → Out
partners cs =
    first (partner_ahead "a" vowel1 cs) (first (partner_ahead "e" vowel2 cs) (first (partner_ahead "ı" vowel3 cs) (first (partner_ahead "i" vowel4 cs)
    (first (partner_ahead "o" vowel5 cs) (first (partner_ahead "ö" vowel6 cs) (first (partner_ahead "u" vowel5 cs) (partner_ahead "ü" vowel6 cs)))))))

-- where the one of them that begins with the vowel fails, the others fail
partner-else : (g cs : List ℕ) → first (more 1 true (walk g cs)) fail ≡ take_if (any (has g) cs) (to_first (has g) cs)
partner-else g cs = first-fail (more 1 true (walk g cs)) ∙ walk-to_first g cs

-- so at a vowel they go as far as its first partner behind it
pub partners-vowel : (cs : List ℕ) (c : ℕ) → vowel c ≡ true → partners (c ∷ cs) ≡ take_if (any (partner c) cs) (to_first (partner c) cs)
unfolding vowel vowels partners partner_ahead letters from_end text starts take_if after first partner partners_in partner_table
partners-vowel cs c h =
    each-has {P = λ c. partners (c ∷ cs) ≡ take_if (any (partner c) cs) (to_first (partner c) cs)} c
    (partner-else (text vowel1) cs ⊹ partner-else (text vowel2) cs ⊹ partner-else (text vowel3) cs ⊹ partner-else (text vowel4) cs
    ⊹ partner-else (text vowel5) cs ⊹ partner-else (text vowel6) cs ⊹ partner-else (text vowel5) cs ⊹ walk-to_first (text vowel6) cs ⊹ none) h

-- and behind a walk to the last vowel they test that there is harmony
partners-last : (cs : List ℕ) → cond (any vowel cs) (peeked (partners (last_vowel_of cs ∷ before_last_vowel cs))) fail ≡ take_if (harmony cs) 0
unfolding take_if peeked any
partners-last cs = rw (harmony-any cs) (go (any vowel cs) refl)
  where
    looked : (b : Bool) (n : ℕ) → peeked (take_if b n) ≡ take_if b 0
    looked true n = refl
    looked false n = refl

    go : (t : Bool) → any vowel cs ≡ t
        → cond t (peeked (partners (last_vowel_of cs ∷ before_last_vowel cs))) fail ≡ take_if (any (partner (last_vowel_of cs)) (before_last_vowel cs)) 0
    go true e =
        let some = any (partner (last_vowel_of cs)) (before_last_vowel cs) in
        ap peeked (partners-vowel (before_last_vowel cs) (last_vowel_of cs) (last_vowel_of-vowel cs e)) ∙ looked some (to_first (partner (last_vowel_of cs)) (before_last_vowel cs))
    go false e = rw (before_last_vowel-none cs e)

-- a line of the source, from 116 to 123
abbrev pub line : String → String → Command
line v g = literal v then goto (grouping g)

-- and all eight
abbrev pub lines : Command
lines = line "a" vowel1 or line "e" vowel2 or line "ı" vowel3 or line "i" vowel4 or line "o" vowel5 or line "ö" vowel6 or line "u" vowel5 or line "ü" vowel6

-- each means a vowel and a walk to one of its partners
line-means : (v g : String) → Means backward (line v g) (partner_ahead v g)
unfolding partner_ahead
line-means v g = means-then (means-literal v) (means-walk g)

-- and all eight the first of them that does not fail
pub lines-mean : Means backward lines partners
unfolding partners
lines-mean =
    means-or (line-means "a" vowel1) (means-or (line-means "e" vowel2) (means-or (line-means "ı" vowel3) (means-or (line-means "i" vowel4)
    (means-or (line-means "o" vowel5) (means-or (line-means "ö" vowel6) (means-or (line-means "u" vowel5) (line-means "ü" vowel6)))))))

-- check_vowel_harmony takes nothing and succeeds where there is harmony
pub harmony-means : Means backward check_vowel_harmony (λ cs. take_if (harmony cs) 0)
unfolding check_vowel_harmony
harmony-means = means-define _ (means-as (means-test-goto-vowel lines-mean) partners-last)

-- ---- an optional letter ----

-- a vowel is ahead, or a character that is none
unfoldable pub vowel_or_not : Bool → List ℕ → Bool
vowel_or_not vowelled [] = false
vowel_or_not vowelled (d ∷ ds) = cond vowelled (vowel d) (Bool.not (vowel d))

-- the form of lines 154 and 156: the letter and what must stand before it, or no letter and one character more
unfoldable with_or_without : (List ℕ → Bool) → (List ℕ → Bool) → List ℕ → Out
with_or_without letter before cs =
    first (after (take_if (letter cs) 1) (λ k. peeked (take_if (before (drop k cs)) 1)))
    (after (denied (peeked (take_if (letter cs) 1)))
    (λ k. peeked (after (take_if (is_left (drop k cs)) 1) (λ j. take_if (before (drop j (drop k cs))) 1))))

-- with a letter and without one, the second character back must be of the right kind
with_or_without-same : (ls : List ℕ) (v : Bool) (cs : List ℕ) → with_or_without (is_in ls) (vowel_or_not v) cs ≡ optional ls v cs
unfolding with_or_without first after denied peeked take_if is_in is_left vowel_or_not optional more
with_or_without-same ls v [] = refl
with_or_without-same ls v (c ∷ []) = go (has ls c) refl
  where
    go : (t : Bool) → has ls c ≡ t → with_or_without (is_in ls) (vowel_or_not v) (c ∷ []) ≡ fail
    go true e = rw e
    go false e = rw e
with_or_without-same ls v (c ∷ d ∷ cs) = go (has ls c) (vowel_or_not v (d ∷ cs)) refl refl
  where
    go : (t u : Bool) → has ls c ≡ t → vowel_or_not v (d ∷ cs) ≡ u → with_or_without (is_in ls) (vowel_or_not v) (c ∷ d ∷ cs) ≡ optional ls v (c ∷ d ∷ cs)
    go true true e h = rw (e, h)
    go true false e h = rw (e, h)
    go false true e h = rw (e, h)
    go false false e h = rw (e, h)

-- so a routine of that form is the simple form's one clause, whatever reads the letter and what must stand before it
pub optional-means : {p q : Command} (ls : List ℕ) (v : Bool)
    → Means backward p (λ cs. take_if (is_in ls cs) 1) → Means backward q (λ cs. take_if (vowel_or_not v cs) 1)
    → Means backward ((p then (test q)) or ((not (test p)) then test (next then q))) (optional ls v)
unfolding with_or_without
optional-means ls v x y =
    means-as (means-or (means-then x (means-test y)) (means-then (means-not (means-test x)) (means-test (means-then means-next y)))) (with_or_without-same ls v)

-- a literal of one letter reads a letter
pub letter-means : (l : String) (c : ℕ) → text l ≡ c ∷ [] → Means backward (literal l) (λ cs. take_if (is_in (text l) cs) 1)
unfolding letters from_end starts is_in has any
letter-means l c e = means-as (means-literal l) (λ cs. rw e (go cs))
  where
    go : (cs : List ℕ) → take_if (starts (c ∷ []) cs) 1 ≡ take_if (is_in (c ∷ []) cs) 1
    go [] = refl
    go (x ∷ cs) = rw (eqb_comm c x, and-true (eqb x c), or-false (eqb x c))

-- and the grouping of the vowels reads a vowel
pub vowel-means : Means backward (grouping Source.vowel) (λ cs. take_if (vowel_or_not true cs) 1)
unfolding is_in vowel_or_not vowel vowels
vowel-means = means-as (means-grouping Source.vowel) (λ cs. ap (λ (t : Bool). take_if t 1) (go cs))
  where
    go : (cs : List ℕ) → is_in vowels cs ≡ vowel_or_not true cs
    go [] = refl
    go (c ∷ cs) = refl

-- so is the optional y's routine
pub optional_y-means : Means backward mark_suffix_with_optional_y_consonant (optional (text "y") true)
unfolding mark_suffix_with_optional_y_consonant
optional_y-means = means-define _ (optional-means (text "y") true (letter-means "y" 0x79 (unfold text in refl)) vowel-means)
