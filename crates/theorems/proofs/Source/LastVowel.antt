-- The source's walk to a character of a grouping, `goto`, in the words of the simple form: it fails exactly where there is none, and else
-- stops before the first. So `goto vowel` stops where the last vowel and what stands before it are ahead. Assumes nothing.
use Prim.Native.Nat.{ℕ, suc, ◌+◌, ◌-◌}
use Prim.Native.String.{String}
use mathlib.Core.Path.{◌≡◌, refl, ap, ◌∙◌}
use mathlib.Core.Bool.{Bool, true, false, cond, ◌||◌}
use mathlib.Core.List.{List, [], ◌∷◌}
use native.Mathlib.Omega.{arith}
use lib.ListN.{drop}
use Rattle.turkish.specs.Letters.{text, any, has}
use Rattle.turkish.specs.Snowball.{ahead, is_in, Direction, Command, ◌then◌, test, goto, grouping}
use Rattle.turkish.specs.Source as source
use Rattle.turkish.specs.Vowels.{vowels, vowel, last_vowel_of, before_last_vowel}
use Rattle.theorems.specs.Simple.Harmony.{to_first}
use Rattle.theorems.specs.Simple.Grammar.{Out, fail, took, more, after, first}
use Rattle.theorems.proofs.Laws.Harmony.{drop-last_vowel_of}
use Rattle.theorems.proofs.Source.Means.{placed, Means, peeked, peeked-more, take_if, more-take_if, sought, means-then, means-test, means-grouping, means-goto}

-- ---- a walk to a character of a grouping ----

-- the walk of `goto`: nothing is taken where a character of the grouping stands
unfoldable pub walk : List ℕ → List ℕ → Out
walk g cs = sought (λ cs. peeked (take_if (is_in g cs) 1)) cs

-- it is what `goto` means
pub means-walk : {d : Direction} (g : String) → Means d (goto (grouping g)) (walk (text g))
unfolding walk
means-walk g = means-goto (means-grouping g)

-- with the character that it stops at, it goes as far as the first of the grouping, and fails where there is none
pub walk-to_first : (g cs : List ℕ) → more 1 true (walk g cs) ≡ take_if (any (has g) cs) (to_first (has g) cs)
unfolding walk sought is_in take_if peeked first more any to_first
walk-to_first g [] = refl
walk-to_first g (c ∷ cs) = go (has g c) (any (has g) cs) (walk-to_first g cs)
  where
    go : (t b : Bool) → more 1 true (walk g cs) ≡ take_if b (to_first (has g) cs)
        → more 1 true (first (peeked (take_if t 1)) (more 1 true (walk g cs))) ≡ take_if (t || b) (suc (cond t 0 (to_first (has g) cs)))
    go true b r = refl
    go false b r = ap (more 1 true) r ∙ more-take_if b (to_first (has g) cs)

-- so it goes as far as the one before it
pub walk-stops : (g cs : List ℕ) → walk g cs ≡ take_if (any (has g) cs) (to_first (has g) cs - 1)
unfolding more take_if
walk-stops g cs = go (walk g cs) (any (has g) cs) (to_first (has g) cs) (walk-to_first g cs)
  where
    go : (o : Out) (t : Bool) (n : ℕ) → more 1 true o ≡ take_if t n → o ≡ take_if t (n - 1)
    go fail true n e = cc
    go fail false n e = refl
    go (took k f) true n e = let i : 1 + k ≡ n = cc in let j : k ≡ n - 1 = omega arith in cc
    go (took k f) false n e = cc

-- ---- the walk to the last vowel ----

-- with a vowel, it stops before the last
pub walk-vowel : (cs : List ℕ) → any vowel cs ≡ true → walk vowels cs ≡ took (to_first vowel cs - 1) true
unfolding take_if vowel
walk-vowel cs e = walk-stops vowels cs ∙ ap (λ (b : Bool). take_if b (to_first vowel cs - 1)) e

-- a look that begins with it sees the last vowel and what stands before it, and fails where there is no vowel
peeked-walk : (f : List ℕ → Out) (cs : List ℕ)
    → peeked (after (walk vowels cs) (λ k. f (drop k cs))) ≡ cond (any vowel cs) (peeked (f (last_vowel_of cs ∷ before_last_vowel cs))) fail
unfolding after peeked take_if vowel
peeked-walk f cs = ap (λ o. peeked (after o (λ k. f (drop k cs)))) (walk-stops vowels cs) ∙ go (any vowel cs) refl
  where
    go : (t : Bool) → any vowel cs ≡ t
        → peeked (after (take_if t (to_first vowel cs - 1)) (λ k. f (drop k cs))) ≡ cond t (peeked (f (last_vowel_of cs ∷ before_last_vowel cs))) fail
    go true e = peeked-more (to_first vowel cs - 1) true (f (drop (to_first vowel cs - 1) cs)) ∙ ap (λ ds. peeked (f ds)) (drop-last_vowel_of cs e)
    go false e = refl

-- so does the test of a command that begins with it
pub means-test-goto-vowel : {d : Direction} {p : Command} {f : List ℕ → Out} → Means d p f
    → Means d (test (goto (grouping source.vowel) then p)) (λ cs. cond (any vowel cs) (peeked (f (last_vowel_of cs ∷ before_last_vowel cs))) fail)
unfolding vowels
means-test-goto-vowel {f = f} x =
    record { on-state = λ self s. (means-test (means-then (means-walk source.vowel) x)).on-state self s ∙ ap (placed s) (peeked-walk f (ahead s)) }
