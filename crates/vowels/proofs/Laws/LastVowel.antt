-- The walk to the last vowel: what a turn does to its answer, and what stands before the place that it gives. Assumes nothing.
use Prim.Native.Nat.{ℕ, ◌-◌, ◌≤◌}
use mathlib.Core.Path.{◌≡◌, refl, sym, ap, ◌∙◌}
use mathlib.Core.Bool.{Bool, true, false, cond, not, ◌||◌, true≢false, false≢true}
use mathlib.Core.List.{List, [], ◌∷◌}
use lib.Dec.{eqb}
use borrow.Author.Tests.{ne_eqb, eqb-true}
use Rattle.std.specs.Prelude.{Option, Some, None, is_some}
use Rattle.std.proofs.lemmas.Option.{cond_some}
use Rattle.encoding.proofs.Laws.Booleans.{not-eq-true}
use Rattle.utf8.specs.Characters.{last_width_of, before, back}
use Rattle.utf8.proofs.Laws.Characters.{before-zero, before_back, back-le}
use Rattle.turkish.specs.Letters.{any, has, text}
use Rattle.turkish.specs.Vowels.{vowels, vowel, last_vowel_of, before_last_vowel}
use Rattle.theorems.specs.Simple.Harmony.{to_first, more_than_one_syllable}
use Rattle.theorems.proofs.Laws.Harmony.{drop-to_vowel}
use Rattle.vowels.specs.declared.walk.LastVowel.{LastVowel}
use Rattle.vowels.specs.LastVowel.{last_vowel_answer}

-- an answer of the walk
abbrev found : ℕ → ℕ → Option LastVowel
found v at = Some (record { ch = v; at = at })

-- ---- a turn ----

module _ (w : List ℕ) (at n ch : ℕ) (width : n ≡ last_width_of w at) (step : before w at ≡ ch ∷ before w (at - n)) where
  -- a character that is no vowel is skipped
  pub last_vowel_answer-skips : vowel ch ≡ false → last_vowel_answer w (at - n) ≡ last_vowel_answer w at
  unfolding last_vowel_answer last_vowel_of to_first any back
  last_vowel_answer-skips d = rw (step, d, width)

  -- a vowel ends the walk
  pub last_vowel_answer-stops : vowel ch ≡ true → found ch (at - n) ≡ last_vowel_answer w at
  unfolding last_vowel_answer last_vowel_of to_first any back
  last_vowel_answer-stops d = rw (step, d, width)

-- there is none at the word's start
pub last_vowel_answer-none : (w : List ℕ) (at : ℕ) → at ≡ 0 → None ≡ last_vowel_answer w at
unfolding last_vowel_answer any
last_vowel_answer-none w at e = rw (e, before-zero w)

-- ---- what it gives ----

-- there is one where some character is a vowel
last_vowel_answer-any : (w : List ℕ) (c : ℕ) → is_some (last_vowel_answer w c) ≡ any vowel (before w c)
unfolding last_vowel_answer
last_vowel_answer-any w c = some-test (any vowel (before w c)) _
  where
    some-test : (t : Bool) (x : LastVowel) → is_some (cond t (Some x) None) ≡ t
    some-test true x = refl
    some-test false x = refl

-- of two tests of which none passes each fails
neither : (a b : Bool) → a || b ≡ false → (a ≡ false) × (b ≡ false)
neither true b e = absurd (true≢false e)
neither false b e = (refl, e)

-- the last vowel is not 0 where one of the characters is a vowel
any-last_vowel_of : (cs : List ℕ) → not (eqb (last_vowel_of cs) 0) ≡ any vowel cs
unfolding last_vowel_of any
any-last_vowel_of [] = refl
any-last_vowel_of (c ∷ cs) = go (vowel c) refl (any-last_vowel_of cs)
  where
    go : (t : Bool) → vowel c ≡ t → not (eqb (last_vowel_of cs) 0) ≡ any vowel cs → not (eqb (cond t c (last_vowel_of cs)) 0) ≡ t || any vowel cs
    go true e h = ap not (ne_eqb c 0 (λ z. false≢true (unfold vowel vowels has text in sym (ap vowel z) ∙ e)))
    go false e h = h

-- so it is 0 where the walk finds none
pub last_vowel_answer-zero : (w : List ℕ) (c : ℕ) → last_vowel_answer w c ≡ None → last_vowel_of (before w c) ≡ 0
last_vowel_answer-zero w c e =
    eqb-true _ 0 (not-eq-true _ (any-last_vowel_of (before w c) ∙ sym (last_vowel_answer-any w c) ∙ ap is_some e))

-- an answer l of the walk from place c
module _ (w : List ℕ) (c : ℕ) (l : LastVowel) (e : last_vowel_answer w c ≡ Some l) where
  chosen : (any vowel (before w c) ≡ true) × (record { ch = last_vowel_of (before w c); at = back w c (to_first vowel (before w c)) } ≡ l)
  unfolding last_vowel_answer
  chosen = cond_some _ _ l e

  -- its vowel is the last one
  pub last-ch : l.ch ≡ last_vowel_of (before w c)
  last-ch = sym (ap (λ (x : LastVowel). x.ch) chosen.1)

  -- its place does not lie past c
  pub last-at-le : l.at ≤ c
  last-at-le = rw (← chosen.1) (back-le w c (to_first vowel (before w c)))

  -- before its place stands what is before the last vowel
  pub last-before_last_vowel : before w l.at ≡ before_last_vowel (before w c)
  last-before_last_vowel = rw (← chosen.1) (before_back w c (to_first vowel (before w c)) ∙ drop-to_vowel (before w c))

-- ---- two vowels ----

-- without a vowel there are not two
more_than_one_syllable-none : (cs : List ℕ) → any vowel cs ≡ false → more_than_one_syllable cs ≡ false
unfolding more_than_one_syllable before_last_vowel any
more_than_one_syllable-none [] e = refl
more_than_one_syllable-none (c ∷ cs) e =
    let none = neither (vowel c) (any vowel cs) e in
    rw none.0 (unfold more_than_one_syllable in more_than_one_syllable-none cs none.1)

-- so there are none where the walk finds none
pub last_vowel_answer-alone : (w : List ℕ) (c : ℕ) → last_vowel_answer w c ≡ None → false ≡ more_than_one_syllable (before w c)
last_vowel_answer-alone w c e =
    sym (more_than_one_syllable-none (before w c) (sym (last_vowel_answer-any w c) ∙ ap is_some e))

-- and two where a walk from the last one's place finds another
pub last_vowel_answer-other : (w : List ℕ) (c : ℕ) (l : LastVowel) → last_vowel_answer w c ≡ Some l
    → is_some (last_vowel_answer w l.at) ≡ more_than_one_syllable (before w c)
unfolding more_than_one_syllable
last_vowel_answer-other w c l e = last_vowel_answer-any w l.at ∙ ap (any vowel) (last-before_last_vowel w c l e)
