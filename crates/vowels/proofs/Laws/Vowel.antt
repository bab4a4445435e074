-- What the code's vowel says of a code point: that it is a vowel, which its number and which its partners are. The partners are the definition's
-- because each vowel has one to four of them, which is computed over the vowels. A number's vowel. Assumes nothing.
use Prim.Native.Nat.{ℕ, zero, suc, ◌≤◌, ◌<◌}
use mathlib.Core.Path.{◌≡◌, refl, sym, ap, ◌∙◌}
use mathlib.Core.Bool.{Bool, true, false, cond, not, ◌&&◌, ◌||◌, false≢true, true≢false, or-false, or_self}
use mathlib.Core.List.{List, [], ◌∷◌}
use native.Mathlib.Omega.{arith}
use lib.ListN.{length, take, drop, length-take, take-append-drop, drop_of_length-le}
use lib.Dec.{eqb, leb, ltb}
use borrow.Author.Tests.{eqb-true, leb-true, ltb-true, ne_eqb}
use Rattle.encoding.proofs.Laws.Booleans.{and_left, and_right}
use Rattle.turkish.specs.Letters.{text, any, has}
use Rattle.turkish.specs.Vowels.{vowels, vowel}
use Rattle.theorems.specs.Simple.Harmony.{partners_in, partner_table, partner, to_first}
use Rattle.theorems.proofs.Laws.Members.{every_append}
use Rattle.theorems.proofs.Laws.Tests.{every, eqb_comm}
use Rattle.std.specs.Prelude.{Some, None, is_some}
use Rattle.std.specs.List.{list_any}
use Rattle.std.proofs.lemmas.Option.{cond_some}
use Rattle.vowels.specs.declared.vowel.Vowel.{Vowel}
use Rattle.vowels.specs.Vowel.{four_of, vowel_of, vowel_numbered, first_vowel_of, numbered_vowel_of}

-- ---- lists of code points ----

-- a test that no character of a list fails passes on each of them
has-passes : (f : ℕ → Bool) (cs : List ℕ) (c : ℕ) → any (λ x. not (f x)) cs ≡ false → has cs c ≡ true → f c ≡ true
unfolding has any
has-passes f [] c h e = absurd (false≢true e)
has-passes f (x ∷ xs) c h e = go (eqb c x) (f x) refl refl (has-passes f xs c)
  where
    go : (s t : Bool) → eqb c x ≡ s → f x ≡ t → (any (λ y. not (f y)) xs ≡ false → has xs c ≡ true → f c ≡ true) → f c ≡ true
    go s false p q k = absurd (true≢false (rw q at h))
    go true true p q k = ap f (eqb-true c x p) ∙ q
    go false true p q k = k (rw q at h) (rw p at e)

-- what std finds in a list of code points is one of them
pub list_any-has : (cs : List ℕ) (c : ℕ) → list_any (λ x. eqb x c) cs ≡ has cs c
unfolding has any
list_any-has [] c = refl
list_any-has (x ∷ xs) c = rw (eqb_comm x c) (ap (λ (b : Bool). eqb c x || b) (unfold has in list_any-has xs c))

-- ---- partners ----

-- one to four partners are all kept
four_of-has : (ps : List ℕ) (c : ℕ) → 0 < length ps → length ps ≤ 4 → has (four_of ps) c ≡ has ps c
unfolding four_of has any
four_of-has [] c h k = absurd (omega arith)
four_of-has (a ∷ []) c h k = simp (or_self, or-false)
four_of-has (a ∷ b ∷ []) c h k = simp (or_self, or-false)
four_of-has (a ∷ b ∷ d ∷ []) c h k = simp (or_self, or-false)
four_of-has (a ∷ b ∷ d ∷ e ∷ []) c h k = simp or-false
four_of-has (a ∷ b ∷ d ∷ e ∷ f ∷ ps) c h k = absurd (omega arith)

-- that a code point has as many
few : ℕ → Bool
few c = leb 1 (length (partners_in partner_table c)) && leb (length (partners_in partner_table c)) 4

-- each vowel has
vowel-few : (c : ℕ) → vowel c ≡ true → few c ≡ true
unfolding vowel vowels text any partners_in partner_table few
vowel-few c e = has-passes few vowels c refl e

-- a vowel's partners are the definition's
four_of-partner : (ch c : ℕ) → vowel ch ≡ true → has (four_of (partners_in partner_table ch)) c ≡ partner ch c
unfolding partner few
four_of-partner ch c e =
    let n : ℕ = length (partners_in partner_table ch) in
    four_of-has (partners_in partner_table ch) c
    (leb-true 1 n (and_left (leb 1 n) (leb n 4) (vowel-few ch e)))
    (leb-true n 4 (and_right (leb 1 n) (leb n 4) (vowel-few ch e)))

-- ---- code points as vowels ----

-- where a test chose nothing, it failed
chosen-none : (t : Bool) (v : Vowel) → cond t (Some v) None ≡ None → t ≡ false
chosen-none false v e = refl
chosen-none true v e = cc

-- where a test chose something, it passed
chosen-some : (t : Bool) (v : Vowel) → is_some (cond t (Some v) None) ≡ t
chosen-some true v = refl
chosen-some false v = refl

module _ (ch : ℕ) where
  -- the code gives a vowel for a vowel
  pub vowel_of-some : is_some (vowel_of ch) ≡ vowel ch
  unfolding vowel_of
  vowel_of-some = chosen-some (vowel ch) _

  -- what it gives none for is none
  pub vowel_of-none : vowel_of ch ≡ None → vowel ch ≡ false
  unfolding vowel_of
  vowel_of-none e = chosen-none (vowel ch) _ e

  module _ (v : Vowel) (e : vowel_of ch ≡ Some v) where
    -- what it gives one for is that vowel
    pub vowel_of-vowel : vowel ch ≡ true
    unfolding vowel_of
    vowel_of-vowel = (cond_some (vowel ch) _ v e).0

    pub vowel_of-ch : v.ch ≡ ch
    unfolding vowel_of
    vowel_of-ch = sym (ap (λ (u : Vowel). u.ch) (cond_some (vowel ch) _ v e).1)

    -- its number is its place among the vowels
    pub vowel_of-number : v.number ≡ to_first (eqb ch) vowels
    unfolding vowel_of
    vowel_of-number = sym (ap (λ (u : Vowel). u.number) (cond_some (vowel ch) _ v e).1)

    -- and its partners are that vowel's
    vowel_of-partner : (c : ℕ) → has v.partners c ≡ partner ch c
    unfolding vowel_of
    vowel_of-partner c = sym (ap (λ (u : Vowel). has u.partners c) (cond_some (vowel ch) _ v e).1) ∙ four_of-partner ch c vowel_of-vowel

-- so of two vowels
pub partner-vowels : (ch d : ℕ) (v u : Vowel) → vowel_of ch ≡ Some v → vowel_of d ≡ Some u → partner ch d ≡ has v.partners u.ch
partner-vowels ch d v u e f = ap (partner ch) (sym (vowel_of-ch d u f)) ∙ sym (vowel_of-partner ch v e u.ch)

-- a code point that is none of the eight vowels is none
pub vowel_of-other : (ch : ℕ) → (ch ≡ 0x61 → ⊥) → (ch ≡ 0x65 → ⊥) → (ch ≡ 0x69 → ⊥) → (ch ≡ 0x6F → ⊥)
    → (ch ≡ 0x75 → ⊥) → (ch ≡ 0xF6 → ⊥) → (ch ≡ 0xFC → ⊥) → (ch ≡ 0x131 → ⊥) → vowel_of ch ≡ None
unfolding vowel_of vowel vowels text has any
vowel_of-other ch a e i o u ö ü ı =
    rw (ne_eqb ch 0x61 a, ne_eqb ch 0x65 e, ne_eqb ch 0x131 ı, ne_eqb ch 0x69 i)
    (rw (ne_eqb ch 0x6F o, ne_eqb ch 0xF6 ö, ne_eqb ch 0x75 u, ne_eqb ch 0xFC ü))

-- ---- numbers ----

-- what every character of a list passes, those of its two parts pass
every-parts : (f : ℕ → Bool) (k : ℕ) (cs : List ℕ) → every f cs ≡ true → (every f (take k cs) ≡ true) × (every f (drop k cs) ≡ true)
every-parts f k cs h =
    let e : every f (take k cs) && every f (drop k cs) ≡ true = rw (← every_append, take-append-drop) h in
    (and_left (every f (take k cs)) (every f (drop k cs)) e, and_right (every f (take k cs)) (every f (drop k cs)) e)

-- what every vowel passes, that of a number passes
pub vowel_numbered-every : (f : ℕ → Bool) (n : ℕ) → every f vowels ≡ true → every f (vowel_numbered n) ≡ true
unfolding vowel_numbered every
vowel_numbered-every f zero h = refl
vowel_numbered-every f (suc k) h = (every-parts f 1 (drop k vowels) (every-parts f k vowels h).1).0

-- a number has one vowel at most
pub vowel_numbered-length : (n : ℕ) → length (vowel_numbered n) ≤ 1
unfolding vowel_numbered
vowel_numbered-length zero = omega arith
vowel_numbered-length (suc k) = omega (arith, length-take 1 (drop k vowels))

-- one that is past the vowels has none, and neither has 0
vowel_numbered-none : (n : ℕ) → (0 < n → 8 < n) → vowel_numbered n ≡ []
unfolding vowel_numbered vowels text
vowel_numbered-none zero h = refl
vowel_numbered-none (suc k) h =
    let l : 8 < suc k = h (omega arith) in
    rw (drop_of_length-le vowels {i = k} (omega arith))

-- so the code gives none for it
pub numbered_vowel_of-past : (n : ℕ) → (0 < n → 8 < n) → numbered_vowel_of n ≡ None
unfolding numbered_vowel_of first_vowel_of
numbered_vowel_of-past n h = rw (vowel_numbered-none n h)

-- vowels that it gives none for are none
first_vowel_of-none : (cs : List ℕ) → every vowel cs ≡ true → first_vowel_of cs ≡ None → cs ≡ []
unfolding first_vowel_of every
first_vowel_of-none [] h e = refl
first_vowel_of-none (c ∷ cs) h e = absurd (true≢false (sym (and_left (vowel c) (every vowel cs) h) ∙ vowel_of-none c e))

-- one code point that it gives one for is that vowel
first_vowel_of-some : (cs : List ℕ) (v : Vowel) → length cs ≤ 1 → first_vowel_of cs ≡ Some v → cs ≡ v.ch ∷ []
unfolding first_vowel_of
first_vowel_of-some [] v l e = cc
first_vowel_of-some (c ∷ []) v l e = ap (λ (d : ℕ). d ∷ []) (sym (vowel_of-ch c v e))
first_vowel_of-some (c ∷ d ∷ cs) v l e = absurd (omega arith)

-- what a number has is a vowel
vowel_numbered-vowel : (n : ℕ) → every vowel (vowel_numbered n) ≡ true
vowel_numbered-vowel n = vowel_numbered-every vowel n (unfold every vowel vowels text has any in refl)

module _ (n : ℕ) where
  -- a number that it gives none for has none
  pub numbered_vowel_of-none : numbered_vowel_of n ≡ None → vowel_numbered n ≡ []
  unfolding numbered_vowel_of
  numbered_vowel_of-none e = first_vowel_of-none (vowel_numbered n) (vowel_numbered-vowel n) e

  -- and one that it gives one for has that vowel
  pub numbered_vowel_of-some : (v : Vowel) → numbered_vowel_of n ≡ Some v → vowel_numbered n ≡ v.ch ∷ []
  unfolding numbered_vowel_of
  numbered_vowel_of-some v e = first_vowel_of-some (vowel_numbered n) v (vowel_numbered-length n) e

  -- whose code point is a vowel
  pub numbered_vowel_of-vowel : (v : Vowel) → numbered_vowel_of n ≡ Some v → vowel v.ch ≡ true
  unfolding every
  numbered_vowel_of-vowel v e = and_left (vowel v.ch) true (rw (numbered_vowel_of-some v e) at (vowel_numbered-vowel n))

-- ---- bytes ----

-- a vowel is a character of two bytes at most
pub vowel-short : (ch : ℕ) → vowel ch ≡ true → ch < 0x800
unfolding vowel vowels text any
vowel-short ch e = ltb-true ch 0x800 (has-passes (λ c. ltb c 0x800) vowels ch refl e)
