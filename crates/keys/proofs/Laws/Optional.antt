-- An optional letter before a key by the two characters that it looks at; 0 stands for none. The second must be there, and of the right kind:
-- a vowel, or a character that is none. Assumes nothing.
use Prim.Native.Nat.{ℕ, ◌+◌}
use mathlib.Core.Path.{◌≡◌, refl, sym, ap, ◌∙◌}
use mathlib.Core.Bool.{Bool, true, false, cond, not, ◌||◌, or-false, false≢true}
use mathlib.Core.List.{List, [], ◌∷◌}
use native.Mathlib.Omega.{arith}
use lib.ListN.{drop, get_or}
use lib.Dec.{eqb}
use Rattle.utf8.specs.declared.cursor.Cursor.{Cursor}
use Rattle.utf8.specs.declared.characters.Read.{Read}
use Rattle.utf8.specs.Characters.{before}
use Rattle.utf8.specs.Behind.{read_back_of, behind, Open}
use Rattle.utf8.proofs.Laws.Characters.{before-zero, before-step, before_back}
use Rattle.utf8.proofs.Laws.Behind.{back_by-zero}
use Rattle.turkish.specs.Letters.{text, any, has}
use Rattle.turkish.specs.Source.{U}
use Rattle.turkish.specs.Vowels.{vowels, vowel}
use Rattle.theorems.specs.Simple.Grammar.{fail, took, optional}
use Rattle.keys.specs.Ends.{is_U_of}
use Rattle.std.specs.Prelude.{Some, None}
use Rattle.keys.specs.Passed.{passes}
use Rattle.utf8.proofs.Laws.Part.{part_from}
use Rattle.keys.proofs.Laws.Reads.{low, at, first-ch, first-at, first-place, second-ch}

-- ---- the letters ----

-- one letter
pub has_one : (l c : ℕ) → eqb c l ≡ has (l ∷ []) c
unfolding has any
has_one l c = sym (or-false (eqb c l))

-- four tests in another order
four : (i u ı ü : Bool) → (i || u) || (ı || ü) ≡ ı || (i || (u || (ü || false)))
four true u true ü = refl
four true u false ü = refl
four false true true ü = refl
four false true false ü = refl
four false false true ü = refl
four false false false ü = sym (or-false ü)

-- the letters of U
pub has-U : (c : ℕ) → is_U_of c ≡ has (text U) c
unfolding is_U_of has any text
has-U c = four (eqb c 0x69) (eqb c 0x75) (eqb c 0x131) (eqb c 0xFC)

-- ---- by the characters ----

module _ (letters : List ℕ) (vowelled : Bool) where
  -- without a second character it fails
  optional-short : (cs : List ℕ) → drop 1 cs ≡ [] → optional letters vowelled cs ≡ fail
  unfolding optional
  optional-short [] e = refl
  optional-short (c ∷ []) e = refl
  optional-short (c ∷ d ∷ cs) e = let z : ◌≡◌ {A = ℕ} 0 1 = cc in absurd (omega arith)

  -- and where the second is not of the right kind
  optional-wrong : (cs : List ℕ) → cond vowelled (vowel (get_or cs 1 0)) (not (vowel (get_or cs 1 0))) ≡ false → optional letters vowelled cs ≡ fail
  unfolding optional
  optional-wrong [] e = refl
  optional-wrong (c ∷ []) e = refl
  optional-wrong (c ∷ d ∷ cs) e = rw e

  -- else it takes the letter if it stands there
  optional-right : (cs : List ℕ) → (drop 1 cs ≡ [] → ⊥) → cond vowelled (vowel (get_or cs 1 0)) (not (vowel (get_or cs 1 0))) ≡ true
      → optional letters vowelled cs ≡ took (cond (has letters (get_or cs 0 0)) 1 0) true
  unfolding optional
  optional-right [] n e = absurd (n refl)
  optional-right (c ∷ []) n e = absurd (n refl)
  optional-right (c ∷ d ∷ cs) n e = rw e

-- one letter behind a vowel
pub optional-get_or : (l : ℕ) (cs : List ℕ) → optional (l ∷ []) true cs ≡ cond (vowel (get_or cs 1 0)) (took (cond (eqb (get_or cs 0 0) l) 1 0) true) fail
unfolding optional vowel vowels has any text
optional-get_or l [] = refl
optional-get_or l (c ∷ []) = refl
optional-get_or l (c ∷ v ∷ cs) = rw (or-false (eqb c l))

-- 0 is no vowel, so a second character that is one is there
vowel-there : (cs : List ℕ) → vowel (get_or cs 1 0) ≡ true → drop 1 cs ≡ [] → ⊥
unfolding vowel vowels has any text
vowel-there [] v e = false≢true v
vowel-there (c ∷ []) v e = false≢true v
vowel-there (c ∷ d ∷ cs) v e = let z : ◌≡◌ {A = ℕ} 0 1 = cc in omega arith

-- ---- as the code reads the two characters ----

module _ (w : List ℕ) (c : Cursor) {a : Read} (a-is : a ≡ read_back_of (part_from w (low w c)) (at w c)) where
  -- before the first stands all but that
  before-first : before (drop (low w c) w) a.at ≡ drop 1 (behind w c)
  unfolding behind
  before-first = ap (before (drop (low w c) w)) (first-at w c a-is) ∙ before_back (drop (low w c) w) (at w c) 1

  -- nothing, where it begins the part
  first_alone : a.at ≡ 0 → drop 1 (behind w c) ≡ []
  first_alone e = sym before-first ∙ ap (before (drop (low w c) w)) e ∙ before-zero (drop (low w c) w)

  -- a character, where it does not
  pub second-there : (a.at ≡ 0 → ⊥) → drop 1 (behind w c) ≡ [] → ⊥
  second-there n e =
      let some = before-step (drop (low w c) w) a.at (omega arith) in
      let none = before-first ∙ e in
      let z : ◌≡◌ {A = ℕ} 0 1 = cc in omega arith

  -- with nothing before the first character an optional letter fails
  pub passes-short : (letters : List ℕ) (vowelled : Bool) → a.at ≡ 0 → None ≡ passes w c (optional letters vowelled (behind w c))
  unfolding passes
  passes-short letters vowelled e = sym (ap (passes w c) (optional-short letters vowelled (behind w c) (first_alone e)))

  module _ {b : Read} (b-is : b ≡ read_back_of (part_from w (low w c)) a.at) where
    -- a second character that is a vowel is there
    pub second-vowel : vowel b.ch ≡ true → drop 1 (behind w c) ≡ [] → ⊥
    second-vowel v = vowel-there (behind w c) (ap vowel (sym (second-ch w c a-is b-is)) ∙ v)

    module _ (letters : List ℕ) (vowelled : Bool) where
      -- with a second of the wrong kind it fails
      pub passes-wrong : cond vowelled (vowel b.ch) (not (vowel b.ch)) ≡ false → None ≡ passes w c (optional letters vowelled (behind w c))
      unfolding passes
      passes-wrong e = sym (ap (passes w c) (optional-wrong letters vowelled (behind w c) (rw (second-ch w c a-is b-is) at e)))

      module _ (there : drop 1 (behind w c) ≡ [] → ⊥) (right : cond vowelled (vowel b.ch) (not (vowel b.ch)) ≡ true) where
        -- with one of the right kind it fits, and takes the letter
        takes : optional letters vowelled (behind w c) ≡ took (cond (has letters (get_or (behind w c) 0 0)) 1 0) true
        takes = optional-right letters vowelled (behind w c) there (rw (second-ch w c a-is b-is) at right)

        -- the letter joins
        pub passes-joined : has letters a.ch ≡ true → Some (low w c + a.at) ≡ passes w c (optional letters vowelled (behind w c))
        unfolding passes
        passes-joined s =
            let stands = rw (first-ch w c a-is) at s in
            let one : took (cond (has letters (get_or (behind w c) 0 0)) 1 0) true ≡ took 1 true = rw stands in
            ap Some (first-place w c a-is) ∙ sym (ap (passes w c) (takes ∙ one))

        -- and without it the record stays
        pub passes-free : Open w c → has letters a.ch ≡ false → Some c.cursor ≡ passes w c (optional letters vowelled (behind w c))
        unfolding passes
        passes-free o n =
            let stands-not = rw (first-ch w c a-is) at n in
            let none : took (cond (has letters (get_or (behind w c) 0 0)) 1 0) true ≡ took 0 true = rw stands-not in
            ap (λ (r : Cursor). Some r.cursor) (sym (back_by-zero w c o)) ∙ sym (ap (passes w c) (takes ∙ none))
