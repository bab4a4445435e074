-- The postlude's pieces by the tests that decide them: the reserved words, the vowel gained, the consonant hardened, what is seen from
-- the end, the repair. Assumes nothing.
use Prim.Native.Nat.{ℕ, ◌≤◌, ◌<◌}
use mathlib.Core.Path.{◌≡◌, refl, sym, ap, ◌∙◌}
use mathlib.Core.Logic.{◌⊎◌, inl, inr, ⊎_elim}
use mathlib.Core.Bool.{Bool, true, false, cond, ◌||◌, or-false, false≢true}
use mathlib.Core.List.{List, [], ◌∷◌}
use native.Mathlib.Omega.{arith}
use lib.ListN.{length, take, drop, get_or}
use lib.Dec.{eqb}
use borrow.Author.Tests.{eqb-true, eqb-false, eq-eqb, ne_eqb}
use Rattle.std.specs.Cmp.Lexicographic.{pointwise}
use Rattle.encoding.proofs.Laws.Booleans.{cond_both}
use Rattle.utf8.specs.Characters.{before}
use Rattle.utf8.proofs.Laws.Characters.{back-le, before_back}
use Rattle.utf8.proofs.Laws.Behind.{behind-before, back_by-back, open-start}
use Rattle.turkish.specs.Letters.{text, from_end, any, has, starts}
use Rattle.turkish.specs.Vowels.{last_vowel_of, vowels, vowel}
use Rattle.theorems.specs.Simple.Postlude.{reserved, gained, hardenings, hard_in, hard}
use Rattle.theorems.proofs.PostludeRules.{gained-elim}
use Rattle.keys.specs.declared.seen.Seen.{Seen}
use Rattle.repairs.specs.declared.postlude.Repair.{Repair}
use Rattle.keys.specs.Seen.{seen_at, Sees}
use Rattle.std.specs.Prelude.{Some, None}
use Rattle.repairs.specs.Repairs.{ending, unchanged, followed, gain, appended, hardened, repair_of}
use Rattle.keys.proofs.Laws.Literal.{ascii}
use Rattle.repairs.proofs.Laws.LiteralWhole.{front-is}

-- ---- a choice ----

-- what holds of both numbers holds of the one that it is
pub either_number : (P : ℕ → Type 0) (v a b : ℕ) → (v ≡ a) ⊎ (v ≡ b) → P a → P b → P v
either_number P v a b (inl e) p q = rw e p
either_number P v a b (inr e) p q = rw e q

-- a number that is neither is not among them
has-neither : (v a b : ℕ) → (v ≡ a → ⊥) → (v ≡ b → ⊥) → has (a ∷ b ∷ []) v ≡ false
unfolding has any
has-neither v a b p q = rw (ne_eqb v a p, ne_eqb v b q)

-- ---- the reserved words ----

-- the characters before a place are a reserved word where the bytes before it are
pub reserved-front : (w : List ℕ) (n : ℕ) → n ≤ length w
    → pointwise eqb (take n w) (text "ad") || pointwise eqb (take n w) (text "soyad") ≡ reserved (before w n)
unfolding reserved from_end text ascii
reserved-front w n h = rw (front-is w (text "ad") n refl h, front-is w (text "soyad") n refl h)

-- ---- the vowel gained ----

-- no other vowel lets one be gained
pub gained-none : (v : ℕ)
    → ((v ≡ 0x61) ⊎ (v ≡ 0x131) → ⊥) → ((v ≡ 0x65) ⊎ (v ≡ 0x69) → ⊥) → ((v ≡ 0x6F) ⊎ (v ≡ 0x75) → ⊥) → ((v ≡ 0xF6) ⊎ (v ≡ 0xFC) → ⊥)
    → 0 ≡ gained v
unfolding gained text
gained-none v p q r s =
    rw (
      has-neither v 0x61 0x131 (λ e. p (inl e)) (λ e. p (inr e)),
      has-neither v 0x65 0x69 (λ e. q (inl e)) (λ e. q (inr e)),
      has-neither v 0x6F 0x75 (λ e. r (inl e)) (λ e. r (inr e)),
      has-neither v 0xF6 0xFC (λ e. s (inl e)) (λ e. s (inr e)),
    )

-- the vowel gained is a character of two bytes at most
gained-short : (v : ℕ) → gained v < 0x800
gained-short v = gained-elim (λ n. n < 0x800) v (omega arith) (omega arith) (omega arith) (omega arith) (omega arith)

-- nothing is gained after what is no vowel
pub gained-vowelless : (v : ℕ) → vowel v ≡ false → 0 ≡ gained v
unfolding vowel vowels has any text
gained-vowelless v f =
    let not-one : (a : ℕ) → vowel a ≡ true → v ≡ a → ⊥ = λ a t e. false≢true (sym f ∙ ap vowel e ∙ t) in
    gained-none v (⊎_elim (not-one 0x61 refl) (not-one 0x131 refl)) (⊎_elim (not-one 0x65 refl) (not-one 0x69 refl))
    (⊎_elim (not-one 0x6F refl) (not-one 0x75 refl)) (⊎_elim (not-one 0xF6 refl) (not-one 0xFC refl))

-- the code gives none where the vowel gained is 0
pub gain-zero : (v : ℕ) → v ≡ 0 → None ≡ gain v
unfolding gain
gain-zero v e = rw (eq-eqb v 0 e)

pub gain-none : (v : ℕ) → gain v ≡ None → v ≡ 0
unfolding gain
gain-none v e = go (eqb v 0) refl e
  where
    go : (t : Bool) → eqb v 0 ≡ t → cond t None (Some v) ≡ None → v ≡ 0
    go true q k = eqb-true v 0 q
    go false q k = cc

-- and else that vowel
pub gain-some : (v u : ℕ) → gain v ≡ Some u → (u ≡ v) × (v ≡ 0 → ⊥)
unfolding gain
gain-some v u e = go (eqb v 0) refl e
  where
    go : (t : Bool) → eqb v 0 ≡ t → cond t None (Some v) ≡ Some u → (u ≡ v) × (v ≡ 0 → ⊥)
    go true q k = let z : ⊥ = cc in absurd z
    go false q k = (cc, eqb-false v 0 q)

-- ---- the consonant hardened ----

-- what holds of p, ç, t, k and of the character itself holds of it hardened
hard-elim : (P : ℕ → Type 0) (c : ℕ) → P 0x70 → P 0xE7 → P 0x74 → P 0x6B → P c → P (hard c)
unfolding hard hard_in hardenings from_end text
hard-elim P c p q r s z =
    let is : ℕ → Bool = λ k. starts (k ∷ []) (c ∷ []) in
    cond_both P (is 0x62) _ _ p (cond_both P (is 0x63) _ _ q (cond_both P (is 0x64) _ _ r (cond_both P (is 0x11F) _ _ s z)))

-- a character that hardens becomes one of two bytes at most
pub hard-short : (c : ℕ) → (hard c ≡ c → ⊥) → hard c < 0x800
hard-short c =
    hard-elim (λ h. (h ≡ c → ⊥) → h < 0x800) c (λ d. omega arith) (λ d. omega arith) (λ d. omega arith) (λ d. omega arith) (λ d. absurd (d refl))

-- ---- the vowel that characters gain ----

-- it goes by whether the first character is d or g, and by the others
appended-get_or : (cs : List ℕ) → appended cs ≡ cond (eqb (get_or cs 0 0) 0x64 || eqb (get_or cs 0 0) 0x67) (gained (last_vowel_of (drop 1 cs))) 0
unfolding appended has any text
appended-get_or [] = refl
appended-get_or (c ∷ cs) = rw (or-false (eqb c 0x67))

-- the vowel that characters gain has two bytes at most
pub appended-short : (cs : List ℕ) → appended cs < 0x800
unfolding appended
appended-short [] = omega arith
appended-short (c ∷ cs) = cond_both (λ n. n < 0x800) (has (text "dg") c) (gained (last_vowel_of cs)) 0 (gained-short (last_vowel_of cs)) (omega arith)

-- ---- what is seen from the end of the first n bytes ----

module _ (w : List ℕ) (n : ℕ) (s : Seen) (e : s ≡ seen_at w (ending n)) where
  -- it is seen from an open record
  pub sees-ending : n ≤ length w → Sees w s
  unfolding seen_at ending
  sees-ending l = rw e (record { opens = open-start w n n (omega arith) l; is = refl })

  -- its last character is the first of those before n
  last-before : s.ending.last ≡ get_or (before w n) 0 0
  unfolding seen_at ending
  last-before = rw (e, behind-before w n n)

  -- which begins no later than n
  pub one-le : s.ending.one ≤ n
  unfolding seen_at ending
  one-le = rw (e, back_by-back w n n 1) (back-le w n 1)

  -- and before which stand the others
  one-before : before w s.ending.one ≡ drop 1 (before w n)
  unfolding seen_at ending
  one-before = rw (e, back_by-back w n n 1) (before_back w n 1)

  -- where that character is d or g, the bytes gain a vowel by the last one before it
  pub appended-after : (v : ℕ) → eqb s.ending.last 0x64 || eqb s.ending.last 0x67 ≡ true → v ≡ last_vowel_of (before w s.ending.one) → gained v ≡ appended (before w n)
  appended-after v t f = rw (appended-get_or (before w n), ← last-before, t, ← one-before, ← f)

  -- elsewhere they gain none
  pub appended-not : eqb s.ending.last 0x64 || eqb s.ending.last 0x67 ≡ false → 0 ≡ appended (before w n)
  appended-not t = rw (appended-get_or (before w n), ← last-before, t)

-- ---- the repair ----

-- a reserved word stays
pub repair_of-reserved : (w : List ℕ) (n : ℕ) (r : Repair) → reserved (before w n) ≡ true → r ≡ unchanged n false → r ≡ repair_of w n
unfolding repair_of
repair_of-reserved w n r e f = rw e f

-- any other gains its vowel
pub repair_of-gains : (w : List ℕ) (n v : ℕ) (r : Repair) → reserved (before w n) ≡ false
    → v ≡ appended (before w n) → (appended (before w n) ≡ 0 → ⊥) → r ≡ followed n v → r ≡ repair_of w n
unfolding repair_of
repair_of-gains w n v r e f d g = rw (e, ne_eqb (appended (before w n)) 0 d, ← f) g

-- or its last character hardens
pub repair_of-hardens : (w : List ℕ) (n : ℕ) (r : Repair) → reserved (before w n) ≡ false
    → appended (before w n) ≡ 0 → r ≡ hardened w n (before w n) → r ≡ repair_of w n
unfolding repair_of
repair_of-hardens w n r e z g = rw (e, eq-eqb (appended (before w n)) 0 z) g
