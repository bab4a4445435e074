-- Harmony's yes or no, and which two vowels it finds: what the laws of the definitions cite of it. Assumes nothing.
use Prim.Native.Nat.{ℕ, zero, suc, ◌+◌, ◌-◌, ◌≤◌, ◌<◌}
use mathlib.Core.Path.{◌≡◌, refl, sym, ap, ◌∙◌}
use mathlib.Core.Bool.{Bool, true, false, cond, ◌||◌, false≢true}
use mathlib.Core.List.{List, [], ◌∷◌, ◌++◌}
use mathlib.Mathlib.Data.Bool.Basic.{eq-true_of_not-eq-false, or-eq-false-eq-eq-false-and-eq-false as or_no}
use native.Mathlib.Omega.{arith}
use lib.ListN.{length, take, drop, get_or, length-drop, get_or-append}
use lib.Seq.{drop-cons, get_or-drop}
use Rattle.encoding.proofs.Laws.Booleans.{cond_both}
use Rattle.turkish.specs.Letters.{any}
use Rattle.turkish.specs.Vowels.{vowel, last_vowel_of, before_last_vowel}
use Rattle.theorems.specs.Simple.Harmony.{partner, to_first, nowhere, at, harmony_found, is_found, harmony}
use Rattle.theorems.proofs.Laws.Tests.{any_append}

-- ---- its yes or no ----

-- it holds where one of the last vowel's partners stands before it
pub harmony-any : (cs : List ℕ) → harmony cs ≡ any (partner (last_vowel_of cs)) (before_last_vowel cs)
unfolding harmony harmony_found is_found
harmony-any cs = go (any (partner (last_vowel_of cs)) (before_last_vowel cs)) _ _
  where
    go : (t : Bool) (l p : ℕ) → is_found (cond t (at l p) nowhere) ≡ t
    go true l p = refl
    go false l p = refl

-- where it holds, the last vowel is found, and the nearest of its partners before it
pub harmony-found : (cs : List ℕ) → harmony cs ≡ true
    → harmony_found cs ≡ at (to_first vowel cs) (to_first vowel cs + to_first (partner (last_vowel_of cs)) (before_last_vowel cs))
unfolding harmony_found
harmony-found cs h = rw (sym (harmony-any cs) ∙ h)

-- the characters past the last vowel are those before it
pub drop-to_vowel : (cs : List ℕ) → drop (to_first vowel cs) cs ≡ before_last_vowel cs
unfolding to_first before_last_vowel
drop-to_vowel [] = refl
drop-to_vowel (c ∷ cs) = go (vowel c) (drop-to_vowel cs)
  where
    go : (t : Bool) → drop (to_first vowel cs) cs ≡ before_last_vowel cs → drop (cond t 0 (to_first vowel cs)) cs ≡ cond t cs (before_last_vowel cs)
    go true h = refl
    go false h = h

-- ---- up to the first that passes a test ----

-- past the first of some characters each stands one nearer among the others
get_or-behind : (c : ℕ) (cs : List ℕ) (n : ℕ) → 0 < n → get_or (c ∷ cs) (suc n - 1) 0 ≡ get_or cs (n - 1) 0
get_or-behind c cs zero h = absurd (omega arith)
get_or-behind c cs (suc n) h =
    let e : suc (suc n) - 1 ≡ suc n = omega arith in
    let d : suc n - 1 ≡ n = omega arith in
    rw (e, d)

module _ (f : ℕ → Bool) where
  -- there are no more than all
  pub to_first-le : (cs : List ℕ) → to_first f cs ≤ length cs
  unfolding to_first
  to_first-le [] = omega arith
  to_first-le (c ∷ cs) = cond_both (λ n. suc n ≤ suc (length cs)) (f c) 0 (to_first f cs) (omega arith) (omega (arith, to_first-le cs))

  -- where one passes there is one
  pub to_first-some : (cs : List ℕ) → any f cs ≡ true → 0 < to_first f cs
  unfolding to_first any
  to_first-some [] e = absurd (false≢true e)
  to_first-some (c ∷ cs) e = omega arith

  -- the last of them passes
  pub to_first-passes : (cs : List ℕ) → any f cs ≡ true → f (get_or cs (to_first f cs - 1) 0) ≡ true
  unfolding to_first any
  to_first-passes [] e = absurd (false≢true e)
  to_first-passes (c ∷ cs) e = go (f c) refl e (to_first-some cs) (to_first-passes cs)
    where
      go : (t : Bool) → f c ≡ t → t || any f cs ≡ true → (any f cs ≡ true → 0 < to_first f cs) → (any f cs ≡ true → f (get_or cs (to_first f cs - 1) 0) ≡ true)
          → f (get_or (c ∷ cs) (suc (cond t 0 (to_first f cs)) - 1) 0) ≡ true
      go true h e some passes = h
      go false h e some passes = ap f (get_or-behind c cs (to_first f cs) (some e)) ∙ passes e

  -- and none before it does
  pub to_first-before : (cs : List ℕ) → any f (take (to_first f cs - 1) cs) ≡ false
  unfolding to_first any
  to_first-before [] = refl
  to_first-before (c ∷ cs) = go (f c) refl (to_first f cs) (to_first-before cs)
    where
      behind : f c ≡ false → (n : ℕ) → any f (take (n - 1) cs) ≡ false → any f (take n (c ∷ cs)) ≡ false
      behind h zero none = refl
      behind h (suc n) none = let e : n ≡ suc n - 1 = omega arith in rw (h, e) none

      go : (t : Bool) → f c ≡ t → (n : ℕ) → any f (take (n - 1) cs) ≡ false → any f (take (suc (cond t 0 n) - 1) (c ∷ cs)) ≡ false
      go true h n none = refl
      go false h n none = let e : suc n - 1 ≡ n = omega arith in rw e (behind h n none)

  -- what is put behind characters of which one passes is no matter
  pub to_first-append : (cs ds : List ℕ) → any f cs ≡ true → to_first f (cs ++ ds) ≡ to_first f cs
  unfolding to_first any
  to_first-append [] ds e = absurd (false≢true e)
  to_first-append (c ∷ cs) ds e = go (f c) e (to_first-append cs ds)
    where
      go : (t : Bool) → t || any f cs ≡ true → (any f cs ≡ true → to_first f (cs ++ ds) ≡ to_first f cs)
          → suc (cond t 0 (to_first f (cs ++ ds))) ≡ suc (cond t 0 (to_first f cs))
      go true e h = refl
      go false e h = ap suc (h e)

-- ---- the last vowel ----

-- without a vowel there is no last one
pub last_vowel_of-none : (cs : List ℕ) → any vowel cs ≡ false → last_vowel_of cs ≡ 0
unfolding any last_vowel_of
last_vowel_of-none [] e = refl
last_vowel_of-none (c ∷ cs) e =
    let no = (or_no (vowel c) (any vowel cs)).0 e in
    rw (no.0, last_vowel_of-none cs no.1)

-- nor anything before it
pub before_last_vowel-none : (cs : List ℕ) → any vowel cs ≡ false → before_last_vowel cs ≡ []
unfolding any before_last_vowel
before_last_vowel-none [] e = refl
before_last_vowel-none (c ∷ cs) e =
    let no = (or_no (vowel c) (any vowel cs)).0 e in
    rw (no.0, before_last_vowel-none cs no.1)

-- so what has something before its last vowel has a vowel
pub before-vowel : (f : ℕ → Bool) (cs : List ℕ) → any f (before_last_vowel cs) ≡ true → any vowel cs ≡ true
unfolding any
before-vowel f cs e = eq-true_of_not-eq-false (λ n. false≢true (ap (any f) (sym (before_last_vowel-none cs n)) ∙ e))

-- and where there is harmony there is one
pub harmony-vowel : (cs : List ℕ) → harmony cs ≡ true → any vowel cs ≡ true
harmony-vowel cs h = before-vowel (partner (last_vowel_of cs)) cs (sym (harmony-any cs) ∙ h)

-- where there is a vowel, the last one is the first met
pub last_vowel_of-at : (cs : List ℕ) → any vowel cs ≡ true → last_vowel_of cs ≡ get_or cs (to_first vowel cs - 1) 0
unfolding last_vowel_of to_first any
last_vowel_of-at [] e = absurd (false≢true e)
last_vowel_of-at (c ∷ cs) e = go (vowel c) e (to_first-some vowel cs) (last_vowel_of-at cs)
  where
    go : (t : Bool) → t || any vowel cs ≡ true → (any vowel cs ≡ true → 0 < to_first vowel cs) → (any vowel cs ≡ true → last_vowel_of cs ≡ get_or cs (to_first vowel cs - 1) 0)
        → cond t c (last_vowel_of cs) ≡ get_or (c ∷ cs) (suc (cond t 0 (to_first vowel cs)) - 1) 0
    go true e some is = refl
    go false e some is = is e ∙ sym (get_or-behind c cs (to_first vowel cs) (some e))

-- what is put behind characters with a vowel does not change it
pub last_vowel_of-append : (cs ds : List ℕ) → any vowel cs ≡ true → last_vowel_of (cs ++ ds) ≡ last_vowel_of cs
last_vowel_of-append cs ds e =
    let some = to_first-some vowel cs e in
    last_vowel_of-at (cs ++ ds) (rw (any_append, e))
    ∙ rw (to_first-append vowel cs ds e, last_vowel_of-at cs e) (get_or-append cs ds 0 (to_first vowel cs - 1) (omega (arith, to_first-le vowel cs)))

-- from its place on stand it and what is before it
pub drop-last_vowel_of : (cs : List ℕ) → any vowel cs ≡ true → drop (to_first vowel cs - 1) cs ≡ last_vowel_of cs ∷ before_last_vowel cs
drop-last_vowel_of cs e =
    let some = to_first-some vowel cs e in
    let met : suc (to_first vowel cs - 1) ≡ to_first vowel cs = omega arith in
    drop-cons cs (to_first vowel cs - 1) 0 (omega (arith, to_first-le vowel cs)) ∙ rw (met, drop-to_vowel cs, last_vowel_of-at cs e)

-- it is a vowel
pub last_vowel_of-vowel : (cs : List ℕ) → any vowel cs ≡ true → vowel (last_vowel_of cs) ≡ true
last_vowel_of-vowel cs e = rw (last_vowel_of-at cs e) (to_first-passes vowel cs e)

-- ---- the two vowels found ----

-- what a harmony test that found its two vowels did find: the last vowel, and the first of its partners behind it
record Search (cs : List ℕ) (l p : ℕ) : Type 0 where
  last : l ≡ to_first vowel cs
  partners : any (partner (last_vowel_of cs)) (drop l cs) ≡ true
  nearest : p ≡ l + to_first (partner (last_vowel_of cs)) (drop l cs)

-- it searched so
harmony_found-search : (cs : List ℕ) {l p : ℕ} → harmony_found cs ≡ at l p → Search cs l p
unfolding harmony is_found
harmony_found-search cs {l} {p} e =
    let h : harmony cs ≡ true = ap is_found e in
    let two = harmony-found cs h in
    let l-is : l ≡ to_first vowel cs = cc in
    let p-is : p ≡ to_first vowel cs + to_first (partner (last_vowel_of cs)) (before_last_vowel cs) = cc in
    let front : drop l cs ≡ before_last_vowel cs = rw l-is (drop-to_vowel cs) in
    record { last = l-is; partners = rw front (sym (harmony-any cs) ∙ h); nearest = rw front (omega arith) }

module _ (cs : List ℕ) {l p : ℕ} (e : harmony_found cs ≡ at l p) where
  -- some vowel is there
  found-vowel : any vowel cs ≡ true
  unfolding harmony is_found
  found-vowel = harmony-vowel cs (ap is_found e)

  -- the last vowel stands somewhere, and its partner behind it, both among the characters
  pub harmony_found-bounds : (0 < l) × (l < p) × (p ≤ length cs)
  harmony_found-bounds =
      let s = harmony_found-search cs e in
      let n = to_first (partner (last_vowel_of cs)) (drop l cs) in
      let some : 0 < l = omega (arith, s.last, to_first-some vowel cs found-vowel) in
      let beyond : 0 < n = to_first-some (partner (last_vowel_of cs)) (drop l cs) s.partners in
      let within : n ≤ length cs - l = rw (length-drop l cs) at (to_first-le (partner (last_vowel_of cs)) (drop l cs)) in
      (some, omega (arith, s.nearest), omega (arith, s.nearest, to_first-le vowel cs, s.last))

  -- the first of the two is the first vowel met
  pub found_first : l ≡ to_first vowel cs
  found_first = (harmony_found-search cs e).last

  -- the last one
  pub found-last : last_vowel_of cs ≡ get_or cs (l - 1) 0
  found-last = rw found_first (last_vowel_of-at cs found-vowel)

  -- a vowel
  pub found-last-vowel : vowel (last_vowel_of cs) ≡ true
  found-last-vowel = last_vowel_of-vowel cs found-vowel

  -- and nothing nearer is one
  pub found-no-nearer : any vowel (take (l - 1) cs) ≡ false
  found-no-nearer = rw found_first (to_first-before vowel cs)

  -- the other is one of its partners
  pub found-partner : partner (last_vowel_of cs) (get_or cs (p - 1) 0) ≡ true
  found-partner =
      let s = harmony_found-search cs e in
      let n = to_first (partner (last_vowel_of cs)) (drop l cs) in
      let i : l + (n - 1) ≡ p - 1 = omega (arith, s.nearest, to_first-some (partner (last_vowel_of cs)) (drop l cs) s.partners) in
      rw (← i, ← get_or-drop l cs (n - 1) 0) (to_first-passes (partner (last_vowel_of cs)) (drop l cs) s.partners)

  -- and nothing between the two is one
  pub found-none-between : any (partner (last_vowel_of cs)) (take (p - l - 1) (drop l cs)) ≡ false
  found-none-between =
      let s = harmony_found-search cs e in
      let i : p - l - 1 ≡ to_first (partner (last_vowel_of cs)) (drop l cs) - 1 = omega (arith, s.nearest) in
      rw i (to_first-before (partner (last_vowel_of cs)) (drop l cs))
