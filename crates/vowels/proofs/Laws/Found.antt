-- Harmony's walk: what a turn does to its answer, before the last vowel is met and behind it, where it stops, and what it gives at the
-- word's start. Assumes nothing.
use Prim.Native.Nat.{ℕ, suc, ◌+◌, ◌-◌, ◌≤◌}
use mathlib.Core.Path.{◌≡◌, refl, sym, ap, ◌∙◌}
use mathlib.Core.Bool.{Bool, true, false, cond, ◌||◌, true≢false, or-false, or-true, or_assoc}
use mathlib.Core.List.{List, ◌∷◌}
use mathlib.Mathlib.Data.Bool.Basic.{eq-false_of_not-eq-true}
use native.Mathlib.Omega.{arith}
use lib.ListN.{take}
use Rattle.utf8.specs.Characters.{last_width_of, before, back}
use Rattle.utf8.proofs.Laws.Characters.{before-zero, back-le}
use Rattle.turkish.specs.Letters.{any}
use Rattle.turkish.specs.Vowels.{vowel, last_vowel_of, before_last_vowel}
use Rattle.theorems.specs.Simple.Harmony.{partner, to_first, Found, nowhere, at, harmony_found, skips_vowel}
use Rattle.theorems.proofs.Laws.Harmony.{to_first-some}
use Rattle.theorems.proofs.Laws.Vowels.{partner-vowel}
use Rattle.std.specs.Prelude.{Option, Some, None}
use Rattle.vowels.specs.declared.harmony.Harmony.{Harmony}
use Rattle.vowels.specs.Harmony.{harmony_from, harmony_before}

-- ---- behind the last vowel ----

-- what the walk finds of what is left before place c: the last vowel starts at `last`, partners are what passes f, and whether a vowel was
-- skipped so far
unfoldable pub seeks : (ℕ → Bool) → List ℕ → ℕ → Bool → ℕ → Option Harmony
seeks f w last skips c =
    let cs = before w c in
    cond (any f cs)
    (Some (record { last = last; partner = back w c (to_first f cs); skips = skips || any vowel (take (to_first f cs - 1) cs) })) None

-- one character on, the place is that of the others from there
back_on : (w : List ℕ) (c n k : ℕ) → n ≡ last_width_of w c → back w (c - n) k ≡ back w c (suc k)
unfolding back
back_on w c n k e = rw e

-- the characters before the first of the others, and one more
take_on : (ch k : ℕ) (cs : List ℕ) → any vowel (take (suc (suc k) - 1) (ch ∷ cs)) ≡ vowel ch || any vowel (take (suc k - 1) cs)
unfolding any
take_on ch k cs =
    let more : suc (suc k) - 1 ≡ suc k = omega arith in
    let less : suc k - 1 ≡ k = omega arith in
    rw (more, less)

-- equal partners and skips make one answer
same-found : (last : ℕ) {p q : ℕ} {a b : Bool} → p ≡ q → a ≡ b
    → ◌≡◌ {A = Option Harmony} (Some (record { last = last; partner = p; skips = a })) (Some (record { last = last; partner = q; skips = b }))
same-found last e f = cc

module _ (f : ℕ → Bool) (w : List ℕ) (last : ℕ) (skips : Bool) (c n ch : ℕ) (width : n ≡ last_width_of w c) (step : before w c ≡ ch ∷ before w (c - n)) where
  -- a character that is no partner is skipped, and it is noted whether it is a vowel
  seeks-notes : f ch ≡ false → seeks f w last (skips || vowel ch) (c - n) ≡ seeks f w last skips c
  unfolding seeks any to_first
  seeks-notes d = rw (step, d) (go (before w (c - n)) (any f (before w (c - n))) refl)
    where
      go : (cs : List ℕ) (t : Bool) → any f cs ≡ t
          → cond {A = Option Harmony} t (Some (record {
            last = last;
            partner = back w (c - n) (to_first f cs);
            skips = (skips || vowel ch) || any vowel (take (to_first f cs - 1) cs);
          })) None
          ≡ cond {A = Option Harmony} t (Some (record {
            last = last;
            partner = back w c (suc (to_first f cs));
            skips = skips || any vowel (take (suc (to_first f cs) - 1) (ch ∷ cs));
          })) None
      go cs false e = refl
      go cs true e =
          let k : ℕ = to_first f cs - 1 in
          let some : to_first f cs ≡ suc k = omega (arith, to_first-some f cs e) in
          rw some
          (same-found last (back_on w c n (suc k) width)
          (or_assoc skips (vowel ch) (any vowel (take (suc k - 1) cs)) ∙ ap (λ (b : Bool). skips || b) (sym (take_on ch k cs))))

  -- so nothing is noted where it is none
  pub seeks-skips : f ch ≡ false → vowel ch ≡ false → seeks f w last skips (c - n) ≡ seeks f w last skips c
  seeks-skips d v = ap (λ (b : Bool). seeks f w last b (c - n)) (sym (or-false skips) ∙ ap (λ (b : Bool). skips || b) (sym v)) ∙ seeks-notes d

  -- and a vowel is where it is one
  pub seeks-passes : f ch ≡ false → vowel ch ≡ true → seeks f w last true (c - n) ≡ seeks f w last skips c
  seeks-passes d v = ap (λ (b : Bool). seeks f w last b (c - n)) (sym (or-true skips) ∙ ap (λ (b : Bool). skips || b) (sym v)) ∙ seeks-notes d

  -- one that is a partner ends the walk
  pub seeks-stops : f ch ≡ true → Some (record { last = last; partner = c - n; skips = skips }) ≡ seeks f w last skips c
  unfolding seeks any to_first
  seeks-stops d = rw (step, d) (same-found last (unfold back in back_on w c n 0 width) (sym (or-false skips)))

-- at the word's start there is none
pub seeks-none : (f : ℕ → Bool) (w : List ℕ) (last : ℕ) (skips : Bool) (c : ℕ) → c ≡ 0 → None ≡ seeks f w last skips c
unfolding seeks any
seeks-none f w last skips c e = rw (e, before-zero w)

-- a vowel's partners are vowels, so what is no vowel is none
pub partner-no : (v ch : ℕ) → vowel ch ≡ false → partner v ch ≡ false
partner-no v ch e = eq-false_of_not-eq-true (λ p. true≢false (sym (partner-vowel v ch p) ∙ e))

-- ---- before it is met ----

-- what is found behind a character that is skipped, seen from before it
unfoldable past_one : Found → Found
past_one nowhere = nowhere
past_one (at last partner) = at (suc last) (suc partner)

-- a character that is no vowel is skipped
harmony_found-skips : (ch : ℕ) (cs : List ℕ) → vowel ch ≡ false → harmony_found (ch ∷ cs) ≡ past_one (harmony_found cs)
unfolding harmony_found to_first last_vowel_of before_last_vowel past_one
harmony_found-skips ch cs d = rw d (go (any (partner (last_vowel_of cs)) (before_last_vowel cs)) (to_first vowel cs) (to_first (partner (last_vowel_of cs)) (before_last_vowel cs)))
  where
    go : (t : Bool) (l k : ℕ) → cond t (at (suc l) (suc l + k)) nowhere ≡ past_one (cond t (at l (l + k)) nowhere)
    go true l k = let e : suc l + k ≡ suc (l + k) = omega arith in rw e
    go false l k = refl

module _ (w : List ℕ) (c n ch : ℕ) (width : n ≡ last_width_of w c) (step : before w c ≡ ch ∷ before w (c - n)) where
  -- from before it the places are the same
  harmony_from-past : (f : Found) → harmony_from w (c - n) f ≡ harmony_from w c (past_one f)
  unfolding harmony_from past_one skips_vowel
  harmony_from-past nowhere = refl
  harmony_from-past (at l p) =
      let e : suc p - suc l - 1 ≡ p - l - 1 = omega arith in
      rw (← back_on w c n l width, ← back_on w c n p width, step, e)

  -- so the walk goes on
  pub harmony_before-skips : vowel ch ≡ false → harmony_before w (c - n) ≡ harmony_before w c
  unfolding harmony_before
  harmony_before-skips d =
      harmony_from-past (harmony_found (before w (c - n))) ∙ ap (harmony_from w c) (sym (ap harmony_found step ∙ harmony_found-skips ch (before w (c - n)) d))

  -- a vowel is the last one, and its partners are sought before it
  pub harmony_before-stops : {v : ℕ} → v ≡ ch → vowel ch ≡ true → seeks (partner v) w (c - n) false (c - n) ≡ harmony_before w c
  unfolding harmony_before harmony_found to_first last_vowel_of before_last_vowel seeks harmony_from skips_vowel back
  harmony_before-stops is d = rw (is, step, d) (go (any (partner ch) (before w (c - n))) (to_first (partner ch) (before w (c - n))))
    where
      go : (t : Bool) (k : ℕ) → cond {A = Option Harmony} t (Some (record { last = c - n; partner = back w (c - n) k; skips = any vowel (take (k - 1) (before w (c - n))) })) None
          ≡ harmony_from w c (cond t (at 1 (1 + k)) nowhere)
      go false k = refl
      go true k =
          let one : 1 + k ≡ suc k = omega arith in
          let less : 1 + k - 1 - 1 ≡ k - 1 = omega arith in
          rw (step, less, one, width)

-- at the word's start there is none
pub harmony_before-none : (w : List ℕ) (c : ℕ) → c ≡ 0 → None ≡ harmony_before w c
unfolding harmony_before harmony_found before_last_vowel any harmony_from
harmony_before-none w c e = rw (e, before-zero w)

-- what is found starts before the place
pub harmony_before-le : (w : List ℕ) (c : ℕ) {h : Harmony} → harmony_before w c ≡ Some h → (h.last ≤ c) × (h.partner ≤ c)
unfolding harmony_before
harmony_before-le w c {h} = go (harmony_found (before w c))
  where
    go : (f : Found) → harmony_from w c f ≡ Some h → (h.last ≤ c) × (h.partner ≤ c)
    go nowhere e = unfold harmony_from in cc
    go (at l p) e =
        let i : record { last = back w c l; partner = back w c p; skips = skips_vowel (before w c) l p } ≡ h = unfold harmony_from in cc in
        rw (← i) (back-le w c l, back-le w c p)
