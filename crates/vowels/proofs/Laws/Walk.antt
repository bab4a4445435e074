-- A walk back over a word, a character a turn: what one turn passes, and what the last vowel is when it skips a character or stops at one.
-- Assumes nothing.
use Prim.Native.Nat.{ℕ, ◌-◌, ◌≤◌, ◌<◌}
use mathlib.Core.Path.{◌≡◌, sym, ◌∙◌}
use mathlib.Core.Bool.{true, false}
use mathlib.Core.List.{List, ◌∷◌}
use native.Mathlib.Omega.{arith}
use Rattle.utf8.specs.Characters.{last_width_of, last_char, char_at, before}
use Rattle.utf8.proofs.Laws.Characters.{before-step, last_width_of-pos, last_width_of-four, last_width_of-le}
use Rattle.turkish.specs.Vowels.{vowel, last_vowel_of}

-- ---- one turn ----

-- a turn passes one to four bytes, none of them before the word's start
pub last_width_of-bounds : (w : List ℕ) (at n : ℕ) → (at ≡ 0 → ⊥) → n ≡ last_width_of w at → (0 < n) × (n ≤ 4) × (n ≤ at)
last_width_of-bounds w at n h e = rw e (last_width_of-pos w at, last_width_of-four w at, last_width_of-le w at (omega arith))

-- and the character that they are
pub before-char_at : (w : List ℕ) (at n ch : ℕ) → (at ≡ 0 → ⊥) → n ≡ last_width_of w at → ch ≡ char_at w (at - n) n
    → before w at ≡ ch ∷ before w (at - n)
unfolding last_char
before-char_at w at n ch h e d = before-step w at (omega arith) ∙ sym (rw (d, e))

-- ---- the last vowel ----

-- a character that is no vowel is skipped
pub last_vowel_of-skips : {l cs : List ℕ} {c : ℕ} → l ≡ c ∷ cs → vowel c ≡ false → last_vowel_of cs ≡ last_vowel_of l
unfolding last_vowel_of
last_vowel_of-skips e d = rw (e, d)

-- a vowel ends the walk
pub last_vowel_of-stops : {l cs : List ℕ} {c : ℕ} → l ≡ c ∷ cs → vowel c ≡ true → c ≡ last_vowel_of l
unfolding last_vowel_of
last_vowel_of-stops e d = rw (e, d)
