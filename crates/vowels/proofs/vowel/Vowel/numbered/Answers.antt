-- `vowels::vowel::Vowel::numbered` meets its contract. Each arm's vowel is what the definition computes to at the arm's number; the last arm's
-- number is 0 or past the vowels. Assumes nothing.
use Prim.Native.Nat.{ℕ, suc, ◌<◌}
use mathlib.Core.Path.{◌≡◌, sym, ap}
use native.Mathlib.Omega.{arith}
use Rattle.turkish.specs.Letters.{text, any, has}
use Rattle.turkish.specs.Vowels.{vowels, vowel}
use Rattle.theorems.specs.Simple.Harmony.{partners_in, partner_table, to_first}
use Rattle.vowels.specs.Vowel.{four_of, vowel_of, vowel_numbered, first_vowel_of, numbered_vowel_of}
use Rattle.vowels.proofs.Laws.Vowel.{numbered_vowel_of-past}
use Rattle.vowels.proofs.vowel.Vowel.numbered.Goals as goal

-- a number above another, and not the next one, is above that
above : {a n : ℕ} → a < n → (n ≡ suc a → ⊥) → suc a < n
above l h = omega arith

pub returns-in-1 : goal.returns-in-1
unfolding numbered_vowel_of first_vowel_of vowel_numbered vowel_of vowel vowels text has any four_of partners_in partner_table to_first
returns-in-1 c = sym (ap numbered_vowel_of c.in-1.is)

pub returns-in-2 : goal.returns-in-2
unfolding numbered_vowel_of first_vowel_of vowel_numbered vowel_of vowel vowels text has any four_of partners_in partner_table to_first
returns-in-2 c = sym (ap numbered_vowel_of c.in-2.is)

pub returns-in-3 : goal.returns-in-3
unfolding numbered_vowel_of first_vowel_of vowel_numbered vowel_of vowel vowels text has any four_of partners_in partner_table to_first
returns-in-3 c = sym (ap numbered_vowel_of c.in-3.is)

pub returns-in-4 : goal.returns-in-4
unfolding numbered_vowel_of first_vowel_of vowel_numbered vowel_of vowel vowels text has any four_of partners_in partner_table to_first
returns-in-4 c = sym (ap numbered_vowel_of c.in-4.is)

pub returns-in-5 : goal.returns-in-5
unfolding numbered_vowel_of first_vowel_of vowel_numbered vowel_of vowel vowels text has any four_of partners_in partner_table to_first
returns-in-5 c = sym (ap numbered_vowel_of c.in-5.is)

pub returns-in-6 : goal.returns-in-6
unfolding numbered_vowel_of first_vowel_of vowel_numbered vowel_of vowel vowels text has any four_of partners_in partner_table to_first
returns-in-6 c = sym (ap numbered_vowel_of c.in-6.is)

pub returns-in-7 : goal.returns-in-7
unfolding numbered_vowel_of first_vowel_of vowel_numbered vowel_of vowel vowels text has any four_of partners_in partner_table to_first
returns-in-7 c = sym (ap numbered_vowel_of c.in-7.is)

pub returns-in-8 : goal.returns-in-8
unfolding numbered_vowel_of first_vowel_of vowel_numbered vowel_of vowel vowels text has any four_of partners_in partner_table to_first
returns-in-8 c = sym (ap numbered_vowel_of c.in-8.is)

pub returns-in_default : goal.returns-in_default
returns-in_default c =
    let n = c.args.number in
    let r8 = c.in_default.in_default-own.rest in
    let r4 = r8.0.0.0.0 in
    let four : 0 < n → 4 < n = λ l. above (above (above (above l r4.0.0.0.1) r4.0.0.1) r4.0.1) r4.1 in
    let eight : 0 < n → 8 < n = λ l. above (above (above (above (four l) r8.0.0.0.1) r8.0.0.1) r8.0.1) r8.1 in
    sym (numbered_vowel_of-past n eight)
