-- `repairs::postlude::gained_after` meets its contract: in an arm the vowel is one of its two numbers, in the last one none of them.
-- Assumes nothing.
use mathlib.Core.Path.{◌≡◌, refl, sym}
use Rattle.std.specs.Prelude.{Some}
use Rattle.turkish.specs.Letters.{text, any, has}
use Rattle.theorems.specs.Simple.Postlude.{gained}
use Rattle.repairs.specs.Repairs.{gain}
use Rattle.repairs.proofs.Laws.Repairs.{either_number, gained-none, gain-zero}
use Rattle.repairs.proofs.postlude.gained_after.Goals as goal

pub returns-in-97 : goal.returns-in-97
unfolding gain gained has any text
returns-in-97 c = either_number (λ v. Some 0x131 ≡ gain (gained v)) _ 0x61 0x131 c.in-97.is refl refl

pub returns-in-101 : goal.returns-in-101
unfolding gain gained has any text
returns-in-101 c = either_number (λ v. Some 0x69 ≡ gain (gained v)) _ 0x65 0x69 c.in-101.is refl refl

pub returns-in-111 : goal.returns-in-111
unfolding gain gained has any text
returns-in-111 c = either_number (λ v. Some 0x75 ≡ gain (gained v)) _ 0x6F 0x75 c.in-111.is refl refl

pub returns-in-246 : goal.returns-in-246
unfolding gain gained has any text
returns-in-246 c = either_number (λ v. Some 0xFC ≡ gain (gained v)) _ 0xF6 0xFC c.in-246.is refl refl

pub returns-in_default : goal.returns-in_default
returns-in_default c =
    let r = c.in_default.in_default-own.rest in
    gain-zero _ (sym (gained-none _ r.0.0.0.1 r.0.0.1 r.0.1 r.1))
