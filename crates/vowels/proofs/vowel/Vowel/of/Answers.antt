-- `vowels::vowel::Vowel::of` meets its contract. Each arm's vowel is what the definition computes to at the arm's number; the last
-- arm's code point is none of the eight. Assumes nothing.
use mathlib.Core.Path.{sym, ap}
use Rattle.turkish.specs.Letters.{text, any, has}
use Rattle.turkish.specs.Vowels.{vowels, vowel}
use Rattle.theorems.specs.Simple.Harmony.{partners_in, partner_table, to_first}
use Rattle.vowels.specs.Vowel.{four_of, vowel_of}
use Rattle.vowels.proofs.Laws.Vowel.{vowel_of-other}
use Rattle.vowels.proofs.vowel.Vowel.of.Goals as goal

pub returns-in-97 : goal.returns-in-97
unfolding vowel_of vowel vowels text has any four_of partners_in partner_table to_first
returns-in-97 c = sym (ap vowel_of c.in-97.is)

pub returns-in-101 : goal.returns-in-101
unfolding vowel_of vowel vowels text has any four_of partners_in partner_table to_first
returns-in-101 c = sym (ap vowel_of c.in-101.is)

pub returns-in-105 : goal.returns-in-105
unfolding vowel_of vowel vowels text has any four_of partners_in partner_table to_first
returns-in-105 c = sym (ap vowel_of c.in-105.is)

pub returns-in-111 : goal.returns-in-111
unfolding vowel_of vowel vowels text has any four_of partners_in partner_table to_first
returns-in-111 c = sym (ap vowel_of c.in-111.is)

pub returns-in-117 : goal.returns-in-117
unfolding vowel_of vowel vowels text has any four_of partners_in partner_table to_first
returns-in-117 c = sym (ap vowel_of c.in-117.is)

pub returns-in-246 : goal.returns-in-246
unfolding vowel_of vowel vowels text has any four_of partners_in partner_table to_first
returns-in-246 c = sym (ap vowel_of c.in-246.is)

pub returns-in-252 : goal.returns-in-252
unfolding vowel_of vowel vowels text has any four_of partners_in partner_table to_first
returns-in-252 c = sym (ap vowel_of c.in-252.is)

pub returns-in-305 : goal.returns-in-305
unfolding vowel_of vowel vowels text has any four_of partners_in partner_table to_first
returns-in-305 c = sym (ap vowel_of c.in-305.is)

pub returns-in_default : goal.returns-in_default
returns-in_default c =
    let r = c.in_default.in_default-own.rest in
    sym
    (vowel_of-other c.args.ch r.0.0.0.0.0.0.0.1 r.0.0.0.0.0.0.1 r.0.0.0.0.0.1
    r.0.0.0.0.1 r.0.0.0.1 r.0.0.1 r.0.1 r.1)
