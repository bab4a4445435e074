-- The UTF-8 check (document 01, "Small routines of the environment"): the Unicode Standard's table 3-7, "Well-Formed UTF-8
-- Byte Sequences", read a byte at a time. That it accepts exactly the encodings of scalar values is proved in proofs/.
-- Assumes nothing.
use Rattle.std.specs.Prelude.{ℕ, ◌-◌, Bool, true, false, cond, ◌&&◌, List, [], ◌∷◌, leb, eqb}

-- a row of the table: first bytes from `from` to `upto` are followed by `more` bytes, the next of them from `low` to `high`
pub record Row : Type 0 where
  pub from : ℕ
  pub upto : ℕ
  pub more : ℕ
  pub low : ℕ
  pub high : ℕ

-- a row, as it is written below
abbrev pub row : ℕ → ℕ → ℕ → ℕ → ℕ → Row
row from upto more low high = record { from = from; upto = upto; more = more; low = low; high = high }

-- the table
unfoldable pub table37 : List Row
table37 =
    row 0x00 0x7F 0 0x80 0xBF
    ∷ row 0xC2 0xDF 1 0x80 0xBF
    ∷ row 0xE0 0xE0 2 0xA0 0xBF
    ∷ row 0xE1 0xEC 2 0x80 0xBF
    ∷ row 0xED 0xED 2 0x80 0x9F
    ∷ row 0xEE 0xEF 2 0x80 0xBF
    ∷ row 0xF0 0xF0 3 0x90 0xBF
    ∷ row 0xF1 0xF3 3 0x80 0xBF
    ∷ row 0xF4 0xF4 3 0x80 0x8F
    ∷ []

-- a state: whether no byte was refused, and what the bytes so far ask for, `need` more, the next of them from `low` to `high`
pub record Due : Type 0 where
  pub ok : Bool
  pub need : ℕ
  pub low : ℕ
  pub high : ℕ

-- `more` bytes due, and refused
unfoldable pub due : ℕ → ℕ → ℕ → Due
due more low high = record { ok = true; need = more; low = low; high = high }

unfoldable pub refused : Due
refused = record { ok = false; need = 0; low = 0x80; high = 0xBF }

-- what a first byte asks for, by the row that has it
unfoldable pub lead_in : List Row → ℕ → Due
unfolding due refused
lead_in [] b = refused
lead_in (r ∷ rs) b = cond (leb r.from b && leb b r.upto) (due r.more r.low r.high) (lead_in rs b)

-- by the whole table
unfoldable pub lead : ℕ → Due
unfolding table37 lead_in
lead b = lead_in table37 b

-- one byte more
unfoldable pub next : Due → ℕ → Due
next d b = cond (eqb d.need 0) (lead b) (cond (leb d.low b && leb b d.high) (due (d.need - 1) 0x80 0xBF) refused)

-- from a state on: no byte is refused, and none is due at the end
unfoldable pub accepts : Due → List ℕ → Bool
accepts d [] = eqb d.need 0
accepts d (b ∷ bs) = (next d b).ok && accepts (next d b) bs

-- the check: nothing is due at the start
unfoldable pub is_text : List ℕ → Bool
is_text w = accepts (due 0 0x80 0xBF) w
