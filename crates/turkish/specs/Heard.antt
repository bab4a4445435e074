-- Which vowels a harmony test found (document 02, request 5). A character's place is the number of characters before it. Assumes nothing.
use Rattle.std.specs.Prelude.{ℕ, ◌+◌, ◌-◌, Bool, true, false, List, reverse, take, drop}
use Rattle.turkish.specs.Letters.{any}
use Rattle.turkish.specs.Vowels.{vowel}

-- harmony was not tested, or it holds: the last vowel's place, and that of the nearest partner before it
pub data Heard : Type 0 where
  unheard : Heard
  heard : ℕ → ℕ → Heard

-- whether it was tested
unfoldable pub is_heard : Heard → Bool
is_heard unheard = false
is_heard (heard last partner) = true

-- the first of two that was
unfoldable pub or_heard : Heard → Heard → Heard
or_heard unheard h = h
or_heard (heard last partner) h = heard last partner

-- a loan candidate, of a word's characters, the last one first: some vowel stands between the two
unfoldable pub loan_in : List ℕ → Heard → Bool
loan_in cs unheard = false
loan_in cs (heard last partner) = any vowel (take (last - (partner + 1)) (drop (partner + 1) (reverse cs)))
