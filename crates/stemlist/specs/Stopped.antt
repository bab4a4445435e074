-- A listing that stopped before the input's end. Assumes nothing.
use Rattle.std.specs.Prelude.{⊤}
use Rattle.stemlist.specs.declared.Stop.{Stop}
use Rattle.stemlist.specs.declared.Stop.TheVariants.{Reading, Writing}

-- it was an error in reading
abbrev pub IsReading : Stop → Type 0
IsReading (Reading e) = ⊤
IsReading (Writing e) = ⊥
