-- The twelve marks of the suffix stage in the simple form (document 01, "Marks"), over the keys of the source; that the source's
-- routines are these marks is a theorem. Assumes nothing.
use Rattle.std.specs.Prelude.{ℕ, Bool, true, false, List, [], ◌∷◌, map}
use Prim.Native.String.{String}
use Rattle.turkish.specs.Letters.{text, from_end}
use Rattle.turkish.specs.Source.{A-12, A-13, A-14, A-15, A-16, A-17, A-18, A-19, A-20, A-21, A-22}
use Rattle.theorems.specs.Simple.Grammar.{Joint, Mark}

-- a key that nothing joins, and one that an optional y joins (turkish.sbl, lines 154 and 156)
unfoldable pub unjoined : Joint
unjoined = record { asked = false; letters = []; vowelled = true }

unfoldable pub by_y : Joint
by_y = record { asked = true; letters = text "y"; vowelled = true }

unfoldable pub marked : ℕ → Bool → List String → Joint → Mark
marked kind harmonic keys joint = record { kind = kind; harmonic = harmonic; keys = map from_end keys; joint = joint }

unfoldable pub yUm : Mark
yUm = marked 1 true A-12 by_y

unfoldable pub sUn : Mark
sUn = marked 2 true A-13 unjoined

unfoldable pub yUz : Mark
yUz = marked 3 true A-14 by_y

unfoldable pub sUnUz : Mark
sUnUz = marked 4 false A-15 unjoined

unfoldable pub lAr : Mark
lAr = marked 5 true A-16 unjoined

unfoldable pub nUz : Mark
nUz = marked 6 true A-17 unjoined

unfoldable pub DUr : Mark
DUr = marked 7 true A-18 unjoined

unfoldable pub cAsInA : Mark
cAsInA = marked 8 false A-19 unjoined

unfoldable pub yDU : Mark
yDU = marked 9 true A-20 by_y

unfoldable pub ysA : Mark
ysA = marked 10 false A-21 by_y

unfoldable pub ymUs : Mark
ymUs = marked 11 true A-22 by_y

unfoldable pub yken : Mark
yken = marked 12 false ("ken" ∷ []) by_y
