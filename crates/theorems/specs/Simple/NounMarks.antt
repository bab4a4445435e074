-- The marks of the noun stage in the simple form, over the keys of the source, in its order; that the source's routines are these marks
-- is a theorem. They have no number: no piece is one of them. Assumes nothing.
use Prim.Native.String.{String}
use Rattle.std.specs.Prelude.{true, false, List, [], ◌∷◌}
use Rattle.turkish.specs.Letters.{text}
use Rattle.turkish.specs.Source.{U, A-0, A-1, A-2, A-3, A-4, A-5, A-6, A-7, A-8, A-9, A-10, A-11}
use Rattle.theorems.specs.Simple.Grammar.{Joint, Mark}
use Rattle.theorems.specs.Simple.Marks.{unjoined, by_y, marked}

-- what joins a key: an optional n (turkish.sbl, lines 133 and 135) or s (144 and 146) after a vowel, an optional U (160 and 162) after a
-- character that is no vowel
unfoldable pub by_n : Joint
by_n = record { asked = true; letters = text "n"; vowelled = true }

unfoldable pub by_s : Joint
by_s = record { asked = true; letters = text "s"; vowelled = true }

unfoldable pub by_U : Joint
by_U = record { asked = true; letters = text U; vowelled = false }

-- a letter of the grouping U as a key
unfoldable pub letters_U : List String
letters_U = "ı" ∷ "i" ∷ "u" ∷ "ü" ∷ []

unfoldable pub possessives : Mark
possessives = marked 0 false A-0 by_U

unfoldable pub sU : Mark
sU = marked 0 true letters_U by_s

unfoldable pub lArI : Mark
lArI = marked 0 false A-1 unjoined

unfoldable pub yU : Mark
yU = marked 0 true letters_U by_y

unfoldable pub nU : Mark
nU = marked 0 true A-2 unjoined

unfoldable pub nUn : Mark
nUn = marked 0 true A-3 by_n

unfoldable pub yA : Mark
yA = marked 0 true A-4 by_y

unfoldable pub nA : Mark
nA = marked 0 true A-5 unjoined

unfoldable pub DA : Mark
DA = marked 0 true A-6 unjoined

unfoldable pub ndA : Mark
ndA = marked 0 true A-7 unjoined

unfoldable pub DAn : Mark
DAn = marked 0 true A-8 unjoined

unfoldable pub ndAn : Mark
ndAn = marked 0 true A-9 unjoined

unfoldable pub ylA : Mark
ylA = marked 0 true A-10 by_y

unfoldable pub ki : Mark
ki = marked 0 false ("ki" ∷ []) unjoined

unfoldable pub ncA : Mark
ncA = marked 0 true A-11 by_n
