-- The front that the code puts in the stead of one with a given summary. That words behind either fare alike is proved in proofs/. Assumes
-- nothing.
use Rattle.std.specs.Prelude.{ℕ, ◌*◌, cond, List, [], ◌∷◌, ◌++◌, eqb}
use Rattle.encoding.specs.Encoding.{encode_all}
use Rattle.turkish.specs.declared.summary.Summary.{Summary}
use Rattle.turkish.specs.Vowels.{vowels}
use Rattle.vowels.specs.Vowel.{vowel_numbered, most_vowel_bytes}

-- of vowels with their counts those that are counted
unfoldable pub counted : List ℕ → List ℕ → List ℕ
counted [] ns = []
counted (v ∷ vs) [] = []
counted (v ∷ vs) (n ∷ ns) = cond (eqb n 0) (counted vs ns) (v ∷ counted vs ns)

-- each vowel that is counted, once, and the last one
unfoldable pub stand_in_of : Summary → List ℕ
stand_in_of s = encode_all (counted vowels s.counts ++ vowel_numbered s.last)

-- the most bytes of a stand-in
unfoldable pub stand_in_room : ℕ
stand_in_room = 9 * most_vowel_bytes
