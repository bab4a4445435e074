-- Calls of `feed`, whatever their blocks and outputs, write the listing of what they take. Assumes nothing.
use Prim.Native.Nat.{ℕ}
use mathlib.Core.Path.{◌≡◌, refl, ◌∙◌}
use mathlib.Core.Bool.{Bool}
use mathlib.Core.List.{List, [], ◌∷◌, flatten}
use Rattle.listing.specs.Listing.{listing}
use Rattle.listing.specs.Fed.{feeding}
use Rattle.listing.specs.Blocks.{fed_all, Call, taken_by, written_by}
use Rattle.listing.proofs.Blocks.{blocks-listing}
use Rattle.listing.proofs.Laws.OneCall.{feeding-call}

-- what the calls write is what the parts that they take make
written_by-fed_all : (folded : Bool) (calls : List Call) (held : List ℕ) → written_by folded calls held ≡ fed_all folded held (taken_by folded calls held)
unfolding written_by taken_by fed_all
written_by-fed_all folded [] held = refl
written_by-fed_all folded (c ∷ cs) held =
    let s = feeding folded c.block c.from held c.out in
    let k = feeding-call folded c.block c.from held c.out in
    rw (k.text-is, ← k.held-is) (rw (written_by-fed_all folded cs s.held))

-- so it is the listing of those parts joined
pub written_by-listing : (folded : Bool) (calls : List Call) → written_by folded calls [] ≡ listing folded (flatten (taken_by folded calls []))
written_by-listing folded calls = written_by-fed_all folded calls [] ∙ blocks-listing folded (taken_by folded calls [])
