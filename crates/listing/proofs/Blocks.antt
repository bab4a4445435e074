-- An input fed in blocks, cut anywhere, gives the listing of the whole: feeding goes on over a cut, and the part held of a line
-- gives the line's output. Assumes nothing.
use Prim.Native.Nat.{ℕ}
use mathlib.Core.Path.{◌≡◌, refl, ◌∙◌}
use mathlib.Core.Bool.{Bool}
use mathlib.Core.List.{List, [], ◌∷◌, ◌++◌, append_assoc, flatten, map}
use lib.ListN.{take}
use Rattle.turkish.specs.Calls.{limit}
use Rattle.turkish.specs.Lines.{lines_from}
use Rattle.lines.specs.Listed.{listed}
use Rattle.listing.specs.Listing.{list_all, listing}
use Rattle.listing.specs.Feed.{most, hold, fed_out, fed_line, last_out}
use Rattle.listing.specs.Blocks.{fed_all}
use Rattle.listing.proofs.Laws.Held.{lf-or-other, hold-held, list_line-held, last_out-held}

-- the line held after two parts of an input is that after the second, with the line held after the first
pub fed_line-append : (line a b : List ℕ) → fed_line line (a ++ b) ≡ fed_line (fed_line line a) b
unfolding fed_line
fed_line-append line [] b = refl
fed_line-append line (x ∷ a) b = lf-or-other x (λ e. rw e (fed_line-append [] a b)) (λ e. rw e (fed_line-append (hold line x) a b))

-- the output of two parts is the first's, and then the second's with the line held after the first
pub fed_out-append : (folded : Bool) (line a b : List ℕ) → fed_out folded line (a ++ b) ≡ fed_out folded line a ++ fed_out folded (fed_line line a) b
unfolding fed_out fed_line
fed_out-append folded line [] b = refl
fed_out-append folded line (x ∷ a) b =
    lf-or-other x (λ e. rw (e, fed_out-append folded [] a b) (simp append_assoc)) (λ e. rw e (fed_out-append folded (hold line x) a b))

-- an input fed with the part held of a line gives what the whole line and the input give
fed-lines : (folded : Bool) (line input : List ℕ)
    → fed_out folded (take most line) input ++ last_out folded (fed_line (take most line) input) ≡ list_all (map (listed folded) (lines_from line input))
unfolding lines_from list_all fed_out fed_line last_out most limit
fed-lines folded line [] = last_out-held folded line
fed-lines folded line (b ∷ bs) =
    lf-or-other b
    (λ e. rw (e, list_line-held folded line, append_assoc) (cc (fed-lines folded [] bs)))
    (λ e. rw (e, hold-held line b) (fed-lines folded (line ++ (b ∷ [])) bs))

-- so an input fed from its start gives its listing
pub listing-fed : (folded : Bool) (input : List ℕ) → fed_out folded [] input ++ last_out folded (fed_line [] input) ≡ listing folded input
unfolding listing most limit
listing-fed folded input = fed-lines folded [] input

-- the blocks' outputs are those of the blocks joined
fed_all-flatten : (folded : Bool) (line : List ℕ) (blocks : List (List ℕ))
    → fed_all folded line blocks ≡ fed_out folded line (flatten blocks) ++ last_out folded (fed_line line (flatten blocks))
unfolding fed_all flatten fed_out fed_line
fed_all-flatten folded line [] = refl
fed_all-flatten folded line (block ∷ blocks) =
    rw (fed_all-flatten folded (fed_line line block) blocks, fed_out-append folded line block (flatten blocks), fed_line-append line block (flatten blocks))
    (simp append_assoc)

-- whatever the blocks, the whole output is the listing of the input
pub blocks-listing : (folded : Bool) (blocks : List (List ℕ)) → fed_all folded [] blocks ≡ listing folded (flatten blocks)
blocks-listing folded blocks = fed_all-flatten folded [] blocks ∙ listing-fed folded (flatten blocks)
