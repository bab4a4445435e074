-- What the calls of the listing's steps write, put together: a text at the front of the output, a call's turn, the block's end, and the end of
-- the input. Assumes nothing.
use Prim.Native.Nat.{ℕ, ◌+◌, ◌-◌, ◌≤◌}
use mathlib.Core.Path.{◌≡◌, sym, ap, ◌∙◌}
use mathlib.Core.Bool.{Bool}
use mathlib.Core.List.{List, [], ◌++◌, append_assoc, append-nil}
use lib.ListN.{length, take, drop, drop_of_length-le}
use lib.Seq.{take-append_seam}
use Rattle.writing.specs.Put.{put}
use Rattle.listing.specs.Listing.{listing}
use Rattle.listing.specs.Feed.{fed_out, fed_line, last_out}
use Rattle.listing.specs.Fed.{Fed}
use Rattle.listing.proofs.Blocks.{fed_line-append, fed_out-append, listing-fed}
use Rattle.listing.proofs.Laws.OneCall.{OneCall}

-- a text written to the front is there
pub front-written : (s out o : List ℕ) (n : ℕ) → n ≡ length s → o ≡ put 0 s out → take n o ≡ s
unfolding put
front-written s out o n e p = rw (e, p) (take-append_seam s (drop (0 + length s) out))

-- what a call writes, and then what is left of the block gives, are what all of it gives
pub out-turn : {folded : Bool} {block : List ℕ} {from : ℕ} {held out : List ℕ} {s : Fed} {used written' : ℕ} {held' out' : List ℕ}
    → OneCall folded block from held out s → used ≡ s.used → held' ≡ s.held → written' ≡ s.written → out' ≡ s.out
    → take written' out' ++ fed_out folded held' (drop used block) ≡ fed_out folded held (drop from block)
out-turn {folded} {block} {from} {held} {s = s} c u h w o =
    rw (u, h, w, o, c.held-is, c.text-is)
    (sym (fed_out-append folded held (take (s.used - from) (drop from block)) (drop s.used block)))
    ∙ ap (fed_out folded held) (sym c.parts)

-- so what was written, that, and what is left give all
pub written-turn : (written text rest' : List ℕ) {rest all : List ℕ} → written ++ rest ≡ all → text ++ rest' ≡ rest → (written ++ text) ++ rest' ≡ all
written-turn written text rest' e t = append_assoc written text rest' ∙ ap (λ r. written ++ r) t ∙ e

-- past the block's end nothing is left to write
pub written-end : (folded : Bool) (line block : List ℕ) (i : ℕ) {written all : List ℕ} → length block ≤ i
    → written ++ fed_out folded line (drop i block) ≡ all → written ≡ all
unfolding fed_out
written-end folded line block i {written} h e = sym (append-nil written) ∙ rw (drop_of_length-le block h) at e

-- an input's next block, after the bytes that were read before it
pub more-out : (folded : Bool) (read block held : List ℕ) → held ≡ fed_line [] read
    → fed_out folded [] read ++ fed_out folded held block ≡ fed_out folded [] (read ++ block)
more-out folded read block held e = rw e (sym (fed_out-append folded [] read block))

pub more-line : (read block held : List ℕ) → held ≡ fed_line [] read → fed_line held block ≡ fed_line [] (read ++ block)
more-line read block held e = rw e (sym (fed_line-append [] read block))

-- and its end
pub end-out : (folded : Bool) (read held : List ℕ) → held ≡ fed_line [] read → fed_out folded [] read ++ last_out folded held ≡ listing folded read
end-out folded read held e = rw e (listing-fed folded read)
