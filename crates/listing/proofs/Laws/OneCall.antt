-- What one call of `feed` leaves, in the words of the listing: the part that it takes of the block has gone into the line held and the
-- output, and the rest is left for the next call. Assumes nothing.
use Prim.Native.Nat.{ℕ, ◌+◌, ◌-◌, ◌≤◌, ◌<◌}
use mathlib.Core.Path.{◌≡◌, sym, ap, ◌∙◌}
use mathlib.Core.Bool.{Bool}
use mathlib.Core.List.{List, ◌++◌}
use native.Mathlib.Omega.{arith}
use native.Mathlib.Nat.{zero-add}
use lib.ListN.{length, take, drop, length-append, length-drop, drop_of_length-le}
use lib.Seq.{take-append_seam, drop-append_seam, drop-drop}
use Rattle.writing.specs.Put.{put}
use Rattle.lines.specs.Room.{line_room}
use Rattle.listing.specs.Feed.{fed_out, fed_line}
use Rattle.listing.specs.Fed.{Fed, standing, feeding}
use Rattle.listing.proofs.Blocks.{fed_line-append}
use Rattle.listing.proofs.Laws.Fed.{feed_bytes-part}

-- s is left of the block from place `from` on, with `held` held before it and the whole of `out` free
pub record OneCall (folded : Bool) (block : List ℕ) (from : ℕ) (held out : List ℕ) (s : Fed) : Type 0 where
  pub used_le : from ≤ length block → s.used ≤ length block
  pub used-more : from < length block → line_room ≤ length out → from < s.used
  pub parts : drop from block ≡ take (s.used - from) (drop from block) ++ drop s.used block
  pub held-is : s.held ≡ fed_line held (take (s.used - from) (drop from block))
  pub text-is : take s.written s.out ≡ fed_out folded held (take (s.used - from) (drop from block))
  pub out-length : length s.out ≡ length out
  pub within : s.written ≤ length s.out

-- the part taken and the rest, where the place after the part is known
parts-of : (block : List ℕ) (from used : ℕ) (taken left : List ℕ) → drop from block ≡ taken ++ left → used ≡ from + length taken
    → (take (used - from) (drop from block) ≡ taken) × (drop used block ≡ left)
parts-of block from used taken left e u =
    let n : used - from ≡ length taken = omega arith in
    (rw (n, e) (take-append_seam taken left), rw (u, ← drop-drop (length taken) from block, e) (drop-append_seam taken left))

-- a text written to the front is there
take_put : (s out : List ℕ) → take (0 + length s) (put 0 s out) ≡ s
unfolding put
take_put s out = rw zero-add (take-append_seam s (drop (length s) out))

-- any call is such
pub feeding-call : (folded : Bool) (block : List ℕ) (from : ℕ) (held out : List ℕ) → OneCall folded block from held out (feeding folded block from held out)
unfolding feeding
feeding-call folded block from held out =
    let p = feed_bytes-part folded (drop from block) (standing from held out 0) (omega arith) in
    let f = p.feeds in
    let q = parts-of block from _ p.taken p.left p.parts f.used-is in
    record {
      used_le = λ k. omega (arith, f.used-is, length-append p.taken p.left, ap length p.parts, length-drop from block);
      used-more = λ k r. omega (arith, f.used-is, p.some (omega arith) (omega (arith, length-drop from block)));
      parts = rw (q.0, q.1) p.parts;
      held-is = rw q.0 f.held-is;
      text-is = rw (q.0, f.out-is, f.written_is) (take_put (fed_out folded held p.taken) out);
      out-length = f.out-length;
      within = f.within;
    }

-- and what it leaves of the block gives the same line held as all of it
pub call-turn : {folded : Bool} {block : List ℕ} {from : ℕ} {held out : List ℕ} {s : Fed} {used : ℕ} {held' : List ℕ}
    → OneCall folded block from held out s → used ≡ s.used → held' ≡ s.held → fed_line held' (drop used block) ≡ fed_line held (drop from block)
call-turn {block = block} {from} {held} {s = s} c u h =
    rw (u, h, c.held-is) (sym (fed_line-append held (take (s.used - from) (drop from block)) (drop s.used block))) ∙ ap (fed_line held) (sym c.parts)

-- nothing is left past the block's end
pub fed_line-end : (line block : List ℕ) (i : ℕ) → length block ≤ i → fed_line line (drop i block) ≡ line
unfolding fed_line
fed_line-end line block i h = rw (drop_of_length-le block h)
