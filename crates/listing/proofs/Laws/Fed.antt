-- Feeding byte by byte: the steps as the code takes them, and that what is fed leaves the line and the output from which the listing is
-- made (`fed_line`, `fed_out`). Assumes nothing.
use Prim.Native.Nat.{ℕ, ◌+◌, ◌-◌, ◌≤◌, ◌<◌}
use mathlib.Core.Path.{◌≡◌, refl, sym, ap, ◌∙◌}
use mathlib.Core.Bool.{Bool, true, false}
use mathlib.Core.List.{List, [], ◌∷◌, ◌++◌, append-nil}
use native.Mathlib.Omega.{arith}
use native.Mathlib.Numerals.{add-one}
use lib.ListN.{length, drop, get_or, length-append, drop_of_length-le}
use lib.Seq.{drop-cons}
use lib.Dec.{eqb}
use borrow.Author.Tests.{eq-eqb, ne_eqb, lt-ltb, le-ltb}
use Rattle.turkish.specs.Letters.{lf}
use Rattle.writing.specs.Put.{put}
use Rattle.lines.specs.Line.{list_line}
use Rattle.lines.specs.Listed.{listed}
use Rattle.lines.specs.Room.{line_room}
use Rattle.listing.specs.Feed.{fed_out, fed_line}
use Rattle.listing.specs.Fed.{Fed, standing, end_line, hold_byte_of, feed_byte_of, feed_bytes}
use Rattle.listing.proofs.Blocks.{fed_line-append, fed_out-append}
use Rattle.encoding.proofs.Laws.Booleans.{lt-or-le}
use Rattle.listing.proofs.Laws.Held.{lf-or-other}
use Rattle.writing.proofs.Laws.Put.{put-nothing, put-put, length-put, put-end}
use Rattle.lines.proofs.Laws.LineText.{list_line-size}

-- ---- the steps ----

module _ (folded : Bool) (b : ℕ) (s : Fed) where
  -- a line feed ends the line
  pub feed_byte_of-lf : b ≡ 0x0A → feed_byte_of folded b s ≡ end_line folded s
  unfolding feed_byte_of lf
  feed_byte_of-lf e = rw (eq-eqb b lf e)

  -- another byte is held
  pub feed_byte_of-other : (b ≡ 0x0A → ⊥) → feed_byte_of folded b s ≡ hold_byte_of b s
  unfolding feed_byte_of lf
  feed_byte_of-other h = rw (ne_eqb b lf h)

-- how much was taken before changes nothing else
feed_byte_of-standing : (folded : Bool) (b i : ℕ) (held out : List ℕ) (o : ℕ)
    → let f = feed_byte_of folded b (standing 0 held out o) in standing (i + 1) f.held f.out f.written ≡ feed_byte_of folded b (standing i held out o)
unfolding feed_byte_of end_line hold_byte_of
feed_byte_of-standing folded b i held out o = lf-or-other b (λ e. rw e) (λ e. rw e)

module _ (folded : Bool) (block : List ℕ) (i : ℕ) (s : Fed) where
  -- where a line has no room nothing more is fed
  pub feed_bytes-full : length s.out - s.written < line_room → feed_bytes folded (drop i block) s ≡ s
  unfolding feed_bytes
  feed_bytes-full h = go (drop i block)
    where
      go : (bs : List ℕ) → feed_bytes folded bs s ≡ s
      go [] = refl
      go (b ∷ bs) = rw (lt-ltb (length s.out - s.written) line_room h)

  -- nor past the block's end
  pub feed_bytes-end : length block ≤ i → feed_bytes folded (drop i block) s ≡ s
  unfolding feed_bytes
  feed_bytes-end h = rw (drop_of_length-le block h)

  -- else the byte at the place is fed, and then those after it
  feed_bytes-next : i < length block → line_room ≤ length s.out - s.written
      → feed_bytes folded (drop i block) s ≡ feed_bytes folded (drop (i + 1) block) (feed_byte_of folded (get_or block i 0) s)
  unfolding feed_bytes
  feed_bytes-next k h = rw (drop-cons block i 0 k, add-one, le-ltb (length s.out - s.written) line_room h)

-- equals have equal parts
pub equal-parts : {s t : Fed} → s ≡ t → (s.used ≡ t.used) × (s.written ≡ t.written) × (s.held ≡ t.held) × (s.out ≡ t.out)
equal-parts e = rw e (refl, refl, refl, refl)

-- what the contract of one byte leaves is the definition's step
pub step-is : (folded : Bool) (b i : ℕ) (held out : List ℕ) (o : ℕ) (held' out' : List ℕ) (o' : ℕ)
    → (let f = feed_byte_of folded b (standing 0 held out o) in (o' ≡ f.written) × (held' ≡ f.held) × (out' ≡ f.out))
    → standing (i + 1) held' out' o' ≡ feed_byte_of folded b (standing i held out o)
step-is folded b i held out o held' out' o' e = rw (e.0, e.1, e.2, feed_byte_of-standing folded b i held out o)

-- and what is to be fed after it leaves what was to be fed before it
pub feed_bytes-turn : (folded : Bool) (block : List ℕ) (i : ℕ) (s : Fed) {t all : Fed} → i < length block → line_room ≤ length s.out - s.written
    → t ≡ feed_byte_of folded (get_or block i 0) s → feed_bytes folded (drop i block) s ≡ all → feed_bytes folded (drop (i + 1) block) t ≡ all
feed_bytes-turn folded block i s k r e t = rw e (sym (feed_bytes-next folded block i s k r) ∙ t)

-- ---- within the output ----

-- what is written stays within the output with a byte more
pub feed_byte_of-within : (folded : Bool) (b : ℕ) (s : Fed) → s.written ≤ length s.out → let t = feed_byte_of folded b s in t.written ≤ length t.out
unfolding feed_byte_of end_line hold_byte_of
feed_byte_of-within folded b s h = lf-or-other b (λ e. rw e (put-end s.written (list_line (listed folded s.held)) s.out h)) (λ e. rw e h)

-- ---- what was fed ----

-- the bytes `input` were fed, which made s' of s
pub record Feeds (folded : Bool) (input : List ℕ) (s s' : Fed) : Type 0 where
  pub used-is : s'.used ≡ s.used + length input
  pub held-is : s'.held ≡ fed_line s.held input
  pub written_is : s'.written ≡ s.written + length (fed_out folded s.held input)
  pub out-is : s'.out ≡ put s.written (fed_out folded s.held input) s.out
  pub out-length : length s'.out ≡ length s.out
  pub within : s'.written ≤ length s'.out

-- where no byte is fed all stays
feeds-nothing : (folded : Bool) (s : Fed) → s.written ≤ length s.out → Feeds folded [] s s
unfolding fed_out fed_line
feeds-nothing folded s h =
    record { used-is = omega arith; held-is = refl; written_is = omega arith; out-is = put-nothing s.written s.out; out-length = refl; within = h }

-- a line feed fed writes the line held
end_line-feeds : (folded : Bool) (b : ℕ) (s : Fed) → eqb b lf ≡ true → s.written + line_room ≤ length s.out
    → Feeds folded (b ∷ []) s (feed_byte_of folded b s)
unfolding fed_out fed_line feed_byte_of end_line
end_line-feeds folded b s e r =
    let word = listed folded s.held in
    let text : fed_out folded s.held (b ∷ []) ≡ list_line word = rw e (append-nil _) in
    record {
      used-is = rw e;
      held-is = rw e;
      written_is = rw (text, e);
      out-is = rw (text, e);
      out-length = rw e (length-put s.written (list_line word) s.out (omega (arith, list_line-size word)));
      within = feed_byte_of-within folded b s (omega arith);
    }

-- another byte fed is held
hold_byte_of-feeds : (folded : Bool) (b : ℕ) (s : Fed) → eqb b lf ≡ false → s.written ≤ length s.out → Feeds folded (b ∷ []) s (feed_byte_of folded b s)
unfolding fed_out fed_line feed_byte_of hold_byte_of
hold_byte_of-feeds folded b s e h =
    record {
      used-is = rw e;
      held-is = rw e;
      written_is = rw e (omega arith);
      out-is = rw e (put-nothing s.written s.out);
      out-length = rw e;
      within = feed_byte_of-within folded b s h;
    }

-- one part of an input fed after another is both fed
feeds-append : {folded : Bool} {a b : List ℕ} {s t u : Fed} → Feeds folded a s t → Feeds folded b t u → Feeds folded (a ++ b) s u
feeds-append {folded} {a} {b} {s} {t} f g =
    let first = fed_out folded s.held a in
    let second = fed_out folded t.held b in
    let text : fed_out folded s.held (a ++ b) ≡ first ++ second = rw f.held-is (fed_out-append folded s.held a b) in
    record {
      used-is = omega (arith, f.used-is, g.used-is, length-append a b);
      held-is = g.held-is ∙ rw f.held-is (sym (fed_line-append s.held a b));
      written_is = rw text (omega (arith, f.written_is, g.written_is, length-append first second));
      out-is = g.out-is ∙ rw (text, f.written_is, f.out-is)
          (put-put s.written first second s.out (omega (arith, f.written_is, f.within, f.out-length)));
      out-length = g.out-length ∙ f.out-length;
      within = g.within;
    }

-- of an input a first part was fed, which made s' of s, and one byte at least where a line has room
pub record Part (folded : Bool) (input : List ℕ) (s s' : Fed) : Type 0 where
  pub taken : List ℕ
  pub left : List ℕ
  pub parts : input ≡ taken ++ left
  pub feeds : Feeds folded taken s s'
  pub some : line_room ≤ length s.out - s.written → 0 < length input → 0 < length taken

-- bytes fed as long as a line has room leave such a part
pub feed_bytes-part : (folded : Bool) (input : List ℕ) (s : Fed) → s.written ≤ length s.out → Part folded input s (feed_bytes folded input s)
unfolding feed_bytes
feed_bytes-part folded [] s h = record { taken = []; left = []; parts = refl; feeds = feeds-nothing folded s h; some = λ r k. k }
feed_bytes-part folded (b ∷ bs) s h =
    lt-or-le (length s.out - s.written) line_room
    (λ k. rw (lt-ltb (length s.out - s.written) line_room k)
    (record { taken = []; left = b ∷ bs; parts = refl; feeds = feeds-nothing folded s h; some = λ r _. absurd (omega arith) }))
    (λ k.
    let one : Feeds folded (b ∷ []) s (feed_byte_of folded b s) =
    lf-or-other b (λ e. end_line-feeds folded b s e (omega arith)) (λ e. hold_byte_of-feeds folded b s e h) in
    let rest = feed_bytes-part folded bs (feed_byte_of folded b s) one.within in
    rw (le-ltb (length s.out - s.written) line_room k)
    (record {
      taken = b ∷ rest.taken;
      left = rest.left;
      parts = ap {B = List ℕ} (λ r. b ∷ r) rest.parts;
      feeds = feeds-append one rest.feeds;
      some = λ r _. omega arith;
    }))
