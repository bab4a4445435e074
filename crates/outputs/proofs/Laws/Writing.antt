-- What stores leave in an output: a text written to its front in parts.
-- Assumes nothing.
use Prim.Native.Nat.{ℕ, ◌+◌, ◌-◌, ◌≤◌}
use mathlib.Core.Path.{◌≡◌, refl, sym, ap, ◌∙◌}
use mathlib.Core.List.{List, ◌++◌, append_assoc, append-nil}
use native.Mathlib.Omega.{arith}
use lib.ListN.{length, take, drop, length-append, length-drop}
use lib.Seq.{length-take-le, take_all, take-length, take-append_seam, drop-append-add, drop-drop}
use Rattle.writing.specs.Put.{put}
use Rattle.repairs.specs.declared.postlude.Repair.{Repair}
use Rattle.std.specs.Prelude.{Some, None}
use Rattle.writing.specs.declared.letter.Letter.{Letter}
use Rattle.writing.specs.Letter.{bytes_of}
use Rattle.repairs.specs.Repairs.{letter_bytes, repair_text}
use Rattle.turkish.specs.Calls.{written}
use Rattle.outputs.specs.declared.run.Run.{Run}
use Rattle.outputs.specs.Runs.{run_text}

-- ---- a text in two parts ----

-- a text of n bytes written, and then one of m bytes from place n on
written-append : (s t out copied : List ℕ) (n m : ℕ) → length s ≡ n → length t ≡ m
    → copied ≡ take (length s) s ++ drop (length s) out
    → take n copied ++ (t ++ drop (n + m) copied) ≡ written (s ++ t) out
unfolding written
written-append s t out copied n m e f c =
    rw (c, take_all (length s) s (omega arith), ← e, ← f, take-append_seam, drop-append-add, drop-drop, length-append, append_assoc)

-- a copy of s is s written
pub copy_written : (s out : List ℕ) → take (length s) s ++ drop (length s) out ≡ written s out
unfolding written
copy_written s out = ap (λ (l : List ℕ). l ++ drop (length s) out) (take-length s)

-- ---- the text of a repair ----

module _ (w : List ℕ) (r : Repair) (h : r.keep ≤ length w) where
  -- the bytes kept are as many as they should be
  length-kept : length (take r.keep w) ≡ r.keep
  length-kept = length-take-le r.keep w h

  -- and all
  pub length-repair : r.keep + length (letter_bytes r.letter) ≡ length (repair_text w r)
  unfolding repair_text
  length-repair = rw (length-append, length-kept)

  module _ (out copied : List ℕ) (c : copied ≡ take (length (take r.keep w)) (take r.keep w) ++ drop (length (take r.keep w)) out) where
    -- the bytes kept copied, the text is written where no letter follows
    pub repair-kept : r.letter ≡ None → (r.keep ≡ length (repair_text w r)) × (copied ≡ written (repair_text w r) out)
    unfolding repair_text
    repair-kept e = rw (e, append-nil) (sym length-kept, c ∙ copy_written (take r.keep w) out)

    -- and where one follows, once it is written behind them
    pub repair-followed : (l : Letter) → r.letter ≡ Some l → (k : ℕ) (last : List ℕ) → k ≡ r.keep + length (bytes_of l) → last ≡ put r.keep (bytes_of l) copied
        → (k ≡ length (repair_text w r)) × (last ≡ written (repair_text w r) out)
    unfolding repair_text put
    repair-followed l e k last f g =
        rw (e, length-append, length-kept) (f, g ∙ written-append (take r.keep w) (bytes_of l) out copied r.keep (length (bytes_of l)) length-kept refl c)

-- ---- the text of a run ----

-- a text put behind one that is written
put_written : (s t out : List ℕ) → put (length s) t (written s out) ≡ written (s ++ t) out
unfolding put
put_written s t out = written-append s t out (written s out) (length s) (length t) refl refl (sym (copy_written s out))

module _ (w : List ℕ) (r : Run) (h : r.from ≤ r.upto) (k : r.upto ≤ length w) where
  -- the bytes behind the repair are as many as they should be
  pub length-between : length (take (r.upto - r.from) (drop r.from w)) ≡ r.upto - r.from
  length-between = length-take-le (r.upto - r.from) (drop r.from w) (omega (arith, length-drop r.from w))

  -- all of them behind the repair's text are the run's
  pub run-parts : repair_text w r.repair ++ take (r.upto - r.from) (take (r.upto - r.from) (drop r.from w)) ≡ run_text w r
  unfolding run_text
  run-parts = rw (take_all (r.upto - r.from) (take (r.upto - r.from) (drop r.from w)) (omega (arith, length-between)))

  -- so the run's text has its length
  length_run : length (run_text w r) ≡ length (repair_text w r.repair) + (r.upto - r.from)
  unfolding run_text
  length_run = rw (length-append, length-between)

  -- the repair's text written and the others put behind it, the text is written
  pub written-run : (out mid last : List ℕ) (n m : ℕ) → n ≡ length (repair_text w r.repair) → mid ≡ written (repair_text w r.repair) out
      → m ≡ n + (r.upto - r.from) → last ≡ put n (take (r.upto - r.from) (take (r.upto - r.from) (drop r.from w))) mid
      → (m ≡ length (run_text w r)) × (last ≡ written (run_text w r) out)
  written-run out mid last n m e f g l = (omega (arith, length_run), l ∙ rw (e, f, put_written, run-parts))
