-- The file to open first: what the UTF-8 check and the skipping step promise. Each theorem is proved in a line or two from `CheckExact` or
-- `RunExact`. That the code gives these definitions' answers is the contracts' part. Assumes nothing.
use Prim.Native.Nat.{ℕ, ◌≤◌, ◌<◌}
use mathlib.Core.Path.{◌≡◌, ◌∙◌}
use mathlib.Core.Bool.{true, false}
use mathlib.Core.List.{List, ◌++◌}
use mathlib.Core.Logic.{◌↔◌}
use lib.ListN.{length}
use Rattle.encoding.specs.Scalar.{surrogate, scalars}
use Rattle.encoding.specs.Encoding.{encode, encode_all}
use Rattle.encoding.specs.Text.{TextOf}
use Rattle.encoding.specs.Validity.{is_text}
use Rattle.encoding.specs.PlainRuns.{run_end_of, RunOf}
use Rattle.encoding.proofs.Laws.Booleans.{and-false}
use Rattle.encoding.proofs.CheckExact.{is_text-encode_all-append, is_text-iff, surrogate-refused, above-refused}
use Rattle.encoding.proofs.RunExact.{run_end_of-run, run_end_of-only}

-- the check accepts bytes exactly when they are the encoding of scalar values
pub accepts-exactly : (w : List ℕ) → (is_text w ≡ true) ↔ TextOf w
accepts-exactly w = is_text-iff w

-- a surrogate is refused, whatever stands before and after it
pub surrogates-refused : (cs : List ℕ) (c : ℕ) (rest : List ℕ) → surrogate c ≡ true → is_text (encode_all cs ++ (encode c ++ rest)) ≡ false
surrogates-refused cs c rest e = is_text-encode_all-append cs (encode c ++ rest) ∙ rw (surrogate-refused c rest e) (and-false (scalars cs))

-- so is a code point above U+10FFFF
pub above-10FFFF-refused : (cs : List ℕ) (c : ℕ) (rest : List ℕ) → 0x10FFFF < c → is_text (encode_all cs ++ (encode c ++ rest)) ≡ false
above-10FFFF-refused cs c rest h = is_text-encode_all-append cs (encode c ++ rest) ∙ rw (above-refused c rest h) (and-false (scalars cs))

-- the skipping step goes on from any place of a word in whole eights, and stops exactly where fewer than eight bytes are left or one of the
-- next eight has its top bit set
pub run-exact : (w : List ℕ) (i : ℕ) → i ≤ length w → RunOf w i (run_end_of w i)
run-exact w i h = run_end_of-run w i h

-- there is no other place where it could stop so
pub run-only : (w : List ℕ) (i r' : ℕ) → RunOf w i r' → r' ≡ run_end_of w i
run-only w i r' p = run_end_of-only w i r' p
