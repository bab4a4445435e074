-- The last letters of keys. Where the text's last character fails a test that the last letter of every key passes with which a command may
-- begin, the command fails: one law over the commands, so over every mark, table and branch. And a table may be searched by the keys alone that
-- end in the text's last character. Assumes nothing.
use Prim.Native.Nat.{ℕ}
use mathlib.Core.Path.{◌≡◌, refl, sym, ap, ◌∙◌}
use mathlib.Core.Bool.{Bool, true, false, cond, not, ◌&&◌, ◌||◌, false≢true}
use mathlib.Core.List.{List, [], ◌∷◌}
use lib.ListN.{get_or}
use lib.Dec.{eqb}
use borrow.Author.Tests.{eqb-true}
use Rattle.utf8.specs.Behind.{behind}
use Rattle.encoding.proofs.Laws.Booleans.{and_left, and_right, cond_cases}
use Rattle.turkish.specs.Letters.{starts}
use Rattle.theorems.specs.Simple.Harmony.{harmony}
use Rattle.theorems.specs.Simple.Grammar.{Out, fail, after, asking, among, Mark, mark_of, Command, mark, ◌then◌, ◌or◌, nothing, unset}
use Rattle.theorems.specs.Simple.Pieces.{none, first_trace, after_trace, trace}
use Rattle.theorems.proofs.Laws.Tests.{every}
use Rattle.theorems.proofs.Laws.Traces.{trace_of-none}
use Rattle.keys.specs.declared.seen.Seen.{Seen}
use Rattle.keys.specs.Seen.{seen_at, Sees}
use Rattle.keys.specs.Ends.{ending_in}

-- ---- keys ----

-- the last letter of a key passes a test; a key of no letters passes none
unfoldable pub last_passes : (ℕ → Bool) → List ℕ → Bool
last_passes p [] = false
last_passes p (c ∷ cs) = p c

-- a key that ends the text has the text's last character
starts-last : (p : ℕ → Bool) (key cs : List ℕ) → starts key cs ≡ true → last_passes p key ≡ true → p (get_or cs 0 0) ≡ true
unfolding starts last_passes
starts-last p [] cs s e = absurd (false≢true e)
starts-last p (k ∷ ks) [] s e = absurd (false≢true s)
starts-last p (k ∷ ks) (c ∷ cs) s e = ap p (sym (eqb-true k c (and_left (eqb k c) (starts ks cs) s))) ∙ e

-- where the last character fails a test that the last letter of every key passes, no key ends the text
among-unfit : (p : ℕ → Bool) (ks : List (List ℕ)) (cs : List ℕ) → every (last_passes p) ks ≡ true → p (get_or cs 0 0) ≡ false → among ks cs ≡ fail
unfolding among every
among-unfit p [] cs e f = refl
among-unfit p (key ∷ ks) cs e f =
    cond_cases (λ (o : Out). o ≡ fail) (starts key cs)
    (λ s. absurd (false≢true (sym f ∙ starts-last p key cs s (and_left (last_passes p key) (every (last_passes p) ks) e))))
    (λ s. among-unfit p ks cs (and_right (last_passes p key) (every (last_passes p) ks) e) f)

-- a key that ends in another letter than the text does not end it
starts_other : (key cs : List ℕ) → last_passes (λ c. true) key ≡ true → eqb (get_or key 0 0) (get_or cs 0 0) ≡ false → starts key cs ≡ false
unfolding starts last_passes
starts_other [] cs e n = absurd (false≢true e)
starts_other (k ∷ ks) [] e n = refl
starts_other (k ∷ ks) (c ∷ cs) e n = rw n

-- the keys that end in the text's last character are enough to be searched
pub among-ending : (ks : List (List ℕ)) (cs : List ℕ) → every (last_passes (λ c. true)) ks ≡ true → among (ending_in (get_or cs 0 0) ks) cs ≡ among ks cs
unfolding among every ending_in
among-ending [] cs e = refl
among-ending (key ∷ ks) cs e =
    let full : ℕ → Bool = λ c. true in
    let rest = among-ending ks cs (and_right (last_passes full key) (every (last_passes full) ks) e) in
    let some = and_left (last_passes full key) (every (last_passes full) ks) e in
    cond_cases (λ (l : List (List ℕ)). among l cs ≡ among (key ∷ ks) cs) (eqb (get_or key 0 0) (get_or cs 0 0))
    (λ s. ap (cond (starts key cs) _) rest) (λ n. rest ∙ sym (rw (starts_other key cs some n)))

-- ---- commands ----

-- the last letter of every key with which a command may begin passes a test
unfoldable pub begins : (ℕ → Bool) → Command → Bool
begins p (mark m) = every (last_passes p) m.keys
begins p (a then b) = begins p a
begins p (a or b) = begins p a && begins p b
begins p nothing = false
begins p unset = false

-- a test before a command that fails anyway
pub asking-fail : (t : Bool) → asking t fail ≡ fail
unfolding asking
asking-fail true = refl
asking-fail false = refl

-- a mark none of whose keys ends the text fails there
pub mark_of-keyless : (m : Mark) (cs : List ℕ) → among m.keys cs ≡ fail → mark_of m cs ≡ fail
unfolding mark_of after
mark_of-keyless m cs e = rw e (asking-fail (not m.harmonic || harmony cs))

-- where the last character fails the test, the command fails
pub trace-unfit : (p : ℕ → Bool) (q : Command) (cs : List ℕ) → begins p q ≡ true → p (get_or cs 0 0) ≡ false → trace q cs ≡ none
unfolding begins trace after_trace first_trace
trace-unfit p (mark m) cs e f = trace_of-none m cs (mark_of-keyless m cs (among-unfit p m.keys cs e f))
trace-unfit p (a then b) cs e f = rw (trace-unfit p a cs e f)
trace-unfit p (a or b) cs e f =
    rw (trace-unfit p a cs (and_left (begins p a) (begins p b) e) f) (trace-unfit p b cs (and_right (begins p a) (begins p b) e) f)
trace-unfit p nothing cs e f = absurd (false≢true e)
trace-unfit p unset cs e f = absurd (false≢true e)

-- ---- what is seen ----

-- the last character seen is the last one behind the record
pub last-seen : (w : List ℕ) (s : Seen) → Sees w s → s.ending.last ≡ get_or (behind w s.c) 0 0
unfolding seen_at
last-seen w s sees = ap (λ (x : Seen). x.ending.last) sees.is
