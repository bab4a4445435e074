-- What holds of the marks that a command keeps, carried through the reading: a statement about each mark goes over to every command.
-- Assumes nothing.
use Prim.Native.Nat.{ℕ}
use mathlib.Core.Bool.{Bool, true, ◌&&◌}
use mathlib.Core.List.{List, [], ◌∷◌, ◌++◌}
use Rattle.theorems.specs.Simple.Grammar.{Out, Mark, Command, mark, ◌then◌, ◌or◌, nothing, unset}
use Rattle.theorems.specs.Simple.Pieces.{Taken, Trace, none, keeps, total, more_trace, after_trace, first_trace, taken_by, trace_out, taken_of}
use Rattle.theorems.proofs.Laws.Outcome.{Post, unfit, fits}

-- an answer that fails, or of whose marks P holds
pub data Keeping (P : List Taken → Type 0) : Trace → Type 0 where
  failing : Keeping P none
  keeping : (ts : List Taken) {f : Bool} → P ts → Keeping P (keeps ts f)

module _ {P Q : List Taken → Type 0} where
  -- what P says of the marks, Q says too
  pub keeping-map : {o : Trace} → ((ts : List Taken) → P ts → Q ts) → Keeping P o → Keeping Q o
  keeping-map h failing = failing
  keeping-map h (keeping ts p) = keeping ts (h ts p)

  -- one answer after another: the marks of both, in order
  pub keeping-more : (ts : List Taken) (f : Bool) {o : Trace} → ((us : List Taken) → P us → Q (ts ++ us)) → Keeping P o → Keeping Q (more_trace ts f o)
  unfolding more_trace
  keeping-more ts f h failing = failing
  keeping-more ts f h (keeping us p) = keeping (ts ++ us) (h us p)

module _ {P : List Taken → Type 0} where
  -- the first of two answers
  pub keeping-first : {o q : Trace} → Keeping P o → Keeping P q → Keeping P (first_trace o q)
  unfolding first_trace
  keeping-first failing y = y
  keeping-first (keeping ts p) y = keeping ts p

  -- a mark's answer, where P holds of the mark alone
  pub keeping-mark : (m : Mark) (cs : List ℕ) {o : Out} → Post (λ k. P (taken_by m cs k ∷ [])) o → Keeping P (trace_out m cs o)
  unfolding trace_out
  keeping-mark m cs unfit = failing
  keeping-mark m cs (fits k p) = keeping _ p

  -- the marks of an answer, none where it fails
  pub keeping-taken : {o : Trace} → P [] → Keeping P o → P (taken_of o)
  unfolding taken_of
  keeping-taken n failing = n
  keeping-taken n (keeping ts p) = p

-- one command after another, where the first one's marks have a say in what holds of the second's, read where they end
pub keeping-after : {P R : List Taken → Type 0} {o : Trace} (q : ℕ → Trace)
    → Keeping P o → ((ts : List Taken) → P ts → Keeping (λ us. R (ts ++ us)) (q (total ts))) → Keeping R (after_trace o q)
unfolding after_trace
keeping-after q failing h = failing
keeping-after {R} q (keeping ts {f} p) h = keeping-more {Q = R} ts f (λ us r. r) (h ts p)

-- and so wherever it is read
pub keeping-then : {P R : List Taken → Type 0} {o : Trace} {q : ℕ → Trace}
    → Keeping P o → ((ts : List Taken) → P ts → (k : ℕ) → Keeping (λ us. R (ts ++ us)) (q k)) → Keeping R (after_trace o q)
keeping-then {R} {q = q} x h = keeping-after {R = R} q x (λ ts p. h ts p (total ts))

-- all marks of a command pass a test
unfoldable pub every_mark : (Mark → Bool) → Command → Bool
every_mark f (mark m) = f m
every_mark f (p then q) = every_mark f p && every_mark f q
every_mark f (p or q) = every_mark f p && every_mark f q
every_mark f nothing = true
every_mark f unset = true
