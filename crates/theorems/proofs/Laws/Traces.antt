-- The marks kept and what `run` answers: the same way is taken, and what the marks took adds up to what it takes; so what the stage
-- removes is what its marks took. Assumes nothing.
use Prim.Native.Nat.{ℕ, ◌+◌}
use mathlib.Core.Path.{◌≡◌, refl, sym, ap, ◌∙◌}
use mathlib.Core.Bool.{Bool, ◌&&◌}
use mathlib.Core.List.{List, [], ◌∷◌, ◌++◌}
use native.Mathlib.Nat.{add-zero}
use native.Mathlib.Omega.{arith}
use lib.ListN.{drop}
use Rattle.theorems.specs.Simple.Grammar.{Out, fail, took, more, after, first, Mark, mark_of, Command, mark, ◌then◌, ◌or◌, nothing, unset, run}
use Rattle.theorems.specs.Simple.Stage.{branches, staged, stage}
use Rattle.theorems.specs.Simple.Pieces.{Taken, Trace, none, keeps, total, more_trace, after_trace, first_trace, trace_out, trace_of, trace, summed, taken_of, stage_marks}

-- two lists of marks took what each of them took
pub total-append : (ts us : List Taken) → total (ts ++ us) ≡ total ts + total us
unfolding total
total-append [] us = omega arith
total-append (t ∷ ts) us = omega (arith, total-append ts us)

-- equal answers after equal ones
after_same : (o : Out) (q r : ℕ → Out) → ((k : ℕ) → q k ≡ r k) → after o q ≡ after o r
unfolding after
after_same fail q r e = refl
after_same (took k f) q r e = ap (more k f) (e k)

-- what the stage answers of a command that keeps these marks
staged-summed : (o : Trace) → (staged (summed o)).removed ≡ total (taken_of o)
unfolding staged summed taken_of total
staged-summed none = refl
staged-summed (keeps ts f) = refl

-- one answer after another
summed-more : (ts : List Taken) (f : Bool) (o : Trace) → summed (more_trace ts f o) ≡ more (total ts) f (summed o)
unfolding summed more_trace more
summed-more ts f none = refl
summed-more ts f (keeps us g) = ap (λ (n : ℕ). took n (f && g)) (total-append ts us)

-- one command after another
pub summed-after : (o : Trace) (q : ℕ → Trace) → summed (after_trace o q) ≡ after (summed o) (λ k. summed (q k))
unfolding summed after_trace after
summed-after none q = refl
summed-after (keeps ts f) q = summed-more ts f (q (total ts))

-- the first that does not fail
pub summed-first : (o q : Trace) → summed (first_trace o q) ≡ first (summed o) (summed q)
unfolding summed first_trace first
summed-first none q = refl
summed-first (keeps ts f) q = refl

-- what fails after an answer adds nothing to it
pub first-none : (o : Trace) → first_trace o none ≡ o
unfolding first_trace
first-none none = refl
first-none (keeps ts f) = refl

-- a mark that fails keeps nothing
pub trace_of-none : (m : Mark) (cs : List ℕ) → mark_of m cs ≡ fail → trace_of m cs ≡ none
unfolding trace_of trace_out
trace_of-none m cs e = ap (trace_out m cs) e

-- an answer of one mark
summed-out : (m : Mark) (cs : List ℕ) (o : Out) → summed (trace_out m cs o) ≡ o
unfolding summed trace_out total
summed-out m cs fail = refl
summed-out m cs (took k f) = ap (λ (n : ℕ). took n f) (add-zero k)

-- so of a mark
pub summed-mark : (m : Mark) (cs : List ℕ) → summed (trace_of m cs) ≡ mark_of m cs
unfolding trace_of
summed-mark m cs = summed-out m cs (mark_of m cs)

-- so any command takes what the marks that it keeps took
pub run-trace : (p : Command) (cs : List ℕ) → run p cs ≡ summed (trace p cs)
unfolding run trace after
run-trace (mark m) cs = sym (summed-mark m cs)
run-trace (p then q) cs =
    rw (run-trace p cs) (after_same (summed (trace p cs)) _ _ (λ k. run-trace q (drop k cs)) ∙ sym (summed-after (trace p cs) (λ k. trace q (drop k cs))))
run-trace (p or q) cs = rw (run-trace p cs, run-trace q cs) (sym (summed-first (trace p cs) (trace q cs)))
run-trace nothing cs = unfold summed total in refl
run-trace unset cs = unfold summed total in refl

-- ---- the stage ----

-- the stage removes what its marks took
pub removed-total : (cs : List ℕ) → (stage cs).removed ≡ total (stage_marks cs)
unfolding stage stage_marks
removed-total cs = ap (λ (o : Out). (staged o).removed) (run-trace branches cs) ∙ staged-summed (trace branches cs)
