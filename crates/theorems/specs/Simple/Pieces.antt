-- The marks that a command of the simple form keeps (document 02, requests 1 and 5): an interpreter beside `run`, with lists of marks
-- where that has their sum. Assumes nothing.
use Rattle.std.specs.Prelude.{ℕ, ◌+◌, ◌-◌, Bool, true, false, cond, ◌&&◌, List, [], ◌∷◌, ◌++◌, drop, get_or, eqb}
use Rattle.turkish.specs.Heard.{Heard, unheard, heard}
use Rattle.turkish.specs.Pieces.{Joined, alone, with_y, after_vowel, Kept}
use Rattle.theorems.specs.Simple.Harmony.{Found, nowhere, at, harmony_found}
use Rattle.theorems.specs.Simple.Grammar.{Out, fail, took, Mark, mark_of, Command, mark, ◌then◌, ◌or◌, nothing, unset}
use Rattle.theorems.specs.Simple.Stage.{branches}

-- a mark that took some characters: its number, how many, how it joined, and what its harmony test found
pub record Taken : Type 0 where
  pub kind : ℕ
  pub size : ℕ
  pub joined : Joined
  pub found : Found

-- a command's answer: it fails, or keeps these marks, in order of running, and leaves the flag so
pub data Trace : Type 0 where
  none : Trace
  keeps : List Taken → Bool → Trace

-- the characters that the marks took
unfoldable pub total : List Taken → ℕ
total [] = 0
total (t ∷ ts) = t.size + total ts

-- ---- one command after another, and the first that does not fail ----

unfoldable pub more_trace : List Taken → Bool → Trace → Trace
more_trace ts f none = none
more_trace ts f (keeps us g) = keeps (ts ++ us) (f && g)

unfoldable pub after_trace : Trace → (ℕ → Trace) → Trace
after_trace none q = none
after_trace (keeps ts f) q = more_trace ts f (q (total ts))

unfoldable pub first_trace : Trace → Trace → Trace
first_trace none q = q
first_trace (keeps ts f) q = keeps ts f

-- ---- a mark ----

-- a mark that joins does so with a y where one is the last that it took, for no key begins with one
unfoldable pub joint_by : Bool → ℕ → List ℕ → Joined
joint_by joins k cs = cond joins (cond (eqb (get_or cs (k - 1) 0) 0x79) with_y after_vowel) alone

-- nothing is found by a mark that does not test harmony
unfoldable pub found_by : Bool → List ℕ → Found
found_by harmonic cs = cond harmonic (harmony_found cs) nowhere

-- a mark that took k of these characters
abbrev pub taken_by : Mark → List ℕ → ℕ → Taken
taken_by m cs k = record { kind = m.kind; size = k; joined = joint_by m.joint.asked k cs; found = found_by m.harmonic cs }

unfoldable pub trace_out : Mark → List ℕ → Out → Trace
trace_out m cs fail = none
trace_out m cs (took k f) = keeps (taken_by m cs k ∷ []) f

unfoldable pub trace_of : Mark → List ℕ → Trace
trace_of m cs = trace_out m cs (mark_of m cs)

-- ---- a command ----

unfoldable pub trace : Command → List ℕ → Trace
trace (mark m) cs = trace_of m cs
trace (p then q) cs = after_trace (trace p cs) (λ k. trace q (drop k cs))
trace (p or q) cs = first_trace (trace p cs) (trace q cs)
trace nothing cs = keeps [] true
trace unset cs = keeps [] false

-- what `run` answers of it
unfoldable pub summed : Trace → Out
summed none = fail
summed (keeps ts f) = took (total ts) f

-- ---- the stage ----

unfoldable pub taken_of : Trace → List Taken
taken_of none = []
taken_of (keeps ts f) = ts

-- the marks that the suffix stage keeps of a word's characters
unfoldable pub stage_marks : List ℕ → List Taken
stage_marks cs = taken_of (trace branches cs)

-- what was found, from place n on
unfoldable pub heard_at : ℕ → Found → Heard
heard_at n nowhere = unheard
heard_at n (at last partner) = heard (n - last) (n - partner)

-- a mark entered at place n, with the places between which it stands
abbrev pub kept_at : ℕ → Taken → Kept
kept_at n t = record { kind = t.kind; joined = t.joined; heard = heard_at n t.found; from = n; to = n - t.size }

-- the marks one behind the other, from place n inward
unfoldable pub located : ℕ → List Taken → List Kept
located n [] = []
located n (t ∷ ts) = kept_at n t ∷ located (n - t.size) ts
