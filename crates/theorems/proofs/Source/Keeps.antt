-- What a command of Snowball keeps in the words of the simple form: in whatever state it runs, the marks that the reading `keeps` finds
-- on its way are those of a function of the characters ahead, each at its place. One law a command. Assumes nothing.
use Prim.Native.Nat.{ℕ, ◌+◌, ◌-◌}
use mathlib.Core.Path.{◌≡◌, refl, sym, ap, ap₂, ◌∙◌}
use mathlib.Core.Bool.{Bool, true, false≢true}
use mathlib.Core.List.{List, [], ◌∷◌, ◌++◌}
use native.Mathlib.Omega.{arith}
use lib.ListN.{length, drop, length-drop}
use Rattle.turkish.specs.Snowball.{State, ahead, place, move_to, Result, done, failed, and_then, or_else, backward, Command, ◌then◌, ◌or◌, succeed, run}
use Rattle.turkish.specs.Answers.{succeeded}
use Rattle.turkish.specs.Pieces.{Kept, Reading, blank, read_then, read_after, read_or}
use Rattle.turkish.specs.Pieces as Pieces
use Rattle.theorems.specs.Simple.Pieces.{Taken, Trace, none, keeps, total, more_trace, after_trace, first_trace, summed, kept_at, located}
use Rattle.theorems.proofs.Laws.Traces.{summed-after, summed-first}
use Rattle.theorems.proofs.Source.Means.{Means, settled, placed, settled-again, done-failed, done-state, failed-state, ahead-on, means-as, means-then, means-or, means-succeed}

-- ---- places ----

-- two lists of marks stand end to end
pub located-append : (n : ℕ) (ts us : List Taken) → located n (ts ++ us) ≡ located n ts ++ located (n - total ts) us
unfolding located total
located-append n [] us = let e : n ≡ n - 0 = omega arith in ap (λ (m : ℕ). located m us) e
located-append n (t ∷ ts) us =
    let e : n - t.size - total ts ≡ n - (t.size + total ts) = omega arith in
    ap (λ (ks : List Kept). kept_at n t ∷ ks) (located-append (n - t.size) ts us ∙ ap (λ (m : ℕ). located (n - t.size) ts ++ located m us) e)

-- some characters on, so many fewer stand before the cursor
pub place-on : (s : State) (k : ℕ) → place (move_to s (s.cursor + k)) ≡ place s - k
unfolding place
place-on s k = ap length (ahead-on s k) ∙ length-drop k (ahead s)

-- ---- what is shown ----

-- a result, and what was seen on the way to it, show an answer of the simple form: it fails and all is as it was, or it succeeds and
-- the marks kept are the answer's, from the state's place inward
unfoldable pub Shows : State → Trace → Result → Reading → Type 0
Shows s none r a = settled s.cursor r ≡ failed s
Shows s (keeps ts f) r a = (succeeded r ≡ true) × (a.kept ≡ located (place s) ts)

-- the first of two that does not fail
pub shows-or : (s : State) (q : State → Result) (b : State → Reading) (r : Result) (a : Reading) (o u : Trace)
    → Shows s o r a → Shows s u (q s) (b s) → Shows s (first_trace o u) (or_else s.cursor r q) (read_or s.cursor r a b)
unfolding Shows first_trace or_else read_or settled succeeded
shows-or s q b (done t) a none u e h = done-failed e
shows-or s q b (failed t) a none u e h = rw (failed-state e) h
shows-or s q b (done t) a (keeps ts f) u e h = e
shows-or s q b (failed t) a (keeps ts f) u e h = absurd (false≢true e.0)

-- they show an answer that does not fail, the marks kept being those from place n inward
unfoldable pub Surely : ℕ → Trace → Result → Reading → Type 0
Surely n none r a = ⊥
Surely n (keeps ts f) r a = (succeeded r ≡ true) × (a.kept ≡ located n ts)

-- what surely follows some marks is shown, seen from where they began
pub surely-more : (s : State) (n : ℕ) (ts : List Taken) (f : Bool) (r : Result) (a b : Reading) (o : Trace) → a.kept ≡ located (place s) ts
    → n ≡ place s - total ts → Surely n o r b → Shows s (more_trace ts f o) r (read_then a b)
unfolding Shows Surely more_trace read_then
surely-more s n ts f r a b none e p h = absurd h
surely-more s n ts f r a b (keeps us g) e p h =
    (h.0, ap₂ (λ (x y : List Kept). x ++ y) e (h.1 ∙ ap (λ (m : ℕ). located m us) p) ∙ sym (located-append (place s) ts us))

-- and so is what is shown some marks on
shows_more : (s : State) (ts : List Taken) (f : Bool) (r : Result) (a b : Reading) (o : Trace) → a.kept ≡ located (place s) ts
    → Shows (move_to s (s.cursor + total ts)) o r b → Shows s (more_trace ts f o) r (read_then a b)
unfolding Shows Surely more_trace move_to settled
shows_more s ts f r a b none e h = sym (settled-again s.cursor (s.cursor + total ts) r) ∙ ap (settled s.cursor) h
shows_more s ts f r a b (keeps us g) e h = surely-more s _ ts f r a b (keeps us g) e (place-on s (total ts)) h

-- one after the other, where the first takes what its marks took
shows_then : (s : State) (q : State → Result) (b : State → Reading) (g : List ℕ → Trace) → ((t : State) → Shows t (g (ahead t)) (q t) (b t))
    → (r : Result) (a : Reading) (o : Trace) → settled s.cursor r ≡ placed s (summed o) → Shows s o r a
    → Shows s (after_trace o (λ k. g (drop k (ahead s)))) (and_then r q) (read_after r a b)
unfolding Shows after_trace summed settled placed and_then read_after
shows_then s q b g h (done t) a none e x = done-failed x
shows_then s q b g h (failed t) a none e x = x
shows_then s q b g h (done t) a (keeps ts f) e x =
    let u = move_to s (s.cursor + total ts) in
    let there = rw (ahead-on s (total ts)) at (h u) in
    rw (done-state e) (shows_more s ts f (q u) a (b u) (g (drop (total ts) (ahead s))) x.1 there)
shows_then s q b g h (failed t) a (keeps ts f) e x = done-failed (sym e)

-- ---- the commands ----

-- the command, run backwards in a state, shows the answer
abbrev pub Shown : (State → Result) → Command → State → Trace → Type 0
Shown self p s o = Shows s o (run backward self p s) (Pieces.reading backward self p s)

-- in any state the command, read backwards, takes what the function's marks took, and keeps these marks
pub record Keeps (p : Command) (g : List ℕ → Trace) : Type 0 where
  pub means : Means backward p (λ cs. summed (g cs))
  pub on-state : (self : State → Result) (s : State) → Shown self p s (g (ahead s))

-- one command after another keeps what both keep
pub keeps_then : {p q : Command} {f g : List ℕ → Trace} → Keeps p f → Keeps q g → Keeps (p then q) (λ cs. after_trace (f cs) (λ k. g (drop k cs)))
unfolding run Pieces.reading
keeps_then {p} {q} {f} {g} x y =
    record {
      means = means-as (means-then x.means y.means) (λ cs. sym (summed-after (f cs) (λ k. g (drop k cs))));
      on-state =
          λ self s. shows_then s (run backward self q) (Pieces.reading backward self q) g (y.on-state self)
          (run backward self p s) (Pieces.reading backward self p s) (f (ahead s)) (x.means.on-state self s) (x.on-state self s);
    }

-- `or` keeps what the first keeps that does not fail
pub keeps-or : {p q : Command} {f g : List ℕ → Trace} → Keeps p f → Keeps q g → Keeps (p or q) (λ cs. first_trace (f cs) (g cs))
unfolding run Pieces.reading
keeps-or {p} {q} {f} {g} x y =
    record {
      means = means-as (means-or x.means y.means) (λ cs. sym (summed-first (f cs) (g cs)));
      on-state =
          λ self s. shows-or s (run backward self q) (Pieces.reading backward self q) (run backward self p s) (Pieces.reading backward self p s)
          (f (ahead s)) (g (ahead s)) (x.on-state self s) (y.on-state self s);
    }

-- nothing is kept by a command that only succeeds
pub keeps-succeed : Keeps succeed (λ cs. keeps [] true)
unfolding run Pieces.reading blank Shows located summed total succeeded
keeps-succeed = record { means = means-succeed; on-state = λ self s. (refl, refl) }
