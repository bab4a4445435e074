-- What a command does to a state as a whole, where it may change the text: laws like those of `Means`, for a command behind a test and
-- for the first of two; and what goes on after a failure does not see where the cursor stood. Assumes nothing.
use Prim.Native.Nat.{ℕ}
use Prim.Native.String.{String}
use mathlib.Core.Path.{◌≡◌, refl, sym, ap, ◌∙◌}
use mathlib.Core.Bool.{Bool, true, false, cond}
use mathlib.Core.List.{List}
use Rattle.turkish.specs.Snowball.{State, ahead, move_to, Result, done, failed, and_then, or_else, negated, carried_out, Direction, letters, inserted, Command, define, ◌then◌, ◌or◌, <+◌, run}
use Rattle.theorems.proofs.Source.Means.{settled, placed, moved_none, Means, take_if}

-- `or` does not see where the cursor stood after the first one's failure
pub or_else-settled : (c : ℕ) (r : Result) (q : State → Result) → or_else c (settled c r) q ≡ or_else c r q
unfolding settled or_else move_to
or_else-settled c (done s) q = refl
or_else-settled c (failed s) q = refl

-- nor does `not`
pub negated-settled : (c : ℕ) (r : Result) → negated c (settled c r) ≡ negated c r
unfolding settled negated move_to
negated-settled c (done s) = refl
negated-settled c (failed s) = refl

-- nor `do`
pub carried_out-settled : (c : ℕ) (r : Result) → carried_out c (settled c r) ≡ carried_out c r
unfolding settled carried_out move_to
carried_out-settled c (done s) = refl
carried_out-settled c (failed s) = refl

-- and of one command after another the first one's failure is the whole's
pub and_then-settled : (c : ℕ) (r : Result) (q : State → Result) → settled c (and_then (settled c r) q) ≡ settled c (and_then r q)
unfolding settled and_then move_to
and_then-settled c (done s) q = refl
and_then-settled c (failed s) q = refl

-- in any state the command, read in the direction, results in what the function says of the state
pub record Does (d : Direction) (p : Command) (f : State → Result) : Type 0 where
  pub on-state : (self : State → Result) (s : State) → settled s.cursor (run d self p s) ≡ f s

-- a routine does what its commands do
pub does-define : {d : Direction} {p : Command} {f : State → Result} (n : String) → Does d p f → Does d (define n p) f
unfolding run
does-define n x = record { on-state = λ self s. x.on-state self s }

-- the command takes nothing, and asks whether the test holds of the characters ahead
pub record Asks (d : Direction) (p : Command) (b : List ℕ → Bool) : Type 0 where
  pub means : Means d p (λ cs. take_if (b cs) 0)

-- what follows a question runs from where it was asked
asked-result : (s : State) (b : Bool) (q : State → Result) → settled s.cursor (and_then (placed s (take_if b 0)) q) ≡ cond b (settled s.cursor (q s)) (failed s)
unfolding settled placed take_if and_then move_to
asked-result s true q = ap (λ (r : Result). settled s.cursor (and_then r q)) (moved_none s)
asked-result s false q = refl

-- behind a test a command does what it does where the test holds, and fails elsewhere
pub does-behind : {d : Direction} {p q : Command} {b : List ℕ → Bool} {f : State → Result}
    → Asks d p b → Does d q f → Does d (p then q) (λ s. cond (b (ahead s)) (f s) (failed s))
unfolding run
does-behind {d} {p} {q} {b} {f} x y = record { on-state = on }
  where
    on : (self : State → Result) (s : State) → settled s.cursor (run d self (p then q) s) ≡ cond (b (ahead s)) (f s) (failed s)
    on self s =
        sym (and_then-settled s.cursor (run d self p s) (run d self q))
        ∙ ap (λ (r : Result). settled s.cursor (and_then r (run d self q))) (x.means.on-state self s)
        ∙ asked-result s (b (ahead s)) (run d self q)
        ∙ ap (λ (r : Result). cond (b (ahead s)) r (failed s)) (y.on-state self s)

-- `<+` always succeeds
pub does-insert : {d : Direction} (l : String) → Does d (<+ l) (λ s. done (inserted (letters d l) s))
unfolding run settled
does-insert l = record { on-state = λ self s. refl }

-- the second of two runs from where the first one's question failed
insert-or : (s : State) (b : Bool) (t : State) (q : State → Result)
    → settled s.cursor (or_else s.cursor (cond b (done t) (failed s)) q) ≡ cond b (done t) (settled s.cursor (q s))
unfolding settled or_else move_to
insert-or s true t q = refl
insert-or s false t q = refl

-- an insertion behind a test, or else another command, whose turn comes where the test does not hold
pub does-insert-or : {d : Direction} {p q : Command} {b : List ℕ → Bool} {g : State → Result}
    → Asks d p b → (l : String) → Does d q g → Does d ((p then <+ l) or q) (λ s. cond (b (ahead s)) (done (inserted (letters d l) s)) (g s))
unfolding run
does-insert-or {d} {p} {q} {b} {g} x l y = record { on-state = on }
  where
    on : (self : State → Result) (s : State)
        → settled s.cursor (run d self ((p then <+ l) or q) s) ≡ cond (b (ahead s)) (done (inserted (letters d l) s)) (g s)
    on self s =
        ap (settled s.cursor) (sym (or_else-settled s.cursor (run d self (p then <+ l) s) (run d self q)))
        ∙ ap (λ (r : Result). settled s.cursor (or_else s.cursor r (run d self q))) ((does-behind x (does-insert l)).on-state self s)
        ∙ insert-or s (b (ahead s)) (inserted (letters d l) s) (run d self q)
        ∙ ap (cond (b (ahead s)) (done (inserted (letters d l) s))) (y.on-state self s)
