-- A routine that calls itself: where each call is made with fewer characters ahead, it does not matter how many calls deep the
-- definition goes, and the routine is its own text with itself called in it. A command that reads something before the call is enough.
-- Assumes nothing.
use Prim.Native.Nat.{ℕ, zero, suc, ◌+◌, ◌≤◌, ◌<◌}
use Prim.Native.String.{String}
use mathlib.Core.Path.{◌≡◌, refl, sym, ap, ◌∙◌}
use mathlib.Core.Bool.{Bool, true, false}
use native.Mathlib.Omega.{arith}
use lib.ListN.{length, drop, length-append}
use Rattle.turkish.specs.Snowball.{State, ahead, Result, done, failed, and_then, or_else, read_if, Direction, letters, deep, Command, ◌then◌, try, literal, routine, itself, enough, run}
use Rattle.turkish.specs.Letters.{starts}
use Rattle.theorems.proofs.Laws.Syllables.{starts-split}
use Rattle.theorems.proofs.Source.Means.{done-failed, done-state, ahead-on}

-- what a body does depends on its calls only where fewer characters are ahead than at its beginning
pub record CallsBehind (body : (State → Result) → State → Result) : Type 0 where
  pub fewer : (f g : State → Result) (s : State) → ((t : State) → length (ahead t) < length (ahead s) → f t ≡ g t) → body f s ≡ body g s

-- so any number of calls deep does that is more than the characters ahead
pub deep-same : {body : (State → Result) → State → Result} → CallsBehind body → (m n : ℕ) (s : State)
    → length (ahead s) < m → length (ahead s) < n → deep body m s ≡ deep body n s
unfolding deep
deep-same r zero n s h k = absurd (omega arith)
deep-same r (suc m) zero s h k = absurd (omega arith)
deep-same {body} r (suc m) (suc n) s h k = r.fewer (deep body m) (deep body n) s (λ t l. deep-same r m n t (omega arith) (omega arith))

-- and the routine is its text, inside which a call is the routine
pub routine-text : (d : Direction) (self : State → Result) (p : Command) → CallsBehind (λ again. run d again p)
    → (s : State) → run d self (routine p) s ≡ run d (run d self (routine p)) p s
unfolding run enough deep
routine-text d self p r s =
    r.fewer (deep (λ again. run d again p) (length (ahead s))) (run d self (routine p)) s
    (λ t l. deep-same r (length (ahead s)) (suc (length (ahead t))) t l (omega arith))

-- ---- where a call is made behind something read ----

-- what a body does depends on its calls only where no more characters are ahead than at its beginning
pub record CallsWithin (body : (State → Result) → State → Result) : Type 0 where
  pub no_more : (f g : State → Result) (s : State) → ((t : State) → length (ahead t) ≤ length (ahead s) → f t ≡ g t) → body f s ≡ body g s

-- the call itself is such a body
pub calls-itself : (d : Direction) → CallsWithin (λ again. run d again itself)
unfolding run
calls-itself d = record { no_more = λ f g s h. h s (omega arith) }

-- and so is one that may fail
pub calls-try : (d : Direction) (p : Command) → CallsWithin (λ again. run d again p) → CallsWithin (λ again. run d again (try p))
unfolding run
calls-try d p c = record { no_more = λ f g s h. ap (λ (r : Result). or_else s.cursor r done) (c.no_more f g s h) }

-- a command that leaves fewer characters ahead where it succeeds, and calls nothing
pub record Shortens (d : Direction) (p : Command) : Type 0 where
  pub alone : (f g : State → Result) (s : State) → run d f p s ≡ run d g p s
  pub less : (f : State → Result) (s t : State) → run d f p s ≡ done t → length (ahead t) < length (ahead s)

-- behind it calls may be made
pub calls-behind : (d : Direction) (p q : Command) → Shortens d p → CallsWithin (λ again. run d again q) → CallsBehind (λ again. run d again (p then q))
unfolding run and_then
calls-behind d p q x c =
    record { fewer = λ f g s h. ap (λ (r : Result). and_then r (run d f q)) (x.alone f g s) ∙ go f g s h (run d g p s) refl }
  where
    go : (f g : State → Result) (s : State) → ((t : State) → length (ahead t) < length (ahead s) → f t ≡ g t)
        → (r : Result) → run d g p s ≡ r → and_then r (run d f q) ≡ and_then r (run d g q)
    go f g s h (done u) e = let l : length (ahead u) < length (ahead s) = x.less g s u e in c.no_more f g u (λ t m. h t (omega arith))
    go f g s h (failed u) e = refl

-- a literal with a letter in it is one
pub shortens-literal : (d : Direction) (l : String) → 0 < length (letters d l) → Shortens d (literal l)
unfolding run read_if
shortens-literal d l n = record { alone = λ f g s. refl; less = λ f s t. go s t (starts (letters d l) (ahead s)) refl }
  where
    go : (s t : State) (b : Bool) → starts (letters d l) (ahead s) ≡ b → read_if b (length (letters d l)) s ≡ done t → length (ahead t) < length (ahead s)
    go s t true e h =
        let k = letters d l in
        let less : length (drop (length k) (ahead s)) ≡ length (ahead t) = ap length (sym (ahead-on s (length k))) ∙ ap (λ (u : State). length (ahead u)) (done-state h) in
        let whole : length k + length (drop (length k) (ahead s)) ≡ length (ahead s) =
        sym (length-append k (drop (length k) (ahead s))) ∙ ap length (starts-split k (ahead s) e) in
        omega arith
    go s t false e h = done-failed (sym h)
