-- A routine that cuts slices and calls itself: where each call is made behind something read, its calls are made with fewer characters
-- ahead, in whatever state it begins. `] delete` leaves what is ahead as it is only where the slice was opened behind the cursor, so the
-- laws of commands within a slice are about states whose slice is open (`Past`), and those of the others about states whose cursor stands
-- in the text (`At`); the routine itself begins with `[` and a mark that takes something, which in any other state fails. Assumes nothing.
use Prim.Native.Nat.{ℕ, ◌+◌, ◌≤◌, ◌<◌}
use mathlib.Core.Path.{◌≡◌, refl, sym, ap, ◌∙◌}
use mathlib.Core.List.{List}
use native.Mathlib.Omega.{arith}
use lib.ListN.{length, take, drop, length-drop, take-append-drop}
use lib.Seq.{length-take-le, drop-drop}
use Rattle.theorems.specs.Simple.Grammar.{Out, fail, took}
use Rattle.turkish.specs.Snowball.{State, ahead, place, move_to, with_slice, Result, done, failed, and_then, or_else, backward, Command, ◌then◌, ◌or◌, try, ⟦, ⟧, delete, itself, run}
use Rattle.theorems.proofs.Laws.Outcome.{Post, unfit, fits, post-all}
use Rattle.theorems.proofs.Source.Means.{Means, settled, placed, done-failed, done-state, failed-state}
use Rattle.theorems.proofs.Source.Recursion.{CallsBehind}
use Rattle.theorems.proofs.Source.Cutting.{At, Past, at_ahead, past-ahead, at-opened, past-on, past-cut}

-- ---- commands and their calls ----

-- a command that calls nothing and means what the function says
pub record Reads (m : Command) (f : List ℕ → Out) : Type 0 where
  pub alone : (again other : State → Result) (s : State) → run backward again m s ≡ run backward other m s
  pub means : Means backward m f

-- two callees do the same where no more than n characters are ahead
abbrev pub Agree : (State → Result) → (State → Result) → ℕ → Type 0
Agree f g n = (t : State) → length (ahead t) ≤ n → f t ≡ g t

-- what a command does depends on its calls only where no more characters are ahead than at its beginning: where its cursor stands in the
-- text, and where besides a slice is open
pub record CallsAt (c : Command) : Type 0 where
  pub same : (f g : State → Result) (p cs : List ℕ) (s : State) → At p cs s → Agree f g (length cs) → run backward f c s ≡ run backward g c s

pub record CallsPast (c : Command) : Type 0 where
  pub same : (f g : State → Result) (p cs : List ℕ) (i : ℕ) (s : State) → Past p cs i s → Agree f g (length (drop i cs))
      → run backward f c s ≡ run backward g c s

-- a command that never fails
pub record Sure (c : Command) : Type 0 where
  pub succeeds : (f : State → Result) (s : State) → (t : State) × (run backward f c s ≡ done t)

-- ---- results ----

-- after a mark, where what follows does the same wherever the mark can leave the cursor
mark-same : (s : State) (q r : State → Result) (P : ℕ → Type 0) → ((k : ℕ) → P k → q (move_to s (s.cursor + k)) ≡ r (move_to s (s.cursor + k)))
    → (v : Result) {o : Out} → Post P o → settled s.cursor v ≡ placed s o → and_then v q ≡ and_then v r
unfolding settled placed and_then
mark-same s q r P h (done t) unfit e = done-failed e
mark-same s q r P h (done t) (fits k p) e = rw (done-state e) (h k p)
mark-same s q r P h (failed t) o e = refl

-- and where it fails something else goes on from the same state
mark-or-same : (s : State) (q r x y : State → Result) → ((k : ℕ) → q (move_to s (s.cursor + k)) ≡ r (move_to s (s.cursor + k)))
    → ((t : State) → (u : State) × (r t ≡ done u)) → x s ≡ y s
    → (v : Result) (o : Out) → settled s.cursor v ≡ placed s o → or_else s.cursor (and_then v q) x ≡ or_else s.cursor (and_then v r) y
unfolding settled placed and_then or_else
mark-or-same s q r x y h d e (done t) fail a = done-failed a
mark-or-same s q r x y h d e (done t) (took k b) a =
    rw (done-state a, h k, (d (move_to s (s.cursor + k))).1)
mark-or-same s q r x y h d e (failed t) fail a = rw (failed-state a) e
mark-or-same s q r x y h d e (failed t) (took k b) a = done-failed (sym a)

-- ---- laws ----

-- the call itself
pub itself-at : CallsAt itself
unfolding run
itself-at = record { same = λ f g p cs s h a. a s (omega (arith, ap length (at_ahead p cs s h))) }

pub itself-past : CallsPast itself
unfolding run
itself-past = record { same = λ f g p cs i s h a. a s (omega (arith, ap length (past-ahead p cs i s h))) }

-- `try`
pub calls-try : {c : Command} → CallsAt c → CallsAt (try c)
unfolding run
calls-try x = record { same = λ f g p cs s h a. ap (λ (r : Result). or_else s.cursor r done) (x.same f g p cs s h a) }

-- `[` opens a slice
pub calls-open : {c : Command} → CallsPast c → CallsAt (⟦ then c)
unfolding run and_then
calls-open x = record { same = λ f g p cs s h a. x.same f g p cs 0 _ (at-opened p cs s h) a }

-- it is no matter whether the first of two opens it or both stand in it
pub calls-group : {c d : Command} → CallsAt ((⟦ then c) or d) → CallsAt (⟦ then (c or d))
unfolding run and_then with_slice
calls-group x = record { same = λ f g p cs s h a. x.same f g p cs s h a }

-- `] delete`, and what follows it
pub calls-delete : CallsPast (⟧ then delete)
unfolding run and_then
calls-delete = record { same = λ f g p cs i s h a. refl }

pub calls-cut : {c : Command} → CallsAt c → CallsPast (⟧ then delete then c)
unfolding run and_then
calls-cut x = record { same = λ f g p cs i s h a. x.same f g p (drop i cs) _ (past-cut p cs i s h) a }

-- which does not fail, nor with something that is tried
pub sure-delete : Sure (⟧ then delete)
unfolding run and_then
sure-delete = record { succeeds = λ f s. (_, refl) }

pub sure-try : {c : Command} → Sure (⟧ then delete then try c)
unfolding run and_then or_else
sure-try {c} = record { succeeds = λ f s. go _ (run backward f c _) }
  where
    go : (n : ℕ) (r : Result) → (t : State) × (or_else n r done ≡ done t)
    go n (done t) = (t, refl)
    go n (failed t) = (move_to t n, refl)

-- what follows a mark runs with the same slice open and no more characters ahead
follows : {c : Command} → CallsPast c → (f g : State → Result) (p cs : List ℕ) (i : ℕ) (s : State) → Past p cs i s → Agree f g (length (drop i cs))
    → (k : ℕ) → run backward f c (move_to s (s.cursor + k)) ≡ run backward g c (move_to s (s.cursor + k))
follows y f g p cs i s h a k =
    y.same f g p cs (i + k) _ (past-on p cs i k s h)
    (λ t l. a t (omega (arith, length-drop k (drop i cs), ap length (drop-drop k i cs))))

module _ {m : Command} {e : List ℕ → Out} (x : Reads m e) where
  -- a mark in the slice, and what follows it
  pub calls-mark : {c : Command} → CallsPast c → CallsPast (m then c)
  unfolding run
  calls-mark {c} y = record {
    same = λ f g p cs i s h a.
        ap (λ (r : Result). and_then r (run backward f c)) (x.alone f g s)
        ∙ mark-same s (run backward f c) (run backward g c) (λ k. k ≡ k) (λ k l. follows y f g p cs i s h a k) (run backward g m s)
        (post-all (e (ahead s)) (λ k b. refl)) (x.means.on-state g s);
  }

  -- and where the mark fails, something else
  pub calls-or : {c d : Command} → Sure c → CallsPast c → CallsPast d → CallsPast ((m then c) or d)
  unfolding run
  calls-or {c} {d} u y z = record {
    same = λ f g p cs i s h a.
        ap (λ (r : Result). or_else s.cursor (and_then r (run backward f c)) (run backward f d)) (x.alone f g s)
        ∙ mark-or-same s (run backward f c) (run backward g c) (run backward f d) (run backward g d) (follows y f g p cs i s h a)
        (u.succeeds g) (z.same f g p cs i s h a) (run backward g m s) (e (ahead s)) (x.means.on-state g s);
  }

  -- from the slice's opening, where something else may open another
  pub calls-open-or : {c d : Command} → Sure c → CallsPast c → CallsAt d → CallsAt ((⟦ then m then c) or d)
  unfolding run and_then with_slice
  calls-open-or {c} {d} u y z = record {
    same = λ f g p cs s h a.
        let v = with_slice s (place s) s.bra in
        let o = at-opened p cs s h in
        ap (λ (r : Result). or_else s.cursor (and_then r (run backward f c)) (run backward f d)) (x.alone f g v)
        ∙ mark-or-same v (run backward f c) (run backward g c) (run backward f d) (run backward g d) (follows y f g p cs 0 v o a)
        (u.succeeds g) (z.same f g p cs v (record { text-is = h.text-is; cursor-is = h.cursor-is }) a) (run backward g m v) (e (ahead v)) (x.means.on-state g v);
  }

  -- a body that opens a slice, reads something and then calls, calls behind what it read, in any state
  pub calls-slice : {c : Command} → ((cs : List ℕ) → Post (λ k. (0 < k) × (k ≤ length cs)) (e cs)) → CallsPast c
      → CallsBehind (λ again. run backward again (⟦ then m then c))
  unfolding run and_then with_slice ahead place move_to
  calls-slice {c} t y = record {
    fewer = λ f g s a.
        let v = with_slice s (place s) s.bra in
        ap (λ (r : Result). and_then r (run backward f c)) (x.alone f g v)
        ∙ mark-same v (run backward f c) (run backward g c) _ (λ k l. y.same f g (take s.cursor s.text) (ahead s) k _ (opened s k l.0 l.1)
        (λ u m. a u (omega (arith, length-drop k (ahead s))))) (run backward g m v) (t (ahead s)) (x.means.on-state g v);
  }
    where
      opened : (s : State) (k : ℕ) → 0 < k → k ≤ length (ahead s)
          → Past (take s.cursor s.text) (ahead s) k (move_to (with_slice s (place s) s.bra) (s.cursor + k))
      opened s k h l =
          let c = s.cursor in
          let within : length (take c s.text) ≡ c = length-take-le c s.text (omega (arith, length-drop c s.text)) in
          record { text-is = sym (take-append-drop c s.text); cursor-is = omega (arith, within); ket-is = refl }
