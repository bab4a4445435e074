-- What a command of Snowball means in the words of the simple form: in whatever state it runs, it fails or takes as many characters
-- as a function of the characters ahead says, and changes nothing else. One law a command. Assumes nothing.
use Prim.Native.Nat.{ℕ, suc, ◌+◌}
use Prim.Native.String.{String}
use mathlib.Core.Path.{◌≡◌, refl, sym, ap, ◌∙◌}
use mathlib.Core.Bool.{Bool, true, false, cond, false≢true}
use mathlib.Core.List.{List, [], ◌∷◌, map}
use native.Mathlib.Omega.{arith}
use lib.ListN.{length, drop}
use lib.Seq.{drop-drop}
use Rattle.turkish.specs.Letters.{text, starts}
use Rattle.turkish.specs.Snowball.{State, ahead, move_to, Result, done, failed, and_then, or_else, tested, negated, read_if, is_left, is_in, is_outside, Direction, letters, longest}
use Rattle.turkish.specs.Snowball.{key_ahead, fits, go_past, Command, define, ◌then◌, ◌or◌, test, not, goto, gopast, succeed, next, literal, grouping, outside, among, enough}
use Rattle.turkish.specs.Snowball.{run}
use Rattle.turkish.specs.Answers.{succeeded, left}
use Rattle.theorems.specs.Simple.Grammar.{Out, fail, took, more, after, first}
use Rattle.theorems.proofs.Laws.Outcome.{first-fail}

-- ---- results and answers ----

-- a result with the cursor put back where it failed
unfoldable pub settled : ℕ → Result → Result
settled c (done s) = done s
settled c (failed s) = failed (move_to s c)

-- what a state becomes by an answer
unfoldable pub placed : State → Out → Result
placed s fail = failed s
placed s (took k f) = done (move_to s (s.cursor + k))

-- in any state the command, read in the direction, does what the function says of the characters ahead
pub record Means (d : Direction) (p : Command) (f : List ℕ → Out) : Type 0 where
  pub on-state : (self : State → Result) (s : State) → settled s.cursor (run d self p s) ≡ placed s (f (ahead s))

-- it is no matter whether the cursor was put back before
pub settled-again : (c b : ℕ) (r : Result) → settled c (settled b r) ≡ settled c r
unfolding settled move_to
settled-again c b (done s) = refl
settled-again c b (failed s) = refl

-- where the cursor is put back, the answer stays
pub succeeded-settled : (c : ℕ) (r : Result) → succeeded (settled c r) ≡ succeeded r
unfolding succeeded settled
succeeded-settled c (done s) = refl
succeeded-settled c (failed s) = refl

-- a success is no failure
pub done-failed : {A : Type 0} {s t : State} → done s ≡ failed t → A
unfolding succeeded
done-failed e = absurd (false≢true (sym (ap succeeded e)))

-- the state is the result's
pub done-state : {s t : State} → done s ≡ done t → s ≡ t
unfolding left
done-state e = ap left e

-- whether it failed or not
pub failed-state : {s t : State} → failed s ≡ failed t → s ≡ t
unfolding left
failed-state e = ap left e

-- a result that is a success with the cursor put back where it failed is that success
pub settled-done : (c : ℕ) (r : Result) (t : State) → settled c r ≡ done t → r ≡ done t
unfolding settled
settled-done c (done s) t e = e
settled-done c (failed s) t e = done-failed (sym e)

-- the characters ahead, some characters on
pub ahead-on : (s : State) (k : ℕ) → ahead (move_to s (s.cursor + k)) ≡ drop k (ahead s)
unfolding ahead move_to
ahead-on s k = sym (drop-drop k s.cursor s.text)

-- one step of so many and then so many
pub moved_on : (s : State) (j k : ℕ) → done (move_to (move_to s (s.cursor + j)) (s.cursor + j + k)) ≡ done (move_to s (s.cursor + (j + k)))
unfolding move_to
moved_on s j k = let e : s.cursor + j + k ≡ s.cursor + (j + k) = omega arith in ap (λ (c : ℕ). done (move_to s c)) e

-- no step
pub moved_none : (s : State) → done (move_to s (s.cursor + 0)) ≡ done s
unfolding move_to
moved_none s = let e : s.cursor + 0 ≡ s.cursor = omega arith in ap (λ (c : ℕ). done (move_to s c)) e

-- an answer some characters on, seen from where they began
pub placed-more : (s : State) (k : ℕ) (f : Bool) (o : Out) → settled s.cursor (placed (move_to s (s.cursor + k)) o) ≡ placed s (more k f o)
unfolding settled placed more move_to
placed-more s k f fail = refl
placed-more s k f (took j g) = moved_on s k j

-- a command run some characters on, seen from where they began
pub settled_on : (s : State) (k : ℕ) (f : Bool) (q : State → Result) (o : Out)
    → settled (move_to s (s.cursor + k)).cursor (q (move_to s (s.cursor + k))) ≡ placed (move_to s (s.cursor + k)) o
    → settled s.cursor (q (move_to s (s.cursor + k))) ≡ placed s (more k f o)
settled_on s k f q o h =
    let t = move_to s (s.cursor + k) in
    sym (settled-again s.cursor t.cursor (q t)) ∙ ap (settled s.cursor) h ∙ placed-more s k f o

-- ---- a routine ----

-- a routine means what its commands mean
pub means-define : {d : Direction} {p : Command} {f : List ℕ → Out} (n : String) → Means d p f → Means d (define n p) f
unfolding run
means-define n x = record { on-state = λ self s. x.on-state self s }

-- ---- one after the other, and the first of two ----

-- the second runs where the first left the cursor, and takes so many more
then-result : (s : State) (q : State → Result) (g : List ℕ → Out)
    → ((t : State) → settled t.cursor (q t) ≡ placed t (g (ahead t)))
    → (r : Result) (o : Out) → settled s.cursor r ≡ placed s o → settled s.cursor (and_then r q) ≡ placed s (after o (λ k. g (drop k (ahead s))))
unfolding settled placed and_then after
then-result s q g h (done t) fail e = done-failed e
then-result s q g h (done t) (took k f) e =
    let u = move_to s (s.cursor + k) in
    ap (λ (v : State). settled s.cursor (q v)) (done-state e)
    ∙ settled_on s k f q (g (drop k (ahead s))) (h u ∙ ap (λ (cs : List ℕ). placed u (g cs)) (ahead-on s k))
then-result s q g h (failed t) fail e = e
then-result s q g h (failed t) (took k f) e = done-failed (sym e)

-- so one command after another takes what both take
pub means-then : {d : Direction} {p q : Command} {f g : List ℕ → Out} → Means d p f → Means d q g → Means d (p then q) (λ cs. after (f cs) (λ k. g (drop k cs)))
unfolding run
means-then {d} {p} {q} {f} {g} x y =
    record { on-state = λ self s. then-result s (run d self q) g (y.on-state self) (run d self p s) (f (ahead s)) (x.on-state self s) }

-- where the first fails, the second runs from the same state
or-result : (s : State) (q : State → Result) (r : Result) (o u : Out)
    → settled s.cursor r ≡ placed s o → settled s.cursor (q s) ≡ placed s u → settled s.cursor (or_else s.cursor r q) ≡ placed s (first o u)
unfolding settled placed or_else first
or-result s q (done t) fail u e h = done-failed e
or-result s q (done t) (took k f) u e h = e
or-result s q (failed t) fail u e h = ap (λ (v : State). settled s.cursor (q v)) (failed-state e) ∙ h
or-result s q (failed t) (took k f) u e h = done-failed (sym e)

-- so `or` takes what the first takes that does not fail
pub means-or : {d : Direction} {p q : Command} {f g : List ℕ → Out} → Means d p f → Means d q g → Means d (p or q) (λ cs. first (f cs) (g cs))
unfolding run
means-or {d} {p} {q} {f} {g} x y =
    record { on-state = λ self s. or-result s (run d self q) (run d self p s) (f (ahead s)) (g (ahead s)) (x.on-state self s) (y.on-state self s) }

-- ---- test and not ----

-- an answer that takes nothing
unfoldable pub peeked : Out → Out
peeked fail = fail
peeked (took k f) = took 0 true

-- failure for success
unfoldable pub denied : Out → Out
denied fail = took 0 true
denied (took k f) = fail

-- what is taken at first counts for nothing in a test
pub peeked-more : (k : ℕ) (f : Bool) (o : Out) → peeked (more k f o) ≡ peeked o
unfolding peeked more
peeked-more k f fail = refl
peeked-more k f (took j g) = refl

-- a test that succeeds leaves the state as it was
test-result : (s : State) (r : Result) (o : Out) → settled s.cursor r ≡ placed s o → settled s.cursor (tested s.cursor r) ≡ placed s (peeked o)
unfolding settled placed tested peeked move_to
test-result s (done t) fail e = done-failed e
test-result s (done t) (took k f) e = ap (λ (u : State). done (move_to u s.cursor)) (done-state e) ∙ sym (moved_none s)
test-result s (failed t) fail e = e
test-result s (failed t) (took k f) e = done-failed (sym e)

-- so `test` takes nothing
pub means-test : {d : Direction} {p : Command} {f : List ℕ → Out} → Means d p f → Means d (test p) (λ cs. peeked (f cs))
unfolding run
means-test {d} {p} {f} x = record { on-state = λ self s. test-result s (run d self p s) (f (ahead s)) (x.on-state self s) }

-- what fails leaves the state as it was
not-result : (s : State) (r : Result) (o : Out) → settled s.cursor r ≡ placed s o → settled s.cursor (negated s.cursor r) ≡ placed s (denied o)
unfolding settled placed negated denied move_to
not-result s (done t) fail e = done-failed e
not-result s (done t) (took k f) e = ap (λ (u : State). failed (move_to u s.cursor)) (done-state e)
not-result s (failed t) fail e = ap done (failed-state e) ∙ sym (moved_none s)
not-result s (failed t) (took k f) e = done-failed (sym e)

-- so `not` succeeds, taking nothing, where its command fails
pub means-not : {d : Direction} {p : Command} {f : List ℕ → Out} → Means d p f → Means d (not p) (λ cs. denied (f cs))
unfolding run
means-not {d} {p} {f} x = record { on-state = λ self s. not-result s (run d self p s) (f (ahead s)) (x.on-state self s) }

-- ---- reading ----

-- so many characters where a test holds
unfoldable pub take_if : Bool → ℕ → Out
take_if b n = cond b (took n true) fail

-- with one before them they are one more
pub more-take_if : (b : Bool) (n : ℕ) → more 1 true (take_if b n) ≡ take_if b (suc n)
unfolding more take_if
more-take_if true n = let e : 1 + n ≡ suc n = omega arith in ap (λ (k : ℕ). took k true) e
more-take_if false n = refl

-- so many are passed, or the state stays
read_result : (s : State) (b : Bool) (n : ℕ) → settled s.cursor (read_if b n s) ≡ placed s (take_if b n)
unfolding settled placed read_if take_if move_to
read_result s true n = refl
read_result s false n = refl

-- a character, if one is left
pub means-next : {d : Direction} → Means d next (λ cs. take_if (is_left cs) 1)
unfolding run
means-next = record { on-state = λ self s. read_result s (is_left (ahead s)) 1 }

-- a literal's letters
pub means-literal : {d : Direction} (l : String) → Means d (literal l) (λ cs. take_if (starts (letters d l) cs) (length (letters d l)))
unfolding run
means-literal {d} l = record { on-state = λ self s. read_result s (starts (letters d l) (ahead s)) (length (letters d l)) }

-- a character of a grouping
pub means-grouping : {d : Direction} (g : String) → Means d (grouping g) (λ cs. take_if (is_in (text g) cs) 1)
unfolding run
means-grouping g = record { on-state = λ self s. read_result s (is_in (text g) (ahead s)) 1 }

-- one that is not of it
pub means-outside : {d : Direction} (g : String) → Means d (outside g) (λ cs. take_if (is_outside (text g) cs) 1)
unfolding run
means-outside g = record { on-state = λ self s. read_result s (is_outside (text g) (ahead s)) 1 }

-- the longest key that fits, whatever its number
pub means-among : {d : Direction} (ks : List String) → Means d (among ks) (λ cs. let k = longest 1 (map (letters d) ks) cs in take_if (fits k) k.size)
unfolding run key_ahead
means-among {d} ks =
    record { on-state = λ self s. let k = longest 1 (map (letters d) ks) (ahead s) in read_result s (fits k) k.size }

-- nothing, and success
pub means-succeed : {d : Direction} → Means d succeed (λ cs. took 0 true)
unfolding run settled placed
means-succeed = record { on-state = λ self s. sym (moved_none s) }

-- ---- gopast and goto ----

-- the first place from which a function does not fail
unfoldable pub sought : (List ℕ → Out) → List ℕ → Out
sought f [] = f []
sought f (c ∷ cs) = first (f (c ∷ cs)) (more 1 true (sought f cs))

-- a walk from place to place, with one turn for each character ahead and one at the edge
past-result : (q : State → Result) (f : List ℕ → Out) → ((s : State) → settled s.cursor (q s) ≡ placed s (f (ahead s)))
    → (cs : List ℕ) (s : State) → ahead s ≡ cs → settled s.cursor (go_past (suc (length cs)) q s) ≡ placed s (sought f cs)
unfolding go_past sought read_if is_left and_then settled placed move_to
past-result q f h [] s e =
    let here = h s ∙ ap (λ (xs : List ℕ). placed s (f xs)) e in
    let edge = ap (λ (xs : List ℕ). settled s.cursor (and_then (read_if (is_left xs) 1 s) (go_past 0 q))) e in
    or-result s (λ t. and_then (read_if (is_left (ahead t)) 1 t) (go_past 0 q)) (q s) (f []) fail here edge ∙ ap (placed s) (first-fail (f []))
past-result q f h (c ∷ cs) s e =
    let n = suc (length cs) in
    let here = h s ∙ ap (λ (xs : List ℕ). placed s (f xs)) e in
    let there = past-result q f h cs (move_to s (s.cursor + 1)) (ahead-on s 1 ∙ ap (drop 1) e) in
    let on = ap (λ (xs : List ℕ). settled s.cursor (and_then (read_if (is_left xs) 1 s) (go_past n q))) e in
    or-result s (λ t. and_then (read_if (is_left (ahead t)) 1 t) (go_past n q)) (q s) (f (c ∷ cs)) (more 1 true (sought f cs)) here
    (on ∙ settled_on s 1 true (go_past n q) (sought f cs) there)

-- so `gopast` goes to where its command first succeeds, and past it
pub means-gopast : {d : Direction} {p : Command} {f : List ℕ → Out} → Means d p f → Means d (gopast p) (sought f)
unfolding run enough
means-gopast {d} {p} {f} x = record { on-state = λ self s. past-result (run d self p) f (x.on-state self) (ahead s) s refl }

-- and `goto` stays before it
pub means-goto : {d : Direction} {p : Command} {f : List ℕ → Out} → Means d p f → Means d (goto p) (sought (λ cs. peeked (f cs)))
unfolding run
means-goto x = record { on-state = (means-gopast (means-test x)).on-state }

-- ---- another function with the same answers ----

-- what a command means may be said otherwise
pub means-as : {d : Direction} {p : Command} {f g : List ℕ → Out} → Means d p f → ((cs : List ℕ) → f cs ≡ g cs) → Means d p g
means-as x e = record { on-state = λ self s. x.on-state self s ∙ ap (placed s) (e (ahead s)) }
