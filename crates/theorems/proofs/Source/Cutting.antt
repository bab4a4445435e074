-- What the commands of the noun stage cut: laws for the shapes in which the source opens a slice, marks characters and deletes them, by
-- the simple form's functions that say how many characters are taken. A deletion is not undone where what follows it fails, so what
-- follows one is `perhaps`. Assumes nothing.
use Prim.Native.Nat.{ℕ, zero, suc, ◌+◌, ◌-◌, ◌≤◌}
use mathlib.Core.Path.{◌≡◌, refl, sym, ap, ap₂, ◌∙◌}
use mathlib.Core.Bool.{Bool, true, false, cond}
use mathlib.Core.List.{List, [], ◌∷◌, ◌++◌, append-nil}
use native.Mathlib.Omega.{arith}
use lib.ListN.{length, take, drop, length-append, length-drop}
use lib.Seq.{drop-drop, take-append_seam, drop-append-add}
use lib.Dec.{ltb, leb}
use borrow.Author.Tests.{leb-true}
use Rattle.theorems.specs.Simple.Grammar.{Out, fail, took, more, after, first}
use Rattle.theorems.specs.Simple.Nouns.{both, either, perhaps}
use Rattle.turkish.specs.Snowball.{State, ahead, place, move_to, with_slice, with_text, Result, done, failed, and_then, or_else, place_after, slice_from, backward, Command, ◌then◌}
use Rattle.turkish.specs.Snowball.{◌or◌, try, ⟦, ⟧, delete, run}
use Rattle.theorems.proofs.Source.Means.{Means, settled, placed, done-failed, done-state, failed-state, settled-done}

-- ---- where a state stands ----

-- the text is cs behind characters p that are passed and stay
pub record At (p cs : List ℕ) (s : State) : Type 0 where
  pub text-is : s.text ≡ p ++ cs
  pub cursor-is : s.cursor ≡ length p

-- and since a slice was opened there, i characters are passed
pub record Past (p cs : List ℕ) (i : ℕ) (s : State) : Type 0 where
  pub text-is : s.text ≡ p ++ cs
  pub cursor-is : s.cursor ≡ length p + i
  pub ket-is : s.ket ≡ length cs

-- what is ahead then
pub past-ahead : (p cs : List ℕ) (i : ℕ) (s : State) → Past p cs i s → ahead s ≡ drop i cs
unfolding ahead
past-ahead p cs i s h = ap₂ drop h.cursor-is h.text-is ∙ drop-append-add p cs i

-- the same where nothing is passed
pub at_ahead : (p cs : List ℕ) (s : State) → At p cs s → ahead s ≡ cs
unfolding ahead
at_ahead p cs s h =
    let none : s.cursor ≡ length p + 0 = omega (arith, h.cursor-is) in
    ap₂ drop none h.text-is ∙ drop-append-add p cs 0

-- `[` opens a slice
pub at-opened : (p cs : List ℕ) (s : State) → At p cs s → Past p cs 0 (with_slice s (place s) s.bra)
unfolding with_slice place
at-opened p cs s h = record { text-is = h.text-is; cursor-is = omega (arith, h.cursor-is); ket-is = ap length (at_ahead p cs s h) }

-- more characters are passed
pub past-on : (p cs : List ℕ) (i k : ℕ) (s : State) → Past p cs i s → Past p cs (i + k) (move_to s (s.cursor + k))
unfolding move_to
past-on p cs i k s h = record { text-is = h.text-is; cursor-is = omega (arith, h.cursor-is); ket-is = h.ket-is }

-- the cursor stands at bra, and stays there
pub place_after-bra : (b k : ℕ) → b ≤ k → place_after b k 0 b ≡ b
unfolding place_after
place_after-bra b k h = go (leb k b) (ltb b b) refl
  where
    go : (u v : Bool) → leb k b ≡ u → cond u (b + 0 - (k - b)) (cond v b b) ≡ b
    go true v e = omega (arith, leb-true k b e)
    go false true e = refl
    go false false e = refl

-- what is left of a text behind some of its characters, told by how many those are
pub drop-rest : (j : ℕ) (t : List ℕ) → drop (length t - length (drop j t)) t ≡ drop j t
drop-rest zero t = let e : length t - length t ≡ 0 = omega arith in ap (λ (n : ℕ). drop n t) e
drop-rest (suc j) [] = refl
drop-rest (suc j) (c ∷ t) =
    let e : suc (length t) - length (drop j t) ≡ suc (length t - length (drop j t)) = omega (arith, length-drop j t) in
    ap (λ (n : ℕ). drop n (c ∷ t)) e ∙ drop-rest j t

-- the text without the slice
cut-text : (p cs : List ℕ) (i : ℕ) → take (length (p ++ cs) - length cs) (p ++ cs) ++ [] ++ drop (length (p ++ cs) - length (drop i cs)) (p ++ cs) ≡ p ++ drop i cs
cut-text p cs i =
    let n = length (p ++ cs) in
    let front : n - length cs ≡ length p = omega (arith, length-append p cs) in
    let back : n - length (drop i cs) ≡ length p + (length cs - length (drop i cs)) = omega (arith, length-append p cs, length-drop i cs) in
    ap₂ (λ (j k : ℕ). take j (p ++ cs) ++ [] ++ drop k (p ++ cs)) front back
    ∙ ap₂ (λ (x y : List ℕ). x ++ [] ++ y) (take-append_seam p cs) (drop-append-add p cs (length cs - length (drop i cs)) ∙ drop-rest i cs)
    ∙ ap (λ (x : List ℕ). x ++ drop i cs) (append-nil p)

-- `] delete`: what was passed since the slice was opened is gone
pub past-cut : (p cs : List ℕ) (i : ℕ) (s : State) → Past p cs i s → At p (drop i cs) (slice_from [] (with_slice s s.ket (place s)))
unfolding slice_from with_slice with_text place ahead
past-cut p cs i s h =
    let b = length (drop i cs) in
    let left : length (drop s.cursor s.text) ≡ b = ap length (past-ahead p cs i s h) in
    let rest : take (length s.text - s.ket) s.text ++ [] ++ drop (length s.text - length (drop s.cursor s.text)) s.text ≡ p ++ drop i cs =
    rw (left, h.text-is, h.ket-is) (cut-text p cs i) in
    let stays : place_after (length (drop s.cursor s.text)) s.ket 0 (length (drop s.cursor s.text)) ≡ b =
    rw (left, h.ket-is) (place_after-bra b (length cs) (omega (arith, length-drop i cs))) in
    let front : length (p ++ drop i cs) - b ≡ length p = omega (arith, length-append p (drop i cs)) in
    record { text-is = rest; cursor-is = ap₂ (λ (x : List ℕ) (c : ℕ). length x - c) rest stays ∙ front }

-- ---- what a result leaves ----

-- by an answer: a failure leaves the text, a success the text without what was taken, with the cursor there. Whoever goes on after a
-- failure puts the cursor back.
unfoldable pub Leaves : List ℕ → List ℕ → Out → Result → Type 0
Leaves p cs fail r = (t : State) × (r ≡ failed t) × (t.text ≡ p ++ cs)
Leaves p cs (took k f) r = (t : State) × (r ≡ done t) × At p (drop k cs) t

-- the same of a result in an open slice, which a failure leaves open
unfoldable pub Holds : List ℕ → List ℕ → Out → Result → Type 0
Holds p cs fail r = (t : State) × (r ≡ failed t) × (t.text ≡ p ++ cs) × (t.ket ≡ length cs)
Holds p cs (took k f) r = (t : State) × (r ≡ done t) × At p (drop k cs) t

-- wherever a state stands, the command cuts what the function takes
pub record Cuts (self : State → Result) (c : Command) (f : List ℕ → Out) : Type 0 where
  pub cuts : (p cs : List ℕ) (s : State) → At p cs s → Leaves p cs (f cs) (run backward self c s)

-- so it does in an open slice, with the characters that were passed since it was opened
pub record Opened (self : State → Result) (c : Command) (f : List ℕ → Out) : Type 0 where
  pub cuts : (p cs : List ℕ) (i : ℕ) (s : State) → Past p cs i s → Holds p cs (more i true (f (drop i cs))) (run backward self c s)

-- and under `try` it cuts what the function takes, whether it succeeds or fails after a deletion
pub record Tries (self : State → Result) (c : Command) (f : List ℕ → Out) : Type 0 where
  pub cuts : (p cs : List ℕ) (s : State) → At p cs s → Leaves p cs (perhaps f cs) (run backward self (try c) s)

-- in an open slice it fails where the function fails, and leaves the slice open
pub record Dead (self : State → Result) (f : List ℕ → Out) (c : Command) : Type 0 where
  pub fails : (p cs : List ℕ) (i : ℕ) (s : State) → Past p cs i s → f (drop i cs) ≡ fail → Holds p cs fail (run backward self c s)

-- what is chosen in a slice that was just opened: characters that are passed since it, or another slice behind a deletion, was opened
unfoldable pub Chosen : List ℕ → List ℕ → Out → Result → Type 0
Chosen p cs fail r = (t : State) × (r ≡ failed t) × (t.text ≡ p ++ cs) × (t.ket ≡ length cs)
Chosen p cs (took k f) r = (t : State) × (i : ℕ) × (j : ℕ) × (r ≡ done t) × Past p (drop i cs) j t × (i + j ≡ k)

-- the command chooses what the function takes
pub record Chooses (self : State → Result) (c : Command) (f : List ℕ → Out) : Type 0 where
  pub chooses : (p cs : List ℕ) (s : State) → Past p cs 0 s → Chosen p cs (f cs) (run backward self c s)

-- an open slice is left open or not
holds-leaves : (p cs : List ℕ) (o : Out) (r : Result) → Holds p cs o r → Leaves p cs o r
unfolding Holds Leaves
holds-leaves p cs fail r (t, e, x, y) = (t, e, x)
holds-leaves p cs (took k f) r h = h

-- nothing taken first
leaves_none : (p cs : List ℕ) (o : Out) (r : Result) → Leaves p cs (more 0 true o) r → Leaves p cs o r
unfolding Leaves more
leaves_none p cs fail r h = h
leaves_none p cs (took k f) r (t, e, x) = let none : 0 + k ≡ k = omega arith in (t, e, rw none at x)

-- characters taken one after the other
holds_more : (p cs : List ℕ) (i k : ℕ) (f : Bool) (o : Out) (r : Result) → Holds p cs (more (i + k) true o) r → Holds p cs (more i true (more k f o)) r
unfolding Holds more
holds_more p cs i k f fail r h = h
holds_more p cs i k f (took j g) r (t, e, x) = let sum : i + k + j ≡ i + (k + j) = omega arith in (t, e, rw sum at x)

-- a mark that fails in an open slice changes nothing but the cursor
mark-failed : (p cs : List ℕ) (i : ℕ) (s : State) (r : Result) → Past p cs i s → settled s.cursor r ≡ failed s → Holds p cs fail r
unfolding settled Holds move_to
mark-failed p cs i s (done t) h e = done-failed e
mark-failed p cs i s (failed t) h e =
    let same = failed-state e in
    (t, refl, ap (λ (u : State). u.text) same ∙ h.text-is, ap (λ (u : State). u.ket) same ∙ h.ket-is)

-- ---- results, one after the other and one or the other ----

-- a mark in an open slice, and what follows it
mark-result : (p cs : List ℕ) (i : ℕ) (s : State) (q : State → Result) (g : List ℕ → Out) → Past p cs i s
    → ((j : ℕ) (t : State) → Past p cs j t → Holds p cs (more j true (g (drop j cs))) (q t))
    → (o : Out) (r : Result) → settled s.cursor r ≡ placed s o
    → Holds p cs (more i true (after o (λ k. g (drop k (drop i cs))))) (and_then r q)
unfolding placed settled after and_then more
mark-result p cs i s q g h y fail (done t) e = done-failed e
mark-result p cs i s q g h y fail (failed t) e = mark-failed p cs i s (failed t) h e
mark-result p cs i s q g h y (took k b) (done t) e =
    holds_more p cs i k b (g (drop k (drop i cs))) (q t) (rw (done-state e, drop-drop k i cs) (y (i + k) _ (past-on p cs i k s h)))
mark-result p cs i s q g h y (took k b) (failed t) e = done-failed (sym e)

-- where the first fails, the second goes on with the same text
leaves-or : (p cs : List ℕ) (c : ℕ) (q : State → Result) (o u : Out) (r : Result) → c ≡ length p
    → Leaves p cs o r → ((t : State) → At p cs t → Leaves p cs u (q t)) → Leaves p cs (first o u) (or_else c r q)
unfolding Leaves first or_else move_to
leaves-or p cs c q fail u r e (t, x, y) h = rw x (h (move_to t c) (record { text-is = y; cursor-is = e }))
leaves-or p cs c q (took k f) u r e (t, x, y) h = (t, ap (λ (v : Result). or_else c v q) x, y)

-- and in the same open slice
holds-or : (p cs : List ℕ) (i c : ℕ) (q : State → Result) (o u : Out) (r : Result) → c ≡ length p + i
    → Holds p cs (more i true o) r → ((t : State) → Past p cs i t → Holds p cs (more i true u) (q t)) → Holds p cs (more i true (first o u)) (or_else c r q)
unfolding Holds first or_else move_to more
holds-or p cs i c q fail u r e (t, x, y, z) h = rw x (h (move_to t c) (record { text-is = y; cursor-is = e; ket-is = z }))
holds-or p cs i c q (took k f) u r e (t, x, y) h = (t, ap (λ (v : Result). or_else c v q) x, y)

-- where the first fails, the second does
dead-result : (p cs : List ℕ) (i c : ℕ) (q : State → Result) (o : Out) (r : Result) → c ≡ length p + i
    → Holds p cs (more i true o) r → ((t : State) → Past p cs i t → o ≡ fail → Holds p cs fail (q t)) → Holds p cs (more i true o) (or_else c r q)
unfolding Holds or_else move_to more
dead-result p cs i c q fail r e (t, x, y, z) h = rw x (h (move_to t c) (record { text-is = y; cursor-is = e; ket-is = z }) refl)
dead-result p cs i c q (took k f) r e (t, x, y) h = (t, ap (λ (v : Result). or_else c v q) x, y)

-- the first of three, grouped so or so
first-assoc : (o u v : Out) → first (first o u) v ≡ first o (first u v)
unfolding first
first-assoc fail u v = refl
first-assoc (took k f) u v = refl

-- so of commands, of which each begins where the first did
pub or_else-assoc : (c : ℕ) (r : Result) (p q : State → Result) → or_else c (or_else c r p) q ≡ or_else c r (λ s. or_else s.cursor (p s) q)
unfolding or_else move_to
or_else-assoc c (done s) p q = refl
or_else-assoc c (failed s) p q = refl

-- what may fail after a deletion: the characters taken by both are gone
cut-result : (p cs : List ℕ) (i : ℕ) (o : Out) (r : Result) → Leaves p (drop i cs) (first o (took 0 true)) r → Holds p cs (more i true (first o (took 0 true))) r
unfolding Leaves Holds first more
cut-result p cs i fail r (t, e, x) = (t, e, rw (drop-drop 0 i cs) at x)
cut-result p cs i (took k f) r (t, e, x) = (t, e, rw (drop-drop k i cs) at x)

-- ---- a choice ----

-- a mark's characters are chosen
chosen-mark : (p cs : List ℕ) (s : State) (r : Result) (o : Out) → Past p cs 0 s → settled s.cursor r ≡ placed s o → Chosen p cs o r
unfolding Chosen Holds settled placed
chosen-mark p cs s r fail h e = mark-failed p cs 0 s r h e
chosen-mark p cs s r (took k f) h e =
    let sum : 0 + k ≡ k = omega arith in
    (move_to s (s.cursor + k), 0, k, settled-done s.cursor r _ e, rw sum at (past-on p cs 0 k s h), sum)

-- the first of two choices
chosen-or : (p cs : List ℕ) (c : ℕ) (q : State → Result) (o u : Out) (r : Result) → c ≡ length p + 0
    → Chosen p cs o r → ((t : State) → Past p cs 0 t → Chosen p cs u (q t)) → Chosen p cs (first o u) (or_else c r q)
unfolding Chosen first or_else move_to
chosen-or p cs c q fail u r e (t, x, y, z) h = rw x (h (move_to t c) (record { text-is = y; cursor-is = e; ket-is = z }))
chosen-or p cs c q (took k f) u r e (t, i, j, x, y, z) h = (t, i, j, ap (λ (v : Result). or_else c v q) x, y, z)

-- a choice that need not be made, behind characters that are gone
chosen-behind : (p cs : List ℕ) (k : ℕ) (f : Bool) (o : Out) (r : Result)
    → Chosen p (drop k cs) (first o (took 0 true)) r → Chosen p cs (more k f (first o (took 0 true))) r
unfolding Chosen first more
chosen-behind p cs k f fail r (t, i, j, e, x, y) = (t, k + i, j, e, rw (drop-drop i k cs) at x, omega arith)
chosen-behind p cs k f (took n g) r (t, i, j, e, x, y) = (t, k + i, j, e, rw (drop-drop i k cs) at x, omega arith)

-- what was chosen is deleted
chosen-cut : (p cs : List ℕ) (i j k : ℕ) (t : State) → Past p (drop i cs) j t → i + j ≡ k → At p (drop k cs) (slice_from [] (with_slice t t.ket (place t)))
chosen-cut p cs i j k t h e = rw (sym e, sym (drop-drop j i cs)) (past-cut p (drop i cs) j t h)

-- nothing chosen
chosen_none : (p cs : List ℕ) (s : State) → Past p cs 0 s → Chosen p cs (took 0 true) (done s)
unfolding Chosen
chosen_none p cs s h = (s, 0, 0, refl, h, refl)

-- a mark that is deleted, and what may be chosen then
chosen-then : (p cs : List ℕ) (s : State) (q : State → Result) (g : List ℕ → Out) → Past p cs 0 s
    → ((ds : List ℕ) (t : State) → At p ds t → Chosen p ds (first (g ds) (took 0 true)) (q t))
    → (o : Out) (r : Result) → settled s.cursor r ≡ placed s o
    → Chosen p cs (after o (λ k. first (g (drop k cs)) (took 0 true))) (and_then r (λ t. q (slice_from [] (with_slice t t.ket (place t)))))
unfolding placed settled after and_then Chosen Holds
chosen-then p cs s q g h y fail (done t) e = done-failed e
chosen-then p cs s q g h y fail (failed t) e = mark-failed p cs 0 s (failed t) h e
chosen-then p cs s q g h y (took k b) (done t) e =
    let sum : 0 + k ≡ k = omega arith in
    chosen-behind p cs k b (g (drop k cs)) _ (y (drop k cs) _ (rw (done-state e) (chosen-cut p cs 0 k k _ (rw sum at (past-on p cs 0 k s h)) sum)))
chosen-then p cs s q g h y (took k b) (failed t) e = done-failed (sym e)

-- what need not be taken, behind characters that are gone
leaves-behind : (p cs : List ℕ) (k : ℕ) (f : Bool) (o u : Out) (r : Result)
    → Leaves p (drop k cs) (first o (took 0 true)) r → Leaves p cs (first (more k f (first o (took 0 true))) u) r
unfolding Leaves first more
leaves-behind p cs k f fail u r (t, e, x) = (t, e, rw (drop-drop 0 k cs) at x)
leaves-behind p cs k f (took n g) u r (t, e, x) = (t, e, rw (drop-drop n k cs) at x)

-- a choice, its deletion and what follows, which may fail: the deletion stays
choice-tried : (p cs : List ℕ) (c : ℕ) (q : State → Result) (g : List ℕ → Out) (o : Out) (r : Result) → c ≡ length p
    → ((ds : List ℕ) (t : State) → At p ds t → Leaves p ds (g ds) (q t)) → Chosen p cs o r
    → Leaves p cs (first (after o (λ k. first (g (drop k cs)) (took 0 true))) (took 0 true))
    (or_else c (and_then r (λ t. q (slice_from [] (with_slice t t.ket (place t))))) done)
unfolding Chosen after and_then or_else move_to Leaves first
choice-tried p cs c q g fail r e h (t, x, y, z) = rw x (move_to t c, refl, record { text-is = y; cursor-is = e })
choice-tried p cs c q g (took k f) r e h (t, i, j, x, y, z) =
    rw x (leaves-behind p cs k f (g (drop k cs)) (took 0 true) _
    (leaves-or p (drop k cs) c done (g (drop k cs)) (took 0 true) _ e (h (drop k cs) _ (chosen-cut p cs i j k t y z)) (λ u a. (u, refl, a))))

-- the same with something else to go on with, on what is left
choice-again : (p cs : List ℕ) (c : ℕ) (q d : State → Result) (g h : List ℕ → Out) (o : Out) (r : Result) → c ≡ length p
    → ((ds : List ℕ) (t : State) → At p ds t → Leaves p ds (g ds) (q t)) → ((ds : List ℕ) (t : State) → At p ds t → Leaves p ds (first (h ds) (took 0 true)) (d t))
    → Chosen p cs o r
    → Leaves p cs (first (after o (λ k. first (first (g (drop k cs)) (h (drop k cs))) (took 0 true))) (first (h cs) (took 0 true)))
    (or_else c (and_then r (λ t. q (slice_from [] (with_slice t t.ket (place t))))) d)
unfolding Chosen after and_then or_else move_to first
choice-again p cs c q d g h fail r e x y (t, a, b, z) = rw a (y cs (move_to t c) (record { text-is = b; cursor-is = e }))
choice-again p cs c q d g h (took k f) r e x y (t, i, j, a, b, z) =
    let ds = drop k cs in
    rw a (leaves-behind p cs k f (first (g ds) (h ds)) (first (h cs) (took 0 true)) _
    (rw (first-assoc (g ds) (h ds) (took 0 true))
    (leaves-or p ds c d (g ds) (first (h ds) (took 0 true)) _ e (x ds _ (chosen-cut p cs i j k t b z)) (λ u a. y ds u a))))

module _ {self : State → Result} where
  -- ---- the same said otherwise ----

  -- what a command cuts may be said by another function
  pub opened-as : {c : Command} {f g : List ℕ → Out} → Opened self c f → ((cs : List ℕ) → f cs ≡ g cs) → Opened self c g
  opened-as {c} x e = record { cuts = λ p cs i s h. rw (sym (e (drop i cs))) (x.cuts p cs i s h) }

  -- so under `try`
  pub tries-as : {c : Command} {f g : List ℕ → Out} → Tries self c f → ((cs : List ℕ) → f cs ≡ g cs) → Tries self c g
  unfolding perhaps
  tries-as {c} x e = record { cuts = λ p cs s h. rw (sym (e cs)) (x.cuts p cs s h) }

  -- ---- an open slice ----

  -- a mark, and what follows it
  pub opened-mark : {m c : Command} {f g : List ℕ → Out} → Means backward m f → Opened self c g → Opened self (m then c) (both f g)
  unfolding run both
  opened-mark {m} {c} {f} {g} x y = record {
    cuts = λ p cs i s h.
        mark-result p cs i s (run backward self c) g h (λ j t k. y.cuts p cs j t k) (f (drop i cs)) (run backward self m s)
        (x.on-state self s ∙ ap (λ (ds : List ℕ). placed s (f ds)) (past-ahead p cs i s h));
  }

  -- `] delete`
  pub opened-delete : Opened self (⟧ then delete) (λ cs. took 0 true)
  unfolding run and_then Holds more
  opened-delete = record { cuts = λ p cs i s h. let none : i + 0 ≡ i = omega arith in (_, refl, rw none (past-cut p cs i s h)) }

  -- and what may follow it
  pub opened-cut : {c : Command} {f : List ℕ → Out} → Tries self c f → Opened self (⟧ then delete then try c) (perhaps f)
  unfolding run and_then perhaps
  opened-cut {c} {f} x = record { cuts = λ p cs i s h. cut-result p cs i (f (drop i cs)) _ (x.cuts p (drop i cs) _ (past-cut p cs i s h)) }

  -- the first of two
  pub opened-or : {c d : Command} {f g : List ℕ → Out} → Opened self c f → Opened self d g → Opened self (c or d) (either f g)
  unfolding run either
  opened-or {c} {d} {f} {g} x y = record {
    cuts = λ p cs i s h.
        holds-or p cs i s.cursor (run backward self d) (f (drop i cs)) (g (drop i cs)) (run backward self c s) h.cursor-is (x.cuts p cs i s h)
        (λ t k. y.cuts p cs i t k);
  }

  -- ---- a slice from its opening ----

  -- `[` and what is cut in the slice
  pub cuts-open : {c : Command} {f : List ℕ → Out} → Opened self c f → Cuts self (⟦ then c) f
  unfolding run and_then
  cuts-open {c} {f} x = record {
    cuts = λ p cs s h.
        let u = with_slice s (place s) s.bra in
        leaves_none p cs (f cs) (run backward self c u) (holds-leaves p cs _ _ (x.cuts p cs 0 u (at-opened p cs s h)));
  }

  -- the first of two
  pub cuts-or : {c d : Command} {f g : List ℕ → Out} → Cuts self c f → Cuts self d g → Cuts self (c or d) (either f g)
  unfolding run either
  cuts-or {c} {d} {f} {g} x y = record {
    cuts = λ p cs s h.
        leaves-or p cs s.cursor (run backward self d) (f cs) (g cs) (run backward self c s) h.cursor-is (x.cuts p cs s h) (λ t k. y.cuts p cs t k);
  }

  -- what is cut in the slice, or else something that opens another
  pub cuts-open-or : {c d : Command} {f g : List ℕ → Out} → Opened self c f → Cuts self d g → Cuts self (⟦ then (c or d)) (either f g)
  unfolding run and_then with_slice
  cuts-open-or x y = record { cuts = λ p cs s h. (cuts-or (cuts-open x) y).cuts p cs s h }

  -- the same of three, of which the last opens another
  pub cuts-open-or-or : {a b c : Command} {f g h : List ℕ → Out} → Opened self a f → Opened self b g → Cuts self c h
      → Cuts self (⟦ then (a or b or c)) (either f (either g h))
  unfolding run and_then with_slice either
  cuts-open-or-or {a} {b} {c} {f} {g} {h} x y z = record {
    cuts = λ p cs s k.
        let u = with_slice s (place s) s.bra in
        rw (sym (or_else-assoc s.cursor (run backward self a u) (run backward self b) (run backward self c)), sym (first-assoc (f cs) (g cs) (h cs)))
        ((cuts-open-or (opened-or x y) z).cuts p cs s k);
  }

  -- a slice that is opened for nothing
  pub cuts-reopened : {c : Command} {f : List ℕ → Out} → Cuts self c f → Cuts self (⟦ then c) f
  unfolding run and_then with_slice
  cuts-reopened x = record { cuts = λ p cs s h. x.cuts p cs _ (record { text-is = h.text-is; cursor-is = h.cursor-is }) }

  -- ---- try ----

  -- what is cut or not
  pub tries-cuts : {c : Command} {f : List ℕ → Out} → Cuts self c f → Tries self c f
  unfolding run perhaps Leaves
  tries-cuts {c} {f} x = record {
    cuts = λ p cs s h.
        leaves-or p cs s.cursor done (f cs) (took 0 true) (run backward self c s) h.cursor-is (x.cuts p cs s h) (λ t k. (t, refl, k));
  }

  -- the first of two, of which the second may fail after a deletion
  pub tries-or : {c d : Command} {f g : List ℕ → Out} → Cuts self c f → Tries self d g → Tries self (c or d) (either f g)
  unfolding run perhaps either
  tries-or {c} {d} {f} {g} x y = record {
    cuts = λ p cs s h.
        rw (or_else-assoc s.cursor (run backward self c s) (run backward self d) done, first-assoc (f cs) (g cs) (took 0 true))
        (leaves-or p cs s.cursor (run backward self (try d)) (f cs) (perhaps g cs) (run backward self c s) h.cursor-is (x.cuts p cs s h) (λ t k. y.cuts p cs t k));
  }

  -- ---- what fails wherever another fails ----

  -- a mark that fails wherever the function fails
  pub dead-mark : {m : Command} {f g : List ℕ → Out} → Means backward m g → ((cs : List ℕ) → f cs ≡ fail → g cs ≡ fail) → Dead self f m
  unfolding placed
  dead-mark {m} {f} x d = record {
    fails = λ p cs i s h e.
        mark-failed p cs i s (run backward self m s) h (x.on-state self s ∙ ap (placed s) (d (ahead s) (ap f (past-ahead p cs i s h) ∙ e)));
  }

  -- and what follows such a mark
  pub dead-then : {m c : Command} {f : List ℕ → Out} → Dead self f m → Dead self f (m then c)
  unfolding run and_then Holds
  dead-then {m} {c} x = record { fails = λ p cs i s h e. let r = x.fails p cs i s h e in (r.0, ap (λ (u : Result). and_then u (run backward self c)) r.1, r.2, r.3) }

  -- behind a command whose failure it shares it adds nothing
  pub opened-or-dead : {c d : Command} {f : List ℕ → Out} → Opened self c f → Dead self f d → Opened self (c or d) f
  unfolding run
  opened-or-dead {c} {d} {f} x y = record {
    cuts = λ p cs i s h.
        dead-result p cs i s.cursor (run backward self d) (f (drop i cs)) (run backward self c s) h.cursor-is (x.cuts p cs i s h) (λ t k e. y.fails p cs i t k e);
  }

  -- the first of three, grouped so or so
  pub opened-group : {a b c : Command} {f : List ℕ → Out} → Opened self ((a or b) or c) f → Opened self (a or b or c) f
  unfolding run
  opened-group {a} {b} {c} x = record {
    cuts = λ p cs i s h.
        rw (sym (or_else-assoc s.cursor (run backward self a s) (run backward self b) (run backward self c))) (x.cuts p cs i s h);
  }

  -- ---- a choice, and the try of its deletion ----

  -- a mark
  pub chooses-mark : {m : Command} {f : List ℕ → Out} → Means backward m f → Chooses self m f
  chooses-mark {m} {f} x = record {
    chooses = λ p cs s h.
        chosen-mark p cs s (run backward self m s) (f cs) h (x.on-state self s ∙ ap (λ (ds : List ℕ). placed s (f ds)) (past-ahead p cs 0 s h));
  }

  -- the first of two
  pub chooses-or : {c d : Command} {f g : List ℕ → Out} → Chooses self c f → Chooses self d g → Chooses self (c or d) (either f g)
  unfolding run either
  chooses-or {c} {d} {f} {g} x y = record {
    chooses = λ p cs s h.
        chosen-or p cs s.cursor (run backward self d) (f cs) (g cs) (run backward self c s) h.cursor-is (x.chooses p cs s h) (λ t k. y.chooses p cs t k);
  }

  -- a mark that is deleted, and then what may be chosen
  pub chooses-cut : {m c : Command} {f g : List ℕ → Out} → Means backward m f → Chooses self c g
      → Chooses self (m then ⟧ then delete then try (⟦ then c)) (both f (perhaps g))
  unfolding run both perhaps with_slice and_then
  chooses-cut {m} {c} {f} {g} x y = record {
    chooses = λ p cs s h.
        chosen-then p cs s (run backward self (try (⟦ then c))) g h (λ ds t a. may p ds t a) (f cs) (run backward self m s)
        (x.on-state self s ∙ ap (λ (ds : List ℕ). placed s (f ds)) (past-ahead p cs 0 s h));
  }
    where
      may : (p ds : List ℕ) (t : State) → At p ds t → Chosen p ds (first (g ds) (took 0 true)) (run backward self (try (⟦ then c)) t)
      may p ds t a =
          let u = with_slice t (place t) t.bra in
          let none : u.cursor ≡ length p + 0 = (at-opened p ds t a).cursor-is in
          chosen-or p ds u.cursor done (g ds) (took 0 true) (run backward self c u) none (y.chooses p ds u (at-opened p ds t a)) (λ v b. chosen_none p ds v b)

  -- a choice, its deletion and what follows, under `try`: the deletion stays where what follows fails
  pub tries-cut : {c d : Command} {f g : List ℕ → Out} → Chooses self c f → Cuts self d g
      → Tries self (⟦ then c then ⟧ then delete then d) (both f (perhaps g))
  unfolding run both perhaps and_then
  tries-cut {c} {d} {f} {g} x y = record {
    cuts = λ p cs s h.
        let u = with_slice s (place s) s.bra in
        choice-tried p cs s.cursor (run backward self d) g (f cs) (run backward self c u) h.cursor-is (λ ds t a. y.cuts p ds t a)
        (x.chooses p cs u (at-opened p cs s h));
  }

  -- and where something else comes next it goes on with what is left
  pub tries-again : {c d e : Command} {f g h : List ℕ → Out} → Chooses self c f → Cuts self d g → Tries self e h
      → Tries self ((⟦ then c then ⟧ then delete then d) or e) (either (both f (perhaps (either g h))) h)
  unfolding run both perhaps either and_then
  tries-again {c} {d} {e} {f} {g} {h} x y z = record {
    cuts = λ p cs s a.
        let u = with_slice s (place s) s.bra in
        rw (
          or_else-assoc s.cursor (run backward self (⟦ then c then ⟧ then delete then d) s) (run backward self e) done,
          first-assoc (both f (perhaps (either g h)) cs) (h cs) (took 0 true),
        )
        (choice-again p cs s.cursor (run backward self d) (run backward self (try e)) g h (f cs) (run backward self c u) a.cursor-is
        (λ ds t b. y.cuts p ds t b) (λ ds t b. z.cuts p ds t b) (x.chooses p cs u (at-opened p cs s a)));
  }
