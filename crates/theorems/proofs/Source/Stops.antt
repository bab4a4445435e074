-- Where a command of Snowball stops on its way, in the words of the simple form: one that ends with `goto` stops at one character, and
-- check_vowel_harmony at the two that harmony finds. Assumes nothing.
use Prim.Native.Nat.{ℕ, ◌+◌, ◌-◌}
use Prim.Native.String.{String}
use mathlib.Core.Path.{◌≡◌, refl, sym, ap, ap₂, ◌∙◌}
use mathlib.Core.Bool.{Bool, true}
use mathlib.Core.List.{List, [], ◌∷◌, ◌++◌, append-nil}
use native.Mathlib.Omega.{arith}
use Rattle.utf8.specs.Steps.{same}
use Rattle.turkish.specs.Letters.{text}
use Rattle.turkish.specs.Vowels.{vowels, vowel, last_vowel_of, before_last_vowel}
use Rattle.turkish.specs.Snowball.{State, ahead, place, move_to, Result, done, failed, and_then, or_else, backward, Command, ◌then◌, ◌or◌, goto, grouping, run}
use Rattle.turkish.specs.Source.{vowel1, vowel2, vowel3, vowel4, vowel5, vowel6, check_vowel_harmony}
use Rattle.turkish.specs.Source as Source
use Rattle.turkish.specs.Heard.{unheard}
use Rattle.turkish.specs.Pieces.{kind_names, number_from, kind_of, alone, Reading, blank, or_joined, read_then, read_after, read_or, stopped_at, heard_by, read_in}
use Rattle.turkish.specs.Pieces as Pieces
use Rattle.theorems.specs.Simple.Harmony.{partner, to_first, Found, nowhere, at, harmony_found, harmony}
use Rattle.theorems.specs.Simple.Grammar.{Out, took}
use Rattle.theorems.specs.Simple.Pieces.{heard_at}
use Rattle.theorems.proofs.Laws.Harmony.{harmony-any, harmony-found, to_first-some, harmony-vowel, drop-last_vowel_of, last_vowel_of-vowel}
use Rattle.theorems.proofs.Source.Means.{Means, placed, settled-done, ahead-on, moved_none, take_if}
use Rattle.theorems.proofs.Source.LastVowel.{means-walk, walk-vowel}
use Rattle.theorems.proofs.Source.Harmony.{partners, partners-vowel, line, lines, lines-mean, harmony-means}
use Rattle.theorems.proofs.Source.Keeps.{place-on}

-- ---- one stop ----

-- a command seen to stop at these places, and to do nothing else
abbrev pub stopping : List ℕ → Reading
stopping ns = record { joined = alone; stops = ns; kept = [] }

-- in any state the command, read backwards, is seen to stop once, at the character before the place that it is left at; where it fails, nowhere
record Halts (p : Command) : Type 0 where
  on-state : (self : State → Result) (s : State) → Pieces.reading backward self p s ≡ stopped_at (run backward self p s)

-- so does `goto`
halts-goto : (p : Command) → Halts (goto p)
unfolding Pieces.reading
halts-goto p = record { on-state = λ self s. refl }

-- what halts does so behind a command that is seen to do nothing
halts-behind : {p q : Command} → ((self : State → Result) (s : State) → Pieces.reading backward self p s ≡ blank) → Halts q → Halts (p then q)
unfolding run Pieces.reading and_then read_after read_then or_joined blank stopped_at
halts-behind {p} {q} x y = record { on-state = λ self s. go self (run backward self p s) (Pieces.reading backward self p s) (x self s) }
  where
    go : (self : State → Result) (r : Result) (a : Reading) → a ≡ blank
        → read_after r a (Pieces.reading backward self q) ≡ stopped_at (and_then r (run backward self q))
    go self (done t) a e = rw e (y.on-state self t)
    go self (failed t) a e = refl

-- and the first of two that does not fail
halts-or : {p q : Command} → Halts p → Halts q → Halts (p or q)
unfolding run Pieces.reading or_else read_or
halts-or {p} {q} x y = record { on-state = λ self s. go self s.cursor (run backward self p s) (Pieces.reading backward self p s) (x.on-state self s) }
  where
    go : (self : State → Result) (c : ℕ) (r : Result) (a : Reading) → a ≡ stopped_at r
        → read_or c r a (Pieces.reading backward self q) ≡ stopped_at (or_else c r (run backward self q))
    go self c (done t) a e = e
    go self c (failed t) a e = y.on-state self (move_to t c)

-- a command leaves the cursor behind what it takes
took-done : {p : Command} {f : List ℕ → Out} → Means backward p f → (self : State → Result) (s : State) (k : ℕ)
    → f (ahead s) ≡ took k true → run backward self p s ≡ done (move_to s (s.cursor + k))
unfolding placed
took-done x self s k e = settled-done s.cursor _ _ (x.on-state self s ∙ ap (placed s) e)

-- and what comes behind it is seen from there
pub read_after-done : (r : Result) (t : State) (a : Reading) (b : State → Reading) → r ≡ done t → read_after r a b ≡ read_then a (b t)
unfolding read_after
read_after-done r t a b e = rw e

-- so one that halts stops at the next character behind those that it takes
halts_at : {p : Command} {f : List ℕ → Out} → Halts p → Means backward p f → (self : State → Result) (s : State) (k : ℕ)
    → f (ahead s) ≡ took k true → Pieces.reading backward self p s ≡ stopping ((place s - (1 + k)) ∷ [])
unfolding stopped_at
halts_at x y self s k e =
    let n : place s - k - 1 ≡ place s - (1 + k) = omega arith in
    x.on-state self s ∙ ap stopped_at (took-done y self s k e) ∙ ap (λ (i : ℕ). stopping ((i - 1) ∷ [])) (place-on s k) ∙ ap (λ (i : ℕ). stopping (i ∷ [])) n

-- ---- harmony's two ----

-- a line of the source, from 116 to 123, halts: a vowel, and a walk
line-halts : (v g : String) → Halts (line v g)
unfolding Pieces.reading
line-halts v g = halts-behind (λ self s. refl) (halts-goto (grouping g))

-- and so do all eight
lines-halt : Halts lines
lines-halt =
    halts-or (line-halts "a" vowel1) (halts-or (line-halts "e" vowel2) (halts-or (line-halts "ı" vowel3) (halts-or (line-halts "i" vowel4)
    (halts-or (line-halts "o" vowel5) (halts-or (line-halts "ö" vowel6) (halts-or (line-halts "u" vowel5) (line-halts "ü" vowel6)))))))

-- check_vowel_harmony leaves the state as it was
pub harmony-done : (self : State → Result) (s : State) → harmony (ahead s) ≡ true → run backward self check_vowel_harmony s ≡ done s
unfolding take_if
harmony-done self s h = took-done harmony-means self s 0 (ap (λ (b : Bool). take_if b 0) h) ∙ moved_none s

-- from the last vowel the lines go to its nearest partner
partners-harmony : (cs : List ℕ) → harmony cs ≡ true
    → partners (last_vowel_of cs ∷ before_last_vowel cs) ≡ took (to_first (partner (last_vowel_of cs)) (before_last_vowel cs)) true
unfolding take_if
partners-harmony cs h =
    partners-vowel (before_last_vowel cs) (last_vowel_of cs) (last_vowel_of-vowel cs (harmony-vowel cs h))
    ∙ ap (λ (b : Bool). take_if b (to_first (partner (last_vowel_of cs)) (before_last_vowel cs))) (sym (harmony-any cs) ∙ h)

-- the places at which harmony stops, seen from place n, by what it finds
unfoldable pub stops_at : ℕ → Found → List ℕ
stops_at n nowhere = []
stops_at n (at last partner) = (n - last) ∷ (n - partner) ∷ []

-- the two walks, one behind the other, stop there
walks-stop : (self : State → Result) (s : State) → harmony (ahead s) ≡ true
    → Pieces.reading backward self (goto (grouping Source.vowel) then lines) s ≡ stopping (stops_at (place s) (harmony_found (ahead s)))
unfolding vowels Pieces.reading read_then or_joined stops_at
walks-stop self s h =
    let cs = ahead s in
    let some = harmony-vowel cs h in
    let walked = walk-vowel cs some in
    let k = to_first vowel cs - 1 in
    let j = to_first (partner (last_vowel_of cs)) (before_last_vowel cs) in
    let t = move_to s (s.cursor + k) in
    let l : 1 + k ≡ to_first vowel cs = omega (arith, to_first-some vowel cs some) in
    let n : place s - k - (1 + j) ≡ place s - (to_first vowel cs + j) = omega arith in
    let there = ap partners (ahead-on s k ∙ drop-last_vowel_of cs some) ∙ partners-harmony cs h in
    let first = halts_at (halts-goto (grouping Source.vowel)) (means-walk Source.vowel) self s k walked ∙ ap (λ (i : ℕ). stopping ((place s - i) ∷ [])) l in
    let second = halts_at lines-halt lines-mean self t j there ∙ ap (λ (i : ℕ). stopping (i ∷ [])) (ap (λ (i : ℕ). i - (1 + j)) (place-on s k) ∙ n) in
    read_after-done _ t _ _ (took-done (means-walk Source.vowel) self s k walked) ∙ ap₂ read_then first second
    ∙ ap (λ (f : Found). stopping (stops_at (place s) f)) (sym (harmony-found cs h))

-- so check_vowel_harmony stops there
pub harmony-stops : (self : State → Result) (s : State) → harmony (ahead s) ≡ true
    → Pieces.reading backward self check_vowel_harmony s ≡ stopping (stops_at (place s) (harmony_found (ahead s)))
unfolding check_vowel_harmony run Pieces.reading read_in kind_of number_from kind_names same text
harmony-stops self s h = inside _ _ (harmony-done self s h) ∙ walks-stop self s h
  where
    inside : (r : Result) (a : Reading) → r ≡ done s → read_in "check_vowel_harmony" s r a ≡ a
    inside r a e = rw e

-- whoever goes on behind it, and stops at no two characters, heard what harmony found
pub heard_by-stops : (n : ℕ) (f : Found) (ns : List ℕ) → heard_by ns ≡ unheard → heard_by (stops_at n f ++ ns) ≡ heard_at n f
unfolding stops_at heard_by heard_at
heard_by-stops n nowhere ns e = e
heard_by-stops n (at last partner) ns e = refl

-- so check_vowel_harmony heard it
pub harmony-heard : (self : State → Result) (s : State) → harmony (ahead s) ≡ true
    → heard_by (Pieces.reading backward self check_vowel_harmony s).stops ≡ heard_at (place s) (harmony_found (ahead s))
unfolding heard_by
harmony-heard self s h =
    let ns = stops_at (place s) (harmony_found (ahead s)) in
    ap (λ (a : Reading). heard_by a.stops) (harmony-stops self s h) ∙ ap heard_by (sym (append-nil ns))
    ∙ heard_by-stops (place s) (harmony_found (ahead s)) [] refl
