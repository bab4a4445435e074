-- The kinds of the marks that a command keeps, in order of running: one of the sequences that are computed from the command. For the
-- stage these are 33, the empty one among them; no kind stands twice in one, and no two have the same kinds, in whatever order these are
-- told. Assumes nothing.
use Prim.Native.Nat.{ℕ, ◌-◌}
use mathlib.Core.Path.{◌≡◌, refl, ap}
use mathlib.Core.Bool.{Bool, true, not, ◌&&◌, ◌||◌}
use mathlib.Core.List.Memᴰ
use mathlib.Core.List.{List, [], ◌∷◌, ◌++◌, map, map-append, Memᴰ}
use lib.ListN.{length, drop}
use Rattle.utf8.specs.Steps.{same}
use Rattle.utf8.proofs.WholeLiterals.{same-equal}
use Rattle.encoding.proofs.Laws.Booleans.{and-each}
use Rattle.turkish.specs.Letters.{text, tab, lf, any, has}
use Rattle.turkish.specs.Pieces.{kind_names, number_from, name_from, kind_name}
use Rattle.theorems.specs.Simple.Grammar.{Out, fail, took, Mark, mark_of, Command, mark, ◌then◌, ◌or◌, nothing, unset, try}
use Rattle.theorems.specs.Simple.Marks.{marked, yUm, sUn, yUz, sUnUz, lAr, nUz, DUr, cAsInA, yDU, ysA, ymUs, yken}
use Rattle.theorems.specs.Simple.Stage.{person, branch1, branch2, branch3, branch4, branch5, branch6, branches}
use Rattle.theorems.specs.Simple.Pieces.{Taken, Trace, none, keeps, total, more_trace, after_trace, first_trace, trace_out, trace_of, trace, taken_of, stage_marks, located}
use Rattle.turkish.specs.PieceCalls.{Span, span_of}
use Rattle.theorems.proofs.Laws.Tests.{every, every-at}
use Rattle.theorems.proofs.Laws.Members.{every_of, mem-has, without, distinct}
use Rattle.theorems.proofs.PieceLines.{number_of, named}

-- ---- the sequences ----

-- each of one list followed by each of another
unfoldable pub crossed : List (List ℕ) → List (List ℕ) → List (List ℕ)
crossed [] ys = []
crossed (x ∷ xs) ys = map (λ y. x ++ y) ys ++ crossed xs ys

-- the sequences of kinds that a command may keep
unfoldable pub shapes : Command → List (List ℕ)
shapes (mark m) = (m.kind ∷ []) ∷ []
shapes (p then q) = crossed (shapes p) (shapes q)
shapes (p or q) = shapes p ++ shapes q
shapes nothing = [] ∷ []
shapes unset = [] ∷ []

-- those of the stage, with none where it answers no
unfoldable pub endings : List (List ℕ)
endings = [] ∷ shapes branches

-- they are 33
endings-count : length endings ≡ 33
unfolding endings shapes crossed branches branch1 branch2 branch3 branch4 branch5 branch6 person try
endings-count = refl

-- ---- the test ----

-- two sequences are the same, or one has a kind that the other has not
told_apart : List ℕ → List ℕ → Bool
told_apart js ks = not (every (has ks) js && every (has js) ks) || same js ks

-- what is asked of a sequence: no kind stands twice, each has a name that tells it, and every other sequence has not the same kinds
tells : List ℕ → Bool
tells ks = distinct ks && every named ks && every (told_apart ks) endings

-- every sequence of the stage passes
endings-tell : every tells endings ≡ true
unfolding endings shapes crossed tells told_apart every has any distinct same named number_of number_from kind_name name_from kind_names text without
    tab lf branches branch1 branch2 branch3 branch4 branch5 branch6 person try marked yUm sUn yUz sUnUz lAr nUz DUr cAsInA yDU ysA ymUs yken
endings-tell = refl

-- so each does
ending-tells : {ks : List ℕ} → Memᴰ ks endings → (distinct ks ≡ true) × (every named ks ≡ true) × (every (told_apart ks) endings ≡ true)
unfolding tells
ending-tells {ks} m = and-each (distinct ks) (every named ks) (every (told_apart ks) endings) (every-at tells endings-tell m)

-- no kind stands twice in a sequence
pub ending-distinct : {ks : List ℕ} → Memᴰ ks endings → distinct ks ≡ true
ending-distinct m = (ending-tells m).0

-- each of its kinds has a name that tells it
pub ending-named : {ks : List ℕ} → Memᴰ ks endings → every named ks ≡ true
ending-named m = (ending-tells m).1

-- two sequences with the same kinds, in whatever order, are equal
pub endings-equal : {js ks : List ℕ} → Memᴰ js endings → Memᴰ ks endings
    → ((k : ℕ) → Memᴰ k js → Memᴰ k ks) → ((k : ℕ) → Memᴰ k ks → Memᴰ k js) → js ≡ ks
unfolding told_apart
endings-equal {js} {ks} m n there back =
    let e : told_apart js ks ≡ true = every-at (told_apart js) (ending-tells m).2 n in
    same-equal js ks (rw (every_of (has ks) js (λ k i. mem-has (there k i)), every_of (has js) ks (λ k i. mem-has (back k i))) at e)

-- ---- what a command keeps ----

-- the kinds of some marks, in order of running
abbrev pub kinds_of : List Taken → List ℕ
kinds_of ts = map (λ (t : Taken). t.kind) ts

-- an answer that fails, or keeps marks whose kinds are one of the sequences
data Shaped (ss : List (List ℕ)) : Trace → Type 0 where
  unfit : Shaped ss none
  fits : {ts : List Taken} {f : Bool} → Memᴰ (kinds_of ts) ss → Shaped ss (keeps ts f)

-- a sequence of one list followed by one of another is among them
mem-crossed : {a : List ℕ} {xs ys : List (List ℕ)} {b : List ℕ} → Memᴰ a xs → Memᴰ b ys → Memᴰ (a ++ b) (crossed xs ys)
unfolding crossed
mem-crossed {ys} {b} (Memᴰ.head {x} {xs} e) n =
    Memᴰ.append_left (crossed xs ys) (Memᴰ.cast (ap (λ (l : List ℕ). l ++ b) e) (Memᴰ.map (λ y. x ++ y) n))
mem-crossed {ys} (Memᴰ.tail {x} {xs} m) n = Memᴰ.append_right (map (λ y. x ++ y) ys) (mem-crossed m n)

-- what is shaped by the sequences is shaped by more
shaped-map : {ss rs : List (List ℕ)} {o : Trace} → ((ks : List ℕ) → Memᴰ ks ss → Memᴰ ks rs) → Shaped ss o → Shaped rs o
shaped-map h unfit = unfit
shaped-map h (fits {ts} m) = fits (h (kinds_of ts) m)

-- the first of two answers
shaped-first : {ss : List (List ℕ)} {o q : Trace} → Shaped ss o → Shaped ss q → Shaped ss (first_trace o q)
unfolding first_trace
shaped-first unfit y = y
shaped-first (fits m) y = fits m

-- one answer after marks that were kept
shaped-more : {ss rs : List (List ℕ)} (ts : List Taken) (f : Bool) {o : Trace} → Memᴰ (kinds_of ts) ss → Shaped rs o
    → Shaped (crossed ss rs) (more_trace ts f o)
unfolding more_trace
shaped-more ts f m unfit = unfit
shaped-more ts f m (fits {ts = us} n) = fits (Memᴰ.cast (map-append (λ (t : Taken). t.kind) ts us) (mem-crossed m n))

-- one answer after another
shaped-after : {ss rs : List (List ℕ)} {o : Trace} {q : ℕ → Trace} → Shaped ss o → ((k : ℕ) → Shaped rs (q k)) → Shaped (crossed ss rs) (after_trace o q)
unfolding after_trace
shaped-after unfit y = unfit
shaped-after (fits {ts} {f} m) y = shaped-more ts f m (y (total ts))

-- an answer of one mark
shaped_out : (m : Mark) (cs : List ℕ) (o : Out) → Shaped ((m.kind ∷ []) ∷ []) (trace_out m cs o)
unfolding trace_out
shaped_out m cs fail = unfit
shaped_out m cs (took k f) = fits (Memᴰ.head refl)

-- a command keeps marks whose kinds are one of its sequences
trace-shaped : (p : Command) (cs : List ℕ) → Shaped (shapes p) (trace p cs)
unfolding shapes trace trace_of
trace-shaped (mark m) cs = shaped_out m cs (mark_of m cs)
trace-shaped (p then q) cs = shaped-after (trace-shaped p cs) (λ k. trace-shaped q (drop k cs))
trace-shaped (p or q) cs =
    shaped-first (shaped-map (λ ks m. Memᴰ.append_left (shapes q) m) (trace-shaped p cs))
    (shaped-map (λ ks m. Memᴰ.append_right (shapes p) m) (trace-shaped q cs))
trace-shaped nothing cs = fits (Memᴰ.head refl)
trace-shaped unset cs = fits (Memᴰ.head refl)

-- ---- the stage ----

-- the kinds of the marks that the stage keeps are one of its sequences
pub stage_marks-ending : (cs : List ℕ) → Memᴰ (kinds_of (stage_marks cs)) endings
unfolding stage_marks endings
stage_marks-ending cs = go (trace-shaped branches cs)
  where
    go : {o : Trace} → Shaped (shapes branches) o → Memᴰ (kinds_of (taken_of o)) ([] ∷ shapes branches)
    go unfit = unfold taken_of in Memᴰ.head refl
    go (fits m) = unfold taken_of in Memᴰ.tail m

-- the pieces of some marks have the marks' kinds
pub kinds-located : (w : List ℕ) (n : ℕ) (ts : List Taken) → map (λ (p : Span). p.kind) (map (span_of w) (located n ts)) ≡ kinds_of ts
unfolding located span_of
kinds-located w n [] = refl
kinds-located w n (t ∷ ts) = ap (λ (ks : List ℕ). t.kind ∷ ks) (kinds-located w (n - t.size) ts)
