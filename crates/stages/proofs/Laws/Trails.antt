-- A step of a branch: a mark, or a group, takes a record to another, and the marks kept from there on stand behind it. With it what
-- a command answers by itself, and what one answers after a step. Assumes nothing.
use Prim.Native.Nat.{ℕ}
use mathlib.Core.Path.{◌≡◌, refl, sym, ap, ap₂, ◌∙◌}
use mathlib.Core.Bool.{Bool, true, false, ◌&&◌, false≢true}
use mathlib.Core.List.{List, [], ◌∷◌, ◌++◌, append-nil}
use native.Mathlib.Nat.{add-zero}
use lib.ListN.{drop}
use Rattle.utf8.specs.declared.cursor.Cursor.{Cursor}
use Rattle.utf8.specs.Steps.{move_to}
use Rattle.utf8.specs.Behind.{behind, back_by, deleted, Open}
use Rattle.encoding.proofs.Laws.Booleans.{and_left, and_right}
use Rattle.utf8.proofs.Laws.Behind.{behind-back_by, back_by-add, back_by-zero, open-back_by, open-deleted}
use Rattle.theorems.specs.Simple.Harmony.{Found, nowhere, at}
use Rattle.theorems.specs.Simple.Grammar.{Out, fail, took, Mark, mark_of, Command, mark, ◌then◌, ◌or◌, nothing, unset}
use Rattle.theorems.specs.Simple.Pieces.{Taken, Trace, none, keeps, total, more_trace, after_trace, first_trace, trace_out, trace_of, trace}
use Rattle.theorems.proofs.Laws.Traces.{total-append}
use Rattle.std.specs.Prelude.{Option, Some, None, option_map}
use Rattle.std.specs.Option.{option_or}
use Rattle.vowels.specs.declared.harmony.Harmony.{Harmony}
use Rattle.vowels.specs.Harmony.{heard_of}
use Rattle.marks.specs.Reach.{Answer, mark_numbered, leading, leading_heard, reach}
use Rattle.stages.specs.declared.trail.Branch.{Branch}
use Rattle.stages.specs.Trail.{Kept, stop_at, behind_trail, trail_of, heard_along, way_of, no_way, behind_way, along, cut_to, one_mark, behind_branch, cut}

-- ---- one mark ----

-- an answer that keeps one mark, or fails
data One : Trace → Type 0 where
  failing : One none
  single : (t : Taken) (f : Bool) → One (keeps (t ∷ []) f)

-- a mark's answer is one
one_out : (m : Mark) (cs : List ℕ) (o : Out) → One (trace_out m cs o)
unfolding trace_out
one_out m cs fail = failing
one_out m cs (took k f) = single _ f

-- the first of two such answers is one
one-first : {o q : Trace} → One o → One q → One (first_trace o q)
unfolding first_trace
one-first failing y = y
one-first (single t f) y = single t f

-- a command of marks alone, the first of which that fits is kept
unfoldable pub only_marks : Command → Bool
only_marks (mark m) = true
only_marks (p then q) = false
only_marks (p or q) = only_marks p && only_marks q
only_marks nothing = false
only_marks unset = false

-- its answer is one
one-group : (p : Command) (cs : List ℕ) → only_marks p ≡ true → One (trace p cs)
unfolding only_marks trace trace_of
one-group (mark m) cs e = one_out m cs (mark_of m cs)
one-group (p then q) cs e = absurd (false≢true e)
one-group (p or q) cs e =
    one-first (one-group p cs (and_left (only_marks p) (only_marks q) e)) (one-group q cs (and_right (only_marks p) (only_marks q) e))
one-group nothing cs e = absurd (false≢true e)
one-group unset cs e = absurd (false≢true e)

-- ---- a step ----

-- an answer that takes record c to where a mark leads, behind which what is kept from there on stands
pub record Steps (w : List ℕ) (c : Cursor) (o : Trace) (m : Answer) : Type 0 where
  marks : List Taken
  flag : Bool
  keeps-is : o ≡ keeps marks flag
  there : m.before ≡ back_by w c (total marks)
  goes_on : (ts : List Taken) → behind_way m.kind m.before.cursor m.heard (way_of w m.before ts) ≡ way_of w c (marks ++ ts)

-- one mark taken is a step
steps-taken : (w : List ℕ) (c : Cursor) (t : Taken) (f : Bool) {m : Answer} → m.before ≡ back_by w c (total (t ∷ []))
    → m.kind ≡ mark_numbered t.kind → m.heard ≡ heard_of w c t.found → Steps w c (keeps (t ∷ []) f) m
unfolding total way_of trail_of heard_along behind_way
steps-taken w c t f b k h =
    let there = b ∙ ap (back_by w c) (add-zero t.size) in
    record { marks = t ∷ []; flag = f; keeps-is = refl; there = b; goes_on = λ ts. rw (there, k, h) }

-- an answer of one mark that reaches a record is a step to it
steps-one : (w : List ℕ) (c : Cursor) {o : Trace} {r : Option Answer} {m : Answer} → One o → r ≡ reach w c o → r ≡ Some m → Steps w c o m
unfolding reach leading leading_heard
steps-one w c failing is to = cc
steps-one w c {m = m} (single t f) is to =
    let same : m ≡ record { before = back_by w c (total (t ∷ [])); kind = mark_numbered t.kind; heard = heard_of w c t.found } = cc in
    steps-taken w c t f (ap (λ (x : Answer). x.before) same) (ap (λ (x : Answer). x.kind) same) (ap (λ (x : Answer). x.heard) same)

-- so is a mark that does
pub steps-mark : (w : List ℕ) (c : Cursor) (k : Mark) {r : Option Answer} {m : Answer} → r ≡ reach w c (trace_of k (behind w c)) → r ≡ Some m
    → Steps w c (trace_of k (behind w c)) m
unfolding trace_of
steps-mark w c k = steps-one w c (one_out k (behind w c) (mark_of k (behind w c)))

-- and a group
pub steps-group : (w : List ℕ) (c : Cursor) (p : Command) → only_marks p ≡ true → {r : Option Answer} {m : Answer}
    → r ≡ reach w c (trace p (behind w c)) → r ≡ Some m → Steps w c (trace p (behind w c)) m
steps-group w c p e = steps-one w c (one-group p (behind w c) e)

-- ---- what a command answers ----

-- equal records and marks make equal answers
fits-same : {d e : Cursor} {t u : Kept} → d ≡ e → t ≡ u → ◌≡◌ {A = Option Branch} (Some (record { end = d; way = t })) (Some (record { end = e; way = u }))
fits-same d t = rw (d, t)

-- one that does not fit keeps nothing
pub along-unfit : (w : List ℕ) (c : Cursor) (o : Trace) {b : Option Branch} → b ≡ along w c o → b ≡ None → o ≡ none
unfolding along
along-unfit w c none is unfit = refl
along-unfit w c (keeps ts f) is unfit = cc

-- one that keeps nothing does not fit
pub along-none : (w : List ℕ) (c : Cursor) (o : Trace) → o ≡ none → None ≡ along w c o
unfolding along
along-none w c o e = sym (ap (along w c) e)

-- nor is anything cut
pub cut-none : (w : List ℕ) (c : Cursor) (o : Trace) → o ≡ none → None ≡ cut_to w c o
unfolding cut_to
cut-none w c o e = sym (ap (cut_to w c) e)

-- a command that fits, fits before any other
first-along : (w : List ℕ) (c : Cursor) (o q : Trace) {b : Branch} → Some b ≡ along w c o → Some b ≡ along w c (first_trace o q)
unfolding along first_trace
first-along w c none q is = cc
first-along w c (keeps ts f) q is = is

-- one that may fail and does leaves the record where it is
stays-along : (w : List ℕ) (c : Cursor) (o : Trace) → Open w c → o ≡ none
    → Some (record { end = c; way = no_way }) ≡ along w c (first_trace o (keeps [] true))
unfolding along first_trace way_of no_way trail_of heard_along total
stays-along w c o opens e =
    fits-same (sym (back_by-zero w c opens)) refl ∙ sym (ap (λ (x : Trace). along w c (first_trace x (keeps [] true))) e)

-- ---- a deletion ----

-- an answer with all from its record on deleted is the command's answer cut
cut-along_of : (w : List ℕ) (c : Cursor) (o : Trace) → option_map cut (along w c o) ≡ cut_to w c o
unfolding along cut_to cut
cut-along_of w c none = refl
cut-along_of w c (keeps ts f) = refl

-- so where it fits
cut-along : (w : List ℕ) (c : Cursor) (o : Trace) {b : Branch} → Some b ≡ along w c o → Some (cut b) ≡ cut_to w c o
cut-along w c o is = ap (λ (x : Option Branch). option_map cut x) is ∙ cut-along_of w c o

-- the limit does not matter to the marks kept
trail_of-limit : (w : List ℕ) (c : Cursor) (n : ℕ) (ts : List Taken)
    → trail_of w (record { cursor = c.cursor; limit = n; limit_backward = c.limit_backward }) ts ≡ trail_of w c ts
unfolding trail_of back_by move_to
trail_of-limit w c n [] = refl
trail_of-limit w c n (t ∷ ts) =
    ap (behind_trail (stop_at (mark_numbered t.kind) (back_by w c t.size).cursor)) (trail_of-limit w (back_by w c t.size) n ts)

-- nor to what they found
heard_along-limit : (w : List ℕ) (c : Cursor) (n : ℕ) (ts : List Taken)
    → heard_along w (record { cursor = c.cursor; limit = n; limit_backward = c.limit_backward }) ts ≡ heard_along w c ts
unfolding heard_along back_by move_to
heard_along-limit w c n [] = refl
heard_along-limit w c n (t ∷ ts) =
    ap₂ (λ (x y : Option Harmony). option_or x y) (here t.found) (heard_along-limit w (back_by w c t.size) n ts)
  where
    here : (f : Found) → heard_of w (record { cursor = c.cursor; limit = n; limit_backward = c.limit_backward }) f ≡ heard_of w c f
    here nowhere = unfold heard_of in refl
    here (at l p) = unfold heard_of back_by move_to behind in refl

-- so a command is cut alike after a deletion
cut_to-deleted : (w : List ℕ) (c : Cursor) (o : Trace) → cut_to w (deleted c) o ≡ cut_to w c o
unfolding cut_to deleted back_by move_to way_of
cut_to-deleted w c none = refl
cut_to-deleted w c (keeps ts f) =
    rw (trail_of-limit w c c.cursor ts, heard_along-limit w c c.cursor ts)

-- ---- what it answers after a step ----

-- the deletion may come before or after
cut-behind : (m : Answer) (b : Option Branch) → option_map cut (option_map (behind_branch m) b) ≡ option_map (behind_branch m) (option_map cut b)
unfolding cut behind_branch
cut-behind m None = refl
cut-behind m (Some b) = refl

-- where the first of two keeps nothing, nor do both
pub after_none : (o : Trace) (q : ℕ → Trace) → o ≡ none → after_trace o q ≡ none
unfolding after_trace
after_none o q e = ap (λ (x : Trace). after_trace x q) e

-- one command, then another on what it leaves, or nothing
abbrev pub then_try : List ℕ → Cursor → Trace → (List ℕ → Trace) → Trace
then_try w c o q = after_trace o (λ k. first_trace (q (drop k (behind w c))) (keeps [] true))

module _ (w : List ℕ) (c : Cursor) {o : Trace} {m : Answer} (s : Steps w c o m) where
  -- a step leaves an open record open
  pub open_step : Open w c → Open w m.before
  open_step opens = rw s.there (open-back_by w c (total s.marks) opens)

  -- and so does its deletion
  pub open-cut : {e : Cursor} → e ≡ deleted m.before → Open w c → Open w e
  open-cut e opens = rw e (open-deleted w m.before (open_step opens))

  -- it is the same before any other command
  pub first_step : (q : Trace) → Steps w c (first_trace o q) m
  unfolding first_trace
  first_step q =
      let same = ap (λ (x : Trace). first_trace x q) s.keeps-is in
      record { marks = s.marks; flag = s.flag; keeps-is = same; there = s.there; goes_on = s.goes_on }

  -- what it answers by itself
  pub along-step : {b : Branch} → b ≡ one_mark m → Some b ≡ along w c o
  unfolding along way_of no_way trail_of heard_along one_mark
  along-step e =
      ap (λ (x : Branch). Some x) e ∙ fits-same s.there (s.goes_on [] ∙ ap (way_of w c) (append-nil s.marks)) ∙ sym (ap (along w c) s.keeps-is)

  -- and with all from there on deleted
  pub cut_step : {b d : Branch} → b ≡ one_mark m → d ≡ cut b → Some d ≡ cut_to w c o
  cut_step b d = ap (λ (x : Branch). Some x) d ∙ cut-along w c o (along-step b)

  -- an answer from where it leads
  along-more : (x : Trace) → option_map (behind_branch m) (along w m.before x) ≡ along w c (more_trace s.marks s.flag x)
  unfolding behind_branch along more_trace
  along-more none = refl
  along-more (keeps us g) =
      let n = total s.marks in
      let back = ap (λ (x : Cursor). back_by w x (total us)) s.there ∙ back_by-add w c n (total us) ∙ ap (back_by w c) (sym (total-append s.marks us)) in
      fits-same back (s.goes_on us)

  module _ (q : List ℕ → Trace) where
    -- a command goes on from where the step leads
    along-after : option_map (behind_branch m) (along w m.before (q (behind w m.before))) ≡ along w c (after_trace o (λ n. q (drop n (behind w c))))
    unfolding after_trace
    along-after =
        let n = total s.marks in
        ap (λ (cs : List ℕ). option_map (behind_branch m) (along w m.before (q cs))) (ap (behind w) s.there ∙ behind-back_by w c n)
        ∙ along-more (q (drop n (behind w c)))
        ∙ sym (ap (λ (x : Trace). along w c (after_trace x (λ j. q (drop j (behind w c))))) s.keeps-is)

    -- where it keeps nothing, nor do both
    pub then-none : q (behind w m.before) ≡ none → after_trace o (λ n. q (drop n (behind w c))) ≡ none
    unfolding along
    then-none e = along-unfit w c _ along-after (ap (λ (x : Trace). option_map (behind_branch m) (along w m.before x)) e)

    -- where it fits, its marks stand behind the step's
    pub then-along : {b d : Branch} → Some b ≡ along w m.before (q (behind w m.before)) → d ≡ behind_branch m b
        → Some d ≡ along w c (after_trace o (λ n. q (drop n (behind w c))))
    then-along is d = ap (λ (x : Branch). Some x) d ∙ ap (λ (x : Option Branch). option_map (behind_branch m) x) is ∙ along-after

    -- and cut from where it leads
    cut-after : {b : Branch} → Some b ≡ cut_to w m.before (q (behind w m.before))
        → Some (behind_branch m b) ≡ cut_to w c (after_trace o (λ n. q (drop n (behind w c))))
    cut-after is =
        let here = along w m.before (q (behind w m.before)) in
        ap (λ (x : Option Branch). option_map (behind_branch m) x) (is ∙ sym (cut-along_of w m.before (q (behind w m.before))))
        ∙ sym (cut-behind m here) ∙ ap (λ (x : Option Branch). option_map cut x) along-after ∙ cut-along_of w c _

    -- all from where both lead deleted
    pub then-cut : {b d e : Branch} → Some b ≡ along w m.before (q (behind w m.before)) → d ≡ behind_branch m b → e ≡ cut d
        → Some e ≡ cut_to w c (after_trace o (λ n. q (drop n (behind w c))))
    then-cut is d e = ap (λ (x : Branch). Some x) e ∙ cut-along w c _ (then-along is d)

    -- and so where all from the step on was deleted before
    then-deleted : {f : Cursor} {b d e : Branch} → f ≡ deleted m.before → Some b ≡ along w f (q (behind w f)) → d ≡ behind_branch m b → e ≡ cut d
        → Some e ≡ cut_to w c (after_trace o (λ n. q (drop n (behind w c))))
    unfolding behind deleted cut behind_branch
    then-deleted {b = b} f is d e =
        let here = is ∙ ap (λ (x : Cursor). along w x (q (behind w x))) f in
        let both : cut (behind_branch m b) ≡ behind_branch m (cut b) = refl in
        ap (λ (x : Branch). Some x) (e ∙ ap cut d ∙ both)
        ∙ cut-after (cut-along w (deleted m.before) (q (behind w m.before)) here ∙ cut_to-deleted w m.before (q (behind w m.before)))

  module _ (q : List ℕ → Trace) {f : Cursor} (gone : f ≡ deleted m.before) where
    -- a command that may fail after the step's deletion: where it fits
    pub try-cut : {b d e : Branch} → Some b ≡ along w f (q (behind w f)) → d ≡ behind_branch m b → e ≡ cut d → Some e ≡ cut_to w c (then_try w c o q)
    try-cut is = then-deleted (λ cs. first_trace (q cs) (keeps [] true)) gone (first-along w f (q (behind w f)) (keeps [] true) is)

    -- and where it keeps nothing
    pub try-none : Open w c → q (behind w f) ≡ none → {b d : Branch} → b ≡ one_mark m → d ≡ cut b → Some d ≡ cut_to w c (then_try w c o q)
    unfolding one_mark behind_branch cut deleted
    try-none opens fails {b} {d} one e =
        then-deleted (λ cs. first_trace (q cs) (keeps [] true)) gone (stays-along w f (q (behind w f)) (open-cut gone opens) fails) refl
        (e ∙ ap cut one ∙ ap (λ (x : Cursor). record { end = x; way = behind_way m.kind m.before.cursor m.heard no_way }) (sym (ap deleted gone)))
