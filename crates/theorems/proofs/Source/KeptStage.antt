-- The marks that the source's suffix stage keeps are the simple form's, each between the places that it took: a deletion behind the
-- cursor keeps the cursor's place, so what follows it stands end to end with what was deleted. Assumes nothing.
use Prim.Native.Nat.{ℕ, ◌+◌}
use mathlib.Core.Path.{◌≡◌, refl, sym, ap, ◌∙◌}
use mathlib.Core.Bool.{true, false, false≢true}
use mathlib.Core.List.{List, [], ◌++◌, append-nil}
use native.Mathlib.Omega.{arith}
use lib.ListN.{length, drop, length-drop}
use Rattle.utf8.specs.Steps.{same}
use Rattle.turkish.specs.Letters.{text}
use Rattle.turkish.specs.Snowball.{State, ahead, place, move_to, with_slice, with_flag, Result, done, failed, and_then, or_else, slice_from, backward, Command, ◌then◌, ◌or◌, try, ⟦, ⟧, delete, unset, run}
use Rattle.turkish.specs.Source.{stem_nominal_verb_suffixes}
use Rattle.turkish.specs.Answers.{entered, succeeded}
use Rattle.turkish.specs.Pieces.{kind_names, number_from, kind_of, Kept, Reading, blank, or_joined, read_then, read_after, read_or, read_in, kept_marks}
use Rattle.turkish.specs.Pieces as Pieces
use Rattle.theorems.specs.Simple.Grammar as Grammar
use Rattle.theorems.specs.Simple.Stage.{person, branch1, branch2, branch3, branch4, branch5, branch6, branches}
use Rattle.theorems.specs.Simple.Pieces.{Trace, none, keeps, total, more_trace, after_trace, first_trace, trace, summed, taken_of, stage_marks, located}
use Rattle.theorems.proofs.Source.Means.{settled, placed, done-failed, done-state}
use Rattle.theorems.proofs.Source.Stage.{standing, opened, delete-passed, persons, line314, line316, line319, line323, line325, line327}
use Rattle.theorems.proofs.Source.Keeps.{Shows, Surely, Shown, Keeps, located-append, shows-or, surely-more, keeps_then, keeps-or, keeps-succeed}
use Rattle.theorems.proofs.Source.KeptMarks.{yUm-keeps, sUn-keeps, yUz-keeps, sUnUz-keeps, lAr-keeps, nUz-keeps, DUr-keeps, cAsInA-keeps, yDU-keeps, ysA-keeps, ymUs-keeps, yken-keeps}

-- ---- a branch with a deletion ----

-- an answer or else nothing, whichever way the result went
surely-or-nothing : (s : State) (r : Result) (a : Reading) (o : Trace) → Shows s o r a
    → Surely (place s) (first_trace o (keeps [] true)) (or_else s.cursor r done) (read_or s.cursor r a (λ t. blank))
unfolding Shows Surely first_trace or_else read_or settled succeeded blank located
surely-or-nothing s (done t) a none e = done-failed e
surely-or-nothing s (failed t) a none e = (refl, refl)
surely-or-nothing s (done t) a (keeps ts f) e = e
surely-or-nothing s (failed t) a (keeps ts f) e = absurd (false≢true e.0)

-- what follows a deletion, entered at the end of whatever text is left, surely keeps what the function says
record Follows (w : Command) (h : List ℕ → Trace) : Type 0 where
  on-state : (self : State → Result) (t : List ℕ) (k : ℕ) (s : State) → let v = standing t 0 k (length t) s in
      Surely (length t) (h t) (run backward self w v) (Pieces.reading backward self w v)

-- a command that may follow keeps its marks or nothing
follows-try : {q : Command} {g : List ℕ → Trace} → Keeps q g → Follows (try (⟦ then q)) (λ t. first_trace (g t) (keeps [] true))
unfolding run Pieces.reading and_then read_after read_then or_joined blank with_slice place ahead standing
follows-try x =
    record { on-state = λ self t k s. let v = standing t 0 (length t) (length t) s in surely-or-nothing v _ _ _ (x.on-state self v) }

-- and `unset` after it nothing more
follows-unset : {w : Command} {h : List ℕ → Trace} → Follows w h → Follows (w then unset) (λ t. after_trace (h t) (λ j. keeps [] false))
unfolding run Pieces.reading Surely after_trace more_trace and_then read_after read_then blank succeeded located
follows-unset {w} {h} x =
    record {
      on-state =
          λ self t k s. let v = standing t 0 k (length t) s in
          go self (length t) (run backward self w v) (Pieces.reading backward self w v) (h t) (x.on-state self t k s);
    }
  where
    go : (self : State → Result) (n : ℕ) (r : Result) (a : Reading) (o : Trace) → Surely n o r a
        → Surely n (after_trace o (λ j. keeps [] false)) (and_then r (run backward self unset)) (read_after r a (Pieces.reading backward self unset))
    go self n r a none e = absurd e
    go self n (done t) a (keeps ts f) e = (refl, ap (λ (ks : List Kept). ks ++ []) e.1 ∙ sym (located-append n ts []))
    go self n (failed t) a (keeps ts f) e = absurd (false≢true e.0)

-- with the marks before the deletion and those that follow it, the branch shows both
shows-deleted : {p w : Command} {f h : List ℕ → Trace} (self : State → Result) (t : List ℕ) (b : ℕ) (s : State) → Keeps p f → Follows w h
    → Shown self (p then ⟧ then delete then w) (opened t b s) (after_trace (f t) (λ k. h (drop k t)))
unfolding run Pieces.reading opened with_flag standing ahead place Shows after_trace summed settled placed move_to and_then read_after read_then or_joined blank
shows-deleted {p} {w} {f} {h} self t b s x y =
    let o = opened t b s in
    go (f t) (run backward self p o) (Pieces.reading backward self p o) (x.means.on-state self o) (x.on-state self o)
  where
    go : (o : Trace) (r : Result) (a : Reading) → settled 0 r ≡ placed (opened t b s) (summed o) → Shows (opened t b s) o r a
        → Shows (opened t b s) (after_trace o (λ k. h (drop k t)))
        (and_then r (run backward self (⟧ then delete then w))) (read_after r a (Pieces.reading backward self (⟧ then delete then w)))
    go none (done u) a e z = done-failed z
    go none (failed u) a e z = z
    go (keeps ts f) (done u) a e z =
        let o = opened t b s in
        let k = total ts in
        let from_end : 0 + k ≡ k = omega arith in
        let here = done-state e ∙ ap (λ (n : ℕ). standing t n (length t) b o) from_end in
        let deleted = ap (λ (v : State). slice_from [] (with_slice v v.ket (place v))) here ∙ delete-passed t k b o in
        rw deleted (surely-more o _ ts f _ a _ _ z.1 (length-drop k t) (y.on-state self (drop k t) (length t) o))
    go (keeps ts f) (failed u) a e z = done-failed (sym e)

-- ---- the six branches ----

-- the group of lines 316 and 327 keeps what the simple form's keeps
persons-keeps : Keeps persons (trace person)
unfolding trace person
persons-keeps = keeps-or sUnUz-keeps (keeps-or lAr-keeps (keeps-or yUm-keeps (keeps-or sUn-keeps (keeps-or yUz-keeps keeps-succeed))))

-- each shows what the simple form's keeps, entered with the slice opened at the text's end
module _ (self : State → Result) (t : List ℕ) (b : ℕ) (s : State) where
  -- a branch without a deletion
  shows_kept : {p : Command} {f : List ℕ → Trace} → Keeps p f → Shown self p (opened t b s) (f t)
  unfolding opened with_flag standing ahead
  shows_kept x = x.on-state self (opened t b s)

  -- line 314
  shows-1 : Shown self line314 (opened t b s) (trace branch1 t)
  unfolding trace branch1
  shows-1 = shows_kept (keeps-or ymUs-keeps (keeps-or yDU-keeps (keeps-or ysA-keeps yken-keeps)))

  -- line 316
  shows-2 : Shown self line316 (opened t b s) (trace branch2 t)
  unfolding trace branch2
  shows-2 = shows_kept (keeps_then cAsInA-keeps (keeps_then persons-keeps ymUs-keeps))

  -- lines 319 and 320
  shows-3 : Shown self line319 (opened t b s) (trace branch3 t)
  unfolding trace branch3 Grammar.try
  shows-3 =
      let may = keeps-or DUr-keeps (keeps-or yDU-keeps (keeps-or ysA-keeps ymUs-keeps)) in
      shows-deleted self t b s lAr-keeps (follows-unset (follows-try may))

  -- line 323
  shows-4 : Shown self line323 (opened t b s) (trace branch4 t)
  unfolding trace branch4
  shows-4 = shows_kept (keeps_then nUz-keeps (keeps-or yDU-keeps ysA-keeps))

  -- line 325
  shows-5 : Shown self line325 (opened t b s) (trace branch5 t)
  unfolding trace branch5 Grammar.try
  shows-5 =
      let begins = keeps-or sUnUz-keeps (keeps-or yUz-keeps (keeps-or sUn-keeps yUm-keeps)) in
      shows-deleted self t b s begins (follows-try ymUs-keeps)

  -- line 327
  shows-6 : Shown self line327 (opened t b s) (trace branch6 t)
  unfolding trace branch6 Grammar.try
  shows-6 = shows-deleted self t b s DUr-keeps (follows-try (keeps_then persons-keeps ymUs-keeps))

  -- one of them or else another
  either : (p q : Grammar.Command) (c d : Command) → Shown self c (opened t b s) (trace p t) → Shown self d (opened t b s) (trace q t)
      → Shown self (c or d) (opened t b s) (trace (Grammar.◌or◌ p q) t)
  unfolding trace run Pieces.reading
  either p q c d = shows-or (opened t b s) (run backward self d) (Pieces.reading backward self d) _ _ (trace p t) (trace q t)

  -- the first that fits
  shows_first : Shown self (line314 or line316 or line319 or line323 or line325 or line327) (opened t b s) (trace branches t)
  unfolding branches
  shows_first =
      either branch1 _ line314 (line316 or line319 or line323 or line325 or line327) shows-1
      (either branch2 _ line316 (line319 or line323 or line325 or line327) shows-2
      (either branch3 _ line319 (line323 or line325 or line327) shows-3
      (either branch4 _ line323 (line325 or line327) shows-4
      (either branch5 branch6 line325 line327 shows-5 shows-6))))

-- ---- the stage ----

-- the branches, and the deletion of what is left of the slice, which keeps nothing more; none where they fail
closed-keeps : (self : State → Result) (s v : State) (o : Trace) (r : Result) (a : Reading) → Shows v o r a
    → let q = ⟧ then delete in
    (read_in "stem_nominal_verb_suffixes" s (and_then r (run backward self q)) (read_after r a (Pieces.reading backward self q))).kept ≡ located (place v) (taken_of o)
unfolding Shows settled and_then read_after read_then read_in kind_of number_from kind_names same text run Pieces.reading blank succeeded taken_of located
closed-keeps self s v none (done u) a e = done-failed e
closed-keeps self s v none (failed u) a e = refl
closed-keeps self s v (keeps ts f) (done u) a e = append-nil a.kept ∙ e.1
closed-keeps self s v (keeps ts f) (failed u) a e = absurd (false≢true e.0)

-- the six branches as they stand in the source
stage-keeps : (self : State → Result) (t : List ℕ) (k b : ℕ) (s : State)
    → (Pieces.reading backward self stem_nominal_verb_suffixes (standing t 0 k b s)).kept ≡ located (length t) (stage_marks t)
unfolding stem_nominal_verb_suffixes run Pieces.reading and_then read_after read_then or_joined blank with_slice place ahead standing opened with_flag stage_marks
stage-keeps self t k b s = closed-keeps self (standing t 0 k b s) (opened t b s) (trace branches t) _ _ (shows_first self t b s)

-- in any state at the text's end, whatever the other variables hold
pub keeps-of-source : (s : State) → s.cursor ≡ 0
    → (Pieces.reading backward failed stem_nominal_verb_suffixes s).kept ≡ located (length s.text) (stage_marks s.text)
unfolding standing
keeps-of-source s h =
    ap (λ (c : ℕ). (Pieces.reading backward failed stem_nominal_verb_suffixes (standing s.text c s.ket s.bra s)).kept) h
    ∙ stage-keeps failed s.text s.ket s.bra s

-- so of a word
pub kept_marks-simple : (cs : List ℕ) → kept_marks cs ≡ located (length cs) (stage_marks cs)
unfolding kept_marks entered
kept_marks-simple cs = keeps-of-source (entered cs) refl
