-- stem_nominal_verb_suffixes of the source is the stage of the simple form: all that a branch takes is deleted, since nothing that
-- follows a deletion can fail. Assumes nothing.
use Prim.Native.Nat.{ℕ, ◌+◌, ◌-◌}
use mathlib.Core.Path.{◌≡◌, refl, sym, ap, ap₂, ◌∙◌}
use mathlib.Core.Bool.{Bool, true, false, ◌&&◌}
use mathlib.Core.List.{List, [], ◌++◌}
use native.Mathlib.Omega.{arith}
use lib.ListN.{length, take, drop, length-drop}
use lib.Seq.{drop-drop}
use Rattle.theorems.specs.Simple.Grammar.{Out, fail, took, more, after, first}
use Rattle.theorems.specs.Simple.Grammar as Grammar
use Rattle.theorems.specs.Simple.Stage.{person, branch1, branch2, branch3, branch4, branch5, branch6, branches, staged, stage, kept}
use Rattle.turkish.specs.Snowball.{State, ahead, place, move_to, with_slice, with_flag, with_text, Result, done, failed, and_then, or_else, place_after, slice_from, backward, Command}
use Rattle.turkish.specs.Snowball.{◌then◌, ◌or◌, try, succeed, ⟦, ⟧, delete, unset, run}
use Rattle.turkish.specs.Source.{mark_yUm, mark_sUn, mark_yUz, mark_sUnUz, mark_lAr, mark_nUz, mark_DUr, mark_cAsInA, mark_yDU, mark_ysA, mark_ymUs_, mark_yken, stem_nominal_verb_suffixes}
use Rattle.turkish.specs.Answers.{entered, called, succeeded, left, stemmed, suffix_stage}
use Rattle.theorems.proofs.Laws.Outcome.{Flagged, unfit, fits}
use Rattle.theorems.proofs.Laws.Flag.{branch1-keeps, branch2-keeps, branch3-lowers, branch4-keeps, branch5-keeps, branch6-keeps}
use Rattle.theorems.proofs.Source.Means.{Means, means-then, means-or, means-succeed, settled, placed, done-failed, done-state, failed-state, settled-done}
use Rattle.theorems.proofs.Source.Cutting.{drop-rest, place_after-bra}
use Rattle.theorems.proofs.Source.Marks.{yUm-means, sUn-means, yUz-means, sUnUz-means, lAr-means, nUz-means, DUr-means, cAsInA-means, yDU-means, ysA-means, ymUs-means, yken-means}

-- ---- a slice that was opened at the text's end ----

-- a state with this text, cursor, ket and bra
unfoldable pub standing : List ℕ → ℕ → ℕ → ℕ → State → State
standing t c k b s = record { text = t; cursor = c; ket = k; bra = b; flag = s.flag; strlen = s.strlen; found = s.found }

-- what was passed since the slice was opened is deleted
pub delete-passed : (t : List ℕ) (j b : ℕ) (s : State)
    → slice_from [] (with_slice (standing t j (length t) b s) (length t) (place (standing t j (length t) b s)))
    ≡ standing (drop j t) 0 (length t) (length (drop j t)) s
unfolding slice_from with_slice with_text place ahead standing
delete-passed t j b s =
    let n = length t in
    let m = length (drop j t) in
    let none : n - n ≡ 0 = omega arith in
    let rest : take (n - n) t ++ [] ++ drop (n - m) t ≡ drop j t = ap (λ (i : ℕ). take i t ++ [] ++ drop (n - m) t) none ∙ drop-rest j t in
    let stays : place_after m n 0 m ≡ m = place_after-bra m n (omega (arith, length-drop j t)) in
    let zero : m - m ≡ 0 = omega arith in
    let at-end = ap₂ (λ (x : List ℕ) (p : ℕ). length x - p) rest stays ∙ zero in
    ap₂ (λ (x : List ℕ) (c : ℕ). standing x c n m s) rest at-end

-- ---- what a branch leaves ----

-- a result of a branch, entered with the slice opened at the text's end: it fails and all is as it was, or once its slice is deleted
-- so many characters are gone, and the flag is this one
unfoldable pub Cuts : State → Out → Result → Type 0
Cuts s fail r = settled s.cursor r ≡ failed s
Cuts s (took k f) r = (t : State) × (r ≡ done t) × ((slice_from [] (with_slice t t.ket (place t))).text ≡ drop k s.text) × (t.flag ≡ f)

-- the first of two branches
cuts-or : (s : State) (q : State → Result) (r : Result) (o u : Out) → Cuts s o r → Cuts s u (q s) → Cuts s (first o u) (or_else s.cursor r q)
unfolding Cuts first or_else settled
cuts-or s q (done t) fail u e h = done-failed e
cuts-or s q (failed t) fail u e h = rw (failed-state e) h
cuts-or s q r (took k f) u (t, e, x, y) h = (t, ap (λ (v : Result). or_else s.cursor v q) e, x, y)

-- the state in which the branches are entered: cursor and ket at the text's end, flag true
unfoldable pub opened : List ℕ → ℕ → State → State
opened t b s = with_flag (standing t 0 (length t) b s) true

-- an answer's characters, and its flag
unfoldable pub amount : Out → ℕ
amount fail = 0
amount (took k f) = k

-- the flag that it leaves, true where it fails
unfoldable pub flag_of : Out → Bool
flag_of fail = true
flag_of (took k f) = f

-- a state with j characters passed since the slice was opened at the text's end leaves the rest
cuts-passed : (o : State) (t : List ℕ) (j b k : ℕ) (s : State) (f : Bool) → drop j t ≡ drop k o.text → s.flag ≡ f
    → Cuts o (took k f) (done (standing t j (length t) b s))
unfolding Cuts standing
cuts-passed o t j b k s f e h = (standing t j (length t) b s, refl, ap (λ (u : State). u.text) (delete-passed t j b s) ∙ e, h)

-- a branch without a deletion
cuts-means : {p : Command} {f : List ℕ → Out} (self : State → Result) (t : List ℕ) (b : ℕ) (s : State) → Means backward p f → Flagged true (f t)
    → Cuts (opened t b s) (f t) (run backward self p (opened t b s))
unfolding opened with_flag standing ahead Cuts placed move_to
cuts-means {p} {f} self t b s x y = go (f t) (run backward self p (opened t b s)) y (x.on-state self (opened t b s))
  where
    go : (o : Out) (r : Result) → Flagged true o → settled 0 r ≡ placed (opened t b s) o → Cuts (opened t b s) o r
    go o r unfit e = e
    go o r (fits k {f} h) e =
        let none : 0 + k ≡ k = omega arith in
        let c = cuts-passed (opened t b s) t (0 + k) b k (opened t b s) f (ap (λ (n : ℕ). drop n t) none) (sym h) in
        (c.0, settled-done 0 r _ e ∙ c.1, c.2, c.3)

-- ---- a branch with a deletion ----

-- what may follow a deletion: where it fits, its characters are passed since the slice was opened anew
try-run : {q : Command} {g : List ℕ → Out} (self : State → Result) (t : List ℕ) (k b : ℕ) (s : State) → Means backward q g
    → run backward self (try (⟦ then q)) (standing t 0 k b s) ≡ done (standing t (amount (g t)) (length t) b s)
unfolding run and_then or_else with_slice place ahead standing settled placed move_to amount
try-run {q} {g} self t k b s x = go (g t) (run backward self q (standing t 0 (length t) b s)) (x.on-state self (standing t 0 (length t) b s))
  where
    go : (o : Out) (r : Result) → settled 0 r ≡ placed (standing t 0 (length t) b s) o → or_else 0 r done ≡ done (standing t (amount o) (length t) b s)
    go fail (done u) e = done-failed e
    go fail (failed u) e = ap done (failed-state e)
    go (took j f) (done u) e = let none : 0 + j ≡ j = omega arith in e ∙ ap (λ (n : ℕ). done (standing t n (length t) b s)) none
    go (took j f) (failed u) e = done-failed (sym e)

-- what follows a deletion in a branch: it succeeds with j characters more passed and the flag so, and the simple form says the same
pub record Follows (self : State → Result) (w : Command) (h : List ℕ → Out) (f : Bool) (t : List ℕ) (k : ℕ) (s : State) : Type 0 where
  pub more : ℕ
  pub at : Bool
  pub runs : run backward self w (standing t 0 k (length t) s) ≡ done (with_flag (standing t more (length t) (length t) s) f)
  pub says : h t ≡ took more at

-- an equal result leaves the same
cuts-same : (s : State) (o : Out) {q r : Result} → q ≡ r → Cuts s o r → Cuts s o q
cuts-same s o e c = rw e c

-- so many characters deleted and so many passed after them
cuts-more : (t : List ℕ) (b : ℕ) (s : State) (k j : ℕ) (f a g : Bool) (o : Out) → o ≡ took j a → Flagged g (more k f o)
    → Cuts (opened t b s) (more k f o) (done (with_flag (standing (drop k t) j (length (drop k t)) (length (drop k t)) (opened t b s)) g))
unfolding more opened with_flag standing
cuts-more t b s k j f a g o e z = rw e (go (rw e at z))
  where
    go : Flagged g (took (k + j) (f && a))
        → Cuts (opened t b s) (took (k + j) (f && a)) (done (with_flag (standing (drop k t) j (length (drop k t)) (length (drop k t)) (opened t b s)) g))
    go (fits n h) =
        cuts-passed (opened t b s) (drop k t) j (length (drop k t)) (k + j) (with_flag (opened t b s) g) (f && a) (drop-drop j k t) (sym h)

-- a branch with a deletion
cuts-deleted : {p : Command} {f : List ℕ → Out} (self : State → Result) (w : Command) (h : List ℕ → Out) (g : Bool) (t : List ℕ) (b : ℕ) (s : State)
    → Means backward p f → ((k : ℕ) → Follows self w h g (drop k t) (length t) (opened t b s)) → Flagged g (after (f t) (λ k. h (drop k t)))
    → Cuts (opened t b s) (after (f t) (λ k. h (drop k t))) (run backward self (p then ⟧ then delete then w) (opened t b s))
unfolding run and_then after more opened with_flag standing ahead settled placed move_to Cuts
cuts-deleted {p} {f} self w h g t b s x y z = go (f t) (run backward self p (opened t b s)) (x.on-state self (opened t b s)) z
  where
    go : (o : Out) (r : Result) → settled 0 r ≡ placed (opened t b s) o → Flagged g (after o (λ k. h (drop k t)))
        → Cuts (opened t b s) (after o (λ k. h (drop k t))) (and_then r (run backward self (⟧ then delete then w)))
    go fail (done u) e z = done-failed e
    go fail (failed u) e z = e
    go (took k f) (done u) e z =
        let o = opened t b s in
        let none : 0 + k ≡ k = omega arith in
        let here = done-state e ∙ ap (λ (n : ℕ). standing t n (length t) b o) none in
        let there = ap (λ (v : State). run backward self w (slice_from [] (with_slice v v.ket (place v)))) here in
        let deleted = ap (run backward self w) (delete-passed t k b o) in
        cuts-same o (more k f (h (drop k t))) (there ∙ deleted ∙ (y k).runs) (cuts-more t b s k (y k).more f (y k).at g (h (drop k t)) (y k).says z)
    go (took k f) (failed u) e z = done-failed (sym e)

-- a command that may follow
follows-try : {q : Command} {g : List ℕ → Out} (self : State → Result) (t : List ℕ) (k : ℕ) (s : State) → Means backward q g → s.flag ≡ true
    → Follows self (try (⟦ then q)) (λ t. first (g t) (took 0 true)) true t k s
unfolding with_flag standing first amount flag_of
follows-try {q} {g} self t k s x e =
    let there = standing t (amount (g t)) (length t) (length t) s in
    record {
      more = amount (g t);
      at = flag_of (g t);
      runs = try-run self t k (length t) s x ∙ ap (λ (f : Bool). done (with_flag there f)) e;
      says = first_or_none (g t);
    }
  where
    first_or_none : (o : Out) → first o (took 0 true) ≡ took (amount o) (flag_of o)
    first_or_none fail = refl
    first_or_none (took j f) = refl

-- and `unset` after it
follows-unset : {q : Command} {g : List ℕ → Out} (self : State → Result) (t : List ℕ) (k : ℕ) (s : State) → Means backward q g
    → Follows self (try (⟦ then q) then unset) (λ t. after (first (g t) (took 0 true)) (λ j. took 0 false)) false t k s
unfolding after first more amount flag_of run and_then
follows-unset {q} {g} self t k s x =
    record {
      more = amount (g t);
      at = flag_of (g t) && false;
      runs = ap (λ (r : Result). and_then r (run backward self unset)) (try-run self t k (length t) s x);
      says = lowered (g t);
    }
  where
    lowered : (o : Out) → after (first o (took 0 true)) (λ j. took 0 false) ≡ took (amount o) (flag_of o && false)
    lowered fail = refl
    lowered (took j f) = let none : j + 0 ≡ j = omega arith in ap (λ (n : ℕ). took n (f && false)) none

-- ---- the six branches ----

-- as they stand in the source, the group of lines 316 and 327 first
abbrev pub persons : Command
persons = mark_sUnUz or mark_lAr or mark_yUm or mark_sUn or mark_yUz or succeed

abbrev pub line314 : Command
line314 = mark_ymUs_ or mark_yDU or mark_ysA or mark_yken

abbrev pub line316 : Command
line316 = mark_cAsInA then persons then mark_ymUs_

abbrev pub line319 : Command
line319 = mark_lAr then ⟧ then delete then try (⟦ then (mark_DUr or mark_yDU or mark_ysA or mark_ymUs_)) then unset

abbrev pub line323 : Command
line323 = mark_nUz then (mark_yDU or mark_ysA)

abbrev pub line325 : Command
line325 = (mark_sUnUz or mark_yUz or mark_sUn or mark_yUm) then ⟧ then delete then try (⟦ then mark_ymUs_)

abbrev pub line327 : Command
line327 = mark_DUr then ⟧ then delete then try (⟦ then persons then mark_ymUs_)

-- the group takes what the simple form's takes
persons-means : Means backward persons (Grammar.run person)
unfolding Grammar.run person
persons-means = means-or sUnUz-means (means-or lAr-means (means-or yUm-means (means-or sUn-means (means-or yUz-means means-succeed))))

-- each cuts what the simple form's takes, entered with the slice opened at the text's end
module _ (self : State → Result) (t : List ℕ) (b : ℕ) (s : State) where
  -- line 314
  cuts-1 : Cuts (opened t b s) (Grammar.run branch1 t) (run backward self line314 (opened t b s))
  unfolding Grammar.run branch1
  cuts-1 = cuts-means self t b s (means-or ymUs-means (means-or yDU-means (means-or ysA-means yken-means))) (branch1-keeps t)

  -- line 316
  cuts-2 : Cuts (opened t b s) (Grammar.run branch2 t) (run backward self line316 (opened t b s))
  unfolding Grammar.run branch2
  cuts-2 = cuts-means self t b s (means-then cAsInA-means (means-then persons-means ymUs-means)) (branch2-keeps t)

  -- lines 319 and 320, which take the flag down
  cuts-3 : Cuts (opened t b s) (Grammar.run branch3 t) (run backward self line319 (opened t b s))
  unfolding Grammar.run branch3 Grammar.try
  cuts-3 =
      let may = means-or DUr-means (means-or yDU-means (means-or ysA-means ymUs-means)) in
      cuts-deleted self _ _ false t b s lAr-means (λ k. follows-unset self (drop k t) (length t) (opened t b s) may) (branch3-lowers t)

  -- line 323
  cuts-4 : Cuts (opened t b s) (Grammar.run branch4 t) (run backward self line323 (opened t b s))
  unfolding Grammar.run branch4
  cuts-4 = cuts-means self t b s (means-then nUz-means (means-or yDU-means ysA-means)) (branch4-keeps t)

  -- line 325
  cuts-5 : Cuts (opened t b s) (Grammar.run branch5 t) (run backward self line325 (opened t b s))
  unfolding Grammar.run branch5 Grammar.try opened with_flag
  cuts-5 =
      let begins = means-or sUnUz-means (means-or yUz-means (means-or sUn-means yUm-means)) in
      cuts-deleted self _ _ true t b s begins (λ k. follows-try self (drop k t) (length t) (opened t b s) ymUs-means refl) (branch5-keeps t)

  -- line 327
  cuts-6 : Cuts (opened t b s) (Grammar.run branch6 t) (run backward self line327 (opened t b s))
  unfolding Grammar.run branch6 Grammar.try opened with_flag
  cuts-6 =
      let may = means-then persons-means ymUs-means in
      cuts-deleted self _ _ true t b s DUr-means (λ k. follows-try self (drop k t) (length t) (opened t b s) may refl) (branch6-keeps t)

  -- one of them or else another
  either : (p q : Grammar.Command) (c d : Command) → Cuts (opened t b s) (Grammar.run p t) (run backward self c (opened t b s))
      → Cuts (opened t b s) (Grammar.run q t) (run backward self d (opened t b s))
      → Cuts (opened t b s) (Grammar.run (Grammar.◌or◌ p q) t) (run backward self (c or d) (opened t b s))
  unfolding Grammar.run run
  either p q c d = cuts-or (opened t b s) (run backward self d) (run backward self c (opened t b s)) (Grammar.run p t) (Grammar.run q t)

  -- the first that fits
  cuts_first : Cuts (opened t b s) (Grammar.run branches t) (run backward self (line314 or line316 or line319 or line323 or line325 or line327) (opened t b s))
  unfolding branches
  cuts_first =
      either branch1 _ line314 (line316 or line319 or line323 or line325 or line327) cuts-1
      (either branch2 _ line316 (line319 or line323 or line325 or line327) cuts-2
      (either branch3 _ line319 (line323 or line325 or line327) cuts-3
      (either branch4 _ line323 (line325 or line327) cuts-4
      (either branch5 branch6 line325 line327 cuts-5 cuts-6))))

-- ---- the stage ----

-- the branches, and the deletion of what is left of the slice: yes or no, the text kept and the flag are the simple form's
closed-stage : (self : State → Result) (o : Out) (r : Result) (s : State) → s.flag ≡ true → Cuts s o r
    → stemmed (and_then r (run backward self (⟧ then delete))) ≡ record { yes = (staged o).yes; text = drop (staged o).removed s.text; flag = (staged o).flag }
unfolding Cuts settled and_then run stemmed succeeded left staged move_to slice_from with_text with_slice
closed-stage self fail (done t) s h c = done-failed c
closed-stage self fail (failed t) s h c =
    let e = failed-state c in
    ap₂ (λ (x : List ℕ) (f : Bool). record { yes = false; text = x; flag = f }) (ap (λ (u : State). u.text) e) (ap (λ (u : State). u.flag) e ∙ h)
closed-stage self (took k f) r s h (t, e, x, y) = rw e (ap₂ (λ (x : List ℕ) (f : Bool). record { yes = true; text = x; flag = f }) x y)

-- the six branches as they stand in the source
stage-opened : (self : State → Result) (t : List ℕ) (k b : ℕ) (s : State)
    → stemmed (run backward self stem_nominal_verb_suffixes (standing t 0 k b s)) ≡ record { yes = (stage t).yes; text = kept t; flag = (stage t).flag }
unfolding stem_nominal_verb_suffixes run and_then with_slice place ahead standing opened with_flag stage kept
stage-opened self t k b s = closed-stage self (Grammar.run branches t) _ (opened t b s) refl (cuts_first self t b s)

-- in any state at the text's end, whatever the other variables hold
pub stage-answers : (s : State) → s.cursor ≡ 0
    → stemmed (called backward stem_nominal_verb_suffixes s) ≡ record { yes = (stage s.text).yes; text = kept s.text; flag = (stage s.text).flag }
unfolding called standing
stage-answers s h =
    ap (λ (c : ℕ). stemmed (run backward failed stem_nominal_verb_suffixes (standing s.text c s.ket s.bra s))) h
    ∙ stage-opened failed s.text s.ket s.bra s

-- so of a word
pub suffix_stage-simple : (cs : List ℕ) → suffix_stage cs ≡ record { yes = (stage cs).yes; text = kept cs; flag = (stage cs).flag }
unfolding suffix_stage entered
suffix_stage-simple cs = stage-answers (entered cs) refl
