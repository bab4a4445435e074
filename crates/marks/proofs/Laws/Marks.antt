-- A mark by its parts: its last letter, a key searched and what joins it, then harmony. The laws hold of any mark, so of those of both stages.
-- Assumes nothing.
use Prim.Native.Nat.{ℕ, ◌+◌}
use mathlib.Core.Path.{◌≡◌, refl, sym, ap, ◌∙◌}
use mathlib.Core.Bool.{Bool, true, false, cond, not, ◌||◌}
use mathlib.Core.List.{List, [], ◌∷◌}
use native.Mathlib.Nat.{add-zero}
use lib.ListN.{length, drop}
use Rattle.utf8.specs.declared.cursor.Cursor.{Cursor}
use Rattle.utf8.specs.Steps.{move_to}
use Rattle.utf8.specs.Behind.{behind, back_by, Open}
use Rattle.utf8.proofs.Laws.Behind.{behind-back_by, back_by-add, move_to-back_by, open-back_by}
use Rattle.turkish.specs.Letters.{starts}
use Rattle.theorems.specs.Simple.Harmony.{harmony}
use Rattle.theorems.specs.Simple.Grammar.{Out, fail, took, more, after, asking, among, joining, Mark, mark_of, mark}
use Rattle.theorems.specs.Simple.Pieces.{Trace, none, keeps, total, first_trace, found_by, trace_out, trace_of, trace}
use Rattle.theorems.proofs.Laws.Traces.{trace_of-none}
use Rattle.std.specs.Prelude.{Option, Some, None, is_some}
use Rattle.std.specs.Option.{option_or}
use Rattle.keys.specs.declared.among.Key.{Key}
use Rattle.keys.specs.declared.seen.Seen.{Seen}
use Rattle.keys.specs.Passed.{passes}
use Rattle.vowels.specs.declared.harmony.Harmony.{Harmony}
use Rattle.vowels.specs.Harmony.{heard_of, harmony_at}
use Rattle.keys.specs.Search.{found_from, found}
use Rattle.keys.specs.Seen.{Sees}
use Rattle.vowels.proofs.Laws.Harmony.{harmony_at-some, harmony_at-heard}
use Rattle.keys.proofs.Laws.Ends.{begins, asking-fail, mark_of-keyless, trace-unfit, last-seen}
use Rattle.marks.specs.Reach.{Answer, mark_numbered, leading, leading_heard, reach, kept, kept_in_harmony_of, place_of}

-- ---- the last letter ----

-- where the last letter seen fails a test that the last letter of every key passes, the mark fails
pub mark-unfit : (m : Mark) (p : ℕ → Bool) → begins p (mark m) ≡ true → (w : List ℕ) (s : Seen) → Sees w s → p s.ending.last ≡ false
    → None ≡ reach w s.c (trace_of m (behind w s.c))
unfolding trace reach
mark-unfit m p b w s sees e = sym (ap (reach w s.c) (trace-unfit p (mark m) (behind w s.c) b (sym (ap p (last-seen w s sees)) ∙ e)))

-- ---- a key found, as the grammar's ----

-- what the search finds is what the grammar's search takes: the record before the key
record Finds (ks : List (List ℕ)) (w : List ℕ) (c d : Cursor) : Type 0 where
  taken : ℕ
  takes : among ks (behind w c) ≡ took taken true
  there : d ≡ back_by w c taken

-- a key found is the first that the grammar takes
found_from-finds : (i : ℕ) (ks : List (List ℕ)) (w : List ℕ) (c : Cursor) {k : Key} → Some k ≡ found_from i ks w c → Finds ks w c k.before
unfolding found_from among
found_from-finds i [] w c e = cc
found_from-finds i (x ∷ ks) w c {k} e = go (starts x (behind w c)) refl e (found_from-finds (i + 1) ks w c)
  where
    go : (t : Bool) → starts x (behind w c) ≡ t
        → Some k ≡ cond t (Some (record { place = i; before = back_by w c (length x) })) (found_from (i + 1) ks w c)
        → (Some k ≡ found_from (i + 1) ks w c → Finds ks w c k.before) → Finds (x ∷ ks) w c k.before
    go true t q rest =
        let is : k ≡ record { place = i; before = back_by w c (length x) } = cc in
        record { taken = length x; takes = rw t; there = ap (λ (y : Key). y.before) is }
    go false t q rest = let r = rest q in record { taken = r.taken; takes = rw t r.takes; there = r.there }

-- where none is found the grammar's search fails
found_from-none : (i : ℕ) (ks : List (List ℕ)) (w : List ℕ) (c : Cursor) → None ≡ found_from i ks w c → among ks (behind w c) ≡ fail
unfolding found_from among
found_from-none i [] w c e = refl
found_from-none i (k ∷ ks) w c e = go (starts k (behind w c)) refl e (found_from-none (i + 1) ks w c)
  where
    go : (t : Bool) → starts k (behind w c) ≡ t
        → None ≡ cond t (Some (record { place = i; before = back_by w c (length k) })) (found_from (i + 1) ks w c)
        → (None ≡ found_from (i + 1) ks w c → among ks (behind w c) ≡ fail) → among (k ∷ ks) (behind w c) ≡ fail
    go true t q rest = cc
    go false t q rest = rw t (rest q)

-- an answer after k characters is an answer from the record k characters back
passes-more : (w : List ℕ) (c : Cursor) (k : ℕ) (o : Out) → passes w (back_by w c k) o ≡ passes w c (more k true o)
unfolding passes more
passes-more w c k fail = refl
passes-more w c k (took j f) = ap (λ (r : Cursor). Some r.cursor) (back_by-add w c k j)

-- one that did not move fails
pub passes-not : (w : List ℕ) (c : Cursor) (o : Out) {p : Option ℕ} → p ≡ passes w c o → p ≡ None → o ≡ fail
unfolding passes
passes-not w c fail e m = refl
passes-not w c (took k f) e m = cc

-- a step that moved, as the record moved, which mark it is and what it passes on
reach-passes : (w : List ℕ) (c : Cursor) (m : Mark) (o : Out) {at : ℕ} {h : Option Harmony} → Some at ≡ passes w c o
    → h ≡ heard_of w c (found_by m.harmonic (behind w c))
    → Some (record { before = move_to c at; kind = mark_numbered m.kind; heard = h }) ≡ reach w c (trace_out m (behind w c) o)
unfolding passes reach trace_out total leading leading_heard
reach-passes w c m fail e heard = cc
reach-passes w c m (took n f) {at} e heard =
    let stands : at ≡ (back_by w c n).cursor = cc in
    let there : move_to c at ≡ back_by w c (n + 0) = ap (move_to c) stands ∙ move_to-back_by w c n ∙ ap (back_by w c) (sym (add-zero n)) in
    rw (there, heard)

-- ---- a mark by its key and what joins it ----

-- the key, and what joins it: the mark but for its harmony test
unfoldable pub keyed : Mark → List ℕ → Out
keyed m cs = after (among m.keys cs) (λ k. joining m.joint (drop k cs))

module _ (m : Mark) (w : List ℕ) (c : Cursor) {p : Option ℕ} (is : p ≡ passes w c (keyed m (behind w c))) where
  -- harmony is tested or holds
  agrees : Bool
  agrees = not m.harmonic || harmony (behind w c)

  -- without them it keeps nothing
  keyed-not : p ≡ None → None ≡ reach w c (trace_of m (behind w c))
  unfolding keyed mark_of reach agrees
  keyed-not n =
      sym (ap (reach w c) (trace_of-none m (behind w c) (ap (asking agrees) (passes-not w c _ is n) ∙ asking-fail agrees)))

  -- with them it takes what they take, if it tests no harmony or harmony holds
  keyed-took : {at : ℕ} → p ≡ Some at → agrees ≡ true → {h : Option Harmony} → h ≡ heard_of w c (found_by m.harmonic (behind w c))
      → Some (record { before = move_to c at; kind = mark_numbered m.kind; heard = h }) ≡ reach w c (trace_of m (behind w c))
  unfolding keyed mark_of asking trace_of agrees
  keyed-took y h = reach-passes w c m (mark_of m (behind w c)) (sym y ∙ is ∙ ap (passes w c) (sym (rw h)))

  -- and keeps nothing where it does not
  keyed-discord : agrees ≡ false → None ≡ reach w c (trace_of m (behind w c))
  unfolding mark_of asking agrees reach
  keyed-discord h = sym (ap (reach w c) (trace_of-none m (behind w c) (rw h)))

  -- a mark that tests no harmony
  pub mark-kept : m.harmonic ≡ false → {r : Option Answer} → r ≡ kept c (mark_numbered m.kind) p → r ≡ reach w c (trace_of m (behind w c))
  unfolding kept agrees
  mark-kept free e = e ∙ go p refl
    where
      go : (q : Option ℕ) → p ≡ q → kept c (mark_numbered m.kind) q ≡ reach w c (trace_of m (behind w c))
      go None y = keyed-not y
      go (Some at) y = keyed-took y (rw free) (rw free (unfold found_by heard_of in refl))

  -- a mark that tests it
  pub mark-in-harmony : m.harmonic ≡ true → {r : Option Answer} → r ≡ kept_in_harmony_of w c (mark_numbered m.kind) p
      → r ≡ reach w c (trace_of m (behind w c))
  unfolding kept_in_harmony_of agrees
  mark-in-harmony bound e = e ∙ go p refl (harmony_at w c) refl
    where
      holds : {h : Option Harmony} → harmony_at w c ≡ h → agrees ≡ is_some h
      holds q = rw bound (sym (harmony_at-some w c) ∙ ap (λ (x : Option Harmony). is_some x) q)

      go : (q : Option ℕ) → p ≡ q → (h : Option Harmony) → harmony_at w c ≡ h
          → kept_in_harmony_of w c (mark_numbered m.kind) q ≡ reach w c (trace_of m (behind w c))
      go None y h holding = keyed-not y
      go (Some at) y None holding = rw holding (keyed-discord (holds holding))
      go (Some at) y (Some h) holding =
          rw holding (keyed-took y (holds holding) (rw bound (unfold found_by in sym holding ∙ harmony_at-heard w c)))

-- ---- from the search ----

-- the keys searched are those of the mark, or as good as they
module _ (m : Mark) (w : List ℕ) (c : Cursor) (ks : List (List ℕ)) {a : Option Key} (is : a ≡ found ks w c)
    (same : among ks (behind w c) ≡ among m.keys (behind w c)) where
  -- no key: the mark fails
  pub mark-nothing : a ≡ None → None ≡ reach w c (trace_of m (behind w c))
  unfolding found reach
  mark-nothing e = sym (ap (reach w c) (trace_of-none m (behind w c) (mark_of-keyless m (behind w c) (sym same ∙ found_from-none 0 ks w c (sym e ∙ is)))))

  module _ {k : Key} (e : a ≡ Some k) where
    -- the search's answer taken apart
    finds : Finds ks w c k.before
    unfolding found
    finds = found_from-finds 0 ks w c (sym e ∙ is)

    -- the record before the key is open
    pub key-open : Open w c → Open w k.before
    key-open o = rw finds.there (open-back_by w c finds.taken o)

    -- a key, and the joint before it
    pub key-joined : {p : Option ℕ} → p ≡ passes w k.before (joining m.joint (behind w k.before)) → p ≡ passes w c (keyed m (behind w c))
    unfolding keyed after
    key-joined {p} q =
        let n = finds.taken in
        q ∙ ap (λ (r : Cursor). passes w r (joining m.joint (behind w r))) finds.there
        ∙ ap (λ (cs : List ℕ). passes w (back_by w c n) (joining m.joint cs)) (behind-back_by w c n)
        ∙ passes-more w c n (joining m.joint (drop n (behind w c))) ∙ sym (rw (← same, finds.takes))

    -- a key alone
    pub key-alone : m.joint.asked ≡ false → Some k.before.cursor ≡ passes w c (keyed m (behind w c))
    unfolding keyed joining after more passes
    key-alone t =
        let n = finds.taken in
        ap (λ (r : Cursor). Some r.cursor) (finds.there ∙ ap (back_by w c) (sym (add-zero n))) ∙ sym (rw (← same, finds.takes, t))

-- ---- answers ----

-- a command that reaches nothing keeps nothing
pub reach-fails : (w : List ℕ) (c : Cursor) (o : Trace) {r : Option Answer} → r ≡ reach w c o → r ≡ None → o ≡ none
unfolding reach
reach-fails w c none is fails = refl
reach-fails w c (keeps ts f) is fails = cc

-- the first of two that fits
pub reach-or : (w : List ℕ) (c : Cursor) (o q : Trace) → reach w c (first_trace o q) ≡ option_or (reach w c o) (reach w c q)
unfolding first_trace reach
reach-or w c none q = refl
reach-or w c (keeps ts f) q = refl

-- how far a mark goes alone
pub place-reach : (m : Mark) (w : List ℕ) (c : Cursor) {a : Option Answer} {p : Option ℕ} → a ≡ reach w c (trace_of m (behind w c)) → p ≡ place_of a
    → p ≡ passes w c (mark_of m (behind w c))
unfolding trace_of
place-reach m w c e q = q ∙ ap place_of e ∙ go (mark_of m (behind w c))
  where
    go : (o : Out) → place_of (reach w c (trace_out m (behind w c) o)) ≡ passes w c o
    go fail = unfold trace_out reach place_of passes in refl
    go (took k f) = unfold trace_out reach place_of passes total in ap (λ (n : ℕ). Some (back_by w c n).cursor) (add-zero k)
