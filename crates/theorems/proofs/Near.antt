-- Words with a shared end and fronts whose vowels are alike: harmony, every command, the stage and the pass answer alike.
-- Assumes nothing.
use Prim.Native.Nat.{ℕ, ◌+◌, ◌≤◌, ◌<◌, max}
use mathlib.Core.Path.{◌≡◌, refl, sym, ap, ◌∙◌}
use mathlib.Core.Bool.{Bool, true, false, cond, not, ◌&&◌, ◌||◌}
use mathlib.Core.List.{List, [], ◌∷◌, ◌++◌}
use mathlib.Core.Logic.{inl, inr}
use mathlib.Mathlib.Data.Bool.Basic.{dichotomy}
use native.Mathlib.Omega.{arith}
use lib.ListN.{length, drop, length-drop}
use lib.Seq.{drop-append-le}
use lib.Dec.{eqb}
use Rattle.turkish.specs.Letters.{text, from_end, has, starts}
use Rattle.turkish.specs.Vowels.{vowel, last_vowel_of, before_last_vowel}
use Rattle.theorems.specs.Simple.Harmony.{partner, harmony, more_than_one_syllable}
use Rattle.theorems.specs.Simple.Grammar.{Out, took, more, after, asking, among, Joint, optional, joining, mark_of, Command, mark, ◌then◌, ◌or◌, nothing, unset, try, run}
use Rattle.theorems.specs.Simple.Marks.{unjoined, by_y, marked, yUm, sUn, yUz, sUnUz, lAr, nUz, DUr, cAsInA, yDU, ysA, ymUs, yken}
use Rattle.theorems.specs.Simple.Stage.{person, branch1, branch2, branch3, branch4, branch5, branch6, branches, staged, stage, kept}
use Rattle.theorems.specs.Simple.Postlude.{reserved, gained, appends, append_U, hard, harden, postlude}
use Rattle.turkish.specs.WordPass.{pass}
use Rattle.theorems.specs.Fronts.{end_length, Alike, reaches_reserved, SameAnswers}
use Rattle.theorems.proofs.Laws.Outcome.{Post, unfit, fits}
use Rattle.theorems.proofs.Laws.Bounds.{longest, most, among-most, run-most, stage-taken}
use Rattle.theorems.proofs.Source.Calls.{simple_pass, pass-simple, reaches_reserved-simple}
use Rattle.theorems.proofs.Laws.Harmony.{harmony-any}
use Rattle.theorems.proofs.Laws.Vowels.{any-vowels, partner-vowel, has-last-before_last_vowel}

-- ---- alike fronts ----

-- fronts stay alike behind one more character
alike-cons : (c : ℕ) (f g : List ℕ) → Alike f g → Alike (c ∷ f) (c ∷ g)
unfolding last_vowel_of before_last_vowel
alike-cons c f g a =
    record {
      last = elim (vowel c) as (λ b. cond b c (last_vowel_of f) ≡ cond b c (last_vowel_of g)) [ true ↦ refl | false ↦ a.last ];
      others = elim (vowel c) as (λ b. (v : ℕ) → vowel v ≡ true → has (cond b f (before_last_vowel f)) v ≡ has (cond b g (before_last_vowel g)) v)
          [ true ↦ λ v h. has-last-before_last_vowel f v h ∙ rw (a.last, a.others v h) (sym (has-last-before_last_vowel g v h)) | false ↦ a.others ];
    }

-- and behind a shared end
pub alike-append : (e f g : List ℕ) → Alike f g → Alike (e ++ f) (e ++ g)
alike-append [] f g a = a
alike-append (c ∷ e) f g a = alike-cons c (e ++ f) (e ++ g) (alike-append e f g a)

-- so words with a shared end, whatever it is, agree in the last vowel
pub last_vowel_of-near : (e f g : List ℕ) → Alike f g → last_vowel_of (e ++ f) ≡ last_vowel_of (e ++ g)
last_vowel_of-near e f g a = (alike-append e f g a).last

-- in harmony
pub harmony-near : (e f g : List ℕ) → Alike f g → harmony (e ++ f) ≡ harmony (e ++ g)
harmony-near e f g a =
    rw (harmony-any (e ++ f), harmony-any (e ++ g), last_vowel_of-near e f g a)
    (any-vowels (partner (last_vowel_of (e ++ g))) (before_last_vowel (e ++ f)) (before_last_vowel (e ++ g)) (partner-vowel (last_vowel_of (e ++ g))) (alike-append e f g a).others)

-- and in the syllable check
pub more_than_one_syllable-near : (e f g : List ℕ) → Alike f g → more_than_one_syllable (e ++ f) ≡ more_than_one_syllable (e ++ g)
unfolding more_than_one_syllable
more_than_one_syllable-near e f g a = any-vowels vowel (before_last_vowel (e ++ f)) (before_last_vowel (e ++ g)) (λ v h. h) (alike-append e f g a).others

-- ---- a command ----

-- the characters that a command may look at, harmony aside
unfoldable pub need : Command → ℕ
need (mark m) = longest m.keys + cond m.joint.asked 2 0
need (p then q) = max (need p) (most p + need q)
need (p or q) = max (need p) (need q)
need nothing = 0
need unset = 0

-- a key sees no further than its length
starts-append : (k e f : List ℕ) → length k ≤ length e → starts k (e ++ f) ≡ starts k e
unfolding starts
starts-append [] e f h = refl
starts-append (k ∷ ks) [] f h = absurd (omega arith)
starts-append (k ∷ ks) (c ∷ e) f h = ap (λ (t : Bool). eqb k c && t) (starts-append ks e f (omega arith))

-- a table no further than its longest key
among-append : (ks : List (List ℕ)) (e f : List ℕ) → longest ks ≤ length e → among ks (e ++ f) ≡ among ks e
unfolding among longest
among-append [] e f h = refl
among-append (k ∷ ks) e f h = rw (starts-append k e f (omega arith), among-append ks e f (omega arith))

-- a joint, no further than two characters, or none
joining-near : (j : Joint) (e f g : List ℕ) → cond j.asked 2 0 ≤ length e → joining j (e ++ f) ≡ joining j (e ++ g)
unfolding joining optional
joining-near j e f g h = go j.asked e h
  where
    letter : List ℕ → Out
    letter = optional j.letters j.vowelled

    go : (a : Bool) (e : List ℕ) → cond a 2 0 ≤ length e → cond a (letter (e ++ f)) (took 0 true) ≡ cond a (letter (e ++ g)) (took 0 true)
    go true [] h = absurd (omega arith)
    go true (c ∷ []) h = absurd (omega arith)
    go true (c ∷ d ∷ e) h = refl
    go false e h = refl

-- after an answer that takes n characters at most, what sees no further than m characters past them
after-near : (q : List ℕ → Out) (n m : ℕ) (e f g : List ℕ) {o : Out} → ((x : List ℕ) → m ≤ length x → q (x ++ f) ≡ q (x ++ g))
    → n + m ≤ length e → Post (λ k. k ≤ n) o → after o (λ k. q (drop k (e ++ f))) ≡ after o (λ k. q (drop k (e ++ g)))
unfolding after
after-near q n m e f g near h unfit = refl
after-near q n m e f g near h (fits k {f = b} l) =
    ap (more k b) (rw (drop-append-le k e f (omega arith), drop-append-le k e g (omega arith)) (near (drop k e) (omega (arith, length-drop k e))))

-- a command answers alike on words with a shared end of the characters that it may look at
pub run-near : (p : Command) (e f g : List ℕ) → Alike f g → need p ≤ length e → run p (e ++ f) ≡ run p (e ++ g)
unfolding run mark_of need
run-near (mark m) e f g a h =
    rw (harmony-near e f g a, among-append m.keys e f (omega arith), among-append m.keys e g (omega arith))
    (ap (asking (not m.harmonic || harmony (e ++ g)))
    (after-near (joining m.joint) (longest m.keys) (cond m.joint.asked 2 0) e f g
    (λ x. joining-near m.joint x f g) h (among-most m.keys e)))
run-near (p then q) e f g a h =
    rw (run-near p e f g a (omega arith)) (after-near (run q) (most p) (need q) e f g (λ x. run-near q x f g a) (omega arith) (run-most p (e ++ g)))
run-near (p or q) e f g a h = rw (run-near p e f g a (omega arith), run-near q e f g a (omega arith))
run-near nothing e f g a h = refl
run-near unset e f g a h = refl

-- ---- the stage ----

-- the stage's command may look at no more than 16 characters, and takes fewer than it may look at
need-branches : (need branches ≤ end_length) × (most branches < need branches)
unfolding end_length need most longest branches branch1 branch2 branch3 branch4 branch5 branch6 person try unjoined by_y marked yUm sUn yUz sUnUz lAr nUz DUr cAsInA yDU ysA ymUs yken from_end text
need-branches = (omega arith, omega arith)

-- the stage answers alike on words with a shared end of 16 characters
pub stage-near : (e f g : List ℕ) → Alike f g → end_length ≤ length e → stage (e ++ f) ≡ stage (e ++ g)
unfolding stage
stage-near e f g a h = ap staged (run-near branches e f g a (omega (arith, need-branches)))

-- of words with a shared end of 16 characters the stage keeps some of it
kept_near : (e f g : List ℕ) → Alike f g → end_length ≤ length e → (x : List ℕ) × (0 < length x) × (kept (e ++ f) ≡ x ++ f) × (kept (e ++ g) ≡ x ++ g)
unfolding kept
kept_near e f g a h =
    let k : ℕ = (stage (e ++ g)).removed in
    let l : k < length e = omega (arith, stage-taken (e ++ g), need-branches) in
    (drop k e, omega (arith, length-drop k e), rw (stage-near e f g a h) (drop-append-le k e f (omega arith)), drop-append-le k e g (omega arith))

-- ---- the pass ----

-- a final d or g of a shared end gains a vowel in both words or in neither
appends-near : (c : ℕ) (x f g : List ℕ) → Alike f g → appends (c ∷ (x ++ f)) ≡ appends (c ∷ (x ++ g))
unfolding appends
appends-near c x f g a = rw (last_vowel_of-near x f g a)

-- where it runs, the postlude changes the shared end alone, and that alike
postlude-near : (b : Bool) (x f g : List ℕ) → Alike f g → 0 < length x → b && reserved (x ++ f) ≡ false → b && reserved (x ++ g) ≡ false
    → (y : List ℕ) × (cond b (postlude (x ++ f)) (x ++ f) ≡ y ++ f) × (cond b (postlude (x ++ g)) (x ++ g) ≡ y ++ g)
unfolding postlude append_U harden
postlude-near false x f g a h p q = (x, refl, refl)
postlude-near true [] f g a h p q = absurd (omega arith)
postlude-near true (c ∷ x) f g a h p q =
    let v : ℕ = gained (last_vowel_of (x ++ g)) in
    rw (p, q, appends-near c x f g a, last_vowel_of-near x f g a)
    (elim (appends (c ∷ (x ++ g))) as (λ t. (y : List ℕ)
    × (harden (cond t (v ∷ c ∷ (x ++ f)) (c ∷ (x ++ f))) ≡ y ++ f)
    × (harden (cond t (v ∷ c ∷ (x ++ g)) (c ∷ (x ++ g))) ≡ y ++ g))
    [ true ↦ (hard v ∷ c ∷ x, refl, refl) | false ↦ (hard c ∷ x, refl, refl) ])

-- on words with a shared end of 16 characters the pass gives equal answers, and texts with a shared end, unless a reserved text
-- reaches the postlude
pub pass-near : (e f g : List ℕ) → Alike f g → end_length ≤ length e → SameAnswers (pass (e ++ f)) (pass (e ++ g))
    × (reaches_reserved (e ++ f) ≡ false → reaches_reserved (e ++ g) ≡ false
    → (x : List ℕ) × ((pass (e ++ f)).text ≡ x ++ f) × ((pass (e ++ g)).text ≡ x ++ g))
unfolding simple_pass
pass-near e f g a h =
    let p = more_than_one_syllable-near e f g a in
    let k = kept_near e f g a h in
    rw (pass-simple (e ++ f), pass-simple (e ++ g), reaches_reserved-simple (e ++ f), reaches_reserved-simple (e ++ g))
    (elim (dichotomy (more_than_one_syllable (e ++ g))) [
      | inl s ↦ rw (p, s) (record { syllable = refl; yes = refl; flag = refl }, λ i j. (e, refl, refl))
      | inr s ↦
          rw (p, s, stage-near e f g a h, k.2, k.3)
          (record { syllable = refl; yes = refl; flag = refl }, postlude-near (stage (e ++ g)).flag k.0 f g a k.1)
    ])
