-- What the marks that the stage keeps found: those that test harmony their two vowels, the last of which each took itself, and the others
-- nothing; and the first of them that tests it. Assumes nothing.
use Prim.Native.Nat.{ℕ, ◌+◌, ◌-◌, ◌≤◌}
use mathlib.Core.Path.{◌≡◌, refl, sym, ap, ◌∙◌}
use mathlib.Core.Bool.{Bool, true, false, not, ◌&&◌, ◌||◌, false≢true}
use mathlib.Core.List.{List, [], ◌∷◌, ◌++◌, map}
use native.Mathlib.Omega.{arith}
use lib.ListN.{drop}
use lib.Seq.{drop-drop}
use Rattle.encoding.proofs.Laws.Booleans.{and_left, and_right}
use Rattle.turkish.specs.Letters.{text, from_end, any, has}
use Rattle.turkish.specs.Vowels.{vowels, vowel, last_vowel_of, before_last_vowel}
use Rattle.turkish.specs.Heard.{Heard, heard, is_heard, or_heard}
use Rattle.turkish.specs.Pieces.{first_heard}
use Rattle.theorems.specs.Simple.Harmony.{partner, to_first, Found, nowhere, at, harmony_found, harmony}
use Rattle.theorems.specs.Simple.Grammar.{Mark, mark_of, try}
use Rattle.theorems.specs.Simple.Marks.{marked, yUm, sUn, yUz, sUnUz, lAr, nUz, DUr, cAsInA, yDU, ysA, ymUs, yken}
use Rattle.theorems.specs.Simple.Stage.{person, branch1, branch2, branch3, branch4, branch5, branch6, branches}
use Rattle.theorems.specs.Simple.Pieces.{Taken, total, found_by, taken_by, stage_marks, heard_at, located}
use Rattle.theorems.specs.HeardTerms.{tests_harmony}
use Rattle.theorems.proofs.Laws.Tests.{every, agrees, agrees-equal}
use Rattle.theorems.proofs.Laws.Harmony.{harmony-found}
use Rattle.theorems.proofs.Laws.Outcome.{Post, post-all, post-map, post-asking}
use Rattle.theorems.proofs.Laws.Keeping.{every_mark}
use Rattle.theorems.proofs.Laws.Along.{Along, none, one, stage_marks-along}
use Rattle.theorems.proofs.Laws.KeyVowels.{keyed-vowel, voiced, voiced-keys}

-- ---- each mark ----

-- a mark that was taken found nothing where its kind tests no harmony, else the two vowels before it, of which it took the last
pub data Sounded (cs : List ℕ) (t : Taken) : Type 0 where
  silent : tests_harmony t.kind ≡ false → t.found ≡ nowhere → Sounded cs t
  sounding : (l p : ℕ) → tests_harmony t.kind ≡ true → t.found ≡ at l p → harmony_found cs ≡ at l p → l ≤ t.size → Sounded cs t

-- a mark of the grammar whose kind says whether it tests harmony, and whose keys have a vowel where it does
sounds : Mark → Bool
sounds m = agrees m.harmonic (tests_harmony m.kind) && voiced m

-- what such a mark takes is so
mark-sounded : (m : Mark) (cs : List ℕ) → sounds m ≡ true → Post (λ k. Sounded cs (taken_by m cs k)) (mark_of m cs)
unfolding sounds found_by mark_of
mark-sounded m cs e = go m.harmonic refl
  where
    says : m.harmonic ≡ tests_harmony m.kind
    says = agrees-equal m.harmonic (tests_harmony m.kind) (and_left (agrees m.harmonic (tests_harmony m.kind)) (voiced m) e)

    go : (h : Bool) → m.harmonic ≡ h → Post (λ k. Sounded cs (taken_by m cs k)) (mark_of m cs)
    go true h =
        post-asking (not m.harmonic || harmony cs) λ t.
        let two = harmony-found cs (rw h at t) in
        let l = to_first vowel cs in
        let p = l + to_first (partner (last_vowel_of cs)) (before_last_vowel cs) in
        let keys = voiced-keys m (and_right (agrees m.harmonic (tests_harmony m.kind)) (voiced m) e) h in
        post-map (λ k f r. sounding l p (sym says ∙ h) (rw h two) two (omega (arith, r.vowel-in-key, r.key-taken))) (keyed-vowel m cs keys)
    go false h = post-all (mark_of m cs) (λ k f. silent (sym says ∙ h) (rw h))

-- the stage's marks are such
branches-sound : every_mark sounds branches ≡ true
unfolding every_mark sounds agrees tests_harmony voiced every any has vowel vowels branches branch1 branch2 branch3 branch4 branch5 branch6 person try
    marked yUm sUn yUz sUnUz lAr nUz DUr cAsInA yDU ysA ymUs yken from_end text
branches-sound = refl

-- so is every mark that the stage keeps
pub stage_marks-sounded : (cs : List ℕ) → Along Sounded cs (stage_marks cs)
stage_marks-sounded cs = stage_marks-along sounds mark-sounded cs branches-sound

-- ---- the first of them ----

-- of marks taken one after the other before place n, the first that tests harmony, and what it found
pub record Sounder (cs : List ℕ) (n : ℕ) (ts : List Taken) (h : Heard) : Type 0 where
  pub before : List Taken
  pub it : Taken
  pub behind : List Taken
  pub last : ℕ
  pub partner : ℕ
  pub marks : ts ≡ before ++ it ∷ behind
  pub untested : any tests_harmony (map (λ (t : Taken). t.kind) before) ≡ false
  pub tested : tests_harmony it.kind ≡ true
  pub found : harmony_found (drop (total before) cs) ≡ at last partner
  pub inside : last ≤ it.size
  pub is : h ≡ heard (n - total before - last) (n - total before - partner)

-- it is so behind a mark that tests none
sounder-skips : (cs : List ℕ) (n : ℕ) (t : Taken) {ts : List Taken} {h : Heard} → tests_harmony t.kind ≡ false
    → Sounder (drop t.size cs) (n - t.size) ts h → Sounder cs n (t ∷ ts) h
unfolding any total
sounder-skips cs n t u r =
    let left : n - t.size - total r.before ≡ n - (t.size + total r.before) = omega arith in
    record {
      before = t ∷ r.before;
      it = r.it;
      behind = r.behind;
      last = r.last;
      partner = r.partner;
      marks = ap (λ (us : List Taken). t ∷ us) r.marks;
      untested = rw u r.untested;
      tested = r.tested;
      found = rw (drop-drop (total r.before) t.size cs) at r.found;
      inside = r.inside;
      is = rw left at r.is;
    }

-- and one that tests it is the first
sounder-here : (cs : List ℕ) (n : ℕ) (t : Taken) (ts : List Taken) (l p : ℕ) {h : Heard} → tests_harmony t.kind ≡ true → harmony_found cs ≡ at l p → l ≤ t.size
    → h ≡ heard (n - l) (n - p) → Sounder cs n (t ∷ ts) h
unfolding any total
sounder-here cs n t ts l p u g i e =
    let all : n - 0 ≡ n = omega arith in
    record { before = []; it = t; behind = ts; last = l; partner = p; marks = refl; untested = refl; tested = u; found = g; inside = i; is = rw all e }

-- what was found first is what it found
pub first-sounder : (n : ℕ) {cs : List ℕ} {ts : List Taken} {h : Heard} → Along Sounded cs ts → h ≡ first_heard (located n ts) → is_heard h ≡ true → Sounder cs n ts h
unfolding located first_heard or_heard heard_at is_heard
first-sounder n none e a = absurd (false≢true (rw e at a))
first-sounder n {cs} (one t {ts} (silent u f) x) e a =
    sounder-skips cs n t u (first-sounder (n - t.size) x (e ∙ ap (λ (o : Found). or_heard (heard_at n o) (first_heard (located (n - t.size) ts))) f) a)
first-sounder n {cs} (one t {ts} (sounding l p u f g i) x) e a =
    sounder-here cs n t ts l p u g i (e ∙ ap (λ (o : Found). or_heard (heard_at n o) (first_heard (located (n - t.size) ts))) f)

-- and some was found exactly where one of the kinds tests harmony
pub heard-tests : (n : ℕ) {cs : List ℕ} {ts : List Taken} → Along Sounded cs ts
    → is_heard (first_heard (located n ts)) ≡ any tests_harmony (map (λ (t : Taken). t.kind) ts)
unfolding located first_heard or_heard heard_at is_heard any
heard-tests n none = refl
heard-tests n (one t {ts} (silent u f) x) = rw (f, u) (heard-tests (n - t.size) x)
heard-tests n (one t {ts} (sounding l p u f g i) x) = rw (f, u)
