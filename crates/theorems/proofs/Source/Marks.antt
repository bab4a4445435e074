-- The twelve mark routines of the source are the marks of the simple form: where no key of a table is the tail of another, the longest
-- key that fits is the first. Assumes nothing.
use Prim.Native.Nat.{ℕ, ◌+◌, ◌<◌}
use Prim.Native.String.{String}
use mathlib.Core.Path.{◌≡◌, refl, sym, ap, ◌∙◌}
use mathlib.Core.Bool.{Bool, true, false, cond}
use mathlib.Core.Bool as Bool
use mathlib.Core.List.{List, [], ◌∷◌, map}
use native.Mathlib.Omega.{arith}
use lib.ListN.{length, drop}
use lib.Dec.{ltb}
use borrow.Author.Tests.{lt-ltb, le-ltb}
use Rattle.encoding.proofs.Laws.Booleans.{and_left, and_right}
use Rattle.turkish.specs.Letters.{from_end, starts}
use Rattle.theorems.specs.Simple.Harmony.{harmony}
use Rattle.theorems.specs.Simple.Grammar.{Out, fail, took, more, after, asking, among, Joint, joining, mark_of}
use Rattle.theorems.specs.Simple.Marks.{unjoined, by_y, marked, yUm, sUn, yUz, sUnUz, lAr, nUz, DUr, cAsInA, yDU, ysA, ymUs, yken}
use Rattle.turkish.specs.Snowball.{longer, longest, fits, backward, letters, Command, ◌then◌}
use Rattle.turkish.specs.Snowball as Snowball
use Rattle.turkish.specs.Source.{A-12, A-13, A-14, A-15, A-16, A-17, A-18, A-19, A-20, A-21, A-22, check_vowel_harmony, mark_suffix_with_optional_y_consonant, mark_yUm}
use Rattle.turkish.specs.Source.{mark_sUn, mark_yUz, mark_sUnUz, mark_lAr, mark_nUz, mark_DUr, mark_cAsInA, mark_yDU, mark_ysA, mark_ymUs_, mark_yken}
use Rattle.theorems.proofs.Laws.Tests.{every}
use Rattle.theorems.specs.Simple.Tables.{tables}
use Rattle.theorems.proofs.Tables.{neither, apart, neither-both, apart-at}
use Rattle.theorems.proofs.Source.Means.{Means, means-define, means-as, means-then, means-literal, means-among, take_if}
use Rattle.theorems.proofs.Source.Harmony.{harmony-means, optional_y-means}

-- ---- the longest key is the first ----

-- where one key fits, none of those that stand apart from it does
none-longer : (i : ℕ) (j cs : List ℕ) (ks : List (List ℕ)) → every (neither j) ks ≡ true → starts j cs ≡ true → longest i ks cs ≡ record { number = 0; size = 0 }
unfolding longest longer every
none-longer i j cs [] t a = refl
none-longer i j cs (k ∷ ks) t a =
    go (starts k cs) refl (none-longer (i + 1) j cs ks (and_right (neither j k) (every (neither j) ks) t) a)
  where
    go : (b : Bool) → starts k cs ≡ b → longest (i + 1) ks cs ≡ record { number = 0; size = 0 } → longest i (k ∷ ks) cs ≡ record { number = 0; size = 0 }
    go true e r = absurd (Bool.true≢false (sym (and_left (neither j k) (every (neither j) ks) t) ∙ neither-both j k cs a e))
    go false e r = rw e r

-- so the longest that fits is the first
longest-first : (i : ℕ) (cs : List ℕ) (ks : List (List ℕ)) → apart ks ≡ true → 0 < i → take_if (fits (longest i ks cs)) (longest i ks cs).size ≡ among ks cs
unfolding longest apart among take_if fits longer
longest-first i cs [] t h = refl
longest-first i cs (k ∷ ks) t h = go (starts k cs) refl (longest-first (i + 1) cs ks (and_right (every (neither k) ks) (apart ks) t) (omega arith))
  where
    go : (b : Bool) → starts k cs ≡ b → take_if (fits (longest (i + 1) ks cs)) (longest (i + 1) ks cs).size ≡ among ks cs
        → take_if (fits (longest i (k ∷ ks) cs)) (longest i (k ∷ ks) cs).size ≡ among (k ∷ ks) cs
    go true e r =
        let n : longest (i + 1) ks cs ≡ record { number = 0; size = 0 } = none-longer (i + 1) k cs ks (and_left (every (neither k) ks) (apart ks) t) e in
        let z : ltb (length k) 0 ≡ false = le-ltb (length k) 0 (omega arith) in
        let p : ltb 0 i ≡ true = lt-ltb 0 i h in
        rw (e, n, z, p)
    go false e r = rw e r

-- the keys of a table read from its end
pub among-means : (ks : List String) → apart (map from_end ks) ≡ true → Means backward (Snowball.among ks) (among (map from_end ks))
unfolding letters
among-means ks a = means-as (means-among ks) (λ cs. longest-first 1 cs (map from_end ks) a (omega arith))

-- ---- the parts of a mark ----

-- nothing taken first
more-none : (o : Out) → more 0 true o ≡ o
unfolding more
more-none fail = refl
more-none (took k f) = let e : 0 + k ≡ k = omega arith in ap (λ (n : ℕ). took n f) e

-- nothing taken after a key
after_none : (ks : List (List ℕ)) (cs : List ℕ) → among ks cs ≡ after (among ks cs) (λ k. took 0 true)
unfolding among after more
after_none [] cs = refl
after_none (k ∷ ks) cs = go (starts k cs) (after_none ks cs)
  where
    go : (b : Bool) → among ks cs ≡ after (among ks cs) (λ k. took 0 true)
        → cond b (took (length k) true) (among ks cs) ≡ after (cond b (took (length k) true) (among ks cs)) (λ k. took 0 true)
    go true r = let e : length k ≡ length k + 0 = omega arith in ap (λ (n : ℕ). took n true) e
    go false r = r

-- a mark with harmony, from the rest of it
pub means-harmonic : {p : Command} (n : ℕ) (j : Joint) (ks : List String)
    → Means backward p (mark_of (marked n false ks j)) → Means backward (check_vowel_harmony then p) (mark_of (marked n true ks j))
unfolding mark_of marked asking after take_if
means-harmonic n j ks x = means-as (means-then harmony-means x) (λ cs. go cs (harmony cs))
  where
    go : (cs : List ℕ) (b : Bool) → after (take_if b 0) (λ k. mark_of (marked n false ks j) (drop k cs))
        ≡ asking b (after (among (map from_end ks) cs) (λ k. joining j (drop k cs)))
    go cs true = more-none (after (among (map from_end ks) cs) (λ k. joining j (drop k cs)))
    go cs false = refl

-- a mark of a key alone
pub means-bare : (n : ℕ) (ks : List String) → apart (map from_end ks) ≡ true → Means backward (Snowball.among ks) (mark_of (marked n false ks unjoined))
unfolding mark_of marked asking joining unjoined
means-bare n ks a = means-as (among-means ks a) (after_none (map from_end ks))

-- and of a key with any joint, from what reads its keys and what reads the joint
pub means-joined : {p q : Command} (n : ℕ) (j : Joint) (ks : List String) → Means backward p (among (map from_end ks)) → Means backward q (joining j)
    → Means backward (p then q) (mark_of (marked n false ks j))
unfolding mark_of marked asking
means-joined n j ks x y = means-then x y

-- the keys being a table's
pub means-tabled : {q : Command} (n : ℕ) (j : Joint) (ks : List String) → apart (map from_end ks) ≡ true → Means backward q (joining j)
    → Means backward (Snowball.among ks then q) (mark_of (marked n false ks j))
means-tabled n j ks a y = means-joined n j ks (among-means ks a) y

-- the optional y's routine reads the y that joins
pub by_y-means : Means backward mark_suffix_with_optional_y_consonant (joining by_y)
unfolding joining by_y
by_y-means = optional_y-means

-- ---- the marks ----

-- one a mark, in the order of the tables; that no key of it is the tail of another is known by its table's place in the list
pub yUm-means : Means backward mark_yUm (mark_of yUm)
unfolding mark_yUm yUm marked tables
yUm-means = means-define _ (means-harmonic 1 by_y A-12 (means-tabled 1 by_y A-12 (apart-at 0) by_y-means))

pub sUn-means : Means backward mark_sUn (mark_of sUn)
unfolding mark_sUn sUn marked tables
sUn-means = means-define _ (means-harmonic 2 unjoined A-13 (means-bare 2 A-13 (apart-at 1)))

pub yUz-means : Means backward mark_yUz (mark_of yUz)
unfolding mark_yUz yUz marked tables
yUz-means = means-define _ (means-harmonic 3 by_y A-14 (means-tabled 3 by_y A-14 (apart-at 2) by_y-means))

pub sUnUz-means : Means backward mark_sUnUz (mark_of sUnUz)
unfolding mark_sUnUz sUnUz marked tables
sUnUz-means = means-define _ (means-bare 4 A-15 (apart-at 3))

pub lAr-means : Means backward mark_lAr (mark_of lAr)
unfolding mark_lAr lAr marked tables
lAr-means = means-define _ (means-harmonic 5 unjoined A-16 (means-bare 5 A-16 (apart-at 4)))

pub nUz-means : Means backward mark_nUz (mark_of nUz)
unfolding mark_nUz nUz marked tables
nUz-means = means-define _ (means-harmonic 6 unjoined A-17 (means-bare 6 A-17 (apart-at 5)))

pub DUr-means : Means backward mark_DUr (mark_of DUr)
unfolding mark_DUr DUr marked tables
DUr-means = means-define _ (means-harmonic 7 unjoined A-18 (means-bare 7 A-18 (apart-at 6)))

pub cAsInA-means : Means backward mark_cAsInA (mark_of cAsInA)
unfolding mark_cAsInA cAsInA marked tables
cAsInA-means = means-define _ (means-bare 8 A-19 (apart-at 7))

pub yDU-means : Means backward mark_yDU (mark_of yDU)
unfolding mark_yDU yDU marked tables
yDU-means = means-define _ (means-harmonic 9 by_y A-20 (means-tabled 9 by_y A-20 (apart-at 8) by_y-means))

pub ysA-means : Means backward mark_ysA (mark_of ysA)
unfolding mark_ysA ysA marked tables
ysA-means = means-define _ (means-tabled 10 by_y A-21 (apart-at 9) by_y-means)

pub ymUs-means : Means backward mark_ymUs_ (mark_of ymUs)
unfolding mark_ymUs_ ymUs marked tables
ymUs-means = means-define _ (means-harmonic 11 by_y A-22 (means-tabled 11 by_y A-22 (apart-at 10) by_y-means))

pub yken-means : Means backward mark_yken (mark_of yken)
unfolding mark_yken yken among take_if letters
yken-means = means-define _ (means-joined 12 by_y ("ken" ∷ []) (means-literal "ken") by_y-means)
