-- The noun stage's mark routines of the source are the marks of the simple form, as the suffix stage's are (Marks.antt). And two
-- of them fail wherever another one does. Assumes nothing.
use Prim.Native.Nat.{ℕ}
use mathlib.Core.Path.{◌≡◌, refl, sym, ap, ◌∙◌}
use mathlib.Core.Bool.{Bool, true, false, cond, ◌||◌, and-true, true≢false}
use mathlib.Core.List.{List, [], ◌∷◌, map}
use lib.Dec.{eqb}
use Rattle.turkish.specs.Letters.{text, from_end, any, has, starts}
use Rattle.turkish.specs.Vowels.{vowels, vowel}
use Rattle.theorems.specs.Simple.Grammar.{Out, fail, took, more, after, asking, among, joining, mark_of}
use Rattle.theorems.specs.Simple.Marks.{unjoined, by_y, marked}
use Rattle.theorems.specs.Simple.NounMarks.{by_n, by_s, by_U, letters_U, possessives, sU, lArI, yU, nU, nUn, yA, nA, DA, ndA, DAn, ndAn, ylA, ki, ncA}
use Rattle.theorems.specs.Simple.Tables.{tables}
use Rattle.turkish.specs.Snowball.{State, ahead, failed, is_in, is_outside, backward, letters, Command, grouping, outside, run}
use Rattle.turkish.specs.Source.{U, A-0, A-1, A-2, A-3, A-4, A-5, A-6, A-7, A-8, A-9, A-10, A-11, mark_suffix_with_optional_n_consonant, mark_suffix_with_optional_s_consonant}
use Rattle.turkish.specs.Source.{mark_suffix_with_optional_U_vowel, mark_possessives, mark_sU, mark_lArI, mark_yU, mark_nU, mark_nUn, mark_yA, mark_nA, mark_DA, mark_ndA}
use Rattle.turkish.specs.Source.{mark_DAn, mark_ndAn, mark_ylA, mark_ki, mark_ncA}
use Rattle.turkish.specs.Source as Source
use Rattle.turkish.specs.Answers.{called, succeeded}
use Rattle.theorems.proofs.Laws.Tests.{eqb_comm}
use Rattle.theorems.proofs.Laws.DeadMarks.{ndA-behind-DA, lArI-behind-sU}
use Rattle.theorems.proofs.Tables.{apart-at}
use Rattle.theorems.proofs.Source.Means.{Means, succeeded-settled, placed, means-define, means-as, means-literal, means-grouping, means-outside, take_if}
use Rattle.theorems.proofs.Source.Harmony.{vowel_or_not, optional-means, letter-means, vowel-means}
use Rattle.theorems.proofs.Source.Marks.{means-harmonic, means-bare, means-joined, means-tabled, by_y-means}

-- ---- a grouping as a table ----

-- a letter as a key
key : ℕ → List ℕ
key c = c ∷ []

-- a character of a grouping is a key of one letter
letters-table : (g cs : List ℕ) → take_if (is_in g cs) 1 ≡ among (map key g) cs
unfolding take_if is_in among has any starts key
letters-table [] [] = refl
letters-table [] (c ∷ cs) = refl
letters-table (l ∷ g) [] = letters-table g []
letters-table (l ∷ g) (c ∷ cs) = rw (eqb_comm l c, and-true (eqb c l)) (go (eqb c l) (letters-table g (c ∷ cs)))
  where
    go : (t : Bool) → take_if (has g c) 1 ≡ among (map key g) (c ∷ cs) → take_if (t || has g c) 1 ≡ cond t (took 1 true) (among (map key g) (c ∷ cs))
    go true e = refl
    go false e = e

-- so the grouping U reads the letters of sU and yU
U-means : Means backward (grouping U) (among (map from_end letters_U))
unfolding key letters_U from_end text
U-means = means-as (means-grouping U) (letters-table (text U))

-- ---- the joints ----

-- outside the vowels stands a character that is none
outside-means : Means backward (outside Source.vowel) (λ cs. take_if (vowel_or_not false cs) 1)
unfolding vowels is_outside vowel_or_not vowel
outside-means = means-as (means-outside Source.vowel) (λ cs. ap (λ (t : Bool). take_if t 1) (go cs))
  where
    go : (cs : List ℕ) → is_outside vowels cs ≡ vowel_or_not false cs
    go [] = refl
    go (c ∷ cs) = refl

-- the optional n, s and U
pub by_n-means : Means backward mark_suffix_with_optional_n_consonant (joining by_n)
unfolding mark_suffix_with_optional_n_consonant joining by_n
by_n-means = means-define _ (optional-means (text "n") true (letter-means "n" 0x6E (unfold text in refl)) vowel-means)

pub by_s-means : Means backward mark_suffix_with_optional_s_consonant (joining by_s)
unfolding mark_suffix_with_optional_s_consonant joining by_s
by_s-means = means-define _ (optional-means (text "s") true (letter-means "s" 0x73 (unfold text in refl)) vowel-means)

pub by_U-means : Means backward mark_suffix_with_optional_U_vowel (joining by_U)
unfolding mark_suffix_with_optional_U_vowel joining by_U
by_U-means = means-define _ (optional-means (text U) false (means-grouping U) outside-means)

-- ---- the marks ----

-- one a mark, in the source's order; that no key of it is the tail of another is known by its table's place in the list
pub possessives-means : Means backward mark_possessives (mark_of possessives)
unfolding mark_possessives possessives marked tables
possessives-means = means-define _ (means-tabled 0 by_U A-0 (apart-at 13) by_U-means)

pub sU-means : Means backward mark_sU (mark_of sU)
unfolding mark_sU sU
sU-means = means-define _ (means-harmonic 0 by_s letters_U (means-joined 0 by_s letters_U U-means by_s-means))

pub lArI-means : Means backward mark_lArI (mark_of lArI)
unfolding mark_lArI lArI marked tables
lArI-means = means-define _ (means-bare 0 A-1 (apart-at 15))

pub yU-means : Means backward mark_yU (mark_of yU)
unfolding mark_yU yU
yU-means = means-define _ (means-harmonic 0 by_y letters_U (means-joined 0 by_y letters_U U-means by_y-means))

pub nU-means : Means backward mark_nU (mark_of nU)
unfolding mark_nU nU marked tables
nU-means = means-define _ (means-harmonic 0 unjoined A-2 (means-bare 0 A-2 (apart-at 16)))

pub nUn-means : Means backward mark_nUn (mark_of nUn)
unfolding mark_nUn nUn marked tables
nUn-means = means-define _ (means-harmonic 0 by_n A-3 (means-tabled 0 by_n A-3 (apart-at 17) by_n-means))

pub yA-means : Means backward mark_yA (mark_of yA)
unfolding mark_yA yA marked tables
yA-means = means-define _ (means-harmonic 0 by_y A-4 (means-tabled 0 by_y A-4 (apart-at 18) by_y-means))

pub nA-means : Means backward mark_nA (mark_of nA)
unfolding mark_nA nA marked tables
nA-means = means-define _ (means-harmonic 0 unjoined A-5 (means-bare 0 A-5 (apart-at 19)))

pub DA-means : Means backward mark_DA (mark_of DA)
unfolding mark_DA DA marked tables
DA-means = means-define _ (means-harmonic 0 unjoined A-6 (means-bare 0 A-6 (apart-at 20)))

pub ndA-means : Means backward mark_ndA (mark_of ndA)
unfolding mark_ndA ndA marked tables
ndA-means = means-define _ (means-harmonic 0 unjoined A-7 (means-bare 0 A-7 (apart-at 21)))

pub DAn-means : Means backward mark_DAn (mark_of DAn)
unfolding mark_DAn DAn marked tables
DAn-means = means-define _ (means-harmonic 0 unjoined A-8 (means-bare 0 A-8 (apart-at 22)))

pub ndAn-means : Means backward mark_ndAn (mark_of ndAn)
unfolding mark_ndAn ndAn marked tables
ndAn-means = means-define _ (means-harmonic 0 unjoined A-9 (means-bare 0 A-9 (apart-at 23)))

pub ylA-means : Means backward mark_ylA (mark_of ylA)
unfolding mark_ylA ylA marked tables
ylA-means = means-define _ (means-harmonic 0 by_y A-10 (means-tabled 0 by_y A-10 (apart-at 24) by_y-means))

pub ki-means : Means backward mark_ki (mark_of ki)
unfolding mark_ki ki marked mark_of asking among take_if letters after more joining unjoined from_end text
ki-means = means-define _ (means-as (means-literal "ki") (λ cs. go (starts (from_end "ki") cs)))
  where
    go : (t : Bool) → take_if t 2 ≡ after (cond t (took 2 true) fail) (λ k. took 0 true)
    go true = refl
    go false = refl

pub ncA-means : Means backward mark_ncA (mark_of ncA)
unfolding mark_ncA ncA marked tables
ncA-means = means-define _ (means-harmonic 0 by_n A-11 (means-tabled 0 by_n A-11 (apart-at 26) by_n-means))

-- ---- marks that fail wherever another one does ----

-- a command fails exactly where its function does
means-fails : {p : Command} {f : List ℕ → Out} → Means backward p f → (s : State)
    → (succeeded (called backward p s) ≡ false → f (ahead s) ≡ fail) × (f (ahead s) ≡ fail → succeeded (called backward p s) ≡ false)
unfolding called succeeded placed
means-fails {p} {f} x s =
    let e : succeeded (run backward failed p s) ≡ succeeded (placed s (f (ahead s))) =
    sym (succeeded-settled s.cursor (run backward failed p s)) ∙ ap succeeded (x.on-state failed s) in
    (λ h. go (f (ahead s)) (sym e ∙ h), λ h. e ∙ ap (λ (o : Out). succeeded (placed s o)) h)
  where
    go : (o : Out) → succeeded (placed s o) ≡ false → o ≡ fail
    go fail h = refl
    go (took k b) h = absurd (true≢false h)

-- ndA where DA does
pub ndA-dead : (s : State) → succeeded (called backward mark_DA s) ≡ false → succeeded (called backward mark_ndA s) ≡ false
ndA-dead s h = (means-fails ndA-means s).1 (ndA-behind-DA (ahead s) ((means-fails DA-means s).0 h))

-- and lArI where sU does
pub lArI-dead : (s : State) → succeeded (called backward mark_sU s) ≡ false → succeeded (called backward mark_lArI s) ≡ false
lArI-dead s h = (means-fails lArI-means s).1 (lArI-behind-sU (ahead s) ((means-fails sU-means s).0 h))
