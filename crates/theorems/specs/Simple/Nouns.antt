-- The noun stage in the simple form, with the chain before `ki`: how many characters each alternative takes. A deletion is not undone where
-- what follows it fails, so what follows one is `perhaps`. Dead alternatives (the chain's line 351, line 384's lArI, and line 402's
-- chain where line 398 has lost a plural) are left out; that they are dead is proved. Assumes nothing.
use Rattle.std.specs.Prelude.{ℕ, zero, suc, ◌+◌, Bool, true, false, List, ◌++◌, length, take, drop}
use Rattle.theorems.specs.Simple.Grammar.{Out, fail, took, after, first, mark_of}
use Rattle.theorems.specs.Simple.Marks.{lAr}
use Rattle.theorems.specs.Simple.NounMarks.{possessives, sU, lArI, yU, nU, nUn, yA, nA, DA, ndA, DAn, ndAn, ylA, ki, ncA}

-- ---- what is taken of the characters before the cursor ----

abbrev pub Taking : Type 0
Taking = List ℕ → Out

-- one after the other, the first of two, and one that need not fit
unfoldable pub both : Taking → Taking → Taking
both f g cs = after (f cs) (λ k. g (drop k cs))

unfoldable pub either : Taking → Taking → Taking
either f g cs = first (f cs) (g cs)

unfoldable pub perhaps : Taking → Taking
perhaps f cs = first (f cs) (took 0 true)

-- ---- the chain before ki ----

-- lAr and the chain after it (lines 337, 362, 370, 390)
unfoldable pub plural : Taking → Taking
plural chain = both (mark_of lAr) (perhaps chain)

-- possessives and what may follow (lines 339, 388)
unfoldable pub possessed : Taking → Taking
possessed chain = both (mark_of possessives) (perhaps (plural chain))

-- possessives or sU and what may follow (lines 346, 368, 400, 412), and sU alone (378, 384)
unfoldable pub owned : Taking → Taking
owned chain = both (either (mark_of possessives) (mark_of sU)) (perhaps (plural chain))

unfoldable pub owned_by_sU_of : Taking → Taking
owned_by_sU_of chain = both (mark_of sU) (perhaps (plural chain))

-- lines 333 to 348: `ki` and what stands before it
unfoldable pub link : Taking → Taking
link chain =
    both (mark_of ki)
    (either (both (mark_of DA) (perhaps (either (plural chain) (possessed chain))))
    (both (mark_of nUn) (perhaps (either (mark_of lArI) (either (owned chain) chain)))))

-- so many calls deep at most
unfoldable pub chain_within : ℕ → Taking
chain_within zero cs = fail
chain_within (suc n) cs = link (chain_within n) cs

-- a call for each character is more than there are; that it is no matter how many is a theorem
unfoldable pub chain : Taking
chain cs = chain_within (suc (length cs)) cs

-- ---- the stage ----

-- lines 362, 364 to 370, 374 to 378, 384, 386 to 392, 396 to 402, 406, 408, 410, 412
unfoldable pub after_ncA_of : Taking
after_ncA_of = both (mark_of ncA) (perhaps (either (mark_of lArI) (either (owned chain) (plural chain))))

unfoldable pub pronominal : Taking
pronominal = either (mark_of ndA) (mark_of nA)

unfoldable pub after_pronominal_of : Taking
after_pronominal_of = both pronominal (either (mark_of lArI) (owned_by_sU_of chain))

unfoldable pub after_ndAn_of : Taking
after_ndAn_of = both (either (mark_of ndAn) (mark_of nU)) (owned_by_sU_of chain)

unfoldable pub after_DAn_of : Taking
after_DAn_of = both (mark_of DAn) (perhaps (either (possessed chain) (either (plural chain) chain)))

unfoldable pub after_nUn_of : Taking
after_nUn_of =
    both (either (mark_of nUn) (mark_of ylA))
    (perhaps (either (both (mark_of lAr) (perhaps (either chain (owned chain)))) (either (owned chain) chain)))

unfoldable pub after_DA_of : Taking
after_DA_of =
    both (either (mark_of DA) (either (mark_of yU) (mark_of yA)))
    (perhaps (both (either (both (mark_of possessives) (perhaps (mark_of lAr))) (mark_of lAr)) (perhaps chain)))

-- what the stage leaves of the characters: all of them, where nothing fits; all but so many at the end; or j at the end and all but k
-- before those
pub data Rest : Type 0 where
  whole : Rest
  cut : ℕ → Rest
  parted : ℕ → ℕ → Rest

-- an alternative, and what the later ones leave where it fails
unfoldable pub cut_by : Out → Rest → Rest
cut_by fail r = r
cut_by (took k f) r = cut k

-- line 380: the chain before marks that stay
unfoldable pub parted_at : ℕ → Out → Rest → Rest
parted_at j fail r = r
parted_at j (took k f) r = parted j k

unfoldable pub parted_by : Out → (ℕ → Out) → Rest → Rest
parted_by fail q r = r
parted_by (took j f) q r = parted_at j (q j) r

unfoldable pub noun_rest : List ℕ → Rest
noun_rest cs =
    cut_by (plural chain cs)
    (cut_by (after_ncA_of cs)
    (cut_by (after_pronominal_of cs)
    (parted_by (pronominal cs) (λ j. chain (drop j cs))
    (cut_by (after_ndAn_of cs)
    (cut_by (after_DAn_of cs)
    (cut_by (after_nUn_of cs)
    (cut_by (mark_of lArI cs)
    (cut_by (chain cs)
    (cut_by (after_DA_of cs)
    (cut_by (owned chain cs) whole))))))))))

-- the text that it leaves, and its yes or no
unfoldable pub rest_text : Rest → List ℕ → List ℕ
rest_text whole cs = cs
rest_text (cut k) cs = drop k cs
rest_text (parted j k) cs = take j cs ++ drop (j + k) cs

unfoldable pub is_cut : Rest → Bool
is_cut whole = false
is_cut (cut k) = true
is_cut (parted j k) = true

unfoldable pub noun_leaves : List ℕ → List ℕ
noun_leaves cs = rest_text (noun_rest cs) cs

unfoldable pub noun_yes : List ℕ → Bool
noun_yes cs = is_cut (noun_rest cs)
