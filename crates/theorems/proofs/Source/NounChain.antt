-- stem_suffix_chain_before_ki of the source cuts what the simple form's chain takes, wherever it is called; its third alternative (line
-- 351) never runs, since ndA fails wherever DA does. And the routine is its own text: each call in it is made behind a `ki`, so it does
-- not matter how many calls deep the definition goes. Assumes nothing.
use Prim.Native.Nat.{ℕ, zero, suc, ◌+◌, ◌<◌}
use mathlib.Core.Path.{◌≡◌, refl}
use mathlib.Core.Bool.{Bool, true, and-true}
use mathlib.Core.List.{List}
use native.Mathlib.Omega.{arith}
use lib.ListN.{length, drop}
use Rattle.theorems.specs.Simple.Grammar.{Out, fail, took, more, after, first, mark_of}
use Rattle.theorems.specs.Simple.Marks.{lAr}
use Rattle.theorems.specs.Simple.NounMarks.{possessives, sU, lArI, nUn, DA, ndA, ki}
use Rattle.theorems.specs.Simple.Nouns.{Taking, both, either, perhaps, plural, possessed, owned, owned_by_sU_of, link, chain_within, chain}
use Rattle.turkish.specs.Snowball.{State, ahead, Result, deep, backward, Command, ◌then◌, ◌or◌, try, ⟦, ⟧, delete, itself, enough, run}
use Rattle.turkish.specs.Source.{check_vowel_harmony, mark_suffix_with_optional_n_consonant, mark_suffix_with_optional_s_consonant, mark_suffix_with_optional_U_vowel}
use Rattle.turkish.specs.Source.{mark_possessives, mark_sU, mark_lArI, mark_nUn, mark_DA, mark_ndA, mark_ki, mark_lAr, stem_suffix_chain_before_ki}
use Rattle.theorems.proofs.Laws.Outcome.{post-map}
use Rattle.theorems.proofs.Laws.Chain.{ki-takes}
use Rattle.theorems.proofs.Laws.DeadMarks.{took-fail, ndA-behind-DA}
use Rattle.theorems.proofs.Source.Means.{Means, means-or}
use Rattle.theorems.proofs.Source.Marks.{lAr-means}
use Rattle.theorems.proofs.Source.NounMarks.{possessives-means, sU-means, lArI-means, nUn-means, DA-means, ndA-means, ki-means}
use Rattle.theorems.proofs.Source.Cutting.{at_ahead, Leaves, Cuts, Opened, Tries, Dead, opened-as, opened-mark, opened-delete, opened-cut, opened-or, cuts-open, cuts-or}
use Rattle.theorems.proofs.Source.Cutting.{cuts-open-or, tries-cuts, tries-cut, dead-mark, dead-then, opened-or-dead, opened-group, chooses-mark}
use Rattle.theorems.proofs.Source.Recursion.{CallsBehind, deep-same, routine-text}
use Rattle.theorems.proofs.Source.SliceCalls.{Reads, CallsPast, itself-at, itself-past, calls-try, calls-open, calls-group, calls-delete, calls-cut, sure-delete, sure-try}
use Rattle.theorems.proofs.Source.SliceCalls.{calls-mark, calls-or, calls-open-or, calls-slice}

-- ---- groups of commands, as they stand in the chain and in the stage ----

-- a mark that is taken alone
both-none : (f : Taking) (cs : List ℕ) → both f (λ ds. took 0 true) cs ≡ f cs
unfolding both after more
both-none f cs = go (f cs)
  where
    go : (o : Out) → after o (λ k. took 0 true) ≡ o
    go fail = refl
    go (took k b) = let sum : k + 0 ≡ k = omega arith in rw (sum, and-true b)

-- and deleted
pub opened-alone : {self : State → Result} {m : Command} {f : Taking} → Means backward m f → Opened self (m then ⟧ then delete) f
opened-alone {f} x = opened-as (opened-mark x opened-delete) (both-none f)

-- d is a call of the chain, which cuts what f takes
module _ {self : State → Result} {d : Command} {f : Taking} (x : Cuts self d f) where
  -- lAr and the chain, which may fail after it (lines 339, 346, 354, 368, 370, 378, 384, 388, 400, 412)
  pub tries-plural : Tries self (⟦ then mark_lAr then ⟧ then delete then d) (plural f)
  unfolding plural
  tries-plural = tries-cut (chooses-mark lAr-means) x

  -- lAr and a chain that need not fit (lines 337, 362, 390)
  pub opened-plural : Opened self (mark_lAr then ⟧ then delete then try d) (plural f)
  unfolding plural
  opened-plural = opened-mark lAr-means (opened-cut (tries-cuts x))

  -- possessives and what may follow (lines 339, 388)
  pub opened-possessed : Opened self (mark_possessives then ⟧ then delete then try (⟦ then mark_lAr then ⟧ then delete then d)) (possessed f)
  unfolding possessed
  opened-possessed = opened-mark possessives-means (opened-cut tries-plural)

  -- possessives or sU and what may follow (lines 346, 368, 400, 412)
  pub cuts-owned : Cuts self (⟦ then mark_possessives or mark_sU then ⟧ then delete then try (⟦ then mark_lAr then ⟧ then delete then d)) (owned f)
  unfolding owned either
  cuts-owned = cuts-open (opened-mark (means-or possessives-means sU-means) (opened-cut tries-plural))

  -- sU and what may follow (lines 378, 384)
  pub opened-owned_by_sU_of : Opened self (mark_sU then ⟧ then delete then try (⟦ then mark_lAr then ⟧ then delete then d)) (owned_by_sU_of f)
  unfolding owned_by_sU_of
  opened-owned_by_sU_of = opened-mark sU-means (opened-cut tries-plural)

-- ---- the chain's text ----

-- its alternatives and its commands, as they stand in the source
abbrev pub line336 : Command
line336 =
    mark_DA then ⟧ then delete then try (⟦ then
    (mark_lAr then ⟧ then delete then try (itself))
    or
    (mark_possessives then ⟧ then delete then try (⟦ then mark_lAr then ⟧ then delete then itself)))

abbrev pub line343 : Command
line343 =
    mark_nUn then ⟧ then delete then try (⟦ then
    (mark_lArI then ⟧ then delete)
    or
    (⟦ then mark_possessives or mark_sU then ⟧ then delete then try (⟦ then mark_lAr then ⟧ then delete then itself))
    or
    (itself))

abbrev pub line351 : Command
line351 =
    mark_ndA then (
    (mark_lArI then ⟧ then delete)
    or
    ((mark_sU then ⟧ then delete then try (⟦ then mark_lAr then ⟧ then delete then itself)))
    or
    (itself))

abbrev pub chain_body : Command
chain_body = ⟦ then mark_ki then (line336 or line343 or line351)

-- the first of two fails where both fail
first-fails : (o u : Out) → first o u ≡ fail → o ≡ fail
unfolding first
first-fails fail u e = refl
first-fails (took k b) u e = e

-- a mark before something that need not fit fails where they fail
pub both-fails : (m g : Taking) (cs : List ℕ) → both m (perhaps g) cs ≡ fail → m cs ≡ fail
unfolding both perhaps after more first
both-fails m g cs = go (m cs)
  where
    more-fails : (k : ℕ) (b : Bool) (o : Out) → more k b (first o (took 0 true)) ≡ fail → took k b ≡ fail
    more-fails k b fail e = took-fail e
    more-fails k b (took j c) e = took-fail e

    go : (o : Out) → after o (λ k. first (g (drop k cs)) (took 0 true)) ≡ fail → o ≡ fail
    go fail e = refl
    go (took k b) e = more-fails k b (g (drop k cs)) e

-- where a call inside cuts what f takes, the text cuts a link with f
module _ {self : State → Result} {f : Taking} (x : Cuts self itself f) where
  -- lines 336 to 339
  opened-336 : Opened self line336 (both (mark_of DA) (perhaps (either (plural f) (possessed f))))
  opened-336 = opened-mark DA-means (opened-cut (tries-cuts (cuts-open (opened-or (opened-plural x) (opened-possessed x)))))

  -- lines 343 to 348
  opened-343 : Opened self line343 (both (mark_of nUn) (perhaps (either (mark_of lArI) (either (owned f) f))))
  opened-343 = opened-mark nUn-means (opened-cut (tries-cuts (cuts-open-or (opened-alone lArI-means) (cuts-or (cuts-owned x) x))))

  -- line 351 fails where 336 does
  dead-351 : Dead self (both (mark_of DA) (perhaps (either (plural f) (possessed f)))) line351
  dead-351 = dead-then (dead-mark ndA-means (λ cs e. ndA-behind-DA cs (both-fails (mark_of DA) _ cs e)))

  -- all of it
  cuts-link : Cuts self chain_body (link f)
  unfolding link either
  cuts-link =
      cuts-open (opened-mark ki-means (opened-group (opened-or-dead (opened-or opened-336 opened-343)
      (record { fails = λ p cs i s h e. dead-351.fails p cs i s h (first-fails _ _ e) }))))

-- so many calls deep it cuts what the simple form takes so deep
deep-cuts : (n : ℕ) → Cuts (deep (λ again. run backward again chain_body) n) itself (chain_within n)
unfolding run deep chain_within Leaves
deep-cuts zero = record { cuts = λ p cs s h. (s, refl, h.text-is) }
deep-cuts (suc n) = record { cuts = λ p cs s h. (cuts-link (deep-cuts n)).cuts p cs s h }

-- wherever the routine is called, it cuts what the chain takes
pub chain-cuts : (self : State → Result) → Cuts self stem_suffix_chain_before_ki chain
unfolding stem_suffix_chain_before_ki run enough chain
chain-cuts self = record { cuts = λ p cs s h. rw (at_ahead p cs s h) ((deep-cuts (suc (length cs))).cuts p cs s h) }

-- ---- the chain is its own text ----

-- the marks that it reads, none of which calls
reads-ki : Reads mark_ki (mark_of ki)
unfolding run mark_ki
reads-ki = record { alone = λ f g s. refl; means = ki-means }

reads-DA : Reads mark_DA (mark_of DA)
unfolding run mark_DA check_vowel_harmony
reads-DA = record { alone = λ f g s. refl; means = DA-means }

reads-ndA : Reads mark_ndA (mark_of ndA)
unfolding run mark_ndA check_vowel_harmony
reads-ndA = record { alone = λ f g s. refl; means = ndA-means }

reads-lAr : Reads mark_lAr (mark_of lAr)
unfolding run mark_lAr check_vowel_harmony
reads-lAr = record { alone = λ f g s. refl; means = lAr-means }

reads-lArI : Reads mark_lArI (mark_of lArI)
unfolding run mark_lArI
reads-lArI = record { alone = λ f g s. refl; means = lArI-means }

reads-nUn : Reads mark_nUn (mark_of nUn)
unfolding run mark_nUn check_vowel_harmony mark_suffix_with_optional_n_consonant
reads-nUn = record { alone = λ f g s. refl; means = nUn-means }

reads-possessives : Reads mark_possessives (mark_of possessives)
unfolding run mark_possessives mark_suffix_with_optional_U_vowel
reads-possessives = record { alone = λ f g s. refl; means = possessives-means }

reads-sU : Reads mark_sU (mark_of sU)
unfolding run mark_sU check_vowel_harmony mark_suffix_with_optional_s_consonant
reads-sU = record { alone = λ f g s. refl; means = sU-means }

reads-owning : Reads (mark_possessives or mark_sU) (either (mark_of possessives) (mark_of sU))
unfolding run either mark_possessives mark_suffix_with_optional_U_vowel mark_sU check_vowel_harmony mark_suffix_with_optional_s_consonant
reads-owning = record { alone = λ f g s. refl; means = means-or possessives-means sU-means }

-- what stands behind its `ki` calls with no more characters ahead
calls-after-ki : CallsPast (line336 or line343 or line351)
calls-after-ki =
    let plural = calls-cut (calls-try (calls-open (calls-mark reads-lAr (calls-cut itself-at)))) in
    let from336 = calls-open (calls-or reads-lAr sure-try (calls-cut (calls-try itself-at)) (calls-mark reads-possessives plural)) in
    let from346 = calls-open-or reads-owning sure-try plural itself-at in
    let from343 = calls-group (calls-open-or reads-lArI sure-delete calls-delete from346) in
    let from351 = calls-or reads-lArI sure-delete calls-delete (calls-or reads-sU sure-try plural itself-past) in
    calls-or reads-DA sure-try (calls-cut (calls-try from336)) (calls-or reads-nUn sure-try (calls-cut (calls-try from343)) (calls-mark reads-ndA from351))

-- so in any state each of its calls is made with fewer
pub chain-calls-behind : CallsBehind (λ again. run backward again chain_body)
chain-calls-behind = calls-slice reads-ki (λ cs. post-map (λ k f h. omega arith) (ki-takes cs)) calls-after-ki

-- it does not matter how many calls deep it goes, where they are more than the characters ahead
pub chain-any-depth : (m n : ℕ) (s : State) → length (ahead s) < m → length (ahead s) < n
    → deep (λ again. run backward again chain_body) m s ≡ deep (λ again. run backward again chain_body) n s
chain-any-depth = deep-same chain-calls-behind

-- and the routine is its own text, inside which a call is the routine
pub chain-is-text : (self : State → Result) (s : State)
    → run backward self stem_suffix_chain_before_ki s ≡ run backward (run backward self stem_suffix_chain_before_ki) chain_body s
unfolding stem_suffix_chain_before_ki run
chain-is-text self s = routine-text backward self chain_body chain-calls-behind s
