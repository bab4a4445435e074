-- stem_noun_suffixes of the source is the noun stage of the simple form: its yes or no and the text that it leaves. Line 380 calls the chain
-- behind marks that stay, and line 384's lArI never fits, since it fails wherever sU does. Assumes nothing.
use Prim.Native.Nat.{ℕ, ◌+◌, ◌≤◌}
use mathlib.Core.Path.{◌≡◌, refl, sym, ap, ◌∙◌}
use mathlib.Core.Bool.{Bool, true, false}
use mathlib.Core.List.{List, [], ◌++◌}
use native.Mathlib.Omega.{arith}
use lib.ListN.{length, take, drop, take-append-drop}
use lib.Seq.{length-take-le, drop-drop}
use Rattle.theorems.specs.Simple.Grammar.{Out, fail, took, more, after, first, Mark, mark_of, mark, run as run_simple}
use Rattle.theorems.specs.Simple.Marks.{lAr}
use Rattle.theorems.specs.Simple.NounMarks.{sU, lArI, nA, ndA}
use Rattle.theorems.specs.Simple.Nouns.{Taking, both, either, perhaps, plural, owned, owned_by_sU_of, chain, after_ncA_of, pronominal, after_pronominal_of, after_ndAn_of, after_DAn_of, after_nUn_of}
use Rattle.theorems.specs.Simple.Nouns.{after_DA_of, Rest, whole, cut_by, parted_at, parted_by, noun_rest, rest_text, is_cut, noun_leaves, noun_yes}
use Rattle.turkish.specs.Snowball.{State, place, move_to, with_slice, Result, done, failed, and_then, or_else, backward, Command, ◌then◌, ◌or◌, try, ⟦, ⟧, delete, run}
use Rattle.turkish.specs.Source.{mark_possessives, mark_sU, mark_lArI, mark_yU, mark_nU, mark_nUn, mark_yA, mark_nA, mark_DA, mark_ndA, mark_DAn, mark_ndAn, mark_ylA, mark_ncA}
use Rattle.turkish.specs.Source.{mark_lAr, stem_suffix_chain_before_ki, stem_noun_suffixes}
use Rattle.turkish.specs.Answers.{entered, called, succeeded, left, uninflected, noun_stage}
use Rattle.theorems.proofs.Laws.Outcome.{Post, unfit, fits, first-fail, post-map, post-first}
use Rattle.theorems.proofs.Laws.Leaves.{run-leaves}
use Rattle.theorems.proofs.Laws.DeadMarks.{lArI-behind-sU}
use Rattle.theorems.proofs.Laws.Chain.{Alike, same, alike_both, alike-either, alike-perhaps}
use Rattle.theorems.proofs.Source.Means.{means-or, settled, placed, done-failed, done-state, failed-state}
use Rattle.theorems.proofs.Source.Marks.{lAr-means}
use Rattle.theorems.proofs.Source.NounMarks.{possessives-means, lArI-means, yU-means, nU-means, nUn-means, yA-means, nA-means, DA-means, ndA-means, DAn-means, ndAn-means, ylA-means, ncA-means}
use Rattle.theorems.proofs.Source.Cutting.{At, Past, at-opened, past-on, past-ahead, or_else-assoc, Leaves, Holds, Cuts, tries-as, opened-mark, opened-cut, opened-or, cuts-open}
use Rattle.theorems.proofs.Source.Cutting.{cuts-or, cuts-open-or-or, cuts-reopened, tries-cuts, tries-or, dead-mark, opened-or-dead, chooses-mark, chooses-or, chooses-cut}
use Rattle.theorems.proofs.Source.Cutting.{tries-cut, tries-again}
use Rattle.theorems.proofs.Source.NounChain.{opened-alone, tries-plural, opened-plural, opened-possessed, cuts-owned, opened-owned_by_sU_of, both-fails, chain-cuts}

-- ---- alternatives that cut at the end ----

-- what failed once fails again
first-again : (o u : Out) → first o (first u o) ≡ first o u
unfolding first
first-again fail u = first-fail u
first-again (took k b) u = refl

-- what follows lAr at line 398: the chain that failed before (398) fails again (402)
again-same : (cs : List ℕ)
    → either (both (mark_of lAr) (perhaps (either chain (either (owned chain) chain)))) (either (owned chain) chain) cs
    ≡ either (both (mark_of lAr) (perhaps (either chain (owned chain)))) (either (owned chain) chain) cs
again-same cs = (alike-either {n = length cs} (alike_both (mark_of lAr) (alike-perhaps twice)) same).alike cs (omega arith)
  where
    twice : {n : ℕ} → Alike n (either chain (either (owned chain) chain)) (either chain (owned chain))
    twice = record { alike = λ ds h. unfold either in first-again (chain ds) (owned chain ds) }

module _ {self : State → Result} where
  -- the chain, where it is called
  here : Cuts self stem_suffix_chain_before_ki chain
  here = chain-cuts self

  -- lines 364 to 370
  cuts-364 : Cuts self (⟦ then mark_ncA then ⟧ then delete then try (
      (⟦ then mark_lArI then ⟧ then delete)
      or (⟦ then mark_possessives or mark_sU then ⟧ then delete then try (⟦ then mark_lAr then ⟧ then delete then stem_suffix_chain_before_ki))
      or (⟦ then mark_lAr then ⟧ then delete then stem_suffix_chain_before_ki))) after_ncA_of
  unfolding after_ncA_of
  cuts-364 = cuts-open (opened-mark ncA-means (opened-cut (tries-or (cuts-open (opened-alone lArI-means)) (tries-or (cuts-owned here) (tries-plural here)))))

  -- line 384, whose lArI is dead
  cuts-384 : Cuts self (⟦ then (mark_ndAn or mark_nU) then
      ((mark_sU then ⟧ then delete then try (⟦ then mark_lAr then ⟧ then delete then stem_suffix_chain_before_ki)) or mark_lArI)) after_ndAn_of
  unfolding after_ndAn_of either owned_by_sU_of
  cuts-384 = cuts-open (opened-mark (means-or ndAn-means nU-means) (opened-or-dead (opened-owned_by_sU_of here)
      (dead-mark lArI-means (λ cs e. lArI-behind-sU cs (both-fails (mark_of sU) (plural chain) cs e)))))

  -- lines 386 to 392
  cuts-386 : Cuts self (⟦ then mark_DAn then ⟧ then delete then try (⟦ then (
      (mark_possessives then ⟧ then delete then try (⟦ then mark_lAr then ⟧ then delete then stem_suffix_chain_before_ki))
      or (mark_lAr then ⟧ then delete then try stem_suffix_chain_before_ki)
      or stem_suffix_chain_before_ki))) after_DAn_of
  unfolding after_DAn_of
  cuts-386 = cuts-open (opened-mark DAn-means (opened-cut (tries-cuts (cuts-open-or-or (opened-possessed here) (opened-plural here) here))))

  -- lines 396 to 402, of which 398 may delete and fail
  cuts-396 : Cuts self (⟦ then mark_nUn or mark_ylA then ⟧ then delete then try (
      (⟦ then mark_lAr then ⟧ then delete then stem_suffix_chain_before_ki)
      or (⟦ then mark_possessives or mark_sU then ⟧ then delete then try (⟦ then mark_lAr then ⟧ then delete then stem_suffix_chain_before_ki))
      or stem_suffix_chain_before_ki)) after_nUn_of
  unfolding after_nUn_of either
  cuts-396 =
      let may = tries-as (tries-again (chooses-mark lAr-means) here (tries-cuts (cuts-or (cuts-owned here) here))) again-same in
      cuts-open (opened-mark (means-or nUn-means ylA-means) (opened-cut may))

  -- line 410
  cuts-410 : Cuts self (⟦ then mark_DA or mark_yU or mark_yA then ⟧ then delete then try (⟦ then
      ((mark_possessives then ⟧ then delete then try (⟦ then mark_lAr)) or mark_lAr) then ⟧ then delete then ⟦ then stem_suffix_chain_before_ki)) after_DA_of
  unfolding after_DA_of either
  cuts-410 =
      let may = tries-cut (chooses-or (chooses-cut possessives-means (chooses-mark lAr-means)) (chooses-mark lAr-means)) (cuts-reopened here) in
      cuts-open (opened-mark (means-or DA-means (means-or yU-means yA-means)) (opened-cut may))

-- ---- what the stage leaves ----

-- a result tells what the stage leaves of the characters: yes or no, and the text
abbrev Tells : List ℕ → Rest → Result → Type 0
Tells cs w r = uninflected r ≡ record { yes = is_cut w; text = rest_text w cs }

-- at the text's end the command leaves what the function says
record Rests (self : State → Result) (c : Command) (f : List ℕ → Rest) : Type 0 where
  tells : (cs : List ℕ) (s : State) → At [] cs s → Tells cs (f cs) (run backward self c s)

-- a text that is left, with a yes
told-cut : (ds : List ℕ) (t : State) → t.text ≡ ds → uninflected (done t) ≡ record { yes = true; text = ds }
unfolding uninflected succeeded left
told-cut ds t e = ap (λ (x : List ℕ). record { yes = true; text = x }) e

-- an alternative, and what the later ones leave
tells-or : (cs : List ℕ) (c : ℕ) (q : State → Result) (w : Rest) (o : Out) (r : Result) → c ≡ 0 → Leaves [] cs o r
    → ((t : State) → At [] cs t → Tells cs w (q t)) → Tells cs (cut_by o w) (or_else c r q)
unfolding Leaves or_else move_to cut_by is_cut rest_text
tells-or cs c q w fail r e (t, x, y) h = rw x (h (move_to t c) (record { text-is = y; cursor-is = e }))
tells-or cs c q w (took k f) r e (t, x, y) h = rw x (told-cut (drop k cs) t y.text-is)

-- the last alternative
tells-last : (cs : List ℕ) (o : Out) (r : Result) → Leaves [] cs o r → Tells cs (cut_by o whole) r
unfolding Leaves cut_by is_cut rest_text uninflected succeeded left
tells-last cs fail r (t, x, y) = rw x (ap (λ (ds : List ℕ). record { yes = false; text = ds }) y)
tells-last cs (took k f) r (t, x, y) = rw x (told-cut (drop k cs) t y.text-is)

-- line 380: the chain behind marks that stay, and what the later alternatives leave
tells-parted : (cs : List ℕ) (j c : ℕ) (q : State → Result) (w : Rest) (o : Out) (r : Result) → c ≡ 0 → Leaves (take j cs) (drop j cs) o r
    → ((t : State) → At [] cs t → Tells cs w (q t)) → Tells cs (parted_at j o w) (or_else c r q)
unfolding Leaves or_else move_to parted_at is_cut rest_text
tells-parted cs j c q w fail r e (t, x, y) h = rw x (h (move_to t c) (record { text-is = y ∙ take-append-drop j cs; cursor-is = e }))
tells-parted cs j c q w (took k f) r e (t, x, y) h =
    rw x (told-cut (take j cs ++ drop (j + k) cs) t (y.text-is ∙ ap (λ (ds : List ℕ). take j cs ++ ds) (drop-drop k j cs)))

-- the marks of line 374 are passed: what is cut with them (376, 378), or else the chain (380)
tells-behind : (cs : List ℕ) (j c i : ℕ) (b : Bool) (d q : State → Result) (w : Rest) (g o : Out) (r : Result) → c ≡ 0 → i ≡ j → j ≤ length cs
    → Holds [] cs (more j true g) r → ((t : State) → At (take j cs) (drop j cs) t → Leaves (take j cs) (drop j cs) o (d t))
    → ((t : State) → At [] cs t → Tells cs w (q t)) → Tells cs (cut_by (more j b g) (parted_at j o w)) (or_else c (or_else i r d) q)
unfolding Holds more or_else move_to cut_by is_cut rest_text
tells-behind cs j c i b d q w fail o r e n l (t, x, y, z) f h =
    rw x (tells-parted cs j c q w o (d (move_to t i)) e
    (f (move_to t i) (record { text-is = y ∙ sym (take-append-drop j cs); cursor-is = n ∙ sym (length-take-le j cs l) })) h)
tells-behind cs j c i b d q w (took k a) o r e n l (t, x, y) f h = rw x (told-cut (drop (j + k) cs) t y.text-is)

-- the marks of line 374 and what follows them: something that cuts what g takes, or else the chain, which cuts what f takes
tells-marks : (cs : List ℕ) (s : State) (c : ℕ) (x d n q : State → Result) (g f : Taking) (w : Rest) → c ≡ 0 → Past [] cs 0 s
    → ((i : ℕ) (t : State) → Past [] cs i t → Holds [] cs (more i true (g (drop i cs))) (x t))
    → ((p ds : List ℕ) (t : State) → At p ds t → Leaves p ds (f ds) (d t))
    → ((t : State) → n t ≡ or_else t.cursor (x t) d)
    → ((t : State) → At [] cs t → Tells cs w (q t))
    → {o : Out} → Post (λ j. j ≤ length cs) o → (v : Result) → settled s.cursor v ≡ placed s o
    → Tells cs (cut_by (after o (λ j. g (drop j cs))) (parted_by o (λ j. f (drop j cs)) w)) (or_else c (and_then v n) q)
unfolding settled placed and_then after parted_by move_to cut_by
tells-marks cs s c x d n q g f w e h y z m k unfit (done t) a = done-failed a
tells-marks cs s c x d n q g f w e h y z m k unfit (failed t) a =
    tells-or cs c q w fail (failed t) e (unfold Leaves in (t, refl, ap (λ (u : State). u.text) (failed-state a) ∙ h.text-is)) k
tells-marks cs s c x d n q g f w e h y z m k (fits j {f = b} l) (done t) a =
    let u = move_to s (s.cursor + j) in
    let sum : 0 + j ≡ j = omega arith in
    let past : Past [] cs j u = rw sum at (past-on [] cs 0 j s h) in
    let at : s.cursor + j ≡ j = past.cursor-is ∙ sum in
    rw (done-state a, m u) (tells-behind cs j c (s.cursor + j) b d q w (g (drop j cs)) (f (drop j cs)) (x u) e at l (y j u past) (z (take j cs) (drop j cs)) k)
tells-marks cs s c x d n q g f w e h y z m k (fits j l) (failed t) a = done-failed (sym a)

-- ---- the stage ----

-- what the marks that stay take is there
mark-within : (m : Mark) (cs : List ℕ) → Post (λ k. k ≤ length cs) (mark_of m cs)
unfolding run_simple
mark-within m cs = post-map (λ k f h. omega arith) (run-leaves (mark m) 0 cs (omega arith))

-- lines 376 and 378, as they stand in the source
abbrev line376 : Command
line376 = mark_lArI then ⟧ then delete

abbrev line378 : Command
line378 = mark_sU then ⟧ then delete then try (⟦ then mark_lAr then ⟧ then delete then stem_suffix_chain_before_ki)

module _ {self : State → Result} where
  -- an alternative before others
  rests-or : {c d : Command} {f : Taking} {w : List ℕ → Rest} → Cuts self c f → Rests self d w → Rests self (c or d) (λ cs. cut_by (f cs) (w cs))
  unfolding run
  rests-or {c} {d} {f} {w} x y = record {
    tells = λ cs s h. tells-or cs s.cursor (run backward self d) (w cs) (f cs) (run backward self c s) h.cursor-is (x.cuts [] cs s h) (λ t k. y.tells cs t k);
  }

  -- the last one
  rests-last : {c : Command} {f : Taking} → Cuts self c f → Rests self c (λ cs. cut_by (f cs) whole)
  rests-last {c} {f} x = record { tells = λ cs s h. tells-last cs (f cs) (run backward self c s) (x.cuts [] cs s h) }

  -- lines 374 to 380 before others
  rests-374 : {d : Command} {w : List ℕ → Rest} → Rests self d w
      → Rests self ((⟦ then (mark_ndA or mark_nA) then (line376 or line378 or stem_suffix_chain_before_ki)) or d)
      (λ cs. cut_by (after_pronominal_of cs) (parted_by (pronominal cs) (λ j. chain (drop j cs)) (w cs)))
  unfolding run and_then with_slice after_pronominal_of pronominal both either
  rests-374 {d} {w} y = record {
    tells = λ cs s h.
        let u = with_slice s (place s) s.bra in
        let past = at-opened [] cs s h in
        let call = run backward self stem_suffix_chain_before_ki in
        tells-marks cs u s.cursor (run backward self (line376 or line378)) call (run backward self (line376 or line378 or stem_suffix_chain_before_ki))
        (run backward self d) (either (mark_of lArI) (owned_by_sU_of chain)) chain (w cs) h.cursor-is past
        (λ i t k. (opened-or (opened-alone lArI-means) (opened-owned_by_sU_of here)).cuts [] cs i t k) (λ p ds t k. here.cuts p ds t k)
        (λ t. sym (or_else-assoc t.cursor (run backward self line376 t) (run backward self line378) call)) (λ t k. y.tells cs t k)
        (post-first (mark-within ndA cs) (mark-within nA cs)) (run backward self (mark_ndA or mark_nA) u)
        ((means-or ndA-means nA-means).on-state self u ∙ ap (λ (ds : List ℕ). placed u (pronominal ds)) (past-ahead [] cs 0 u past));
  }

-- the whole stage, its alternatives in the source's order
noun-rests : {self : State → Result} → Rests self stem_noun_suffixes noun_rest
unfolding stem_noun_suffixes noun_rest run
noun-rests =
    let later = rests-or (cuts-open (opened-alone lArI-means)) (rests-or here (rests-or cuts-410 (rests-last (cuts-owned here)))) in
    let middle = rests-374 (rests-or cuts-384 (rests-or cuts-386 (rests-or cuts-396 later))) in
    record { tells = (rests-or (cuts-open (opened-plural here)) (rests-or cuts-364 middle)).tells }

-- in any state at the text's end, whatever the other variables hold
pub noun-answers : (s : State) → s.cursor ≡ 0
    → uninflected (called backward stem_noun_suffixes s) ≡ record { yes = noun_yes s.text; text = noun_leaves s.text }
unfolding called noun_yes noun_leaves
noun-answers s h = noun-rests.tells s.text s (record { text-is = refl; cursor-is = h })

-- so of a word
pub noun_stage-simple : (cs : List ℕ) → noun_stage cs ≡ record { yes = noun_yes cs; text = noun_leaves cs }
unfolding noun_stage entered
noun_stage-simple cs = noun-answers (entered cs) refl
