-- What the noun stage leaves of a word, in the simple form: never more characters than there were, fewer exactly where it says yes, and of
-- which shape the text is. Assumes nothing.
use Prim.Native.Nat.{ℕ, zero, suc, ◌+◌, ◌≤◌}
use mathlib.Core.Path.{◌≡◌, refl, sym, ap, ◌∙◌}
use mathlib.Core.Bool.{Bool, true, false, not, ◌||◌, or-true, false≢true, true≢false}
use mathlib.Core.List.{List, [], ◌∷◌, ◌++◌, map}
use native.Mathlib.Omega.{arith}
use lib.ListN.{length, take, drop, length-drop}
use lib.Seq.{take-append_seam}
use Rattle.utf8.specs.Steps.{same}
use Rattle.utf8.proofs.WholeLiterals.{same_refl}
use Rattle.encoding.proofs.Laws.Booleans.{cond-test}
use Rattle.turkish.specs.Letters.{text, from_end, starts}
use Rattle.theorems.specs.Fronts.{one_of}
use Rattle.theorems.specs.Simple.Harmony.{harmony}
use Rattle.theorems.specs.Simple.Grammar.{Out, among, Mark, mark_of, mark, run}
use Rattle.theorems.specs.Simple.Marks.{unjoined, marked, lAr}
use Rattle.theorems.specs.Simple.NounMarks.{letters_U, possessives, sU, lArI, yU, nU, nUn, yA, nA, DA, ndA, DAn, ndAn, ylA, ki, ncA}
use Rattle.theorems.specs.Simple.Nouns.{Taking, both, either, perhaps, plural, possessed, owned, owned_by_sU_of, link, chain_within, chain, after_ncA_of, pronominal, after_pronominal_of}
use Rattle.theorems.specs.Simple.Nouns.{after_ndAn_of, after_DAn_of, after_nUn_of, after_DA_of, Rest, whole, cut, parted, cut_by, parted_at, parted_by, noun_rest, rest_text, is_cut, noun_leaves}
use Rattle.theorems.specs.Simple.Nouns.{noun_yes}
use Rattle.theorems.proofs.Laws.Tests.{every}
use Rattle.theorems.proofs.Laws.Same.{one_of-every}
use Rattle.theorems.proofs.Laws.Outcome.{Post, unfit, fits, post-map, post-both, post-first, post-asking, post-then, post-joining}
use Rattle.theorems.proofs.Laws.Bounds.{shortest, least, run-least}
use Rattle.theorems.proofs.Laws.Leaves.{run-leaves}
use Rattle.theorems.proofs.Laws.Syllables.{starts-split}

-- ---- how many characters are taken ----

-- n at least, and no more than there are
pub record Takes (n : ℕ) (f : Taking) : Type 0 where
  pub taken : (cs : List ℕ) → Post (λ k. (n ≤ k) × (k ≤ length cs)) (f cs)

-- a mark all of whose keys have a letter takes one at least
mark-takes : (m : Mark) → shortest m.keys ≡ 1 → Takes 1 (mark_of m)
unfolding run least
mark-takes m e =
    record { taken = λ cs. post-map (λ k f h. omega arith) (post-both (run-least (mark m) cs) (run-leaves (mark m) 0 cs (omega arith))) }

-- one after the other takes at least what the first takes
takes-both : {m n : ℕ} {f g : Taking} → Takes m f → Takes n g → Takes m (both f g)
unfolding both
takes-both x y =
    record { taken = λ cs. post-then (x.taken cs) (λ k f p. post-map (λ j g q. omega (arith, length-drop k cs)) (y.taken (drop k cs))) }

-- the first of two what both take
takes-either : {n : ℕ} {f g : Taking} → Takes n f → Takes n g → Takes n (either f g)
unfolding either
takes-either x y = record { taken = λ cs. post-first (x.taken cs) (y.taken cs) }

-- and what need not fit none
takes-perhaps : {n : ℕ} {f : Taking} → Takes n f → Takes 0 (perhaps f)
unfolding perhaps
takes-perhaps x = record { taken = λ cs. post-first (post-map (λ k f h. omega arith) (x.taken cs)) (fits 0 (omega arith)) }

-- ---- the chain ----

-- the groups, and a link of the chain, take one at least where the chain does
module _ {chain : Taking} (c : Takes 1 chain) where
  plural-takes : Takes 1 (plural chain)
  unfolding plural lAr marked from_end text shortest
  plural-takes = takes-both (mark-takes lAr refl) (takes-perhaps c)

  possessed-takes : Takes 1 (possessed chain)
  unfolding possessed possessives marked from_end text shortest
  possessed-takes = takes-both (mark-takes possessives refl) (takes-perhaps plural-takes)

  owned-takes : Takes 1 (owned chain)
  unfolding owned possessives sU marked letters_U from_end text shortest
  owned-takes = takes-both (takes-either (mark-takes possessives refl) (mark-takes sU refl)) (takes-perhaps plural-takes)

  owned_by_sU_of-takes : Takes 1 (owned_by_sU_of chain)
  unfolding owned_by_sU_of sU marked letters_U from_end text shortest
  owned_by_sU_of-takes = takes-both (mark-takes sU refl) (takes-perhaps plural-takes)

  link-takes : Takes 1 (link chain)
  unfolding link ki DA nUn lArI marked from_end text shortest
  link-takes =
      takes-both (mark-takes ki refl)
      (takes-either (takes-both (mark-takes DA refl) (takes-perhaps (takes-either plural-takes possessed-takes)))
      (takes-both (mark-takes nUn refl) (takes-perhaps (takes-either (mark-takes lArI refl) (takes-either owned-takes c)))))

-- the chain of any depth, by that
chain_within-takes : (n : ℕ) → Takes 1 (chain_within n)
unfolding chain_within
chain_within-takes zero = record { taken = λ cs. unfit }
chain_within-takes (suc n) = record { taken = (link-takes (chain_within-takes n)).taken }

-- and so the chain
pub chain-takes : Takes 1 chain
unfolding chain
chain-takes = record { taken = λ cs. (chain_within-takes (suc (length cs))).taken cs }

-- ---- the stage's alternatives ----

-- each of them takes one at least, as its first mark does
after_ncA_of-takes : Takes 1 after_ncA_of
unfolding after_ncA_of ncA lArI marked from_end text shortest
after_ncA_of-takes =
    takes-both (mark-takes ncA refl)
    (takes-perhaps (takes-either (mark-takes lArI refl) (takes-either (owned-takes chain-takes) (plural-takes chain-takes))))

pronominal-takes : Takes 1 pronominal
unfolding pronominal ndA nA marked from_end text shortest
pronominal-takes = takes-either (mark-takes ndA refl) (mark-takes nA refl)

after_pronominal_of-takes : Takes 1 after_pronominal_of
unfolding after_pronominal_of lArI marked from_end text shortest
after_pronominal_of-takes = takes-both pronominal-takes (takes-either (mark-takes lArI refl) (owned_by_sU_of-takes chain-takes))

after_ndAn_of-takes : Takes 1 after_ndAn_of
unfolding after_ndAn_of ndAn nU marked from_end text shortest
after_ndAn_of-takes = takes-both (takes-either (mark-takes ndAn refl) (mark-takes nU refl)) (owned_by_sU_of-takes chain-takes)

after_DAn_of-takes : Takes 1 after_DAn_of
unfolding after_DAn_of DAn marked from_end text shortest
after_DAn_of-takes =
    takes-both (mark-takes DAn refl)
    (takes-perhaps (takes-either (possessed-takes chain-takes) (takes-either (plural-takes chain-takes) chain-takes)))

after_nUn_of-takes : Takes 1 after_nUn_of
unfolding after_nUn_of nUn ylA lAr marked from_end text shortest
after_nUn_of-takes =
    takes-both (takes-either (mark-takes nUn refl) (mark-takes ylA refl))
    (takes-perhaps
    (takes-either (takes-both (mark-takes lAr refl) (takes-perhaps (takes-either chain-takes (owned-takes chain-takes))))
    (takes-either (owned-takes chain-takes) chain-takes)))

after_DA_of-takes : Takes 1 after_DA_of
unfolding after_DA_of DA yU yA possessives lAr marked letters_U from_end text shortest
after_DA_of-takes =
    takes-both (takes-either (mark-takes DA refl) (takes-either (mark-takes yU refl) (mark-takes yA refl)))
    (takes-perhaps
    (takes-both (takes-either (takes-both (mark-takes possessives refl) (takes-perhaps (mark-takes lAr refl))) (mark-takes lAr refl))
    (takes-perhaps chain-takes)))

-- ---- the marks that stay behind a cut ----

-- what the marks ndA and nA take
unfoldable pub staying : List (List ℕ)
staying = map from_end ("na" ∷ "ne" ∷ "nda" ∷ "nde" ∷ [])

-- a table takes one of its keys
among_one : (ks : List (List ℕ)) (cs : List ℕ) → Post (λ k. one_of ks (take k cs) ≡ true) (among ks cs)
unfolding among one_of
among_one [] cs = unfit
among_one (k ∷ ks) cs =
    cond-test (Post (λ j. one_of (k ∷ ks) (take j cs) ≡ true)) (starts k cs)
    (λ e. let t : take (length k) cs ≡ k = ap (take (length k)) (sym (starts-split k cs e)) ∙ take-append_seam k (drop (length k) cs) in
    fits (length k) (rw (t, same_refl k)))
    (post-map (λ j f h. ap (λ (t : Bool). same (take j cs) k || t) h ∙ or-true (same (take j cs) k)) (among_one ks cs))

-- so does a mark that nothing joins
unjoined-one : (m : Mark) (cs : List ℕ) → m.joint.asked ≡ false → Post (λ k. one_of m.keys (take k cs) ≡ true) (mark_of m cs)
unfolding mark_of
unjoined-one m cs n =
    post-asking (not m.harmonic || harmony cs) λ t.
    post-then (among_one m.keys cs) λ k f p.
    post-joining m.joint (drop k cs) (λ a. let e : k + 0 ≡ k = omega arith in rw e p) (λ c d ds a e. absurd (false≢true (sym n ∙ a)))

-- what stays behind the chain is na, ne, nda or nde
pronominal-stays : (cs : List ℕ) → Post (λ j. one_of staying (take j cs) ≡ true) (pronominal cs)
unfolding pronominal either ndA nA marked unjoined staying one_of same every from_end text
pronominal-stays cs =
    post-first
    (post-map (λ j f h. one_of-every (one_of staying) ndA.keys (take j cs) refl h) (unjoined-one ndA cs refl))
    (post-map (λ j f h. one_of-every (one_of staying) nA.keys (take j cs) refl h) (unjoined-one nA cs refl))

-- ---- what the stage leaves ----

-- all of the characters; all but some at the end; or na, ne, nda or nde at the end, and all but some before those
pub data Rests (cs : List ℕ) : Rest → Type 0 where
  all : Rests cs whole
  shorter : (k : ℕ) → 1 ≤ k → k ≤ length cs → Rests cs (cut k)
  closer : (j k : ℕ) → one_of staying (take j cs) ≡ true → 1 ≤ k → j + k ≤ length cs → Rests cs (parted j k)

-- an alternative, and what the later ones leave
cut_by-rests : {cs : List ℕ} {o : Out} {r : Rest} → Post (λ k. (1 ≤ k) × (k ≤ length cs)) o → Rests cs r → Rests cs (cut_by o r)
unfolding cut_by
cut_by-rests unfit y = y
cut_by-rests (fits k p) y = shorter k p.0 p.1

-- the chain before the marks that stay, and what the later ones leave
parted_by-rests : (cs : List ℕ) {o : Out} {r : Rest} (q : ℕ → Out) → Post (λ j. (one_of staying (take j cs) ≡ true) × ((1 ≤ j) × (j ≤ length cs))) o
    → ((j : ℕ) → Post (λ k. (1 ≤ k) × (k ≤ length (drop j cs))) (q j)) → Rests cs r → Rests cs (parted_by o q r)
unfolding parted_by parted_at
parted_by-rests cs q unfit h y = y
parted_by-rests cs {r = r} q (fits j p) h y = go (h j)
  where
    go : {u : Out} → Post (λ k. (1 ≤ k) × (k ≤ length (drop j cs))) u → Rests cs (parted_at j u r)
    go unfit = y
    go (fits k b) = closer j k p.0 b.0 (omega (arith, length-drop j cs))

-- so the stage leaves one of these
pub noun_rest-rests : (cs : List ℕ) → Rests cs (noun_rest cs)
unfolding noun_rest lArI marked from_end text shortest
noun_rest-rests cs =
    cut_by-rests ((plural-takes chain-takes).taken cs)
    (cut_by-rests (after_ncA_of-takes.taken cs)
    (cut_by-rests (after_pronominal_of-takes.taken cs)
    (parted_by-rests cs (λ j. chain (drop j cs)) (post-both (pronominal-stays cs) (pronominal-takes.taken cs)) (λ j. chain-takes.taken (drop j cs))
    (cut_by-rests (after_ndAn_of-takes.taken cs)
    (cut_by-rests (after_DAn_of-takes.taken cs)
    (cut_by-rests (after_nUn_of-takes.taken cs)
    (cut_by-rests ((mark-takes lArI refl).taken cs)
    (cut_by-rests (chain-takes.taken cs)
    (cut_by-rests (after_DA_of-takes.taken cs)
    (cut_by-rests ((owned-takes chain-takes).taken cs) all))))))))))

-- ---- its text ----

-- where nothing is it is the word's
pub noun-no-keeps : (cs : List ℕ) → noun_yes cs ≡ false → noun_leaves cs ≡ cs
unfolding noun_yes noun_leaves is_cut rest_text
noun-no-keeps cs = go (noun_rest cs)
  where
    go : (r : Rest) → is_cut r ≡ false → rest_text r cs ≡ cs
    go whole e = refl
    go (cut k) e = absurd (true≢false e)
    go (parted j k) e = absurd (true≢false e)

-- the shape of what is left, the last character first: a front part of the word; or such a part followed by the word's own last na, ne, nda
-- or nde, with something cut between them
pub data Shape (cs ds : List ℕ) : Type 0 where
  front : (k : ℕ) → k ≤ length cs → ds ≡ drop k cs → Shape cs ds
  closed : (j k : ℕ) → one_of staying (take j cs) ≡ true → 1 ≤ k → j + k ≤ length cs → ds ≡ take j cs ++ drop (j + k) cs → Shape cs ds

-- the noun stage's text has it
pub noun-shape : (cs : List ℕ) → Shape cs (noun_leaves cs)
unfolding noun_leaves rest_text
noun-shape cs = go (noun_rest-rests cs)
  where
    go : {r : Rest} → Rests cs r → Shape cs (rest_text r cs)
    go all = front 0 (omega arith) refl
    go (shorter k p q) = front k q refl
    go (closer j k o p q) = closed j k o p q refl
