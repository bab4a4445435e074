-- What the code passes over, put together: the first of two alternatives, one behind the other, and one that need not fit; each from what is
-- seen where the parts came to. Assumes nothing.
use Prim.Native.Nat.{ℕ}
use mathlib.Core.Path.{◌≡◌, refl, sym, ap, ap₂, ◌∙◌}
use mathlib.Core.Bool.{Bool, true}
use mathlib.Core.List.{List}
use native.Mathlib.Nat.{add-zero}
use lib.ListN.{drop}
use Rattle.std.specs.Prelude.{Option, Some, None}
use Rattle.std.specs.Option.{option_or, unwrap_or}
use Rattle.utf8.specs.declared.cursor.Cursor.{Cursor}
use Rattle.utf8.specs.Steps.{move_to}
use Rattle.utf8.specs.Behind.{behind, back_by, Open}
use Rattle.utf8.proofs.Laws.Behind.{behind-back_by, back_by-add, move_to-back_by, open-back_by}
use Rattle.theorems.specs.Simple.Grammar.{Out, fail, took, more, after, first, mark_of}
use Rattle.theorems.specs.Simple.NounMarks.{possessives, sU, ki}
use Rattle.theorems.specs.Simple.Nouns.{Taking, both, either, perhaps, plural, possessed, owned, owned_by_sU_of, link, chain}
use Rattle.theorems.proofs.Laws.Chain.{chain-text}
use Rattle.keys.specs.declared.seen.Seen.{Seen}
use Rattle.keys.specs.Passed.{passes}
use Rattle.keys.specs.Seen.{seen_at, Sees}
use Rattle.keys.proofs.Laws.Sees.{seen-c, sees-made}
use Rattle.marks.proofs.Laws.Marks.{place-reach}

-- ---- one answer ----

-- an answer that takes record c to record d
pub record Leads (w : List ℕ) (c : Cursor) (o : Out) (d : Cursor) : Type 0 where
  pub taken : ℕ
  pub flag : Bool
  pub is : o ≡ took taken flag
  pub there : d ≡ back_by w c taken

module _ (w : List ℕ) (c : Cursor) (o : Out) {p : Option ℕ} (is : p ≡ passes w c o) where
  -- where nothing is passed over, the answer is that it fails
  pub passes-none : p ≡ None → o ≡ fail
  unfolding passes
  passes-none = go o is
    where
      go : (o : Out) → p ≡ passes w c o → p ≡ None → o ≡ fail
      go fail e n = refl
      go (took k f) e n = cc

  -- where something is, the record moved there is where the answer leads
  pub leads-some : {at : ℕ} → p ≡ Some at → Leads w c o (move_to c at)
  unfolding passes
  leads-some = go o is
    where
      go : (o : Out) → p ≡ passes w c o → {at : ℕ} → p ≡ Some at → Leads w c o (move_to c at)
      go fail e m = cc
      go (took k f) e {at} m =
          let stands : at ≡ (back_by w c k).cursor = cc in
          record { taken = k; flag = f; is = refl; there = ap (move_to c) stands ∙ move_to-back_by w c k }

  -- and is open
  pub leads-open : Open w c → {at : ℕ} → p ≡ Some at → Open w (move_to c at)
  leads-open h e = let l = leads-some e in rw l.there (open-back_by w c l.taken h)

-- what is seen from there is seen rightly
pub step-sees : (w : List ℕ) (s : Seen) (o : Out) {t : Seen} {p : Option ℕ} {at : ℕ} → p ≡ passes w s.c o → Sees w s → p ≡ Some at
    → t ≡ seen_at w (move_to s.c at) → Sees w t
step-sees w s o is sees e to = sees-made w _ to (leads-open w s.c o is sees.opens e)

-- ---- the first of two ----

pub passes-either : (w : List ℕ) (c : Cursor) (f g : Taking) (cs : List ℕ)
    → passes w c (either f g cs) ≡ option_or (passes w c (f cs)) (passes w c (g cs))
unfolding either first passes
passes-either w c f g cs = go (f cs)
  where
    go : (o : Out) → passes w c (first o (g cs)) ≡ option_or (passes w c o) (passes w c (g cs))
    go fail = refl
    go (took k h) = refl

-- ---- one behind the other ----

-- so many characters taken before an answer: what it passes over is the same from the record back there
more-passes : (w : List ℕ) (c : Cursor) (k : ℕ) (f : Bool) (o : Out) → passes w (back_by w c k) o ≡ passes w c (more k f o)
unfolding more passes
more-passes w c k f fail = refl
more-passes w c k f (took j g) = ap (λ (x : Cursor). Some x.cursor) (back_by-add w c k j)

-- what need not fit passes over nothing where it fails
passes-perhaps : (w : List ℕ) (c : Cursor) (k : ℕ) (f : Bool) (o : Out)
    → Some (unwrap_or (passes w (back_by w c k) o) (back_by w c k).cursor) ≡ passes w c (more k f (first o (took 0 true)))
unfolding more passes first
passes-perhaps w c k f fail = ap (λ (n : ℕ). Some (back_by w c n).cursor) (sym (add-zero k))
passes-perhaps w c k f (took j g) = ap (λ (x : Cursor). Some x.cursor) (back_by-add w c k j)

module _ (w : List ℕ) (c : Cursor) (f g : Taking) {p : Option ℕ} (is : p ≡ passes w c (f (behind w c))) where
  -- where the first fails, so do both
  pub both-none : p ≡ None → None ≡ passes w c (both f g (behind w c))
  unfolding both after passes
  both-none e = sym (ap (λ (o : Out). passes w c (after o (λ k. g (drop k (behind w c))))) (passes-none w c (f (behind w c)) is e))

  module _ {at : ℕ} (e : p ≡ Some at) {t : Seen} (to : t ≡ seen_at w (move_to c at)) where
    abbrev pub lead : Leads w c (f (behind w c)) (move_to c at)
    lead = leads-some w c (f (behind w c)) is e

    -- what is seen there is seen from so many characters back
    pub there-c : t.c ≡ back_by w c lead.taken
    there-c = seen-c w (move_to c at) to ∙ lead.there

    pub there-behind : behind w t.c ≡ drop lead.taken (behind w c)
    there-behind = ap (behind w) there-c ∙ behind-back_by w c lead.taken

    -- the second from there
    there-reads : {A : Type 0} (F : Cursor → Out → A) → F t.c (g (behind w t.c)) ≡ F (back_by w c lead.taken) (g (drop lead.taken (behind w c)))
    there-reads F = ap₂ F there-c (ap g there-behind)

    -- both
    both-after : (h : Taking) → both f h (behind w c) ≡ more lead.taken lead.flag (h (drop lead.taken (behind w c)))
    unfolding both after
    both-after h = ap (λ (o : Out). after o (λ k. h (drop k (behind w c)))) lead.is

    module _ {r : Option ℕ} (then : r ≡ passes w t.c (g (behind w t.c))) where
      pub both-then : r ≡ passes w c (both f g (behind w c))
      both-then =
          then ∙ there-reads (passes w) ∙ more-passes w c lead.taken lead.flag (g (drop lead.taken (behind w c))) ∙ sym (ap (passes w c) (both-after g))

      -- where the second need not fit
      pub both-perhaps : {n : ℕ} → n ≡ unwrap_or r t.c.cursor → Some n ≡ passes w c (both f (perhaps g) (behind w c))
      unfolding perhaps
      both-perhaps at =
          ap Some at ∙ ap (λ (x : Option ℕ). Some (unwrap_or x t.c.cursor)) then
          ∙ there-reads (λ (d : Cursor) (o : Out). Some (unwrap_or (passes w d o) d.cursor))
          ∙ passes-perhaps w c lead.taken lead.flag (g (drop lead.taken (behind w c))) ∙ sym (ap (passes w c) (both-after (perhaps g)))

-- ---- either, with something behind it that need not fit ----

-- it may be tried behind each
pub both-either : (f g h : Taking) (cs : List ℕ) → both (either f g) (perhaps h) cs ≡ either (both f (perhaps h)) (both g (perhaps h)) cs
unfolding both either after first perhaps more
both-either f g h cs = go (f cs)
  where
    go : (o : Out) → after (first o (g cs)) (λ k. perhaps h (drop k cs)) ≡ first (after o (λ k. perhaps h (drop k cs))) (after (g cs) (λ k. perhaps h (drop k cs)))
    go fail = refl
    go (took k f) = fitted (h (drop k cs))
      where
        fitted : (q : Out) → more k f (first q (took 0 true)) ≡ first (more k f (first q (took 0 true))) (after (g cs) (λ k. perhaps h (drop k cs)))
        fitted fail = refl
        fitted (took j b) = refl

-- possessives or sU with what may follow, taken apart
pub owned-either : (chain : Taking) (cs : List ℕ) → owned chain cs ≡ either (possessed chain) (owned_by_sU_of chain) cs
unfolding owned possessed owned_by_sU_of
owned-either chain cs = both-either (mark_of possessives) (mark_of sU) (plural chain) cs

-- ---- the chain ----

-- it fails where no `ki` stands
pub chain-kiless : (w : List ℕ) (c : Cursor) {p : Option ℕ} → p ≡ passes w c (mark_of ki (behind w c)) → p ≡ None → None ≡ passes w c (chain (behind w c))
unfolding link
chain-kiless w c is e = both-none w c (mark_of ki) _ is e ∙ sym (ap (passes w c) (chain-text (behind w c)))

-- what the check of a mark's place, of a step and of what stands before it needs
pub ruleset steps = (place-reach, leads-open, step-sees, both-none, both-then, both-perhaps, passes-either, owned-either)
