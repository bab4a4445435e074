-- What the noun stage's lines leave of a text, by the places that they came to: a line that is cut, the chain cut before marks that stay, and the
-- first line that fits. Assumes nothing.
use Prim.Native.Nat.{ℕ}
use mathlib.Core.Path.{◌≡◌, refl, sym, ap, ap₂, ◌∙◌}
use mathlib.Core.List.{List}
use lib.ListN.{drop}
use Rattle.std.specs.Prelude.{Option, Some, None}
use Rattle.std.specs.Option.{option_or, option_map}
use Rattle.utf8.specs.declared.cursor.Cursor.{Cursor}
use Rattle.utf8.specs.Steps.{move_to}
use Rattle.utf8.specs.Behind.{behind, back_by}
use Rattle.utf8.proofs.Laws.Behind.{back_by-add, behind-before}
use Rattle.theorems.specs.Simple.Grammar.{Out, fail, took, first, mark_of}
use Rattle.theorems.specs.Simple.NounMarks.{lArI}
use Rattle.theorems.specs.Simple.Nouns.{Taking, either, chain, plural, owned, after_ncA_of, pronominal, after_pronominal_of, after_ndAn_of, after_DAn_of, after_nUn_of, after_DA_of, Rest, whole, cut, parted}
use Rattle.theorems.specs.Simple.Nouns.{cut_by, parted_at, parted_by, noun_rest}
use Rattle.keys.specs.declared.seen.Seen.{Seen}
use Rattle.keys.specs.Passed.{passes}
use Rattle.keys.specs.Seen.{seen_at}
use Rattle.keys.proofs.Laws.Sees.{seen-c}
use Rattle.nouns.specs.declared.stage.Uninflected.{Uninflected}
use Rattle.nouns.specs.Stage.{left_at, uninflected_of, later_lines_of, pronominal_rest, near_pronominal_of}
use Rattle.nouns.proofs.Laws.Passing.{lead, there-c, there-behind, passes-none, both-none, both-then}

-- ---- a line ----

-- the text cut at a place
abbrev pub cut_at : Cursor → ℕ → Uninflected
cut_at c at = record { front = at; from = c.cursor }

-- a line that fits is cut, and where it does not, the later ones leave what they leave
pub left-cut : (w : List ℕ) (c : Cursor) (o : Out) (r : Rest) → left_at w c (cut_by o r) ≡ option_or (option_map (cut_at c) (passes w c o)) (left_at w c r)
unfolding cut_by left_at passes
left-cut w c fail r = refl
left-cut w c (took k f) r = refl

-- ---- what is cut before marks that stay ----

module _ (w : List ℕ) (c : Cursor) (f g : Taking) {p : Option ℕ} (is : p ≡ passes w c (f (behind w c))) where
  -- where the marks fail, nothing is
  pub parted-none : p ≡ None → None ≡ left_at w c (parted_by (f (behind w c)) (λ j. g (drop j (behind w c))) whole)
  unfolding parted_by left_at
  parted-none e = sym (ap (λ (o : Out). left_at w c (parted_by o (λ j. g (drop j (behind w c))) whole)) (passes-none w c (f (behind w c)) is e))

  -- else what is before them, where that fits
  pub parted-some : {at : ℕ} → p ≡ Some at → {t : Seen} → t ≡ seen_at w (move_to c at) → {r : Option ℕ} → r ≡ passes w t.c (g (behind w t.c))
      → option_map (cut_at t.c) r ≡ left_at w c (parted_by (f (behind w c)) (λ j. g (drop j (behind w c))) whole)
  unfolding parted_by parted_at left_at passes
  parted-some e {t} to then =
      let l = lead w c f g is e to in
      let cs = behind w c in
      ap (option_map (cut_at t.c)) then
      ∙ ap₂ (λ (d : Cursor) (ds : List ℕ). option_map (cut_at d) (passes w d (g ds))) (there-c w c f g is e to) (there-behind w c f g is e to)
      ∙ go l.taken (g (drop l.taken cs))
      ∙ sym (ap (λ (o : Out). left_at w c (parted_by o (λ j. g (drop j cs)) whole)) l.is)
    where
      go : (j : ℕ) (o : Out) → option_map (cut_at (back_by w c j)) (passes w (back_by w c j) o) ≡ left_at w c (parted_at j o whole)
      go j fail = refl
      go j (took k h) = ap (λ (x : Cursor). Some (record { front = x.cursor; from = (back_by w c j).cursor })) (back_by-add w c j k)

-- ---- one line after the other ----

-- what some lines leave, or what later ones do where those leave the whole text
unfoldable pub or_rest : Rest → Rest → Rest
or_rest whole r = r
or_rest (cut k) r = cut k
or_rest (parted j k) r = parted j k

left-or : (w : List ℕ) (c : Cursor) (q r : Rest) → left_at w c (or_rest q r) ≡ option_or (left_at w c q) (left_at w c r)
unfolding or_rest left_at
left-or w c whole r = refl
left-or w c (cut k) r = refl
left-or w c (parted j k) r = refl

-- the first of two lines is the one and then the other
cut-either : (f g : Taking) (cs : List ℕ) (r : Rest) → cut_by (either f g cs) r ≡ cut_by (f cs) (cut_by (g cs) r)
unfolding either first cut_by
cut-either f g cs r = go (f cs)
  where
    go : (o : Out) → cut_by (first o (g cs)) r ≡ cut_by o (cut_by (g cs) r)
    go fail = refl
    go (took k h) = refl

-- a line and the one that cuts before marks that stay are two lines before later ones
or-parted : (o p : Out) (q : ℕ → Out) (r : Rest) → or_rest (cut_by o (parted_by p q whole)) r ≡ cut_by o (parted_by p q r)
unfolding or_rest cut_by parted_by parted_at
or-parted fail fail q r = refl
or-parted fail (took j f) q r = go (q j)
  where
    go : (o : Out) → or_rest (parted_at j o whole) r ≡ parted_at j o r
    go fail = refl
    go (took k h) = refl
or-parted (took k f) p q r = refl

-- the lines as the code tries them: what is left from each step on
abbrev pub from_later : List ℕ → Rest
from_later cs = cut_by (later_lines_of cs) whole

abbrev pub from_pronominal : List ℕ → Rest
from_pronominal cs = or_rest (pronominal_rest cs) (from_later cs)

abbrev pub from_ncA : List ℕ → Rest
from_ncA cs = cut_by (after_ncA_of cs) (from_pronominal cs)

abbrev pub from_plural : List ℕ → Rest
from_plural cs = cut_by (plural chain cs) (from_ncA cs)

module _ (cs : List ℕ) where
  -- the later ones, one by one
  each-later : from_later cs
      ≡ cut_by (after_ndAn_of cs) (cut_by (after_DAn_of cs) (cut_by (after_nUn_of cs) (cut_by (mark_of lArI cs) (cut_by (chain cs) (cut_by (after_DA_of cs) (cut_by (owned chain cs) whole))))))
  unfolding later_lines_of
  each-later = simp cut-either

  -- and all of them
  each_line : from_plural cs ≡ noun_rest cs
  unfolding noun_rest pronominal_rest
  each_line =
      let q : ℕ → Out = λ j. chain (drop j cs) in
      ap (λ (r : Rest). cut_by (plural chain cs) (cut_by (after_ncA_of cs) r))
      (or-parted (after_pronominal_of cs) (pronominal cs) q (from_later cs) ∙ ap (λ (r : Rest). cut_by (after_pronominal_of cs) (parted_by (pronominal cs) q r)) each-later)

-- ---- the lines as the code tries them ----

-- lines 374 to 380
module _ (w : List ℕ) (c : Cursor) where
  marks_stay : Rest
  marks_stay = parted_by (pronominal (behind w c)) (λ j. chain (drop j (behind w c))) whole

  after-pronominal : {q : Option ℕ} → q ≡ passes w c (after_pronominal_of (behind w c))
      → option_or (option_map (cut_at c) q) (left_at w c marks_stay) ≡ left_at w c (pronominal_rest (behind w c))
  unfolding pronominal_rest marks_stay
  after-pronominal e =
      ap (λ (x : Option ℕ). option_or (option_map (cut_at c) x) (left_at w c marks_stay)) e
      ∙ sym (left-cut w c (after_pronominal_of (behind w c)) marks_stay)

  module _ {p : Option ℕ} (is : p ≡ passes w c (pronominal (behind w c))) where
    -- neither ndA nor nA
    pub pronominal-fails : p ≡ None → None ≡ left_at w c (pronominal_rest (behind w c))
    unfolding after_pronominal_of near_pronominal_of marks_stay
    pronominal-fails e = parted-none w c pronominal chain is e ∙ after-pronominal (both-none w c pronominal near_pronominal_of is e)

    module _ {at : ℕ} (e : p ≡ Some at) {t : Seen} (to : t ≡ seen_at w (move_to c at)) {q : Option ℕ}
        (near : q ≡ passes w t.c (near_pronominal_of (behind w t.c))) where
      behind-both : q ≡ passes w c (after_pronominal_of (behind w c))
      unfolding after_pronominal_of near_pronominal_of
      behind-both = both-then w c pronominal near_pronominal_of is e to near

      -- what stands before them is cut with them
      pub pronominal-cut : {front : ℕ} → q ≡ Some front → Some (cut_at c front) ≡ left_at w c (pronominal_rest (behind w c))
      pronominal-cut f = after-pronominal (sym f ∙ behind-both)

      -- or the chain before them, and they stay
      pub pronominal-parted : q ≡ None → {r : Option ℕ} → r ≡ passes w t.c (chain (behind w t.c))
          → option_map (cut_at t.c) r ≡ left_at w c (pronominal_rest (behind w c))
      unfolding marks_stay
      pronominal-parted f then = parted-some w c pronominal chain is e to then ∙ after-pronominal (sym f ∙ behind-both)

-- alternatives, the first two of which are cut alike
regroup : {A B : Type 0} (f : A → B) (p q : Option A) (r t : Option B)
    → option_or (option_map f p) (option_or (option_map f q) (option_or r t)) ≡ option_or (option_or (option_map f (option_or p q)) r) t
regroup f None None r t = refl
regroup f None (Some b) r t = refl
regroup f (Some a) q r t = refl

or-none-last : {A : Type 0} (p : Option A) → option_or p None ≡ p
or-none-last None = refl
or-none-last (Some a) = refl

-- and all of them
pub noun_lines : (w : List ℕ) (c : Cursor) → left_at w c (noun_rest (behind w c))
    ≡ option_or
    (option_or
    (option_map (cut_at c) (option_or (passes w c (plural chain (behind w c))) (passes w c (after_ncA_of (behind w c)))))
    (left_at w c (pronominal_rest (behind w c))))
    (option_map (cut_at c) (passes w c (later_lines_of (behind w c))))
unfolding left_at
noun_lines w c =
    let cs = behind w c in
    ap (left_at w c) (sym (each_line cs))
    ∙ left-cut w c (plural chain cs) (from_ncA cs)
    ∙ ap (option_or (option_map (cut_at c) (passes w c (plural chain cs))))
    (left-cut w c (after_ncA_of cs) (from_pronominal cs)
    ∙ ap (option_or (option_map (cut_at c) (passes w c (after_ncA_of cs))))
    (left-or w c (pronominal_rest cs) (from_later cs) ∙ ap (option_or (left_at w c (pronominal_rest cs))) (left-cut w c (later_lines_of cs) whole ∙ or-none-last _)))
    ∙ regroup (cut_at c) (passes w c (plural chain cs)) (passes w c (after_ncA_of cs)) (left_at w c (pronominal_rest cs)) _

-- the stage, from what is seen at the end of the first n bytes
pub noun-stage : (w : List ℕ) (n : ℕ) {s : Seen} → s ≡ seen_at w (record { cursor = n; limit = n; limit_backward = 0 })
    → {u : Option Uninflected} → u ≡ left_at w s.c (noun_rest (behind w s.c)) → u ≡ uninflected_of w n
unfolding uninflected_of
noun-stage w n e is =
    let c : Cursor = record { cursor = n; limit = n; limit_backward = 0 } in
    is ∙ ap (λ (d : Cursor). left_at w d (noun_rest (behind w d))) (seen-c w c e) ∙ ap (λ (cs : List ℕ). left_at w c (noun_rest cs)) (behind-before w n n)
