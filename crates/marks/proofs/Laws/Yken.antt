-- The mark yken by the steps of one record that the code makes, from an open record. Its literals `ken` and `y` are ASCII, so they stand in
-- bytes exactly where they stand in characters, and each of their bytes is a character. Assumes nothing.
use Prim.Native.Nat.{ℕ, zero, suc, ◌+◌, ◌-◌, ◌≤◌, ◌<◌}
use mathlib.Core.Path.{◌≡◌, refl, sym, ap, ◌∙◌}
use mathlib.Core.Bool.{Bool, true, false, cond, ◌&&◌, false≢true}
use mathlib.Core.List.{List, [], ◌∷◌, reverse}
use native.Mathlib.Omega.{arith}
use native.Mathlib.Nat.{sub-zero}
use lib.ListN.{length, drop, get_or, length-drop, length-reverse, get_or-eq_default}
use lib.Seq.{get_or-drop}
use lib.Dec.{leb, ltb, eqb}
use borrow.Author.Tests.{leb-true, ltb-true, ltb-false, eqb-true, eqb-false, eq-eqb, ne_eqb}
use Rattle.std.specs.Prelude.{Some, None, is_some, option_map}
use Rattle.std.specs.declared.option.Option.{Option}
use Rattle.std.proofs.lemmas.Option.{cond_some, none-some}
use Rattle.utf8.specs.declared.cursor.Cursor.{Cursor}
use Rattle.utf8.specs.declared.step.Step.{Step}
use Rattle.utf8.specs.Characters.{last_width_of, last_char, char_at, before, back}
use Rattle.utf8.specs.Steps.{move_to, previous_char_of, stands_at_of, eq_s_b_of}
use Rattle.utf8.specs.Behind.{behind, back_by, Open}
use Rattle.encoding.proofs.Laws.Booleans.{and_left, and_right}
use Rattle.utf8.proofs.Laws.Characters.{before-zero, before-step}
use Rattle.utf8.proofs.Laws.Steps.{stands-within}
use Rattle.utf8.proofs.Laws.Behind.{behind-back_by, back_by-add, open-back_by}
use Rattle.utf8.proofs.Laws.BehindSteps.{CharBack, previous_char_of-behind, previous_char_of-moved, eq_s_b_of-behind}
use Rattle.lent.specs.declared.Over.{Over}
use Rattle.lent.specs.Over.{one_back, before_literal, over}
use Rattle.turkish.specs.Letters.{text, from_end, any, has, starts}
use Rattle.turkish.specs.Vowels.{vowels, vowel}
use Rattle.theorems.specs.Simple.Grammar.{fail, took, more, after, asking, among, optional, joining, mark_of}
use Rattle.theorems.specs.Simple.Marks.{by_y, marked, yken}
use Rattle.keys.specs.Passed.{passes}
use Rattle.keys.proofs.Laws.Optional.{optional-get_or}
use Rattle.keys.proofs.Laws.Literal.{ascii, ascii-reverse_aux, last_width_of-char, literal-chars}

-- ---- an ASCII literal behind an open record ----

-- characters below 0x80 have a byte each
back-ascii : (w r : List ℕ) (c : ℕ) → ascii r ≡ true → c ≤ length w → starts r (before w c) ≡ true → back w c (length r) ≡ c - length r
unfolding ascii starts back
back-ascii w [] c a l e = sym (sub-zero c)
back-ascii w (b ∷ r) zero a l e = absurd (false≢true (rw (before-zero w) at e))
back-ascii w (b ∷ r) (suc c) a l e =
    let d : ℕ = suc c - last_width_of w (suc c) in
    let f : eqb b (last_char w (suc c)) && starts r (before w d) ≡ true = rw (before-step w (suc c) (omega arith)) at e in
    let char : b ≡ last_char w (suc c) = eqb-true b (last_char w (suc c)) (and_left (eqb b (last_char w (suc c))) (starts r (before w d)) f) in
    let small : b < 0x80 = ltb-true b 0x80 (and_left (ltb b 0x80) (ascii r) a) in
    let one : last_width_of w (suc c) ≡ 1 = last_width_of-char w c (omega arith) (omega arith) in
    let place : d ≡ c = omega arith in
    let rest : starts r (before w c) ≡ true =
    ap (λ (i : ℕ). starts r (before w i)) (sym place) ∙ and_right (eqb b (last_char w (suc c))) (starts r (before w d)) f in
    let same : c - length r ≡ suc c - suc (length r) = omega arith in
    ap (λ (i : ℕ). back w i (length r)) place ∙ back-ascii w r c (and_right (ltb b 0x80) (ascii r) a) (omega arith) rest ∙ same

module _ (w s : List ℕ) (r : Cursor) (o : Open w r) (a : ascii s ≡ true) where
  -- the word from limit_backward on
  abbrev low : ℕ
  low = r.limit_backward

  abbrev part : List ℕ
  part = drop low w

  -- the cursor stands within it
  within-part : r.cursor - low ≤ length part
  within-part =
      let within = stands-within w r o.within in
      omega (arith, length-drop low w, within.low, within.high, within.end)

  -- the step back past it is there exactly where the characters behind the record begin with it, from its end, and comes as many characters
  -- back as the literal has bytes
  pub eq_s_b_of-starts : eq_s_b_of w s r ≡ cond (starts (reverse s) (behind w r)) (Some (back_by w r (length s))) None
  unfolding behind back_by ascii
  eq_s_b_of-starts =
      eq_s_b_of-behind w s r o ∙ rw test (go (starts (reverse s) (before part (r.cursor - low))) refl)
    where
      test : leb (length s) (r.cursor - low) && stands_at_of part (r.cursor - low - length s) s ≡ starts (reverse s) (before part (r.cursor - low))
      test = literal-chars part s (r.cursor - low) a within-part

      go : (t : Bool) → starts (reverse s) (before part (r.cursor - low)) ≡ t
          → cond t (Some (move_to r (r.cursor - length s))) None ≡ cond t (Some (move_to r (low + back part (r.cursor - low) (length s)))) None
      go false e = refl
      go true e =
          let fits = leb-true (length s) (r.cursor - low) (and_left _ _ (test ∙ e)) in
          let within = stands-within w r o.within in
          let far : back part (r.cursor - low) (length s) ≡ r.cursor - low - length s =
          rw length-reverse at (back-ascii part (reverse s) (r.cursor - low) (ascii-reverse_aux s [] a refl) within-part e) in
          let place : r.cursor - length s ≡ low + back part (r.cursor - low) (length s) = omega (arith, within.low) in
          ap (λ (i : ℕ). Some (move_to r i)) place

-- ---- the mark ----

-- the literals' bytes
abbrev pub ken : List ℕ
ken = 0x6B ∷ 0x65 ∷ 0x6E ∷ []

abbrev pub y : List ℕ
y = 0x79 ∷ []

-- the characters begin with a y where their first, 0 standing for none, is one
starts-y : (cs : List ℕ) → starts y cs ≡ eqb (get_or cs 0 0) 0x79
unfolding starts
starts-y [] = refl
starts-y (c ∷ cs) = go (eqb c 0x79) refl
  where
    go : (t : Bool) → eqb c 0x79 ≡ t → eqb 0x79 c && true ≡ eqb c 0x79
    go true e = rw (eq-eqb 0x79 c (sym (eqb-true c 0x79 e))) (sym e)
    go false e = rw (ne_eqb 0x79 c (λ f. eqb-false c 0x79 e (sym f))) (sym e)

-- yken is `ken` and then an optional y
mark_of-yken : (cs : List ℕ) → mark_of yken cs ≡ cond (starts (reverse ken) cs) (more 3 true (optional y true (drop 3 cs))) fail
unfolding mark_of joining by_y yken marked from_end text asking among after
mark_of-yken cs = go (starts (reverse ken) cs)
  where
    go : (t : Bool) → after (cond t (took 3 true) fail) (λ k. optional y true (drop k cs)) ≡ cond t (more 3 true (optional y true (drop 3 cs))) fail
    go true = refl
    go false = refl

-- nothing is chosen where the test fails
cond-none : {A : Type 0} (t : Bool) (x : A) → cond t (Some x) None ≡ None → t ≡ false
cond-none true x e = absurd (none-some x (sym e))
cond-none false x e = refl

-- one is chosen exactly where the test holds
some-cond : {A : Type 0} (t : Bool) (x : A) → is_some (cond t (Some x) None) ≡ t
some-cond true x = refl
some-cond false x = refl

-- what is made of a step that a test gives
map-cond : (t : Bool) (s : Step) → option_map (λ (p : Step). p.next) (cond t (Some s) None) ≡ cond t (Some s.next) None
map-cond true s = refl
map-cond false s = refl

-- the steps from an open record
module _ (w : List ℕ) (c : Cursor) (o : Open w c) where
  -- the characters behind it
  abbrev cs : List ℕ
  cs = behind w c

  -- how many `ken` and a y, or none, take
  abbrev taken : Bool → ℕ
  taken j = 3 + cond j 1 0

  -- a character stands before those
  abbrev more_left : Bool → Bool
  more_left j = ltb 0 (length (drop (taken j) cs))

  -- what the steps tell where `ken` stands, with a y or without
  abbrev told : Bool → Over
  told j =
      record { literal = true; joined = j; here = back_by w c (taken j); next = cond (more_left j) (Some (back_by w c (taken j + 1))) None }

  -- a step back from before them
  step-before : (j : Bool) → previous_char_of w (back_by w c (taken j))
      ≡ cond (more_left j) (Some (record { ch = get_or (drop (taken j) cs) 0 0; next = back_by w c (taken j + 1) })) None
  step-before j =
      previous_char_of-behind w (back_by w c (taken j)) (open-back_by w c (taken j) o) ∙ rw (behind-back_by w c (taken j), back_by-add w c (taken j) 1)

  -- and the record that it leaves
  back-before : (j : Bool) → one_back w (back_by w c (taken j)) ≡ cond (more_left j) (Some (back_by w c (taken j + 1))) None
  back-before j = rw (step-before j) (map-cond (more_left j) (record { ch = get_or (drop (taken j) cs) 0 0; next = back_by w c (taken j + 1) }))

  -- the y, and what is told, by the characters before `ken`
  after-ken : (j : Bool) → eq_s_b_of w y (back_by w c 3) ≡ cond j (Some (back_by w c 4)) None
      → record {
        literal = true;
        joined = is_some (eq_s_b_of w y (back_by w c 3));
        here = before_literal w y (back_by w c 3);
        next = one_back w (before_literal w y (back_by w c 3));
      }
      ≡ told j
  after-ken true e = rw e (ap (λ (n : Option Cursor). record { literal = true; joined = true; here = back_by w c 4; next = n }) (back-before true))
  after-ken false e = rw e (ap (λ (n : Option Cursor). record { literal = true; joined = false; here = back_by w c 3; next = n }) (back-before false))

  y-behind : eq_s_b_of w y (back_by w c 3) ≡ cond (starts y (drop 3 cs)) (Some (back_by w c 4)) None
  unfolding ascii
  y-behind = eq_s_b_of-starts w y (back_by w c 3) (open-back_by w c 3 o) refl ∙ rw (behind-back_by w c 3, back_by-add w c 3 1)

  ken-behind : eq_s_b_of w ken c ≡ cond (starts (reverse ken) cs) (Some (back_by w c 3)) None
  unfolding ascii
  ken-behind = eq_s_b_of-starts w ken c o refl

  -- so where `ken` stands all goes by the characters
  over-behind : starts (reverse ken) cs ≡ true → over w ken y c ≡ told (starts y (drop 3 cs))
  unfolding over
  over-behind e = rw (ken-behind, e) (after-ken (starts y (drop 3 cs)) y-behind)

  -- `ken` stands where the characters begin with it, from its end
  literal-behind : (over w ken y c).literal ≡ starts (reverse ken) cs
  unfolding over
  literal-behind = rw ken-behind (some-cond (starts (reverse ken) cs) (back_by w c 3))

  -- without `ken` the mark fails
  pub yken-keyless : {k : Over} → k ≡ over w ken y c → k.literal ≡ false → None ≡ passes w c (mark_of yken cs)
  unfolding passes
  yken-keyless is e =
      let none : starts (reverse ken) cs ≡ false = sym literal-behind ∙ ap (λ (x : Over). x.literal) (sym is) ∙ e in
      rw (mark_of-yken cs, none)

  -- where it stands, k is told
  module _ {k : Over} (is : k ≡ over w ken y c) (stood : k.literal ≡ true) where
    ken-stands : starts (reverse ken) cs ≡ true
    ken-stands = sym literal-behind ∙ ap (λ (x : Over). x.literal) (sym is) ∙ stood

    -- with a y where one stands before `ken`
    y-starts : k.joined ≡ starts y (drop 3 cs)
    y-starts = ap (λ (x : Over). x.joined) (is ∙ over-behind ken-stands)

    k-told : k ≡ told k.joined
    k-told = is ∙ over-behind ken-stands ∙ ap told (sym y-starts)

    -- the record before both
    here-is : k.here ≡ back_by w c (taken k.joined)
    here-is = ap (λ (x : Over). x.here) k-told

    -- and the one a character back from there
    next-is : k.next ≡ cond (more_left k.joined) (Some (back_by w c (taken k.joined + 1))) None
    next-is = ap (λ (x : Over). x.next) k-told

    -- the mark by the fifth character and that record
    yken-key : passes w c (mark_of yken cs) ≡ cond (vowel (get_or cs 4 0)) (Some k.here.cursor) None
    unfolding more passes
    yken-key =
        rw (mark_of-yken cs, ken-stands, optional-get_or 0x79 (drop 3 cs), ← starts-y, ← y-starts, get_or-drop 3 cs 1 0, here-is)
        (go (vowel (get_or cs 4 0)) (cond k.joined 1 0))
      where
        go : (t : Bool) (n : ℕ) → passes w c (more 3 true (cond t (took n true) fail)) ≡ cond t (Some (back_by w c (3 + n)).cursor) None
        go true n = refl
        go false n = refl

    -- where no character stands before some of those four, there is no fifth, and the mark fails
    yken-short : (j : Bool) → more_left j ≡ false → None ≡ passes w c (mark_of yken cs)
    unfolding vowel vowels has any text
    yken-short j e = sym (yken-key ∙ rw none)
      where
        four : (t : Bool) → taken t ≤ 4
        four true = omega arith
        four false = omega arith

        none : get_or cs 4 0 ≡ 0
        none = get_or-eq_default cs 0 {n = 4} (omega (arith, four j, length-drop (taken j) cs, ltb-false 0 (length (drop (taken j) cs)) e))

    -- so where none stands before `ken` and the y
    pub yken-first : k.next ≡ None → None ≡ passes w c (mark_of yken cs)
    yken-first e = yken-short k.joined (cond-none (more_left k.joined) _ (sym next-is ∙ e))

    -- where one does it is passed, and m is left
    module _ {m : Cursor} (e : k.next ≡ Some m) where
      one-left : (more_left k.joined ≡ true) × (back_by w c (taken k.joined + 1) ≡ m)
      one-left = cond_some (more_left k.joined) (back_by w c (taken k.joined + 1)) m (sym next-is ∙ e)

      passed : previous_char_of w k.here ≡ Some (record { ch = get_or (drop (taken k.joined) cs) 0 0; next = m })
      passed = rw (here-is, step-before k.joined, one-left.0, one-left.1)

      back_over : CharBack w k.here (record { ch = get_or (drop (taken k.joined) cs) 0 0; next = m })
      back_over = previous_char_of-moved w k.here _ passed

      -- it has one to four bytes, within the word
      pub yken-bytes : (0 < k.here.cursor - m.cursor) × (k.here.cursor - m.cursor ≤ 4) × (m.cursor + (k.here.cursor - m.cursor) ≤ length w)
      yken-bytes = (back_over.some, back_over.four, back_over.end)

      -- after a y it is the fifth: the mark by whether it, v, is a vowel
      pub yken-joined : k.joined ≡ true → {v : ℕ} → v ≡ char_at w m.cursor (k.here.cursor - m.cursor)
          → (t : Bool) → vowel v ≡ t → cond t (Some k.here.cursor) None ≡ passes w c (mark_of yken cs)
      yken-joined j d t h =
          let fifth : get_or cs 4 0 ≡ get_or (drop (taken k.joined) cs) 0 0 = rw j (sym (get_or-drop 4 cs 0 0)) in
          sym (yken-key ∙ rw (fifth, back_over.char, ← d, h))

      -- without one the next is
      next-step : k.joined ≡ false → previous_char_of w m ≡ cond (more_left true) (Some (record { ch = get_or (drop 4 cs) 0 0; next = back_by w c 5 })) None
      next-step j = ap (previous_char_of w) (sym one-left.1 ∙ ap (λ (b : Bool). back_by w c (taken b + 1)) j) ∙ step-before true

      -- so the mark goes by whether that, of the step p, is a vowel
      pub yken-apart : k.joined ≡ false → {p : Step} → Some p ≡ previous_char_of w m
          → (t : Bool) → vowel p.ch ≡ t → cond t (Some k.here.cursor) None ≡ passes w c (mark_of yken cs)
      yken-apart j {p} d t h =
          let step = cond_some (more_left true) (record { ch = get_or (drop 4 cs) 0 0; next = back_by w c 5 }) p (sym (next-step j) ∙ sym d) in
          let fifth : get_or cs 4 0 ≡ p.ch = sym (get_or-drop 4 cs 0 0) ∙ ap (λ (s : Step). s.ch) step.1 in
          sym (yken-key ∙ rw (fifth, h))

      -- and fails where there is none
      pub yken-alone : k.joined ≡ false → None ≡ previous_char_of w m → None ≡ passes w c (mark_of yken cs)
      yken-alone j d = yken-short true (cond-none (more_left true) _ (sym (next-step j) ∙ sym d))
