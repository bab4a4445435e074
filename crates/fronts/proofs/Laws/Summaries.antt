-- The summary of a front, as the code builds it: the raised counts, a character added, and what is known where the loop
-- over an accepted front's characters has passed some of them. Assumes nothing.
use Prim.Native.Nat.{ℕ, zero, suc, ◌+◌, ◌-◌, ◌≤◌, ◌<◌}
use mathlib.Core.Path.{◌≡◌, refl, sym, ap, ◌∙◌}
use mathlib.Core.Bool.{true, false}
use mathlib.Core.List.{List, [], ◌∷◌, ◌++◌, reverse, append-nil, reverse-append}
use native.Mathlib.Omega.{arith}
use lib.ListN.{length, get_or, set, length-append, length-reverse}
use lib.Seq.{append_snoc}
use lib.Dec.{eqb}
use Rattle.encoding.specs.Scalar.{scalars}
use Rattle.encoding.specs.Encoding.{encode, encode_all}
use Rattle.encoding.specs.Text.{TextOf}
use Rattle.encoding.proofs.Laws.Decoding.{length_encode_pos}
use Rattle.std.specs.Prelude.{Some, None}
use Rattle.std.specs.declared.option.Option.{Option}
use Rattle.std.proofs.lemmas.Option.{none-some, same_Some}
use Rattle.utf8.specs.declared.cursor.Cursor.{Cursor}
use Rattle.utf8.specs.declared.step.Step.{Step}
use Rattle.utf8.specs.Steps.{move_to, next_char_of}
use Rattle.utf8.proofs.TextCharacters.{encode_all-append, before-whole}
use Rattle.utf8.proofs.WholeCharacters.{next_char_of-edge}
use Rattle.utf8.proofs.Theorems.{step-on-whole}
use Rattle.turkish.specs.declared.summary.Summary.{Summary}
use Rattle.turkish.specs.Vowels.{vowels, vowel}
use Rattle.theorems.specs.Simple.Harmony.{to_first}
use Rattle.turkish.specs.Calls.{chars, limit, accepted}
use Rattle.batches.specs.Summary.{vowel_number, summary_from, summary, raised, added}
use Rattle.theorems.proofs.Laws.Accepted.{accepted-iff, accepted-text}
use Rattle.batches.proofs.Laws.Summary.{summary_from-cons, summary_from-counts, summary_from-last}
use Rattle.theorems.proofs.Source.Reserved.{length-encode_all}
use Rattle.fronts.specs.Counted.{Counted}

-- ---- a character added ----

-- the counts with that of a number other than 0 one greater
pub raised_at : (n : ℕ) (counts : List ℕ) → (n ≡ 0 → ⊥) → set counts (n - 1) (get_or counts (n - 1) 0 + 1) ≡ raised n counts
unfolding raised
raised_at zero counts h = absurd (h refl)
raised_at (suc k) counts h = let e : suc k - 1 ≡ k = omega arith in rw e

module _ (c : ℕ) (s : Summary) where
  -- a character that is no vowel adds nothing
  pub added_none : vowel c ≡ false → s ≡ added c s
  unfolding added
  added_none h = rw h

  -- a vowel is the last one now, and that which was is counted
  pub added-vowel : (n : ℕ) (counts : List ℕ) → vowel c ≡ true → n ≡ to_first (eqb c) vowels → counts ≡ raised s.last s.counts
      → record { last = n; counts = counts } ≡ added c s
  unfolding added vowel_number
  added-vowel n counts h e r = rw (h, e, r)

-- ---- the loop ----

-- the record that stands behind some of a text's characters
abbrev place : List ℕ → List ℕ → Cursor
place cs whole = record { cursor = length (encode_all cs); limit = length (encode_all whole); limit_backward = 0 }

-- the bytes of a text of two parts are those of both
length-parts : (cs ds : List ℕ) → length (encode_all (cs ++ ds)) ≡ length (encode_all cs) + length (encode_all ds)
length-parts cs ds = rw (encode_all-append, length-append)

-- one character more takes its bytes more
length-snoc : (cs : List ℕ) (c : ℕ) → length (encode_all (cs ++ (c ∷ []))) ≡ length (encode_all cs) + length (encode c)
unfolding encode_all
length-snoc cs c = rw (length-parts, append-nil)

-- a step on from there takes the next one
next_place : (cs : List ℕ) (c : ℕ) (ds : List ℕ) → scalars (cs ++ c ∷ ds) ≡ true
    → next_char_of (encode_all (cs ++ c ∷ ds)) (place cs (cs ++ c ∷ ds))
    ≡ Some (record { ch = c; next = place (cs ++ (c ∷ [])) (cs ++ c ∷ ds) })
unfolding move_to
next_place cs c ds h =
    let ends = rw append_snoc at (length-parts (cs ++ (c ∷ [])) ds) in
    step-on-whole cs c ds (place cs (cs ++ c ∷ ds)) h refl (omega arith) (omega arith) (omega arith)

-- where the loop has passed some of a front's characters: the record stands behind them, and the summary is theirs
pub record Passed (front : List ℕ) (s : Summary) (r : Cursor) : Type 0 where
  pub passed : List ℕ
  pub left : List ℕ
  pub valid : scalars (passed ++ left) ≡ true
  pub encoded : encode_all (passed ++ left) ≡ front
  pub stands : r ≡ place passed (passed ++ left)
  pub is : s ≡ summary_from (reverse passed)

-- at first it has passed none
pub passed_none : (front : List ℕ) (s : Summary) → accepted front ≡ true → s ≡ summary_from []
    → Passed front s (record { cursor = 0; limit = length front; limit_backward = 0 })
unfolding encode_all
passed_none front s a e =
    let t = accepted-text front a in
    record { passed = []; left = t.chars; valid = t.valid; encoded = t.encoded; stands = rw t.encoded; is = e }

-- where all are passed there is no step on
next-none : (cs : List ℕ) → next_char_of (encode_all (cs ++ [])) (place cs (cs ++ [])) ≡ None
next-none cs = next_char_of-edge (encode_all (cs ++ [])) (place cs (cs ++ [])) (ap (λ (l : List ℕ). length (encode_all l)) (sym (append-nil cs)))

-- a turn passes one more
pub passed-more : (front : List ℕ) (s t : Summary) (r : Cursor) (p : Step) → Passed front s r
    → Some p ≡ next_char_of front r → t ≡ added p.ch s → Passed front t p.next × (r.cursor < p.next.cursor)
passed-more front s t r p h e f = go h.passed h.left h.valid h.encoded h.stands h.is
  where
    go : (cs ds : List ℕ) → scalars (cs ++ ds) ≡ true → encode_all (cs ++ ds) ≡ front → r ≡ place cs (cs ++ ds) → s ≡ summary_from (reverse cs)
        → Passed front t p.next × (r.cursor < p.next.cursor)
    go cs [] v w u i =
        let none : None ≡ next_char_of front r = rw (u, ← w) (sym (next-none cs)) in
        absurd (none-some p (none ∙ sym e))
    go cs (c ∷ ds) v w u i =
        let step : ◌≡◌ {A = Option Step} (Some p) (Some (record { ch = c; next = place (cs ++ (c ∷ [])) (cs ++ c ∷ ds) })) = cc (next_place cs c ds v) in
        let q : p ≡ record { ch = c; next = place (cs ++ (c ∷ [])) (cs ++ c ∷ ds) } = same_Some p _ step in
        let g : t ≡ added c (summary_from (reverse cs)) = cc in (
          record {
            passed = cs ++ (c ∷ []);
            left = ds;
            valid = rw append_snoc v;
            encoded = rw append_snoc w;
            stands = rw append_snoc (ap (λ (x : Step). x.next) q);
            is = rw reverse-append (g ∙ sym (summary_from-cons c (reverse cs)));
          },
          rw (u, q) (omega (arith, length-snoc cs c, length_encode_pos c)),
        )

-- and begins below the front's end
pub passed-less : (front : List ℕ) (s : Summary) (r : Cursor) (p : Step) → Passed front s r → Some p ≡ next_char_of front r → r.cursor < length front
passed-less front s r p h e =
    let turn = passed-more front s (added p.ch s) r p h e refl in
    let n = turn.0 in
    omega (arith, turn.1, ap (λ (x : Cursor). x.cursor) n.stands, length-parts n.passed n.left, ap length n.encoded)

-- a summary on the way can be added to: each count is below the front's bytes
pub passed_counted : (front : List ℕ) (s : Summary) (r : Cursor) → accepted front ≡ true → Passed front s r → r.cursor < length front → Counted s
passed_counted front s r a h k =
    let cs : List ℕ = h.passed in
    let stood : r.cursor ≡ length (encode_all cs) = ap (λ (x : Cursor). x.cursor) h.stands in
    let most : length front ≤ limit = ((accepted-iff front).0 a).0 in
    rw h.is
    (record {
      known = summary_from-last (reverse cs);
      below = λ n. omega (arith, summary_from-counts (reverse cs) n, length-reverse cs, length-encode_all cs);
    })

-- in the end it is the front's
pub passed-all : (front : List ℕ) (s : Summary) (r : Cursor) → Passed front s r → None ≡ next_char_of front r → s ≡ summary front
unfolding summary chars
passed-all front s r h e = go h.passed h.left h.valid h.encoded h.stands h.is
  where
    go : (cs ds : List ℕ) → scalars (cs ++ ds) ≡ true → encode_all (cs ++ ds) ≡ front → r ≡ place cs (cs ++ ds) → s ≡ summary_from (reverse cs)
        → s ≡ summary_from (chars front)
    go cs [] v w u i =
        let t : TextOf front = record { chars = cs; valid = rw append-nil at v; encoded = rw append-nil at w } in
        i ∙ ap summary_from (sym (before-whole front t))
    go cs (c ∷ ds) v w u i =
        let step : ◌≡◌ {A = Option Step} None (Some (record { ch = c; next = place (cs ++ (c ∷ [])) (cs ++ c ∷ ds) })) = cc (next_place cs c ds v) in
        absurd (none-some _ step)

-- the summary of an accepted front can be added to where the longer front is accepted too
pub summary-counted : (f : List ℕ) (c : ℕ) → accepted f ≡ true → accepted (f ++ encode c) ≡ true → Counted (summary f)
unfolding summary chars
summary-counted f c a l =
    let t : TextOf f = accepted-text f a in
    let most : length (f ++ encode c) ≤ limit = ((accepted-iff (f ++ encode c)).0 l).0 in
    let size : length (encode_all t.chars) ≡ length f = ap length t.encoded in
    let as_many : length (chars f) ≡ length t.chars = ap length (before-whole f t) ∙ length-reverse t.chars in
    record {
      known = summary_from-last (chars f);
      below = λ n.
          omega (arith, summary_from-counts (chars f) n, as_many, length-encode_all t.chars, size, length-append f (encode c), length_encode_pos c);
    }
