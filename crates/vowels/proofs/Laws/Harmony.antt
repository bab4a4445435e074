-- What harmony found before a record: where it holds, and that it is looked for in the part from limit_backward on. Assumes nothing.
use Prim.Native.Nat.{ℕ, ◌+◌, ◌-◌}
use mathlib.Core.Path.{◌≡◌, refl, sym, ap, ◌∙◌}
use mathlib.Core.List.{List}
use lib.ListN.{drop}
use Rattle.std.specs.Prelude.{Option, Some, None, is_some}
use Rattle.utf8.specs.declared.cursor.Cursor.{Cursor}
use Rattle.utf8.specs.Characters.{before, back}
use Rattle.utf8.specs.Steps.{move_to}
use Rattle.utf8.specs.Behind.{behind, back_by}
use Rattle.theorems.specs.Simple.Harmony.{Found, nowhere, at, harmony_found, skips_vowel, is_found, harmony}
use Rattle.vowels.specs.declared.harmony.Harmony.{Harmony}
use Rattle.vowels.specs.Harmony.{harmony_from, harmony_before, heard_of, harmony_at}
use Rattle.utf8.proofs.Laws.Part.{part_from, part_from-drop}

-- what is found is something where harmony holds
pub harmony_at-some : (w : List ℕ) (c : Cursor) → is_some (harmony_at w c) ≡ harmony (behind w c)
unfolding harmony_at harmony
harmony_at-some w c = go (harmony_found (behind w c))
  where
    go : (f : Found) → is_some (heard_of w c f) ≡ is_found f
    go nowhere = unfold heard_of is_found in refl
    go (at l p) = unfold heard_of is_found in refl

-- it is what a mark that tests harmony passes on
pub harmony_at-heard : (w : List ℕ) (c : Cursor) → harmony_at w c ≡ heard_of w c (harmony_found (behind w c))
unfolding harmony_at
harmony_at-heard w c = refl

-- what is found in the part of the word from limit_backward on
module _ (w : List ℕ) (c : Cursor) where
  abbrev pub low : ℕ
  low = c.limit_backward

  -- the part is all from there on
  part-from : {t : Option Harmony} → t ≡ harmony_before (part_from w low) (c.cursor - low) → t ≡ harmony_before (drop low w) (c.cursor - low)
  part-from e = e ∙ ap (λ (p : List ℕ). harmony_before p (c.cursor - low)) (part_from-drop w low)

  -- nothing there is nothing at the record
  pub part-none : harmony_before (part_from w low) (c.cursor - low) ≡ None → None ≡ harmony_at w c
  unfolding harmony_at harmony_before behind
  part-none e = go (harmony_found (before (drop low w) (c.cursor - low))) (part-from (sym e))
    where
      go : (f : Found) → None ≡ harmony_from (drop low w) (c.cursor - low) f → None ≡ heard_of w c f
      go nowhere q = unfold heard_of in refl
      go (at l p) q = unfold harmony_from in cc

  -- and what is found there is found at the record, with its places that much further on
  pub part-some : {h : Harmony} → harmony_before (part_from w low) (c.cursor - low) ≡ Some h
      → Some (record { last = low + h.last; partner = low + h.partner; skips = h.skips }) ≡ harmony_at w c
  unfolding harmony_at harmony_before behind
  part-some {h} e = go (harmony_found (before (drop low w) (c.cursor - low))) (part-from (sym e))
    where
      go : (f : Found) → Some h ≡ harmony_from (drop low w) (c.cursor - low) f
          → Some (record { last = low + h.last; partner = low + h.partner; skips = h.skips }) ≡ heard_of w c f
      go nowhere q = unfold harmony_from in cc
      go (at l p) q =
          let e : h ≡ record {
            last = back (drop low w) (c.cursor - low) l;
            partner = back (drop low w) (c.cursor - low) p;
            skips = skips_vowel (before (drop low w) (c.cursor - low)) l p;
          } = unfold harmony_from in cc in
          rw e (unfold heard_of back_by move_to behind in refl)
