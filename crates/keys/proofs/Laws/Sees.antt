-- What is seen from a record: it has that record, and what is seen from an open one is seen rightly. Assumes nothing.
use Prim.Native.Nat.{ℕ}
use mathlib.Core.Path.{◌≡◌, sym, ap, ◌∙◌}
use mathlib.Core.List.{List}
use Rattle.utf8.specs.declared.cursor.Cursor.{Cursor}
use Rattle.utf8.specs.Behind.{Open}
use Rattle.keys.specs.declared.seen.Seen.{Seen}
use Rattle.keys.specs.Seen.{seen_at, Sees}

module _ (w : List ℕ) (c : Cursor) {s : Seen} (e : s ≡ seen_at w c) where
  -- what is seen from a record has that record
  pub seen-c : s.c ≡ c
  unfolding seen_at
  seen-c = ap (λ (x : Seen). x.c) e

  -- what is seen from an open record is seen rightly
  pub sees-made : Open w c → Sees w s
  sees-made o = let at = sym seen-c in record { opens = rw at at o; is = e ∙ ap (seen_at w) at }
