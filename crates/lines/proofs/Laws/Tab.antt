-- A search for a tab finds one where the definition does. Assumes nothing.
use Prim.Native.Nat.{ℕ}
use mathlib.Core.Path.{◌≡◌, refl}
use mathlib.Core.List.{List, [], ◌∷◌}
use lib.Dec.{eqb}
use Rattle.std.specs.List.{list_any}
use Rattle.theorems.proofs.Laws.Tests.{eqb_comm}
use Rattle.turkish.specs.Letters.{tab, any, has}

-- whether a byte is the tab, asked of each
pub list_any-tab : (w : List ℕ) → list_any (λ b. eqb b 0x09) w ≡ has w tab
unfolding has any tab
list_any-tab [] = refl
list_any-tab (b ∷ bs) = cc (eqb_comm b 0x09, list_any-tab bs)
