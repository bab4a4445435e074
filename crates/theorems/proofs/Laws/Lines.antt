-- The lines of bytes, taken off one by one. Assumes nothing.
use Prim.Native.Nat.{ℕ}
use mathlib.Core.Path.{◌≡◌, refl}
use mathlib.Core.Bool.{false}
use mathlib.Core.List.{List, [], ◌∷◌, ◌++◌, append_assoc, append-nil}
use borrow.Author.Tests.{eq-eqb, ne_eqb}
use Rattle.turkish.specs.Letters.{lf, any, has}
use Rattle.turkish.specs.Lines.{unclosed, lines_from}
use Rattle.theorems.proofs.Laws.Tests.{has-none}

-- what ends in a line feed and has no other is one line
pub lines_from-line : (line w rest : List ℕ) → has w lf ≡ false → lines_from line (w ++ (lf ∷ rest)) ≡ (line ++ w) ∷ lines_from [] rest
unfolding lines_from has any
lines_from-line line [] rest n = rw (eq-eqb lf lf refl, append-nil line)
lines_from-line line (b ∷ w) rest n =
    let d = has-none lf b w n in
    rw (ne_eqb b lf d.0, lines_from-line (line ++ (b ∷ [])) w rest d.1, append_assoc)

-- what has none is a last line that is not closed
pub lines_from-last : (line w : List ℕ) → has w lf ≡ false → lines_from line w ≡ unclosed (line ++ w)
unfolding lines_from has any
lines_from-last line [] n = rw (append-nil line)
lines_from-last line (b ∷ w) n =
    let d = has-none lf b w n in
    rw (ne_eqb b lf d.0, lines_from-last (line ++ (b ∷ [])) w d.1, append_assoc)
