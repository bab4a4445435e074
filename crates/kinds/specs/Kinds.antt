-- A piece's kind from a mark's number and a y, as the code makes it. Assumes nothing.
use Rattle.std.specs.Prelude.{ℕ, Bool, cond, eqb}
use Rattle.turkish.specs.declared.endings.Joining.{Joining}
use Rattle.turkish.specs.declared.endings.Joining.TheVariants.{WithY, AfterVowel}
use Rattle.turkish.specs.declared.endings.Kind.{Kind}
use Rattle.turkish.specs.declared.endings.Kind.TheVariants.{YUm, SUn, YUz, SUnUz, LAr, NUz, DUr, CAsInA, YDU, YsA, YmUs, Yken}

unfoldable pub joining_by : Bool → Joining
joining_by y = cond y WithY AfterVowel

unfoldable pub kind_at : ℕ → Bool → Kind
kind_at n y =
    cond (eqb n 1) (YUm (joining_by y))
    (cond (eqb n 2) SUn
    (cond (eqb n 3) (YUz (joining_by y))
    (cond (eqb n 4) SUnUz
    (cond (eqb n 5) LAr
    (cond (eqb n 6) NUz
    (cond (eqb n 7) DUr
    (cond (eqb n 8) CAsInA
    (cond (eqb n 9) (YDU (joining_by y))
    (cond (eqb n 10) (YsA (joining_by y))
    (cond (eqb n 11) (YmUs (joining_by y)) (Yken (joining_by y))))))))))))
