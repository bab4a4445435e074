-- `repairs::postlude::is_reserved_word` meets its contract: the bytes compared are an ASCII literal, and so are the characters.
-- Assumes nothing.
use mathlib.Core.Path.{◌≡◌, sym, ap, ◌∙◌}
use mathlib.Core.Bool.{Bool, ◌||◌}
use lib.Dec.{eqb}
use lib.ListN.{take}
use Rattle.std.specs.Cmp.Lexicographic.{pointwise}
use Rattle.turkish.specs.Letters.{text}
use Rattle.repairs.proofs.Laws.Repairs.{reserved-front}
use Rattle.repairs.proofs.postlude.is_reserved_word.Goals as goal

pub returns-then-eq : goal.returns-then-eq
unfolding text
returns-then-eq c =
    let front = take c.args.n c.args.w.now in
    let ad : c.eq.result ≡ pointwise eqb front (text "ad") = c.eq.ensures ∙ ap (pointwise eqb front) c.as_slice.ensures in
    c.if-eq.true ∙ ap (λ (t : Bool). t || pointwise eqb front (text "soyad")) (sym c.if-eq.true ∙ ad) ∙ reserved-front _ _ c.requires

pub returns-else-eq : goal.returns-else-eq
unfolding text
returns-else-eq c =
    let front = take c.args.n c.args.w.now in
    let ad : c.eq.result ≡ pointwise eqb front (text "ad") = c.eq.ensures ∙ ap (pointwise eqb front) c.as_slice.ensures in
    c.eq-else-eq.ensures ∙ ap (pointwise eqb front) c.as_slice-else-eq.ensures
    ∙ ap (λ (t : Bool). t || pointwise eqb front (text "soyad")) (sym c.if-eq.false ∙ ad) ∙ reserved-front _ _ c.requires
