-- `utf8::characters::char_at` meets its contract: the width says how many bytes are read, and the law at that width what they
-- decode to. Assumes nothing.
use Rattle.utf8.proofs.Laws.CharAt.{char_at-one, char_at-two, char_at-three, char_at-four}
use Rattle.encoding.specs.Encoding.{decode}
use mathlib.Core.Path.{sym, ◌∙◌}
use native.Mathlib.Omega.{arith}
use Rattle.utf8.proofs.characters.char_at.Goals as goal

pub overflow_cast-result : goal.overflow_cast-result
overflow_cast-result c = omega (arith, c.type_inv.w c.args.i)

pub returns-then-n-le1 : goal.returns-then-n-le1
unfolding decode
returns-then-n-le1 c = let a = c.args in sym (char_at-one a.w.now a.i a.n (omega arith) (omega arith))

pub returns-then-n-le2 : goal.returns-then-n-le2
returns-then-n-le2 c =
    let a = c.args in
    c.decode_two.ensures ∙ sym (char_at-two a.w.now a.i a.n (omega arith) (omega arith))

pub returns-then-n-le3 : goal.returns-then-n-le3
returns-then-n-le3 c =
    let a = c.args in
    c.decode_three.ensures ∙ sym (char_at-three a.w.now a.i a.n (omega arith) (omega arith))

pub returns : goal.returns
returns c =
    let a = c.args in
    c.decode_four.ensures ∙ sym (char_at-four a.w.now a.i a.n (omega arith) (omega arith))
