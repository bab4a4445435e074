-- `lines::line::put_refused` meets its contract: four bytes written one after the other are the refused line.
-- Assumes nothing.
use mathlib.Core.Path.{refl}
use native.Mathlib.Omega.{arith}
use Rattle.turkish.specs.Letters.{tab, lf}
use Rattle.lines.specs.Line.{refused_line}
use Rattle.lines.proofs.Laws.LineRefusals.{refusal_number-few}
use Rattle.writing.proofs.Laws.Put.{wrote_nothing, wrote-byte, wrote-all}
use Rattle.lines.proofs.line.put_refused.Goals as goal

pub overflow_add-n : goal.overflow_add-n
overflow_add-n c = omega (arith, c.from-n.ensures, refusal_number-few c.args.r)

pub overflow_cast-n : goal.overflow_cast-n
overflow_cast-n c = omega (arith, c.from-n.ensures, refusal_number-few c.args.r)

pub returns : goal.returns
unfolding tab lf refused_line
returns c =
    let p = wrote-all refl
    (wrote-byte _
    (wrote-byte _ (wrote-byte _ (wrote-byte _ (wrote_nothing c.requires) (c.put_byte-a.ensures.value, c.put_byte-a.ensures.out_after)) (c.put_byte-b.ensures.value, c.put_byte-b.ensures.out_after)) (c.put_byte-c.ensures.value, c.put_byte-c.ensures.out_after))
    (c.put_byte.ensures.value, c.put_byte.ensures.out_after)) in
    record { value = p.0; out_after = rw (← c.from-n.ensures) p.1 }
