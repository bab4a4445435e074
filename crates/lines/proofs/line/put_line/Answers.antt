-- `lines::line::put_line` meets its contract: whether the line is refused says which of the two lines it is.
-- Assumes nothing.
use mathlib.Core.Path.{refl, ap, ◌∙◌}
use native.Mathlib.Omega.{arith}
use Rattle.turkish.proofs.OneToOne.{refusal_number-some}
use Rattle.lines.specs.Line.{fields, refused_line}
use Rattle.lines.specs.Room.{line_room}
use Rattle.writing.proofs.Laws.Put.{put-equal}
use Rattle.lines.proofs.Laws.LineRefusals.{list_line-fields, list_line-refused}
use Rattle.lines.proofs.line.put_line.Goals as goal

pub returns-in-Ok : goal.returns-in-Ok
returns-in-Ok c =
    let p = put-equal _ _ (ap fields c.in-Ok.ensures.same ∙ list_line-fields _ _ c.in-Ok.ensures.number refl) (c.put_fields.ensures.value, c.put_fields.ensures.out_after) in
    record { value = p.0; out_after = p.1 }

pub put_refused-requires : goal.put_refused-requires
unfolding line_room
put_refused-requires c = omega (arith, c.requires)

pub returns-in-Err : goal.returns-in-Err
unfolding refused_line
returns-in-Err c =
    let p = put-equal _ _ (list_line-refused _ _ c.in-Err.ensures.number (refusal_number-some _)) (c.put_refused.ensures.value, c.put_refused.ensures.out_after) in
    record { value = p.0; out_after = p.1 }
