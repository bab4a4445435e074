-- `lines::line::put_answers` meets its contract: the seven bytes are the answers. Assumes nothing.
use Rattle.turkish.specs.Letters.{tab}
use Rattle.lines.specs.Line.{yes_no, one_zero, answers}
use Rattle.writing.proofs.Laws.Put.{put-equal}
use Rattle.lines.proofs.Laws.LineText.{answers-bytes}
use Rattle.lines.proofs.line.put_answers.Goals as goal

pub returns : goal.returns
unfolding answers tab yes_no one_zero
returns c =
    let a = c.args in
    let bytes = answers-bytes a.syllable a.yes a.flag c.either.ensures c.either-2.ensures c.either-3.ensures in
    let p = put-equal a.at a.out.now bytes (c.put_all.ensures.value, c.put_all.ensures.out_after) in
    record { value = p.0; out_after = p.1 }
