-- `probe::probe_stage_part` meets its contract: the part does not fit, or it is copied whole. Assumes nothing.
use Rattle.probe.proofs.Part.{part-short, part-copied}
use Rattle.probe.proofs.probe_stage_part.Goals as goal

pub returns-then-out-part : goal.returns-then-out-part
returns-then-out-part c =
    let p = part-short _ _ _ c.stage_part-part.ensures c.if-out-part.true in
    record { value = p.0; out_after = p.1 }

pub returns : goal.returns
returns c =
    let p = part-copied _ _ _ _ _ c.stage_part-part.ensures c.if-out-part.false c.copy.ensures.value c.copy.ensures.out_after in
    record { value = p.0; out_after = p.1 }
