-- `folding::fold::fold_steps` meets its contract: what was found to fit decides, and the fold step by step is the folded text.
-- Assumes nothing.
use Rattle.folding.proofs.Laws.FoldCall.{fold_bytes-accepted, fold-short, fold-given, not-fitting, fitting}
use Rattle.folding.proofs.fold.fold_steps.Goals as goal

pub returns-then-not-fits : goal.returns-then-not-fits
returns-then-not-fits c =
    let p = fold-short c.args.w.bytes.now c.args.w.is_accepted c.args.out.now (not-fitting _ _ _ c.fits.ensures c.if-not-fits.true-raw) in
    record { value = p.0; out_after = p.1 }

pub write_steps-requires : goal.write_steps-requires
write_steps-requires c =
    rw (fold_bytes-accepted c.args.w.bytes.now c.args.w.is_accepted) (fitting _ _ _ c.fits.ensures c.if-not-fits.false-raw)

pub returns : goal.returns
returns c =
    let room = fitting _ _ _ c.fits.ensures c.if-not-fits.false-raw in
    let length-told = rw (fold_bytes-accepted c.args.w.bytes.now c.args.w.is_accepted) at c.write_steps.ensures.value in
    let written = rw (fold_bytes-accepted c.args.w.bytes.now c.args.w.is_accepted) at c.write_steps.ensures.out_after in
    let p = fold-given c.args.w.bytes.now c.args.w.is_accepted c.args.out.now _ _ room length-told written in
    record { value = p.0; out_after = p.1 }
