-- `folding::step::fold_at` meets its contract: a byte by itself, or with the one after it where there is one. Assumes nothing.
use mathlib.Core.Path.{sym, ◌∙◌}
use Rattle.folding.proofs.Laws.Places.{fold_step-alone, fold_step-last, fold_step-pair}
use Rattle.folding.proofs.step.fold_at.Goals as goal
use Rattle.folding.proofs.step.fold_at.Goals.{else-is_paired-via-then-is_paired+else-i-w, else-is_paired-via-else-is_paired}

pub returns-then-i-w : goal.returns-then-i-w
returns-then-i-w c =
    fold_step-pair c.args.w.now c.args.i c.requires c.fold_pair.result c.fold_pair.ensures (sym c.is_paired.ensures ∙ c.if-is_paired.true) c.if-i-w.true

pub returns : goal.returns
returns c =
    let w' = c.args.w.now in
    let i = c.args.i in
    let g = c.fold_alone.result in
    let e = c.fold_alone.ensures in
    elim c.else-is_paired.branch [
      | else-is_paired-via-then-is_paired+else-i-w w ↦ fold_step-last w' i c.requires g e w.if-i-w.false
      | else-is_paired-via-else-is_paired w ↦ fold_step-alone w' i c.requires g e (sym c.is_paired.ensures ∙ w.if-is_paired.false)
    ]
