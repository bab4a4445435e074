-- `folding::fold::fold_plain` meets its contract: the folded text is as long as the word, with each byte folded where it stands.
-- Assumes nothing.
use mathlib.Core.Path.{sym, ◌∙◌}
use native.Mathlib.Omega.{arith}
use Rattle.folding.proofs.Laws.FoldCall.{fold-short, fold-given, fold_text-plain, length-plain}
use Rattle.folding.proofs.fold.fold_plain.Goals as goal

pub returns-then-out-w : goal.returns-then-out-w
returns-then-out-w c =
    let w = c.args.w.bytes.now in
    let out = c.args.out.now in
    let long = length-plain w c.args.w.is_accepted c.requires in let p = fold-short w c.args.w.is_accepted out (omega arith) in
    record { value = p.0; out_after = p.1 }

pub returns : goal.returns
returns c =
    let w = c.args.w.bytes.now in
    let long = length-plain w c.args.w.is_accepted c.requires in
    let p = fold-given w c.args.w.is_accepted c.args.out.now _ _ (omega arith) (sym long) (c.write_plain.ensures ∙ rw (fold_text-plain w c.args.w.is_accepted c.requires)) in
    record { value = p.0; out_after = p.1 }
