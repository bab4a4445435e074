-- `lines::listed::put_listed` meets its contract: the test is the definition's.
-- Assumes nothing.
use mathlib.Core.Path.{◌≡◌}
use mathlib.Core.Bool.{true, false}
use Rattle.lines.proofs.Laws.Listed.{listed_plain}
use Rattle.lines.proofs.listed.put_listed.Goals as goal

pub returns-then-folded : goal.returns-then-folded
returns-then-folded c =
    let asked : c.args.folded ≡ true = c.if-folded.true in
    record { value = rw asked c.put_folded.ensures.value; out_after = rw asked c.put_folded.ensures.out_after }

pub returns : goal.returns
returns c =
    let unasked : c.args.folded ≡ false = c.if-folded.false in
    record { value = rw (unasked, listed_plain) c.put_line.ensures.value; out_after = rw (unasked, listed_plain) c.put_line.ensures.out_after }
