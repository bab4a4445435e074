-- `keys::among::key_rest` meets its contract: the loop's invariant at each way out. Assumes nothing.
use mathlib.Core.Path.{refl, sym, ap, ◌∙◌}
use native.Mathlib.Omega.{arith}
use lib.ListN.{get_or-eq_default}
use Rattle.utf8.specs.declared.characters.Read.{Read}
use Rattle.utf8.specs.Characters.{back}
use Rattle.utf8.specs.Behind.{read_back_of}
use Rattle.utf8.proofs.Laws.Characters.{back-le}
use Rattle.utf8.proofs.Laws.Part.{part_from, low-length-le, low-cursor-le, cursor-part-le}
use Rattle.keys.specs.Keys.{up_to_zero}
use Rattle.keys.proofs.Laws.Search.{over-over_part, over_part-ends, over_part-differs, over_part-read}
use Rattle.keys.proofs.among.key_rest.Goals as goal

pub slice_bounds-part-count : goal.slice_bounds-part-count
slice_bounds-part-count c = low-length-le _ _ c.requires

pub slice_bounds-part-start : goal.slice_bounds-part-start
slice_bounds-part-start c = low-length-le _ _ c.requires

pub overflow_sub-at : goal.overflow_sub-at
overflow_sub-at c = low-cursor-le _ _ c.requires

pub loop-letter-init : goal.loop-letter-init
loop-letter-init c = record { in_part = cursor-part-le _ _ c.requires; left = refl }

pub returns-then-letter-eq0 : goal.returns-then-letter-eq0
unfolding back
returns-then-letter-eq0 c =
    let low = c.args.c.limit_backward in
    let l = c.loop-letter in
    over_part-ends low (part_from c.args.w.now low) l.at 0 c.args.letters.now l.letter-index c.if-letter-eq0.true
    ∙ l.invariant.left ∙ sym (over-over_part c.args.w.now c.args.c (up_to_zero c.args.letters.now))

pub returns-then-p-letter : goal.returns-then-p-letter
unfolding read_back_of
returns-then-p-letter c =
    let low = c.args.c.limit_backward in
    let l = c.loop-letter in
    let read = ap (λ (x : Read). x.ch) c.read_back-p.ensures in
    over_part-differs low (part_from c.args.w.now low) l.at 0 c.args.letters.now l.letter-index c.if-letter-eq0.false
    (λ e. c.if-p-letter.true (read ∙ sym e))
    ∙ l.invariant.left ∙ sym (over-over_part c.args.w.now c.args.c (up_to_zero c.args.letters.now))

pub loop-letter-preserved : goal.loop-letter-preserved
unfolding read_back_of
loop-letter-preserved c =
    let low = c.args.c.limit_backward in
    let part = part_from c.args.w.now low in
    let l = c.loop-letter in
    let read = ap (λ (x : Read). x.at) c.read_back-p.ensures in
    let le = back-le part l.at 1 in record {
      in_part = omega (arith, read, le);
      left =
          over_part-read low part l.at c.args.letters.now l.letter-index _ c.read_back-p.ensures c.if-letter-eq0.false c.if-p-letter.false
          ∙ l.invariant.left;
    }

pub returns : goal.returns
unfolding back
returns c =
    let low = c.args.c.limit_backward in
    let l = c.loop-letter in
    over_part-ends low (part_from c.args.w.now low) l.at 0 c.args.letters.now l.letter-index (get_or-eq_default c.args.letters.now 0 c.loop-letter-test.false)
    ∙ l.invariant.left ∙ sym (over-over_part c.args.w.now c.args.c (up_to_zero c.args.letters.now))
