-- `fronts::summary::summary_of` meets its contract. The loop's invariant: it has passed some of the front's characters, the record stands behind
-- them, and the summary is theirs. The measure is what is left of the front's bytes. Assumes nothing.
use mathlib.Core.Path.{refl}
use native.Mathlib.Omega.{arith}
use Rattle.turkish.specs.Letters.{text, any, has}
use Rattle.turkish.specs.Vowels.{vowels, vowel, last_vowel_of, before_last_vowel}
use Rattle.batches.specs.Summary.{vowel_number, times, summary_from}
use Rattle.fronts.proofs.Laws.Summaries.{passed_none, passed-more, passed-less, passed_counted, passed-all}
use Rattle.fronts.proofs.summary.summary_of.Goals as goal

pub loop-p-init : goal.loop-p-init
unfolding summary_from vowel_number vowel vowels text has any last_vowel_of before_last_vowel times
loop-p-init c = passed_none c.args.front.now _ c.requires refl

pub add-s-requires : goal.add-s-requires
add-s-requires c =
    let l = c.loop-p in
    passed_counted c.args.front.now l.s l.c c.requires l.invariant (passed-less _ _ _ _ l.invariant c.in-Some.ensures)

pub loop-p-smaller : goal.loop-p-smaller
loop-p-smaller c =
    let l = c.loop-p in
    let turn = passed-more c.args.front.now l.s c.add-s.result l.c _ l.invariant c.in-Some.ensures c.add-s.ensures in
    omega (arith, turn.1, passed-less _ _ _ _ l.invariant c.in-Some.ensures)

pub loop-p-preserved : goal.loop-p-preserved
loop-p-preserved c =
    let l = c.loop-p in
    (passed-more c.args.front.now l.s c.add-s.result l.c _ l.invariant c.in-Some.ensures c.add-s.ensures).0

pub returns : goal.returns
returns c = passed-all c.args.front.now c.loop-p.s c.loop-p.c c.loop-p.invariant c.in_default.ensures
