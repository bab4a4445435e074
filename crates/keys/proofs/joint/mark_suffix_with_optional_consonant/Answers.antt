-- `keys::joint::mark_suffix_with_optional_consonant` meets its contract: two characters are read back, and the optional letter goes by them.
-- Assumes nothing.
use mathlib.Core.Path.{sym, ◌∙◌}
use mathlib.Core.Bool.{true}
use mathlib.Core.List.{[], ◌∷◌}
use native.Mathlib.Omega.{arith}
use borrow.Author.Tests.{eq-eqb, ne_eqb, not-true, not-false}
use Rattle.utf8.proofs.Laws.Part.{low-length-le, low-cursor-le, cursor-length-le, cursor-part-le}
use Rattle.keys.proofs.Laws.Reads.{first-le}
use Rattle.keys.proofs.Laws.Optional.{has_one, second-vowel, passes-wrong, passes-joined, passes-free}
use Rattle.keys.proofs.joint.mark_suffix_with_optional_consonant.Goals as goal

pub slice_bounds-part-count : goal.slice_bounds-part-count
slice_bounds-part-count c = low-length-le _ _ c.requires

pub slice_bounds-part-start : goal.slice_bounds-part-start
slice_bounds-part-start c = low-length-le _ _ c.requires

pub overflow_sub-c : goal.overflow_sub-c
overflow_sub-c c = low-cursor-le _ _ c.requires

pub read_short_back-a-requires : goal.read_short_back-a-requires
read_short_back-a-requires c = cursor-part-le _ _ c.requires

pub read_short_back-b-requires : goal.read_short_back-b-requires
read_short_back-b-requires c =
    let w = c.args.w.now in
    let r = c.args.c in
    omega (arith, cursor-part-le w r c.requires, first-le w r c.read_short_back-a.ensures)

pub returns-then-not-is_vowel : goal.returns-then-not-is_vowel
returns-then-not-is_vowel c =
    passes-wrong c.args.w.now c.args.c c.read_short_back-a.ensures c.read_short_back-b.ensures (c.args.letter ∷ []) true
    (sym c.is_vowel.ensures ∙ not-true _ c.if-not-is_vowel.true-raw)

pub overflow_add-result : goal.overflow_add-result
overflow_add-result c =
    let w = c.args.w.now in
    let r = c.args.c in
    omega (arith, cursor-length-le w r c.requires, low-cursor-le w r c.requires, first-le w r c.read_short_back-a.ensures)

pub returns-then-a-letter : goal.returns-then-a-letter
returns-then-a-letter c =
    let w = c.args.w.now in
    let is = sym c.is_vowel.ensures ∙ not-false _ c.if-not-is_vowel.false-raw in
    let stands = sym (has_one c.args.letter c.read_short_back-a.result.ch) ∙ eq-eqb _ _ c.if-a-letter.true in
    passes-joined w c.args.c c.read_short_back-a.ensures c.read_short_back-b.ensures (c.args.letter ∷ []) true
    (second-vowel w c.args.c c.read_short_back-a.ensures c.read_short_back-b.ensures is) is stands

pub returns : goal.returns
returns c =
    let w = c.args.w.now in
    let is = sym c.is_vowel.ensures ∙ not-false _ c.if-not-is_vowel.false-raw in
    let stands-not = sym (has_one c.args.letter c.read_short_back-a.result.ch) ∙ ne_eqb _ _ c.if-a-letter.false in
    passes-free w c.args.c c.read_short_back-a.ensures c.read_short_back-b.ensures (c.args.letter ∷ []) true
    (second-vowel w c.args.c c.read_short_back-a.ensures c.read_short_back-b.ensures is) is c.requires stands-not
