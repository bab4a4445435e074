-- `keys::joint::mark_suffix_with_optional_U_vowel` meets its contract: two characters are read back, and the optional U goes by them; where the
-- first begins the part there is no second. Assumes nothing.
use mathlib.Core.Path.{sym, ap, ◌∙◌}
use mathlib.Core.Bool.{false, not}
use native.Mathlib.Omega.{arith}
use Rattle.turkish.specs.Letters.{text}
use Rattle.turkish.specs.Source.{U}
use Rattle.utf8.proofs.Laws.Part.{low-length-le, low-cursor-le, cursor-length-le, cursor-part-le}
use Rattle.keys.proofs.Laws.Reads.{first-le}
use Rattle.keys.proofs.Laws.Optional.{has-U, second-there, passes-short, passes-wrong, passes-joined, passes-free}
use Rattle.keys.proofs.joint.mark_suffix_with_optional_U_vowel.Goals as goal

pub slice_bounds-part-count : goal.slice_bounds-part-count
slice_bounds-part-count c = low-length-le _ _ c.requires

pub slice_bounds-part-start : goal.slice_bounds-part-start
slice_bounds-part-start c = low-length-le _ _ c.requires

pub overflow_sub-c : goal.overflow_sub-c
overflow_sub-c c = low-cursor-le _ _ c.requires

pub read_back-a-requires : goal.read_back-a-requires
read_back-a-requires c = cursor-part-le _ _ c.requires

pub returns-then-a-eq0 : goal.returns-then-a-eq0
returns-then-a-eq0 c =
    passes-short c.args.w.now c.args.c c.read_back-a.ensures (text U) false c.if-a-eq0.true

pub read_back-b-requires : goal.read_back-b-requires
read_back-b-requires c =
    let w = c.args.w.now in
    let r = c.args.c in
    omega (arith, cursor-part-le w r c.requires, first-le w r c.read_back-a.ensures)

pub returns-then-is_vowel : goal.returns-then-is_vowel
returns-then-is_vowel c =
    passes-wrong c.args.w.now c.args.c c.read_back-a.ensures c.read_back-b.ensures (text U) false
    (ap not (sym c.is_vowel.ensures ∙ c.if-is_vowel.true))

pub overflow_add-result : goal.overflow_add-result
overflow_add-result c =
    let w = c.args.w.now in
    let r = c.args.c in
    omega (arith, cursor-length-le w r c.requires, low-cursor-le w r c.requires, first-le w r c.read_back-a.ensures)

pub returns-then-is_U : goal.returns-then-is_U
returns-then-is_U c =
    let w = c.args.w.now in
    let there = second-there w c.args.c c.read_back-a.ensures c.if-a-eq0.false in
    let right = ap not (sym c.is_vowel.ensures ∙ c.if-is_vowel.false) in
    let stands = sym (has-U c.read_back-a.result.ch) ∙ sym c.is_U.ensures ∙ c.if-is_U.true in
    passes-joined w c.args.c c.read_back-a.ensures c.read_back-b.ensures (text U) false there right stands

pub returns : goal.returns
returns c =
    let w = c.args.w.now in
    let there = second-there w c.args.c c.read_back-a.ensures c.if-a-eq0.false in
    let right = ap not (sym c.is_vowel.ensures ∙ c.if-is_vowel.false) in
    let stands-not = sym (has-U c.read_back-a.result.ch) ∙ sym c.is_U.ensures ∙ c.if-is_U.false in
    passes-free w c.args.c c.read_back-a.ensures c.read_back-b.ensures (text U) false there right c.requires stands-not
