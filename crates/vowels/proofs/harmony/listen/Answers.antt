-- `vowels::harmony::listen` meets its contract: harmony is walked for in the part of the word from limit_backward on. Assumes nothing.
use Prim.Native.Nat.{◌+◌, ◌≤◌}
use mathlib.Core.Path.{sym, ◌∙◌}
use native.Mathlib.Omega.{arith}
use lib.ListN.{length}
use borrow.Author.Rules.{rules}
use Rattle.utf8.proofs.Laws.Part.{low-length-le, low-cursor-le, cursor-length-le, cursor-part-le}
use Rattle.vowels.proofs.Laws.Found.{harmony_before-le}
use Rattle.vowels.proofs.Laws.Harmony.{part-none, part-some}
use Rattle.vowels.proofs.harmony.listen.Goals as goal

pub slice_bounds-part-count : goal.slice_bounds-part-count
slice_bounds-part-count c = low-length-le _ _ c.requires

pub slice_bounds-part-start : goal.slice_bounds-part-start
slice_bounds-part-start c = low-length-le _ _ c.requires

pub overflow_sub-c : goal.overflow_sub-c
overflow_sub-c c = low-cursor-le _ _ c.requires

pub check_vowel_harmony-requires : goal.check_vowel_harmony-requires
check_vowel_harmony-requires c = cursor-part-le _ _ c.requires

pub returns-in_err-h : goal.returns-in_err-h
returns-in_err-h c = c.from_residual.ensures ∙ part-none _ _ (sym c.check_vowel_harmony.ensures ∙ c.in_err-h.was)

pub overflow_add-result : goal.overflow_add-result
overflow_add-result c =
    let found = harmony_before-le _ _ (sym c.check_vowel_harmony.ensures ∙ c.in_ok-h.was) in
    let in-word : c.args.c.limit_backward + c.in_ok-h.h.last ≤ length c.args.w.now =
    omega (arith, found.0, low-cursor-le _ _ c.requires, cursor-length-le _ _ c.requires) in
    search rules

pub overflow_add-result-2 : goal.overflow_add-result-2
overflow_add-result-2 c =
    let found = harmony_before-le _ _ (sym c.check_vowel_harmony.ensures ∙ c.in_ok-h.was) in
    let in-word : c.args.c.limit_backward + c.in_ok-h.h.partner ≤ length c.args.w.now =
    omega (arith, found.1, low-cursor-le _ _ c.requires, cursor-length-le _ _ c.requires) in
    search rules

pub returns : goal.returns
returns c = part-some _ _ (sym c.check_vowel_harmony.ensures ∙ c.in_ok-h.was)
