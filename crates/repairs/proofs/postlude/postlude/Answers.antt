-- `repairs::postlude::postlude` meets its contract: each return is the repair by the tests on its way. Assumes nothing.
use mathlib.Core.Path.{sym, ◌∙◌}
use native.Mathlib.Omega.{arith}
use Rattle.utf8.specs.Characters.{before}
use Rattle.utf8.proofs.Laws.Behind.{open-start}
use Rattle.repairs.specs.Repairs.{ending}
use Rattle.repairs.proofs.Laws.Repairs.{appended-short, gain-none, gain-some, repair_of-reserved, repair_of-gains, repair_of-hardens}
use Rattle.repairs.proofs.postlude.postlude.Goals as goal

pub returns-then-is_reserved_word : goal.returns-then-is_reserved_word
returns-then-is_reserved_word c = repair_of-reserved _ _ _ (sym c.is_reserved_word.ensures ∙ c.if-is_reserved_word.true) c.unchanged.ensures

pub look_back-s-requires : goal.look_back-s-requires
look_back-s-requires c = open-start c.args.w.now c.args.n c.args.n (omega arith) c.requires

pub append_U_to_stems_ending_with_d_or_g-requires : goal.append_U_to_stems_ending_with_d_or_g-requires
unfolding ending
append_U_to_stems_ending_with_d_or_g-requires c = record { n_in_bounds = c.requires; s_value = c.look_back-s.ensures }

pub followed-requires : goal.followed-requires
followed-requires c =
    let a = c.args in
    let gains = gain-some _ _ (sym c.append_U_to_stems_ending_with_d_or_g.ensures ∙ c.in-Some.is) in
    omega (arith, appended-short (before a.w.now a.n), gains.0)

pub returns-in-Some : goal.returns-in-Some
returns-in-Some c =
    let free = sym c.is_reserved_word.ensures ∙ c.if-is_reserved_word.false in
    let gains = gain-some _ _ (sym c.append_U_to_stems_ending_with_d_or_g.ensures ∙ c.in-Some.is) in
    repair_of-gains _ _ _ _ free gains.0 gains.1 c.followed.ensures

pub post_process_last_consonants-requires : goal.post_process_last_consonants-requires
unfolding ending
post_process_last_consonants-requires c = record { n_in_bounds = c.requires; s_value = c.look_back-s.ensures }

pub returns : goal.returns
returns c =
    let free = sym c.is_reserved_word.ensures ∙ c.if-is_reserved_word.false in
    let none = gain-none _ (sym c.append_U_to_stems_ending_with_d_or_g.ensures ∙ c.in_default.is) in
    repair_of-hardens _ _ _ free none c.post_process_last_consonants.ensures
