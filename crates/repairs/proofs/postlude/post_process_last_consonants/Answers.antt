-- `repairs::postlude::post_process_last_consonants` meets its contract: the table A_23 computes to the four keys, and the place found
-- says which of them the last character is. Assumes nothing.
use mathlib.Core.Path.{ap, ◌∙◌}
use native.Mathlib.Omega.{arith}
use Rattle.repairs.proofs.Laws.Hardened.{hard_form, hard_form-last, hardened-nothing, hardened-key}
use Rattle.repairs.proofs.Laws.Repairs.{sees-ending}
use Rattle.repairs.proofs.postlude.post_process_last_consonants.Goals as goal

pub find_among_b-requires : goal.find_among_b-requires
find_among_b-requires c = (omega arith, sees-ending _ _ _ c.requires.s_value c.requires.n_in_bounds)

pub returns-in_default : goal.returns-in_default
returns-in_default c =
    let search = c.find_among_b.ensures in
    c.unchanged.ensures ∙ hardened-nothing _ _ _ _ c.requires.s_value search c.in_default.is

pub returns-in-0 : goal.returns-in-0
unfolding hard_form
returns-in-0 c =
    let key = hardened-key _ _ _ _ c.requires.s_value
    c.find_among_b.ensures in
    key _ _ _ c.in-Some.is (ap hard_form c.in-0.is) c.followed.ensures

pub returns-in-1 : goal.returns-in-1
unfolding hard_form
returns-in-1 c =
    let key = hardened-key _ _ _ _ c.requires.s_value
    c.find_among_b.ensures in
    key _ _ _ c.in-Some.is (ap hard_form c.in-1.is) c.followed-in-1.ensures

pub returns-in-2 : goal.returns-in-2
unfolding hard_form
returns-in-2 c =
    let key = hardened-key _ _ _ _ c.requires.s_value
    c.find_among_b.ensures in
    key _ _ _ c.in-Some.is (ap hard_form c.in-2.is) c.followed-in-2.ensures

pub returns-in_default-place : goal.returns-in_default-place
returns-in_default-place c =
    let key = hardened-key _ _ _ _ c.requires.s_value
    c.find_among_b.ensures in
    let r = c.in_default-place.in_default-place-own.rest in
    key _ _ _ c.in-Some.is (hard_form-last _ r.0.0.1 r.0.1 r.1) c.followed-in_default-place.ensures
