-- `nouns::chain::stem_suffix_chain_before_ki` meets its contract: by its first turn and, where that calls the chain, from where it came to. In each
-- answer `on` is what a turn that calls gives the call. Assumes nothing.
use Prim.Native.Nat.{ℕ}
use mathlib.Core.Path.{◌≡◌, ap, ◌∙◌}
use native.Mathlib.Omega.{arith}
use Rattle.std.specs.Prelude.{Option, Some}
use Rattle.std.specs.Option.{option_or}
use Rattle.nouns.specs.declared.link.Link.TheVariants.{Ends, Calls}
use Rattle.nouns.proofs.Laws.Links.{chain-unfit, chain-ends, chain-calls, chain-open}
use Rattle.nouns.proofs.chain.+stem_suffix_chain_before_ki.Goals as goal

pub returns-in_err-p : goal.returns-in_err-p
returns-in_err-p t c = c.from_residual.ensures ∙ chain-unfit _ _ c.requires c.one_link.ensures c.in_err-p.was

pub step_to-requires : goal.step_to-requires
step_to-requires t c =
    let calls : c.one_link.result ≡ Some (Calls c.in-Calls.p) = c.in_ok-p.was ∙ ap Some c.in-Calls.is in
    chain-open _ _ c.requires c.one_link.ensures calls

pub stem_suffix_chain_before_ki-requires : goal.stem_suffix_chain_before_ki-requires
stem_suffix_chain_before_ki-requires t c =
    let calls : c.one_link.result ≡ Some (Calls c.in-Calls.p) = c.in_ok-p.was ∙ ap Some c.in-Calls.is in
    let on = chain-calls _ _ c.requires c.one_link.ensures calls c.step_to.ensures in
    (omega (arith, on.less, c.decreases), on.sees)

pub returns-in-Ends : goal.returns-in-Ends
returns-in-Ends t c =
    let ends : c.one_link.result ≡ Some (Ends c.in-Ends.p) = c.in_ok-p.was ∙ ap Some c.in-Ends.is in
    chain-ends _ _ c.requires c.one_link.ensures ends

pub returns-in-Calls : goal.returns-in-Calls
returns-in-Calls t c =
    let calls : c.one_link.result ≡ Some (Calls c.in-Calls.p) = c.in_ok-p.was ∙ ap Some c.in-Calls.is in
    let on = chain-calls _ _ c.requires c.one_link.ensures calls c.step_to.ensures in
    c.or.ensures ∙ ap (λ (o : Option ℕ). option_or o (Some c.in-Calls.p)) c.stem_suffix_chain_before_ki.ensures ∙ on.same
