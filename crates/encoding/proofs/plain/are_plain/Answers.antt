-- `encoding::plain::are_plain` meets its contract: the tests of the eights, joined one after the other. Assumes nothing.
use mathlib.Core.Path.{◌≡◌, ◌∙◌}
use mathlib.Core.Bool.{true, ◌&&◌}
use native.Mathlib.Omega.{arith}
use Rattle.std.proofs.lemmas.Grind.{common_steps}
use Rattle.std.specs.List.{fold}
use Rattle.encoding.specs.PlainRuns.{word_bytes, plain_next}
use Rattle.encoding.proofs.Laws.PlainRuns.{all-folded}
use Rattle.encoding.proofs.plain.are_plain.Goals as goal

pub returns : goal.returns
returns c =
    let p = plain_next word_bytes in
    let joined : c.fold.result ≡ fold (λ b x. b && p x) true c.args.eights.now = grind (arith, common_steps) in
    joined ∙ all-folded p true c.args.eights.now
