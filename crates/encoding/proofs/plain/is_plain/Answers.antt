-- `encoding::plain::is_plain` meets its contract: the top bits of the joined bytes tell whether they are plain. Assumes nothing.
use native.Mathlib.Omega.{arith}
use Rattle.encoding.proofs.Laws.PlainRuns.{word-plain}
use Rattle.encoding.proofs.plain.is_plain.Goals as goal

pub returns : goal.returns
returns c = word-plain c.args.eight.now c.join.result (λ j. omega (arith, c.fits-eight j)) c.told-eight c.join.ensures
