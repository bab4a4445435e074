-- `encoding::walk::Walk::is_owed` meets its contract: the byte that it reads is the one before the place. Assumes nothing.
use Prim.Native.Nat.{ℕ}
use mathlib.Core.Path.{ap}
use lib.Dec.{leb}
use Rattle.encoding.proofs.Laws.Walked.{byte_before-at}
use Rattle.encoding.proofs.walk.Walk.is_owed.Goals as goal

pub returns : goal.returns
returns c = let s = c.args.self in ap (λ (x : ℕ). leb 0xC0 x) (byte_before-at s.word.now s.at s.begun)
