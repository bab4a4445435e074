-- `utf8::characters::first_width` meets its contract: the closure tells what the definition asks of each byte. Assumes nothing.
use Rattle.utf8.specs.Characters.{first_width_of}
use Rattle.encoding.specs.Encoding.{continuation}
use lib.ListN.{get_or}
use Prim.Native.Nat.{◌+◌}
use Rattle.std.proofs.Common.{rules}
use Rattle.utf8.proofs.Laws.Widths.{continuation-end}
use Rattle.utf8.proofs.characters.first_width.Goals as goal

pub returns : goal.returns
unfolding first_width_of
returns c = c.width.ensures (λ k. continuation (get_or c.args.w.now (c.args.c + k) 0)) (λ k b p. search (rules, continuation-end))
