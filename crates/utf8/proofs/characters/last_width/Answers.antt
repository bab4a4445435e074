-- `utf8::characters::last_width` meets its contract: the closure tells what the definition asks of each byte. Assumes nothing.
use Rattle.utf8.specs.Characters.{last_width_of, goes_on_of}
use Rattle.std.proofs.Common.{rules}
use Rattle.utf8.proofs.characters.last_width.Goals as goal

pub returns : goal.returns
unfolding last_width_of goes_on_of
returns c = c.width.ensures (goes_on_of c.args.w.now c.args.c) (λ k b p. let h = p in search rules)
