-- `batch::tails::count_leads` meets its contract. The loop's invariant: those counted so far and those of the bytes from the place on are those
-- of all of them. Assumes nothing.
use Prim.Native.Nat.{◌+◌}
use mathlib.Core.Path.{◌≡◌}
use lib.ListN.{drop}
use Rattle.batch.specs.Tails.{leads}
use Rattle.batch.proofs.tails.count_leads.Given as goal

abbrev pub invariant-loop-b : goal.invariant-loop-b
invariant-loop-b l = l.k + leads (drop l.b-index l.part) ≡ leads l.part
