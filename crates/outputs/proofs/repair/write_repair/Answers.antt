-- `outputs::repair::write_repair` meets its contract: the bytes kept are copied, and the letter that follows is written behind them.
-- Assumes nothing.
use mathlib.Core.Path.{ap}
use native.Mathlib.Omega.{arith}
use lib.ListN.{length, length-take}
use Rattle.repairs.specs.Repairs.{letter_bytes}
use Rattle.outputs.proofs.Laws.Writing.{repair-kept, repair-followed}
use Rattle.outputs.proofs.repair.write_repair.Goals as goal

pub slice_bounds-copy-end : goal.slice_bounds-copy-end
slice_bounds-copy-end c = simp length-take (omega arith)

pub copy-requires : goal.copy-requires
copy-requires c = simp length-take (omega arith)

pub returns-in_default : goal.returns-in_default
returns-in_default c =
    let p = repair-kept _ _ c.requires.keep_in_bounds _ _ c.copy.ensures.out_after c.in_default.is in
    record { value = p.0; out_after = p.1 }

pub put-requires : goal.put-requires
put-requires c = omega (arith, c.copy.auto.out, ap (λ l. length (letter_bytes l)) c.in-Some.is)

pub returns : goal.returns
returns c =
    let p = repair-followed _ _ c.requires.keep_in_bounds _ _ c.copy.ensures.out_after _ c.in-Some.is _ _ c.put.ensures.value c.put.ensures.out_after in
    record { value = p.0; out_after = p.1 }
