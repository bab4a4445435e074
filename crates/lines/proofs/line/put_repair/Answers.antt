-- `lines::line::put_repair` meets its contract: the bytes kept are written, and the letter that follows behind them.
-- Assumes nothing.
use mathlib.Core.Path.{refl, ap}
use native.Mathlib.Omega.{arith}
use lib.ListN.{length}
use Rattle.repairs.specs.Repairs.{letter_bytes}
use Rattle.writing.proofs.Laws.Put.{wrote_nothing, wrote-text, wrote-bytes, wrote-all}
use Rattle.lines.proofs.Laws.LineText.{repair-none, repair-some}
use Rattle.lines.proofs.line.put_repair.Goals as goal

pub returns-in_default : goal.returns-in_default
returns-in_default c =
    let p = wrote-all (repair-none _ _ c.in_default.is)
    (wrote-bytes _ _ c.requires.keep_in_bounds (wrote_nothing (omega arith)) (c.put_bytes-a.ensures.value, c.put_bytes-a.ensures.out_after)) in
    record { value = p.0; out_after = p.1 }

pub put-requires : goal.put-requires
put-requires c = omega (arith, c.put_bytes-a.auto.out, ap (λ l. length (letter_bytes l)) c.in-Some.is)

pub returns : goal.returns
returns c =
    let more = ap (λ l. length (letter_bytes l)) c.in-Some.is in
    let p = wrote-all (repair-some _ _ _ c.in-Some.is)
    (wrote-text _ _ refl
    (wrote-bytes _ _ c.requires.keep_in_bounds (wrote_nothing (omega (arith, more))) (c.put_bytes-a.ensures.value, c.put_bytes-a.ensures.out_after))
    (c.put.ensures.value, c.put.ensures.out_after)) in
    record { value = p.0; out_after = p.1 }
