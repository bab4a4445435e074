-- `lines::line::put_run` meets its contract: the repair is written, and the bytes behind it are written behind it. Assumes nothing.
use mathlib.Core.Path.{refl}
use native.Mathlib.Omega.{arith}
use Rattle.writing.proofs.Laws.Put.{wrote_nothing, wrote-text, wrote-bytes, wrote-all}
use Rattle.outputs.proofs.Laws.Writing.{length-repair, length-between, run-parts}
use Rattle.lines.proofs.line.put_run.Goals as goal

pub put_bytes-requires : goal.put_bytes-requires
put_bytes-requires c =
    let w = c.args.w.now in
    let r = c.args.r in
    let repair = length-repair w r.repair c.requires.keep_in_bounds in
    record { n_in_bounds = omega (arith, length-between w r c.requires.from_le_upto c.requires.upto_in_bounds); n_in_bounds_2 = omega arith }

pub returns : goal.returns
returns c =
    let w = c.args.w.now in
    let r = c.args.r in
    let repair = length-repair w r.repair c.requires.keep_in_bounds in
    let between = length-between w r c.requires.from_le_upto c.requires.upto_in_bounds in
    let p = wrote-all (run-parts w r c.requires.from_le_upto c.requires.upto_in_bounds)
    (wrote-bytes _ _ (omega (arith, between)) (wrote-text _ _ refl (wrote_nothing (omega (arith, repair))) (c.put_repair-a.ensures.value, c.put_repair-a.ensures.out_after)) (c.put_bytes.ensures.value, c.put_bytes.ensures.out_after)) in
    record { value = p.0; out_after = p.1 }
