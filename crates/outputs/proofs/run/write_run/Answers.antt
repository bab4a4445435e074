-- `outputs::run::write_run` meets its contract: the repair is written, and the bytes behind it are put behind it. Assumes nothing.
use native.Mathlib.Omega.{arith}
use Rattle.outputs.proofs.Laws.Writing.{length-repair, length-between, written-run}
use Rattle.outputs.proofs.run.write_run.Goals as goal

pub put_bytes-requires : goal.put_bytes-requires
put_bytes-requires c =
    let w = c.args.w.now in
    let r = c.args.r in
    let repair = length-repair w r.repair c.requires.keep_in_bounds in
    record { n_in_bounds = omega (arith, length-between w r c.requires.from_le_upto c.requires.upto_in_bounds); n_in_bounds_2 = omega arith }

pub returns : goal.returns
returns c =
    let p = written-run _ _ c.requires.from_le_upto c.requires.upto_in_bounds _ _ _ _ _
    c.write_repair-n.ensures.value
    c.write_repair-n.ensures.out_after
    c.put_bytes.ensures.value
    c.put_bytes.ensures.out_after in
    record { value = p.0; out_after = p.1 }
