-- `kinds::spelling::put_line` meets its contract: the parts written one after the other are the piece's line, and they fit. Assumes nothing.
use mathlib.Core.Path.{refl}
use native.Mathlib.Omega.{arith}
use Rattle.turkish.specs.Letters.{tab, lf}
use Rattle.writing.proofs.Laws.Put.{wrote_nothing, wrote-byte, wrote-text, wrote-all}
use Rattle.kinds.proofs.Laws.Spelling.{piece_line-parts, length-piece_line}
use Rattle.kinds.proofs.spelling.put_line.Goals as goal

pub put_all-named-requires : goal.put_all-named-requires
put_all-named-requires c = omega (arith, length-piece_line c.args.w.now c.args.p c.name_of.ensures)

pub put_byte-parted-requires : goal.put_byte-parted-requires
put_byte-parted-requires c = omega (arith, length-piece_line c.args.w.now c.args.p c.name_of.ensures)

pub put_all-spelt-requires : goal.put_all-spelt-requires
put_all-spelt-requires c = omega (arith, length-piece_line c.args.w.now c.args.p c.name_of.ensures)

pub put_byte-requires : goal.put_byte-requires
put_byte-requires c = omega (arith, length-piece_line c.args.w.now c.args.p c.name_of.ensures)

pub returns : goal.returns
unfolding tab lf
returns c =
    let size = length-piece_line c.args.w.now c.args.p c.name_of.ensures in
    let named = wrote-text _ _ refl (wrote_nothing (omega (arith, size, c.requires))) (c.put_all-named.ensures.value, c.put_all-named.ensures.out_after) in
    let parted = wrote-byte _ named (c.put_byte-parted.ensures.value, c.put_byte-parted.ensures.out_after) in
    let spelt = wrote-text _ _ refl parted (c.put_all-spelt.ensures.value, c.put_all-spelt.ensures.out_after) in
    let line = wrote-byte _ spelt (c.put_byte.ensures.value, c.put_byte.ensures.out_after) in
    let all = wrote-all (piece_line-parts c.args.w.now c.args.p c.name_of.ensures) line in
    record { value = all.0; out_after = all.1 }
