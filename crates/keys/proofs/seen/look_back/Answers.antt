-- `keys::seen::look_back` meets its contract: three bytes below 128 are three characters, and any others are read one after the other.
-- Assumes nothing.
use Prim.Native.Nat.{ℕ, ◌-◌, ◌<◌}
use mathlib.Core.Path.{refl, ap}
use native.Mathlib.Omega.{arith}
use lib.ListN.{get_or}
use Rattle.utf8.proofs.Laws.Part.{low-cursor-le, cursor-length-le}
use Rattle.keys.specs.declared.seen.Three.{Three}
use Rattle.keys.specs.Seen.{seen_at}
use Rattle.keys.proofs.Laws.Reads.{all_plain, three_at-plain}
use Rattle.keys.proofs.seen.look_back.Goals as goal

pub overflow_sub-at : goal.overflow_sub-at
overflow_sub-at c = low-cursor-le _ _ c.requires

pub returns-then-at-c-lt3 : goal.returns-then-at-c-lt3
unfolding seen_at
returns-then-at-c-lt3 c = cc

pub bounds-w-at : goal.bounds-w-at
bounds-w-at c = omega (arith, cursor-length-le _ _ c.requires)

pub bounds-w-at-2 : goal.bounds-w-at-2
bounds-w-at-2 c = omega (arith, cursor-length-le _ _ c.requires)

pub bounds-w-at-3 : goal.bounds-w-at-3
bounds-w-at-3 c = omega (arith, cursor-length-le _ _ c.requires)

pub returns-then-x-y : goal.returns-then-x-y
unfolding seen_at
returns-then-x-y c =
    let byte = λ (k : ℕ). get_or c.args.w.now (c.args.c.cursor - k) 0 in
    let small : (byte 1 < 0x80) × (byte 2 < 0x80) × (byte 3 < 0x80) = all_plain (byte 1) (byte 2) (byte 3) c.if-x-y.true in
    ap (λ (t : Three). record { c = c.args.c; ending = t })
    (three_at-plain c.args.w.now c.args.c c.requires c.if-at-c-lt3.false _ _ _ refl refl refl small.0 small.1 small.2)

pub returns : goal.returns
unfolding seen_at
returns c = cc
