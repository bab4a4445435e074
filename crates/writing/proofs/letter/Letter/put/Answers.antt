-- `writing::letter::Letter::put` meets its contract: the letter's bytes are written one after the other. Assumes nothing.
use Prim.Native.Nat.{◌+◌, ◌≤◌}
use mathlib.Core.Path.{refl, ap}
use mathlib.Core.List.{[], ◌∷◌}
use native.Mathlib.Omega.{arith}
use lib.ListN.{length}
use Rattle.writing.specs.Letter.{bytes_of}
use Rattle.writing.proofs.Laws.Put.{length-put, wrote_nothing, wrote-byte, wrote-all}
use Rattle.writing.proofs.letter.Letter.put.Goals as goal

pub put_byte-requires : goal.put_byte-requires
put_byte-requires c = omega (arith, ap (λ l. length (bytes_of l)) c.in-One.is)

pub put_byte-next-requires : goal.put_byte-next-requires
put_byte-next-requires c = omega (arith, ap (λ l. length (bytes_of l)) c.in-Two.is)

pub put_byte-requires-in-Two : goal.put_byte-requires-in-Two
put_byte-requires-in-Two c =
    let two : c.args.at + 2 ≤ length c.args.out.now = omega (arith, ap (λ l. length (bytes_of l)) c.in-Two.is) in
    let kept = length-put c.args.at (c.in-Two.a ∷ []) c.args.out.now (omega arith) in
    omega (arith, ap length c.put_byte-next.ensures.out_after)

pub returns-in-One : goal.returns-in-One
returns-in-One c = rw c.in-One.is (record { value = c.put_byte.ensures.value; out_after = c.put_byte.ensures.out_after })

pub returns-in-Two : goal.returns-in-Two
returns-in-Two c =
    let a = c.put_byte-next.ensures in
    let b = c.put_byte-in-Two.ensures in
    let two : c.args.at + 2 ≤ length c.args.out.now = omega (arith, ap (λ l. length (bytes_of l)) c.in-Two.is) in
    let all = wrote-all refl (wrote-byte c.in-Two.b (wrote-byte c.in-Two.a (wrote_nothing two) (a.value, a.out_after)) (b.value, b.out_after)) in
    rw c.in-Two.is (record { value = all.0; out_after = all.1 })
