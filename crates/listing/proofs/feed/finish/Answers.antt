-- `listing::feed::finish` meets its contract. Where no byte is held nothing is written, and else the line held.
-- Assumes nothing.
use Rattle.std.proofs.Common.{rules}
use native.Mathlib.Omega.{arith}
use Rattle.listing.proofs.Laws.Held.{last_out-none, last_out-line}
use Rattle.writing.proofs.Laws.Put.{put-nothing}
use Rattle.listing.proofs.feed.finish.Goals as goal

pub returns-then-is_empty : goal.returns-then-is_empty
returns-then-is_empty c =
    let a = c.args in
    let none = last_out-none a.folded a.held.now (search rules) in
    record { value = rw none; out_after = rw none (put-nothing 0 a.out.now) }

pub returns : goal.returns
returns c =
    let a = c.args in
    let some = last_out-line a.folded a.held.now (search rules) in
    let put = c.put_listed.ensures in
    record { value = rw some (omega arith); out_after = rw some put.out_after }
