-- `listing::feed::feed_byte` meets its contract. A line feed writes the line held; another byte is held as far as there is room.
-- Assumes nothing.
use mathlib.Core.Path.{refl}
use native.Mathlib.Omega.{arith}
use Rattle.listing.specs.Fed.{standing, end_line, hold_byte_of}
use Rattle.listing.proofs.Laws.Fed.{feed_byte_of-lf, feed_byte_of-other}
use Rattle.listing.proofs.feed.feed_byte.Goals as goal

pub returns-then-b-eq10 : goal.returns-then-b-eq10
unfolding end_line
returns-then-b-eq10 c =
    let a = c.args in
    let is = feed_byte_of-lf a.folded a.b (standing 0 a.held.now a.out.now a.at) (omega arith) in
    let put = c.put_listed-end.ensures in
    let line = c.as_slice.ensures in
    record { value = rw (is, ← line) put.value; held_after = rw is c.clear.ensures; out_after = rw (is, ← line) put.out_after }

pub returns : goal.returns
unfolding hold_byte_of
returns c =
    let a = c.args in
    let is = feed_byte_of-other a.folded a.b (standing 0 a.held.now a.out.now a.at) (λ e. omega arith) in
    record { value = rw is refl; held_after = rw is c.hold.ensures; out_after = rw is refl }
