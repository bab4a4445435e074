-- `listing::feed::feed` meets its contract. Assumes nothing.
use mathlib.Core.Path.{◌≡◌, refl, sym, ◌∙◌}
use native.Mathlib.Omega.{arith}
use lib.ListN.{length, get_or}
use Rattle.turkish.specs.Calls.{limit}
use Rattle.lines.specs.Room.{line_room}
use Rattle.listing.specs.Fed.{standing, feeding}
use Rattle.listing.proofs.Laws.Fed.{feed_bytes-full, feed_bytes-end, feed_bytes-turn, feed_byte_of-within, equal-parts, step-is}
use Rattle.listing.proofs.feed.feed.Goals as goal

pub loop-i-init : goal.loop-i-init
unfolding feeding
loop-i-init c = (omega arith, refl)

pub returns-then-out-written-lt-LINE : goal.returns-then-out-written-lt-LINE
unfolding line_room limit
returns-then-out-written-lt-LINE c =
    let l = c.loop-i in
    let p = equal-parts (sym (feed_bytes-full _ _ l.i _ (omega arith)) ∙ l.invariant.1) in
    record { used_value = p.0; written_value = p.1; held_after = p.2; out_after = p.3 }

pub feed_byte-written-requires : goal.feed_byte-written-requires
unfolding line_room limit
feed_byte-written-requires c = omega arith

pub loop-i-preserved : goal.loop-i-preserved
unfolding line_room limit
loop-i-preserved c =
    let l = c.loop-i in
    let a = c.args in
    let f = c.feed_byte-written.ensures in
    let b = get_or a.block.now l.i 0 in
    let s = standing l.i l.held l.out l.written in
    let is = step-is a.folded b l.i l.held l.out l.written _ _ _ (f.value, f.held_after, f.out_after) in
    let within = feed_byte_of-within a.folded b s l.invariant.0 in (
      rw (← is) at within,
      feed_bytes-turn a.folded a.block.now l.i s (omega arith) (omega arith) is l.invariant.1,
    )

pub returns : goal.returns
returns c =
    let l = c.loop-i in
    let p = equal-parts (sym (feed_bytes-end _ _ l.i _ (omega arith)) ∙ l.invariant.1) in
    let end : length c.args.block.now ≡ l.i = omega arith in
    record { used_value = end ∙ p.0; written_value = p.1; held_after = p.2; out_after = p.3 }
