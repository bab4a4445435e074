-- `fronts::stand_in::put_stand_in` meets its contract. The loop's invariant: of the vowels passed those that are counted are written, `at` is their
-- end, and there is room for the others. Assumes nothing.
use mathlib.Core.Path.{◌≡◌, refl, ◌∙◌}
use native.Mathlib.Omega.{arith}
use lib.ListN.{length}
use Rattle.encoding.specs.Encoding.{encode_all}
use Rattle.writing.proofs.Laws.Put.{wrote_nothing}
use Rattle.vowels.specs.Vowel.{most_vowel_bytes}
use Rattle.fronts.specs.StandIn.{counted, stand_in_room}
use Rattle.fronts.proofs.Laws.StandIn.{so_far, room_from, turn-counted, turn-skipped, written_last}
use Rattle.fronts.proofs.stand_in.put_stand_in.Goals.{then-s-k-ne0, else-s-k-ne0}
use Rattle.fronts.proofs.stand_in.put_stand_in.Goals as goal

pub loop-k-init : goal.loop-k-init
unfolding so_far room_from counted encode_all stand_in_room most_vowel_bytes
loop-k-init c = (refl, wrote_nothing (omega arith))

pub put_vowel-at-requires : goal.put_vowel-at-requires
unfolding room_from most_vowel_bytes
put_vowel-at-requires c = omega (arith, c.loop-k.invariant.1.room)

pub loop-k-preserved : goal.loop-k-preserved
loop-k-preserved c =
    let l = c.loop-k in
    let ns = c.args.s.counts in
    let h = c.loop-k-test.true in
    let same : length c.if-s-k-ne0.out ≡ length c.args.out.now = c.if-s-k-ne0.auto.out ∙ l.invariant.0 in
    elim c.if-s-k-ne0.branch [
      | then-s-k-ne0 w ↦ (
        same,
        rw (w.out-is, w.at-is)
            (turn-counted ns l.k l.invariant.1 h w.if-s-k-ne0.true (w.put_vowel-at.ensures.value, w.put_vowel-at.ensures.out_after)),
      )
      | else-s-k-ne0 w ↦ (same, rw (w.out-is, w.at-is) (turn-skipped ns l.k l.invariant.1 h w.if-s-k-ne0.false))
    ]

pub put_vowel-requires : goal.put_vowel-requires
unfolding room_from most_vowel_bytes
put_vowel-requires c = omega (arith, c.loop-k.invariant.1.room)

pub returns : goal.returns
returns c =
    let l = c.loop-k in
    let e : l.k ≡ 8 = omega arith in let p = written_last _ (rw e at l.invariant.1) (c.put_vowel.ensures.value, c.put_vowel.ensures.out_after) in
    record { value = p.0; out_after = p.1 }
