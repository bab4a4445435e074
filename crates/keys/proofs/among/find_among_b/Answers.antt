-- `keys::among::find_among_b` meets its contract: the loop's invariant at each way out. Assumes nothing.
use mathlib.Core.Path.{refl, ap, ◌∙◌}
use Rattle.std.specs.Prelude.{Some}
use Rattle.utf8.specs.declared.cursor.Cursor.{Cursor}
use Rattle.keys.specs.Search.{found}
use Rattle.keys.proofs.Laws.Search.{found_from-passed, found_from-next, found_from-end}
use Rattle.keys.proofs.among.find_among_b.Goals as goal

pub loop-i-init : goal.loop-i-init
unfolding found
loop-i-init g c = refl

pub returns-in-Some : goal.returns-in-Some
returns-in-Some g c =
    ap (λ (r : Cursor). Some (record { place = c.loop-i.i; before = r })) c.moved_to.ensures
    ∙ found_from-passed c.args.w.now c.args.s.c c.args.keys.now c.loop-i.i _ c.loop-i-test.true c.index-keys-i.is c.key_before.ensures c.in-Some.is
    ∙ c.loop-i.invariant

pub loop-i-preserved : goal.loop-i-preserved
loop-i-preserved g c =
    found_from-next c.args.w.now c.args.s.c c.args.keys.now c.loop-i.i _ c.loop-i-test.true c.index-keys-i.is c.key_before.ensures c.in_default.is
    ∙ c.loop-i.invariant

pub returns : goal.returns
returns g c = found_from-end c.args.w.now c.args.s.c c.args.keys.now c.loop-i.i c.loop-i-test.false ∙ c.loop-i.invariant
