-- `probe::probe_removed` meets its contract: the list that was found is laid out, and none where the word is refused. Assumes nothing.
use Rattle.turkish.specs.PieceCalls.{unused}
use Rattle.probe.proofs.Flat.{flat-given, flat-refused}
use Rattle.probe.proofs.probe_removed.Goals as goal

pub returns-in-Ok : goal.returns-in-Ok
returns-in-Ok c =
    let e = c.in-Ok.ensures in
    flat-given _ e.number e.length_value e.lists c.flat_removed.ensures

pub returns-in-Err : goal.returns-in-Err
unfolding unused
returns-in-Err c = flat-refused _ _ c.in-Err.ensures.number c.from.ensures c.flat_removed-in-Err.ensures
