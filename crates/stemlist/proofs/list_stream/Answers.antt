-- `stemlist::list_stream`: each block read goes on with what was read before it. Assumes nothing.
use Rattle.std.proofs.Common.{◌≡◌, subst, ◌++◌, arith, ◌∙◌, refl, take, append-nil, []}
use Rattle.std.proofs.lemmas.Result.{on_ok_weaker}
use Rattle.std.specs.Io.KnownBytes.{Appends}
use Rattle.std.proofs.KnownBytes.{Appends-nil, Appends-trans, Consumes-nil, Consumes-trans, Consumes-whole}
use Rattle.listing.specs.Listing.{listing}
use Rattle.listing.specs.Feed.{fed_line, fed_out}
use Rattle.stemlist.specs.Stopped.{IsReading}
use Rattle.stemlist.proofs.Turns.{more-out, more-line, end-out}
use Rattle.stemlist.proofs.Renamed.{at_renamed, renamed, renamed-err}
use Rattle.stemlist.proofs.list_stream.Goals as goal

pub loop-init : goal.loop-init
unfolding fed_line fed_out
loop-init g c = (refl, refl, ([], Consumes-nil _, c.new-held.ensures, Appends-nil _))

pub returns-then-n-eq0-clause-written : goal.returns-then-n-eq0-clause-written
returns-then-n-eq0-clause-written g c =
    let l = c.loop in
    let folded = c.args.folded in
    let (read, consumed, held, appended) = l.invariant.2 in
    let block = take c.in_ok-n.n c.read.new.buf in
    let (next, end) = at_renamed _ c.read.result c.in_ok-n.n _ _ c.in_ok-n.ensures.cases c.read.ensures.bytes in
    let none : block ≡ [] = rw c.if-n-eq0.true refl in
    renamed c.close.result c.map_err-then-n-eq0.result _ _ _ c.map_err-then-n-eq0.ensures.cases
    (on_ok_weaker c.close.result
    (λ closed room.
    Consumes-whole _ _ _ (λ input. Appends (g.W.Write.contents c.args.to.now) (g.W.Write.contents c.close.new.to) (listing folded input))
    (Consumes-trans _ _ _ _ _ consumed next) (end c.if-n-eq0.true (omega arith))
    (rw (none, append-nil, ← end-out folded read l.held held) (Appends-trans _ _ _ _ _ appended closed)))
    c.close.ensures.written)

pub returns-then-n-eq0-clause-broken : goal.returns-then-n-eq0-clause-broken
returns-then-n-eq0-clause-broken g c =
    renamed-err c.close.result c.map_err-then-n-eq0.result _ _ c.map_err-then-n-eq0.ensures.cases
    (λ e stop is reading. absurd (subst IsReading is reading))

pub loop-preserved : goal.loop-preserved
loop-preserved g c =
    let l = c.loop in
    let folded = c.args.folded in
    let (read, consumed, held, appended) = l.invariant.2 in
    let block = take c.in_ok-n.n c.read.new.buf in
    let (next, end) = at_renamed _ c.read.result c.in_ok-n.n _ _ c.in_ok-n.ensures.cases c.read.ensures.bytes in
    let cases = c.in_ok-map_err.ensures.cases in
    let d = c.drain.ensures in
    let line = at_renamed _ c.drain.result c.in_ok-map_err.field-0 _ _ cases d.held_after in (
      omega (arith, l.invariant.0),
      omega (arith, l.invariant.1),
      (
        read ++ block,
        Consumes-trans _ _ _ _ _ consumed next,
        line ∙ more-line read block l.held held,
        rw (← more-out folded read block l.held held)
            (Appends-trans _ _ _ _ _ appended (at_renamed _ c.drain.result c.in_ok-map_err.field-0 _ _ cases d.written)),
      ),
    )
