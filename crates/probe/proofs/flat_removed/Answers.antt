-- `probe::flat_removed` meets its contract: each of the three entries is laid out by its numbers. Assumes nothing.
use mathlib.Core.Path.{◌≡◌}
use lib.ListN.{length}
use borrow.Author.Rules.{rules}
use Rattle.turkish.specs.PieceCalls.{told}
use Rattle.kinds.proofs.Laws.Written.{length-mapped}
use Rattle.probe.specs.Flat.{joined_number, flat_removed_of}
use Rattle.probe.proofs.Flat.{column-mapped}
use Rattle.probe.proofs.flat_removed.Goals as goal

pub returns : goal.returns
unfolding flat_removed_of told
returns c =
    let three : length c.args.r.pieces ≡ 3 = search (rules, length-mapped) in
    let kinds = column-mapped (λ s. s.kind) (λ x y p q k. search rules) three c.map.ensures.items in
    let joinings = column-mapped (λ s. joined_number s.joined) (λ x y p q k. search rules) three c.map-2.ensures.items in
    let first = column-mapped (λ s. s.first) (λ x y p q k. search rules) three c.map-3.ensures.items in
    let last = column-mapped (λ s. s.last) (λ x y p q k. search rules) three c.map-4.ensures.items in
    rw (kinds, joinings, first, last)
