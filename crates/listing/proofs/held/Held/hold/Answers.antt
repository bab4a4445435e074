-- `listing::held::Held::hold` meets its contract: a byte stored behind those held is held with them, and where all are held it is not.
-- Assumes nothing.
use mathlib.Core.Path.{sym, ap, ◌∙◌}
use mathlib.Core.List.{List}
use Prim.Native.Nat.{ℕ}
use native.Mathlib.Omega.{arith}
use Rattle.turkish.specs.Calls.{limit}
use Rattle.listing.specs.Feed.{most, hold}
use Rattle.listing.proofs.Laws.Held.{hold-stored, hold-full}
use Rattle.listing.proofs.held.Held.hold.Goals as goal

pub invariant_of-self : goal.invariant_of-self
unfolding most limit
invariant_of-self c = omega arith

pub returns-then-self-lt-HELD : goal.returns-then-self-lt-HELD
unfolding most limit
returns-then-self-lt-HELD c =
    let s = c.self.inside in
    hold-stored s.bytes s.len c.args.b (omega arith) (omega arith) ∙ ap (λ (line : List ℕ). hold line c.args.b) c.self.view_is

pub returns-else-self-lt-HELD : goal.returns-else-self-lt-HELD
unfolding most limit
returns-else-self-lt-HELD c =
    let s = c.self.inside in
    sym c.self.view_is ∙ hold-full s.bytes s.len c.args.b (omega arith) (omega arith) ∙ ap (λ (line : List ℕ). hold line c.args.b) c.self.view_is
