-- `listing::held::Held::as_slice` meets its contract: no more bytes are held than there are places. Assumes nothing.
use native.Mathlib.Omega.{arith}
use Rattle.turkish.specs.Calls.{limit}
use Rattle.listing.specs.Feed.{most}
use Rattle.listing.proofs.held.Held.as_slice.Goals as goal

pub shared_ref_as_front-result : goal.shared_ref_as_front-result
unfolding most limit
shared_ref_as_front-result c = omega (arith, c.self.invariant)
