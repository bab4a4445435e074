-- `folding::fold::fits` meets its contract: twice the word's length suffices, and less is held to what was counted. Assumes nothing.
use native.Mathlib.Omega.{arith}
use Rattle.turkish.specs.Calls.{limit}
use Rattle.folding.proofs.Laws.FoldCall.{accepted-limit, fits-twice, fits-measured}
use Rattle.folding.proofs.fold.fits.Goals as goal

pub overflow_mul-w : goal.overflow_mul-w
unfolding limit
overflow_mul-w c = omega (arith, accepted-limit c.args.w.bytes.now c.args.w.is_accepted)

pub returns-then-w-room : goal.returns-then-w-room
returns-then-w-room c = fits-twice c.args.w.bytes.now c.args.w.is_accepted _ c.if-w-room.true

pub folded_length-requires : goal.folded_length-requires
folded_length-requires c = accepted-limit c.args.w.bytes.now c.args.w.is_accepted

pub returns : goal.returns
returns c = fits-measured c.args.w.bytes.now c.args.w.is_accepted _ _ c.folded_length.ensures
