-- `pieces::removed::piece_of` meets its contract: no mark is no piece, and any other stands in the word before the piece's end. Assumes nothing.
use native.Mathlib.Omega.{arith}
use Rattle.turkish.specs.PieceCalls.{unused}
use Rattle.pieces.specs.Removed.{piece_of}
use Rattle.pieces.proofs.removed.piece_of.Goals as goal

pub returns-in_default : goal.returns-in_default
unfolding piece_of unused
returns-in_default c = rw c.in_default.is

pub bounds-w-at : goal.bounds-w-at
bounds-w-at c = omega (arith, c.requires.before _ c.in-Some.is, c.requires.within)

pub overflow_sub-result : goal.overflow_sub-result
overflow_sub-result c = omega (arith, c.requires.before _ c.in-Some.is)

pub returns : goal.returns
unfolding piece_of
returns c = rw (c.in-Some.is, c.kind_of.ensures, c.number_of.ensures)
