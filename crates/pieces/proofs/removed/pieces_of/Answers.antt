-- `pieces::removed::pieces_of` meets its contract: the marks that the stage keeps stand in the word, and a piece is made of each.
-- Assumes nothing.
use Rattle.pieces.proofs.Laws.Removed.{stands-outcome, made-removed}
use Rattle.pieces.proofs.removed.pieces_of.Goals as goal

-- the marks stand where their pieces are made, seen from before the first
pub piece_of-first-requires : goal.piece_of-first-requires
piece_of-first-requires c = (stands-outcome _ c.args.w.is_accepted c.stem_nominal_verb_suffixes-o.ensures).first

pub piece_of-second-requires : goal.piece_of-second-requires
piece_of-second-requires c = rw c.start_of.ensures (stands-outcome _ c.args.w.is_accepted c.stem_nominal_verb_suffixes-o.ensures).second

pub piece_of-third-requires : goal.piece_of-third-requires
piece_of-third-requires c = rw c.start_of-2.ensures (stands-outcome _ c.args.w.is_accepted c.stem_nominal_verb_suffixes-o.ensures).third

pub returns : goal.returns
returns c =
    made-removed _ c.stem_nominal_verb_suffixes-o.ensures c.count_of.ensures c.start_of.ensures c.start_of-2.ensures c.piece_of-first.ensures
    c.piece_of-second.ensures c.piece_of-third.ensures
