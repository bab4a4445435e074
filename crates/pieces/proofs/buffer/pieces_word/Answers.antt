-- `pieces::buffer::pieces_word` meets its contract: a refused call writes nothing, any other the word's pieces. Assumes nothing.
use mathlib.Core.Path.{refl, sym, subst, ap, ◌∙◌}
use Rattle.turkish.proofs.OneToOne.{refusal_number-some}
use Rattle.turkish.specs.PieceCalls.{pieces_room}
use Rattle.refusals.proofs.Laws.Refusals.{raised}
use Rattle.kinds.specs.Entries.{Near}
use Rattle.pieces.specs.Removed.{removed_of}
use Rattle.pieces.proofs.Laws.Removed.{near-removed}
use Rattle.pieces.proofs.Laws.Calls.{pieces_call-refused, pieces_call-given}
use Rattle.pieces.proofs.buffer.pieces_word.Goals as goal

pub returns-in_err-word : goal.returns-in_err-word
returns-in_err-word c =
    let p = pieces_call-refused _ _ _ c.in_err-word.ensures.number (refusal_number-some _) in
    record { value = rw (raised _ _ c.from_residual.ensures) p.0; pieces_out = p.1 }

pub put_pieces-requires : goal.put_pieces-requires
unfolding pieces_room
put_pieces-requires c = record {
  near = subst Near (sym c.pieces_of-r.ensures) (near-removed _ c.in_ok-word.word.is_accepted);
  pieces_room_in_bounds = c.in_ok-word.ensures.fits;
}

pub returns : goal.returns
returns c =
    let made = c.pieces_of-r.ensures ∙ ap removed_of c.in_ok-word.ensures.same in
    let p = pieces_call-given _ _ _ c.in_ok-word.ensures.number refl made c.put_pieces.ensures in
    record { value = p.0; pieces_out = p.1 }
