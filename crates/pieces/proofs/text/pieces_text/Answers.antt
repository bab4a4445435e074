-- `pieces::text::pieces_text` meets its contract: a refused call writes nothing, any other the lines of the word's pieces. Assumes nothing.
use mathlib.Core.Path.{refl, sym, subst, ap, ◌∙◌}
use Rattle.turkish.proofs.OneToOne.{refusal_number-some}
use Rattle.refusals.proofs.Laws.Refusals.{raised}
use Rattle.kinds.specs.Entries.{Inside}
use Rattle.pieces.specs.Removed.{removed_of}
use Rattle.pieces.proofs.Laws.Removed.{inside-removed}
use Rattle.pieces.proofs.Laws.Calls.{pieces_text_call-refused, pieces_text_call-given, lines_fit}
use Rattle.pieces.proofs.text.pieces_text.Goals as goal

pub returns-in_err-word : goal.returns-in_err-word
returns-in_err-word c =
    let p = pieces_text_call-refused _ _ _ c.in_err-word.ensures.number (refusal_number-some _) in
    record { value = rw (raised _ _ c.from_residual.ensures) p.0; pieces_text_out = p.1 }

pub put_lines-requires : goal.put_lines-requires
put_lines-requires c =
    let same = c.in_ok-word.ensures.same in
    let out = c.args.out.now in
    let made = c.pieces_of-r.ensures ∙ ap removed_of same in
    record {
      inside = rw (← same) (subst (Inside _) (sym c.pieces_of-r.ensures) (inside-removed _ c.in_ok-word.word.is_accepted));
      pieces_in_bounds = lines_fit _ out _ c.in_ok-word.ensures.number refl made;
    }

pub returns : goal.returns
returns c =
    let made = c.pieces_of-r.ensures ∙ ap removed_of c.in_ok-word.ensures.same in
    let p = pieces_text_call-given _ _ _ c.in_ok-word.ensures.number refl made c.put_lines.ensures.value c.put_lines.ensures.out_after in
    record { value = p.0; pieces_text_out = p.1 }
