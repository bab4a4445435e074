-- The record after a step back, and back past a literal, past a second one if it stands there, and then one character, on one record: each
-- step by utf8's own definition. A literal that does not stand leaves the record as it is, so the next step goes from there. Assumes nothing.
use Rattle.std.specs.Prelude.{ℕ, List, is_some, option_map, unwrap_or}
use Rattle.std.specs.declared.option.Option.{Option}
use Rattle.utf8.specs.declared.cursor.Cursor.{Cursor}
use Rattle.utf8.specs.Steps.{previous_char_of, eq_s_b_of}
use Rattle.lent.specs.declared.Over.{Over}

-- the record one character back, where there is one
abbrev pub one_back : List ℕ → Cursor → Option Cursor
one_back w r = option_map (λ s. s.next) (previous_char_of w r)

-- the record before a literal where it stands, else the record as it was
abbrev pub before_literal : List ℕ → List ℕ → Cursor → Cursor
before_literal w s r = unwrap_or (eq_s_b_of w s r) r

-- the record before the last step: before both literals where they stand
abbrev pub before_both : List ℕ → List ℕ → List ℕ → Cursor → Cursor
before_both w s y r = before_literal w y (before_literal w s r)

-- the two literals' answers, the record before the last step, and the record one character back from there
unfoldable pub over : List ℕ → List ℕ → List ℕ → Cursor → Over
over w s y r =
    record {
      literal = is_some (eq_s_b_of w s r);
      joined = is_some (eq_s_b_of w y (before_literal w s r));
      here = before_both w s y r;
      next = one_back w (before_both w s y r);
    }
