-- The lines of an input and what each gives, case by case as document 01 has it. Assumes nothing.
use Prim.Native.Nat.{ℕ, ◌≤◌, ◌<◌}
use mathlib.Core.Path.{◌≡◌, refl}
use mathlib.Core.Bool.{Bool, true, false}
use mathlib.Core.List.{List, [], ◌∷◌, ◌++◌, append-nil}
use lib.ListN.{length}
use borrow.Author.Tests.{eqb-true, le-ltb}
use Rattle.encoding.specs.Validity.{is_text}
use Rattle.turkish.specs.Letters.{text, tab, lf, has}
use Rattle.turkish.specs.Lines.{unclosed, lines_from}
use Rattle.turkish.specs.Calls.{limit, refusal, accepted}
use Rattle.theorems.proofs.Laws.Lines.{lines_from-line, lines_from-last}
use Rattle.lines.specs.Line.{line_refusal_of, fields, refused_line, list_line}
use Rattle.lines.specs.Listed.{listed}
use Rattle.listing.specs.Listing.{list_all, listing}
use Rattle.listing.proofs.Laws.Held.{list_line-long}

-- ---- one line ----

module _ (w : List ℕ) where
  -- an accepted word without a tab has its fields
  pub list_line-accepted : accepted w ≡ true → has w tab ≡ false → list_line w ≡ fields w
  unfolding list_line line_refusal_of accepted
  list_line-accepted a t = rw (eqb-true (refusal w) 0 a, t)

  -- one with a tab is refused under 4
  pub list_line-tab : accepted w ≡ true → has w tab ≡ true → list_line w ≡ text "!\t4\n"
  unfolding list_line line_refusal_of accepted refused_line text tab lf
  list_line-tab a t = rw (eqb-true (refusal w) 0 a, t)

  -- a word over the limit under 1
  pub list_line-over : limit < length w → list_line w ≡ text "!\t1\n"
  unfolding refused_line text tab lf
  list_line-over h = list_line-long w h

  -- one within it that is not UTF-8 under 2
  pub list_line-not-text : length w ≤ limit → is_text w ≡ false → list_line w ≡ text "!\t2\n"
  unfolding list_line line_refusal_of refusal refused_line text tab lf
  list_line-not-text h t = rw (le-ltb limit (length w) h, t)

-- ---- the lines of an input ----

-- so a word ended by a line feed gives its line, and then comes the listing of what follows
pub listing-line : (folded : Bool) (w rest : List ℕ) → has w lf ≡ false
    → listing folded (w ++ (lf ∷ rest)) ≡ list_line (listed folded w) ++ listing folded rest
unfolding listing list_all
listing-line folded w rest n = rw (lines_from-line [] w rest n)

-- a last one that is not closed gives its line, if it is not empty
pub listing-last : (folded : Bool) (b : ℕ) (w : List ℕ) → has (b ∷ w) lf ≡ false → listing folded (b ∷ w) ≡ list_line (listed folded (b ∷ w))
unfolding listing list_all unclosed
listing-last folded b w n = rw (lines_from-last [] (b ∷ w) n, append-nil)

-- and an empty input gives nothing
pub listing-nothing : (folded : Bool) → listing folded [] ≡ []
unfolding listing list_all lines_from unclosed
listing-nothing folded = refl
