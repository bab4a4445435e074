-- The output line of one word in the listing (document 01, "stemlist"; document 02, request 4, for the last field). Assumes nothing.
use Rattle.std.specs.Prelude.{ℕ, ◌+◌, Bool, cond, List, [], ◌∷◌, ◌++◌, eqb}
use Prim.Native.Char.{code}
use Rattle.turkish.specs.Letters.{tab, lf, has}
use Rattle.turkish.specs.Answers.{syllable_check, suffix_stage}
use Rattle.turkish.specs.Calls.{chars, refusal, stage_text, pass_text, whole_text}

-- number 4, the list's author's, after the word's author's numbers: a tab in a line
unfoldable pub line_refusal_of : List ℕ → ℕ
line_refusal_of w = cond (eqb (refusal w) 0) (cond (has w tab) 4 0) (refusal w)

unfoldable pub yes_no : Bool → ℕ
yes_no t = cond t (code "Y") (code "N")

unfoldable pub one_zero : Bool → ℕ
one_zero t = cond t (code "1") (code "0")

-- syllable check, stage and flag, each between tabs
unfoldable pub answers : Bool → Bool → Bool → List ℕ
answers syllable stages flag = tab ∷ yes_no syllable ∷ tab ∷ yes_no stages ∷ tab ∷ one_zero flag ∷ tab ∷ []

-- word, syllable check, stage, flag, kept text, pass result, text of the whole run
unfoldable pub fields : List ℕ → List ℕ
fields w =
    w ++ (answers (syllable_check (chars w)) (suffix_stage (chars w)).yes (suffix_stage (chars w)).flag
    ++ (stage_text w ++ (tab ∷ (pass_text w ++ (tab ∷ (whole_text w ++ (lf ∷ [])))))))

-- a refused line: `!`, one tab and the number, and nothing of the word
unfoldable pub refused_line : ℕ → List ℕ
refused_line n = code "!" ∷ tab ∷ (code "0" + n) ∷ lf ∷ []

-- the output line of one word
unfoldable pub list_line : List ℕ → List ℕ
list_line w = cond (eqb (line_refusal_of w) 0) (fields w) (refused_line (line_refusal_of w))
