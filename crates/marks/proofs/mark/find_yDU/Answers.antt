-- `marks::mark::find_yDU` meets its contract: each part of the table has the keys that end in one letter. Assumes nothing.
use Prim.Native.Nat.{ℕ}
use mathlib.Core.Path.{sym, ap, ◌∙◌}
use borrow.Author.Tests.{ne_eqb}
use Rattle.turkish.specs.Letters.{text, from_end}
use Rattle.theorems.specs.Simple.Marks.{marked, yDU}
use Rattle.keys.specs.Ends.{ending_in}
use Rattle.keys.specs.Keys.{up_to_zero, rows}
use Rattle.keys.specs.Search.{found_from, found}
use Rattle.marks.proofs.mark.find_yDU.Goals as goal

pub returns-in-105 : goal.returns-in-105
unfolding rows up_to_zero ending_in yDU marked from_end text
returns-in-105 c =
    c.find_among_b.ensures ∙ ap (λ (a : ℕ). found (ending_in a yDU.keys) c.args.w.now c.args.s.c) (sym c.in-105.is)

pub returns-in-107 : goal.returns-in-107
unfolding rows up_to_zero ending_in yDU marked from_end text
returns-in-107 c =
    c.find_among_b-in-107.ensures ∙ ap (λ (a : ℕ). found (ending_in a yDU.keys) c.args.w.now c.args.s.c) (sym c.in-107.is)

pub returns-in-109 : goal.returns-in-109
unfolding rows up_to_zero ending_in yDU marked from_end text
returns-in-109 c =
    c.find_among_b-in-109.ensures ∙ ap (λ (a : ℕ). found (ending_in a yDU.keys) c.args.w.now c.args.s.c) (sym c.in-109.is)

pub returns-in-110 : goal.returns-in-110
unfolding rows up_to_zero ending_in yDU marked from_end text
returns-in-110 c =
    c.find_among_b-in-110.ensures ∙ ap (λ (a : ℕ). found (ending_in a yDU.keys) c.args.w.now c.args.s.c) (sym c.in-110.is)

pub returns-in-117 : goal.returns-in-117
unfolding rows up_to_zero ending_in yDU marked from_end text
returns-in-117 c =
    c.find_among_b-in-117.ensures ∙ ap (λ (a : ℕ). found (ending_in a yDU.keys) c.args.w.now c.args.s.c) (sym c.in-117.is)

pub returns-in-305 : goal.returns-in-305
unfolding rows up_to_zero ending_in yDU marked from_end text
returns-in-305 c =
    c.find_among_b-in-305.ensures ∙ ap (λ (a : ℕ). found (ending_in a yDU.keys) c.args.w.now c.args.s.c) (sym c.in-305.is)

pub returns-in-252 : goal.returns-in-252
unfolding rows up_to_zero ending_in yDU marked from_end text
returns-in-252 c =
    c.find_among_b-in-252.ensures ∙ ap (λ (a : ℕ). found (ending_in a yDU.keys) c.args.w.now c.args.s.c) (sym c.in-252.is)

pub returns-in_default : goal.returns-in_default
unfolding found found_from ending_in yDU marked from_end text
returns-in_default c =
    let a = c.args.s.ending.last in
    let r7 = c.in_default.in_default-own.rest in
    let r4 = r7.0.0.0 in
    simp (
      ne_eqb 0x69 a (λ e. r4.0.0.0.1 (sym e)),
      ne_eqb 0x6B a (λ e. r4.0.0.1 (sym e)),
      ne_eqb 0x6D a (λ e. r4.0.1 (sym e)),
      ne_eqb 0x6E a (λ e. r4.1 (sym e)),
      ne_eqb 0x75 a (λ e. r7.0.0.1 (sym e)),
      ne_eqb 0x131 a (λ e. r7.0.1 (sym e)),
      ne_eqb 0xFC a (λ e. r7.1 (sym e)),
    )
