-- What is held of a line: a byte more, and that the part held gives the output of the whole line, since a line over the limit is not
-- folded, and is refused whatever it is. Assumes nothing.
use Prim.Native.Nat.{ℕ, ◌+◌, ◌≤◌, ◌<◌, zero, suc}
use mathlib.Core.Path.{◌≡◌, refl, sym, ap, ◌∙◌}
use mathlib.Core.Bool.{Bool, true, false}
use mathlib.Core.List.{List, [], ◌∷◌, ◌++◌, append-nil}
use native.Mathlib.Omega.{arith}
use native.Mathlib.Numerals.{add-one}
use lib.ListN.{length, take, set, length-append, length-take}
use lib.Seq.{take_all, take-append-le, take-suc-set}
use lib.Dec.{eqb}
use borrow.Author.Tests.{lt-ltb}
use Rattle.encoding.proofs.Laws.Booleans.{lt-or-le}
use Rattle.turkish.specs.Letters.{lf}
use Rattle.turkish.specs.Calls.{limit, refusal, accepted}
use Rattle.theorems.proofs.Laws.Accepted.{refusal-long}
use Rattle.lines.specs.Line.{line_refusal_of, refused_line, list_line}
use Rattle.lines.specs.Listed.{listed}
use Rattle.lines.proofs.Laws.Listed.{listed-refused}
use Rattle.turkish.specs.Lines.{unclosed}
use Rattle.listing.specs.Listing.{list_all}
use Rattle.listing.specs.Feed.{most, hold, last_out}

-- a byte is a line feed, or it is not
pub lf-or-other : {P : Type 0} (b : ℕ) → (eqb b lf ≡ true → P) → (eqb b lf ≡ false → P) → P
lf-or-other {P} b = go (eqb b lf)
  where
    go : (t : Bool) → (t ≡ true → P) → (t ≡ false → P) → P
    go true p q = p refl
    go false p q = q refl

-- ---- the part held ----

-- the first n of a text's first n with more after them are the first n of the text with more after it
take-take-append : (n : ℕ) (s t : List ℕ) → take n (take n s ++ t) ≡ take n (s ++ t)
take-take-append zero s t = refl
take-take-append (suc n) [] t = refl
take-take-append (suc n) (a ∷ s) t = ap {B = List ℕ} (λ r. a ∷ r) (take-take-append n s t)

-- a byte more at the part held of a line is the part held of the line with a byte more
pub hold-held : (line : List ℕ) (b : ℕ) → hold (take most line) b ≡ take most (line ++ (b ∷ []))
unfolding hold
hold-held line b = take-take-append most line (b ∷ [])

-- a line over the limit is refused whatever it is
pub list_line-long : (w : List ℕ) → limit < length w → list_line w ≡ refused_line 1
unfolding list_line line_refusal_of refusal
list_line-long w h = rw (lt-ltb limit (length w) h)

-- and is not folded
listed-long : (folded : Bool) (w : List ℕ) → limit < length w → listed folded w ≡ w
unfolding accepted
listed-long folded w h = listed-refused folded w (rw (← refusal-long w h))

-- so the part held of a line gives the line's output
pub list_line-held : (folded : Bool) (line : List ℕ) → list_line (listed folded (take most line)) ≡ list_line (listed folded line)
unfolding most
list_line-held folded line =
    lt-or-le limit (length line)
    (λ h.
    let long : limit < length (take most line) = omega (arith, length-take most line) in
    rw (listed-long folded (take most line) long, listed-long folded line h) (list_line-long (take most line) long ∙ sym (list_line-long line h)))
    (λ h. rw (take_all most line (omega arith)))

-- the end of the input writes the line held, if it is not empty
pub last_out-line : (folded : Bool) (line : List ℕ) → 0 < length line → last_out folded line ≡ list_line (listed folded line)
unfolding last_out unclosed list_all
last_out-line folded [] h = absurd (omega arith)
last_out-line folded (b ∷ bs) h = append-nil _

-- there too the part held gives the line's output
pub last_out-held : (folded : Bool) (line : List ℕ) → last_out folded (take most line) ≡ last_out folded line
unfolding most limit
last_out-held folded [] = refl
last_out-held folded (b ∷ bs) =
    last_out-line folded (take most (b ∷ bs)) (omega (arith, length-take most (b ∷ bs))) ∙ list_line-held folded (b ∷ bs)
    ∙ sym (last_out-line folded (b ∷ bs) (omega arith))

-- where none is held of a line nothing is written at the end
pub last_out-none : (folded : Bool) (line : List ℕ) → length line ≡ 0 → last_out folded line ≡ []
unfolding last_out unclosed list_all
last_out-none folded [] e = refl
last_out-none folded (b ∷ bs) e = absurd (omega arith)

-- ---- the bytes that hold a line ----

-- a byte stored after the `held` that are held is held with them, where there is a place for it
pub hold-stored : (line : List ℕ) (held b : ℕ) → length line ≡ most → held < most → take (held + 1) (set line held b) ≡ hold (take held line) b
unfolding hold
hold-stored line held b l h =
    rw (add-one held, take-suc-set line held b (omega arith))
    (sym (take_all most (take held line ++ (b ∷ [])) (omega (arith, length-append (take held line) (b ∷ []), length-take held line))))

-- and where all are held, no more is
pub hold-full : (line : List ℕ) (held b : ℕ) → length line ≡ most → most ≤ held → take held line ≡ hold (take held line) b
unfolding hold
hold-full line held b l h =
    rw (take_all held line (omega arith), take-append-le most line (b ∷ []) (omega arith)) (sym (take_all most line (omega arith)))
