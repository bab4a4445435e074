-- The lines of pieces: a line tells its kind and its letters, and a text falls into its lines in one way. Assumes nothing.
use Prim.Native.Nat.{ℕ}
use mathlib.Core.Path.{◌≡◌, refl, sym, ap, ◌∙◌}
use mathlib.Core.Bool.{Bool, true, ◌&&◌}
use mathlib.Core.List.{List, [], ◌∷◌, ◌++◌, map, append_assoc, append_cancel_right, cons-eq-cons}
use native.Mathlib.Omega.{arith}
use lib.ListN.{length, length-append}
use lib.Dec.{eqb}
use borrow.Author.Tests.{eqb-true}
use Rattle.encoding.proofs.Laws.Booleans.{and_left, and_right, and-each}
use Rattle.turkish.specs.Letters.{text, tab, lf}
use Rattle.turkish.specs.Pieces.{kind_names, number_from, kind_name}
use Rattle.turkish.specs.PieceCalls.{Span, letters_of, piece_line, text_of}
use Rattle.theorems.proofs.Laws.Tests.{every}
use Rattle.theorems.proofs.Laws.Members.{without, without-append, cut-first}

-- ---- names ----

-- the kind that a name is of
unfoldable pub number_of : List ℕ → ℕ
number_of n = number_from 1 (map text kind_names) n

-- a kind's name tells it, and has neither a tab nor an LF
unfoldable pub named : ℕ → Bool
named k = eqb (number_of (kind_name k)) k && without tab (kind_name k) && without lf (kind_name k)

-- what that says
named-tells : (k : ℕ) → named k ≡ true → (number_of (kind_name k) ≡ k) × (without tab (kind_name k) ≡ true) × (without lf (kind_name k) ≡ true)
unfolding named
named-tells k h =
    let a = and-each (eqb (number_of (kind_name k)) k) (without tab (kind_name k)) (without lf (kind_name k)) h in
    (eqb-true (number_of (kind_name k)) k a.0, a.1, a.2)

-- ---- lines ----

-- what a line tells
pub record Entry : Type 0 where
  pub kind : ℕ
  pub letters : List ℕ

-- what a piece's line tells
abbrev pub entry_of : List ℕ → Span → Entry
entry_of w p = record { kind = p.kind; letters = letters_of w p }

-- a line's bytes up to its LF, and all of them
body_of : Entry → List ℕ
body_of e = kind_name e.kind ++ (tab ∷ e.letters)

pub line_of : Entry → List ℕ
line_of e = body_of e ++ (lf ∷ [])

-- these are a piece's
pub line-entry : (w : List ℕ) (p : Span) → piece_line w p ≡ line_of (entry_of w p)
unfolding piece_line line_of body_of
line-entry w p = simp append_assoc

-- a line tells its kind and its letters: the name ends at the first tab, and the letters at the last LF
pub line-tells : (e f : Entry) → named e.kind ≡ true → named f.kind ≡ true → line_of e ≡ line_of f → e ≡ f
unfolding line_of body_of
line-tells e f m n q =
    let a = named-tells e.kind m in
    let b = named-tells f.kind n in
    let body : body_of e ≡ body_of f = append_cancel_right (body_of e) (body_of f) (lf ∷ []) q in
    let r = cut-first tab (kind_name e.kind) (kind_name f.kind) e.letters f.letters a.1 b.1 body in
    let k : e.kind ≡ f.kind = sym a.0 ∙ ap number_of r.0 ∙ b.0 in
    λ i. record { kind = k i; letters = r.1 i }

-- ---- texts ----

-- the lines one after the other
pub lines_of : List Entry → List ℕ
lines_of [] = []
lines_of (e ∷ es) = line_of e ++ lines_of es

-- these are a text's
pub text-entries : (w : List ℕ) (ps : List Span) → text_of w ps ≡ lines_of (map (entry_of w) ps)
unfolding text_of lines_of
text-entries w [] = refl
text-entries w (p ∷ ps) = rw (line-entry w p, text-entries w ps)

-- the kind has a name that tells it, and the letters have no LF
unfoldable pub clear : Entry → Bool
clear e = named e.kind && without lf e.letters

-- so a line has none before its end
without-body : (e : Entry) → clear e ≡ true → without lf (body_of e) ≡ true
unfolding clear body_of without every tab lf
without-body e c =
    let name = (named-tells e.kind (and_left (named e.kind) (without lf e.letters) c)).2 in
    rw (without-append, name, and_right (named e.kind) (without lf e.letters) c)

-- what follows a line follows its LF
line-append : (e : Entry) (s : List ℕ) → line_of e ++ s ≡ body_of e ++ (lf ∷ s)
unfolding line_of
line-append e s = append_assoc (body_of e) (lf ∷ []) s

-- no text with a line is empty
lines-nonempty : (e : Entry) (es : List Entry) → lines_of (e ∷ es) ≡ [] → ⊥
unfolding lines_of line_of
lines-nonempty e es q = omega (arith, simp length-append at (ap length q))

-- a text falls into its lines in one way
pub lines-injective : (es fs : List Entry) → every clear es ≡ true → every clear fs ≡ true
    → lines_of es ≡ lines_of fs → map line_of es ≡ map line_of fs
unfolding lines_of line_of every
lines-injective [] [] c d q = refl
lines-injective [] (f ∷ fs) c d q = absurd (lines-nonempty f fs (sym q))
lines-injective (e ∷ es) [] c d q = absurd (lines-nonempty e es q)
lines-injective (e ∷ es) (f ∷ fs) c d q =
    let x = without-body e (and_left (clear e) (every clear es) c) in
    let y = without-body f (and_left (clear f) (every clear fs) d) in
    let split : body_of e ++ (lf ∷ lines_of es) ≡ body_of f ++ (lf ∷ lines_of fs) = sym (line-append e (lines_of es)) ∙ q ∙ line-append f (lines_of fs) in
    let r = cut-first lf (body_of e) (body_of f) (lines_of es) (lines_of fs) x y split in
    let rest = lines-injective es fs (and_right (clear e) (every clear es) c) (and_right (clear f) (every clear fs) d) r.1 in
    cons-eq-cons.1 (ap (λ (s : List ℕ). s ++ (lf ∷ [])) r.0, rest)
