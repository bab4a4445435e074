-- How long the two forms of some pieces are: the same in every order, three bytes for each piece in the buffer, and in the text at most
-- eight for each besides what they spell. Assumes nothing.
use Prim.Native.Nat.{ℕ, ◌+◌, ◌-◌, ◌*◌, ◌≤◌, ◌<◌}
use Prim.Native.String.{String}
use mathlib.Core.Path.{◌≡◌, refl, sym, ◌∙◌}
use mathlib.Core.Bool.{Bool, true}
use mathlib.Core.Logic.{⊎_elim}
use mathlib.Core.List.{Memᴰ}
use mathlib.Core.List.{List, [], ◌∷◌, ◌++◌, Permᴰ}
use native.Mathlib.Omega.{arith}
use lib.ListN.{length, drop, length-append}
use lib.Dec.{eqb, leb}
use borrow.Author.Tests.{leb-true}
use Rattle.encoding.proofs.Laws.Booleans.{and_left, and_right, cond_both}
use Rattle.turkish.specs.Letters.{text}
use Rattle.turkish.specs.Pieces.{kind_names, name_from, kind_name}
use Rattle.turkish.specs.Calls.{written}
use Rattle.turkish.specs.PieceCalls.{Span, letters_of, InSomeOrder, buffer, buffer_of, piece_line, text_of}
use Rattle.theorems.specs.PieceTerms.{spelled}
use Rattle.theorems.proofs.Laws.Tests.{every}

-- ---- in every order ----

module _ {A : Type 0} where
  -- a number for each member, added up
  unfoldable pub sum : (A → ℕ) → List A → ℕ
  sum f [] = 0
  sum f (x ∷ xs) = f x + sum f xs

  -- the order is no matter
  pub sum-perm : (f : A → ℕ) {xs ys : List A} → Permᴰ xs ys → sum f xs ≡ sum f ys
  unfolding sum
  sum-perm f Permᴰ.nil = refl
  sum-perm f (Permᴰ.cons e r) = rw (e, sum-perm f r)
  sum-perm f (Permᴰ.swap e d) = rw (← e, ← d) (omega arith)
  sum-perm f (Permᴰ.trans r s) = sum-perm f r ∙ sum-perm f s

  -- a list's length is one for each member
  length-sum : (xs : List A) → length xs ≡ sum (λ x. 1) xs
  unfolding sum
  length-sum [] = refl
  length-sum (x ∷ xs) = omega (arith, length-sum xs)

  -- so it is the same in every order
  pub length-perm : {xs ys : List A} → Permᴰ xs ys → length xs ≡ length ys
  length-perm {xs} {ys} r = length-sum xs ∙ sum-perm (λ x. 1) r ∙ sym (length-sum ys)

-- ---- the buffer ----

-- three bytes for each piece
pub length-buffer_of : (w : List ℕ) (ps : List Span) → length (buffer_of w ps) ≡ 3 * length ps
unfolding buffer_of buffer
length-buffer_of w [] = omega arith
length-buffer_of w (p ∷ ps) = omega (arith, length-buffer_of w ps)

-- the same in every order
pub buffer_of-perm : (w : List ℕ) {ps qs : List Span} → Permᴰ ps qs → length (buffer_of w ps) ≡ length (buffer_of w qs)
buffer_of-perm w {ps} {qs} r = omega (arith, length-buffer_of w qs, length-buffer_of w ps, length-perm r)

-- ---- the text ----

-- the lines of all pieces
length-text_of : (w : List ℕ) (ps : List Span) → length (text_of w ps) ≡ sum (λ p. length (piece_line w p)) ps
unfolding text_of sum
length-text_of w [] = refl
length-text_of w (p ∷ ps) = omega (arith, length-append (piece_line w p) (text_of w ps), length-text_of w ps)

-- the same in every order
pub text_of-perm : (w : List ℕ) {ps qs : List Span} → Permᴰ ps qs → length (text_of w ps) ≡ length (text_of w qs)
text_of-perm w {ps} {qs} r = length-text_of w ps ∙ sum-perm (λ p. length (piece_line w p)) r ∙ sym (length-text_of w qs)

-- a name of n letters at most
short : ℕ → String → Bool
short n s = leb (length (text s)) n

-- where all names are, so is that of any kind
name_from-most : (n i : ℕ) (ms : List String) (k : ℕ) → every (short n) ms ≡ true → length (name_from i ms k) ≤ n
unfolding name_from every short
name_from-most n i [] k e = omega arith
name_from-most n i (m ∷ ms) k e =
    cond_both (λ s. length s ≤ n) (eqb k i) (text m) (name_from (i + 1) ms k) (leb-true _ n (and_left (short n m) (every (short n) ms) e))
    (name_from-most n (i + 1) ms k (and_right (short n m) (every (short n) ms) e))

-- a kind's name has at most six letters
pub kind_name-most : (k : ℕ) → length (kind_name k) ≤ 6
unfolding kind_name
kind_name-most k = name_from-most 6 1 kind_names k (unfold every short kind_names text in refl)

-- a line has at most eight bytes besides the piece's letters
piece_line-most : (w : List ℕ) (p : Span) → length (piece_line w p) ≤ 8 + length (letters_of w p)
unfolding piece_line
piece_line-most w p = simp length-append (omega (arith, kind_name-most p.kind))

-- so the text has at most eight for each piece besides what they spell
pub text_of-most : (w : List ℕ) (ps : List Span) → length (text_of w ps) ≤ 8 * length ps + length (spelled w ps)
unfolding text_of spelled
text_of-most w [] = omega arith
text_of-most w (p ∷ ps) = simp length-append (omega (arith, piece_line-most w p, text_of-most w ps))

-- where there are no pieces nothing is written
pub none_written : (form : List Span → List ℕ) → form [] ≡ [] → {before after : List ℕ} → InSomeOrder form [] before after → after ≡ before
unfolding written
none_written form e {before} r = go r.order (length-perm r.rearranged) r.holds
  where
    go : (ps : List Span) → 0 ≡ length ps → {after : List ℕ} → after ≡ form ps ++ drop (length (form ps)) before → after ≡ before
    go [] n h = h ∙ rw e
    go (p ∷ ps) n h = absurd (omega arith)

-- what the buffer of some pieces holds is below n where their kinds and distances are
pub buffer-below : (n kept : ℕ) (ps : List Span)
    → ((p : Span) → Memᴰ p ps → (p.kind < n) × (p.first - kept < n) × (p.last - kept < n))
    → (b : ℕ) → Memᴰ b (buffer kept ps) → b < n
unfolding buffer
buffer-below n kept [] h b i = absurd (mathlib.Core.List.Memᴰ.not-nil i)
buffer-below n kept (p ∷ ps) h b i =
    let here = h p (mathlib.Core.List.Memᴰ.head refl) in
    let rest = buffer-below n kept ps (λ q k. h q (mathlib.Core.List.Memᴰ.tail k)) b in
    let last : Memᴰ b ((p.last - kept) ∷ buffer kept ps) → b < n = λ k. ⊎_elim (λ e. rw e here.2) rest (mathlib.Core.List.Memᴰ.cases_cons k) in
    let first : Memᴰ b ((p.first - kept) ∷ (p.last - kept) ∷ buffer kept ps) → b < n = λ k. ⊎_elim (λ e. rw e here.1) last (mathlib.Core.List.Memᴰ.cases_cons k) in
    ⊎_elim (λ e. rw e here.0) first (mathlib.Core.List.Memᴰ.cases_cons i)
