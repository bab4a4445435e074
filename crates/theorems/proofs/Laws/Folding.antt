-- The fold of one character, by what becomes of it, and of a text read the other way. Assumes nothing.
use Prim.Native.Nat.{ℕ, ◌+◌, ◌≤◌}
use mathlib.Core.Path.{◌≡◌, refl, sym, ◌∙◌}
use mathlib.Core.Bool.{false, ◌&&◌, false≢true}
use mathlib.Core.List.{List, [], ◌∷◌, map, reverse, reverse-cons, map-append, Memᴰ}
use lib.Dec.{eqb, leb}
use borrow.Author.Tests.{leb-true, le-leb, eqb-true}
use Rattle.encoding.proofs.Laws.Booleans.{and_left, and_right, cond_cases}
use Rattle.turkish.specs.Letters.{any, has}
use Rattle.turkish.specs.Fold.{Letter, fold_by, fold_char, fold}

-- c is no capital of these rows
abbrev pub NoCapital : List Letter → ℕ → Type 0
NoCapital ls c = has (map (λ (l : Letter). l.capital) ls) c ≡ false

-- nor one of A to Z
abbrev pub NotAToZ : ℕ → Type 0
NotAToZ c = 0x41 ≤ c → c ≤ 0x5A → ⊥

-- what holds of each row's small letter, of any other one of a to z, and of a character that stays, holds of a character's fold
pub fold_by-elim : (P : ℕ → Type 0) (ls : List Letter) (c : ℕ)
    → ((l : Letter) → Memᴰ l ls → c ≡ l.capital → P l.small)
    → (NoCapital ls c → 0x41 ≤ c → c ≤ 0x5A → P (c + 0x20))
    → (NoCapital ls c → NotAToZ c → P c)
    → P (fold_by ls c)
unfolding fold_by has any
fold_by-elim P [] c row capital stays =
    cond_cases P (leb 0x41 c && leb c 0x5A)
    (λ e. capital refl (leb-true 0x41 c (and_left (leb 0x41 c) (leb c 0x5A) e)) (leb-true c 0x5A (and_right (leb 0x41 c) (leb c 0x5A) e)))
    (λ e. stays refl (λ h k. false≢true (sym e ∙ rw (le-leb 0x41 c h, le-leb c 0x5A k))))
fold_by-elim P (l ∷ ls) c row capital stays =
    cond_cases P (eqb c l.capital) (λ e. row l (Memᴰ.head refl) (eqb-true c l.capital e)) λ e.
    fold_by-elim P ls c (λ k m. row k (Memᴰ.tail m)) (λ o. capital (rw (e, o))) (λ o. stays (rw (e, o)))

-- a text told the other way folds to its fold told the other way
pub reverse-fold : (cs : List ℕ) → reverse (fold cs) ≡ fold (reverse cs)
unfolding fold
reverse-fold [] = refl
reverse-fold (c ∷ cs) = rw (reverse-cons (fold_char c) (map fold_char cs), reverse-cons c cs, map-append, reverse-fold cs)
