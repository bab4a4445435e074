-- What holds of a command's answer, carried through the interpreter: a statement about each mark goes over to every command.
-- Assumes nothing.
use Prim.Native.Nat.{ℕ, ◌+◌}
use mathlib.Core.Path.{◌≡◌, refl}
use mathlib.Core.Bool.{Bool, true, false, cond, not, ◌&&◌}
use mathlib.Core.List.{List, [], ◌∷◌}
use Rattle.turkish.specs.Letters.{has}
use Rattle.turkish.specs.Vowels.{vowel}
use Rattle.theorems.specs.Simple.Grammar.{Out, fail, took, more, after, first, asking, Joint, optional, joining}

-- what fails after an answer adds nothing to it
pub first-fail : (o : Out) → first o fail ≡ o
unfolding first
first-fail fail = refl
first-fail (took k f) = refl

-- an answer that fails, or of whose number of characters and flag P holds
pub data Gives (P : ℕ → Bool → Type 0) : Out → Type 0 where
  unfit : Gives P fail
  fits : (k : ℕ) {f : Bool} → P k f → Gives P (took k f)

-- one of whose number P holds
abbrev pub Post : (ℕ → Type 0) → Out → Type 0
Post P = Gives (λ k f. P k)

-- one that leaves the flag at f
abbrev pub Flagged : Bool → Out → Type 0
Flagged f = Gives (λ k g. g ≡ f)

-- an answer of whatever number and flag, where P holds of all
pub post-all : {P : ℕ → Bool → Type 0} (o : Out) → ((k : ℕ) (f : Bool) → P k f) → Gives P o
post-all fail h = unfit
post-all (took k f) h = fits k (h k f)

-- what P says of an answer that does not fail
pub post-took : {P : ℕ → Bool → Type 0} {k : ℕ} {f : Bool} → Gives P (took k f) → P k f
post-took (fits k p) = p

-- what P says of the answer, Q says too
pub post-map : {P Q : ℕ → Bool → Type 0} {o : Out} → ((k : ℕ) (f : Bool) → P k f → Q k f) → Gives P o → Gives Q o
post-map h unfit = unfit
post-map h (fits k {f} p) = fits k (h k f p)

-- where P and Q hold of the answer, both do
pub post-both : {P Q : ℕ → Bool → Type 0} {o : Out} → Gives P o → Gives Q o → Gives (λ k f. P k f × Q k f) o
post-both unfit y = unfit
post-both (fits k p) (fits _ q) = fits k (p, q)

-- the first of two answers
pub post-first : {P : ℕ → Bool → Type 0} {o q : Out} → Gives P o → Gives P q → Gives P (first o q)
unfolding first
post-first unfit y = y
post-first (fits k p) y = fits k p

-- an answer behind a test, which may be taken to pass
pub post-asking : {P : ℕ → Bool → Type 0} (t : Bool) {o : Out} → (t ≡ true → Gives P o) → Gives P (asking t o)
unfolding asking
post-asking true h = h refl
post-asking false h = unfit

-- one of two answers
pub post-cond : {P : ℕ → Bool → Type 0} (t : Bool) {o q : Out} → Gives P o → Gives P q → Gives P (cond t o q)
post-cond true x y = x
post-cond false x y = y

-- one answer after another: the numbers add up, and the flag is down where either took it down
pub post-more : {P Q : ℕ → Bool → Type 0} (k : ℕ) (f : Bool) {o : Out} → ((j : ℕ) (g : Bool) → P j g → Q (k + j) (f && g)) → Gives P o → Gives Q (more k f o)
unfolding more
post-more k f h unfit = unfit
post-more k f h (fits j {f = g} p) = fits (k + j) (h j g p)

-- where the first one's number and flag have a say in what holds of the second's
pub post-then : {P R : ℕ → Bool → Type 0} {o : Out} {q : ℕ → Out}
    → Gives P o → ((k : ℕ) (f : Bool) → P k f → Gives (λ j g. R (k + j) (f && g)) (q k)) → Gives R (after o q)
unfolding after
post-then unfit h = unfit
post-then {R} (fits k {f} p) h = post-more {Q = R} k f (λ j g r. r) (h k f p)

-- a joint's answer: nothing is taken where it asks for no letter; where it asks for one, of two characters or more, nothing or such a letter
pub post-joining : {P : ℕ → Bool → Type 0} (j : Joint) (cs : List ℕ) → (j.asked ≡ false → P 0 true)
    → ((c d : ℕ) (ds : List ℕ) → j.asked ≡ true → cs ≡ c ∷ d ∷ ds → P 0 true × (has j.letters c ≡ true → P 1 true)) → Gives P (joining j cs)
unfolding joining optional
post-joining {P} j cs free bound = go j.asked refl cs refl
  where
    letter : (c d : ℕ) (ds : List ℕ) → j.asked ≡ true → cs ≡ c ∷ d ∷ ds → (t : Bool) → has j.letters c ≡ t → P (cond t 1 0) true
    letter c d ds a e true h = (bound c d ds a e).1 h
    letter c d ds a e false h = (bound c d ds a e).0

    go : (a : Bool) → j.asked ≡ a → (ds : List ℕ) → cs ≡ ds → Gives P (cond a (optional j.letters j.vowelled ds) (took 0 true))
    go true a [] e = unfit
    go true a (c ∷ []) e = unfit
    go true a (c ∷ d ∷ ds) e =
        post-cond (cond j.vowelled (vowel d) (not (vowel d))) (fits (cond (has j.letters c) 1 0) (letter c d ds a e (has j.letters c) refl)) unfit
    go false a ds e = fits 0 (free a)
