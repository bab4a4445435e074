-- The postlude's three rules never act together: a reserved word stays, a word that gains a vowel is not hardened. And none acts on a word
-- that ends in a vowel, as one does that the noun stage closes with na, ne, nda or nde. Assumes nothing.
use Prim.Native.Nat.{ℕ, ◌+◌}
use Prim.Native.Char.{code}
use mathlib.Core.Path.{◌≡◌, refl, ap}
use mathlib.Core.Bool.{Bool, true, false, cond, false≢true}
use mathlib.Core.List.{List, [], ◌∷◌, ◌++◌}
use lib.ListN.{take, drop}
use Rattle.utf8.specs.Steps.{same}
use Rattle.encoding.proofs.Laws.Booleans.{cond_both}
use Rattle.turkish.specs.Letters.{text, from_end, any, has, starts}
use Rattle.turkish.specs.Vowels.{vowels, vowel, last_vowel_of}
use Rattle.turkish.specs.Snowball.{is_in}
use Rattle.theorems.specs.Simple.Nouns.{parted, noun_rest, rest_text, noun_leaves}
use Rattle.theorems.specs.Simple.Postlude.{reserved, gained, appends, append_U, hardenings, hard_in, hard, harden, postlude}
use Rattle.theorems.proofs.Laws.Tests.{every}
use Rattle.theorems.proofs.Laws.Same.{one_of-every}
use Rattle.theorems.proofs.Laws.NounText.{staying, Rests, closer, noun_rest-rests}
use Rattle.theorems.proofs.Source.Harmony.{none, ◌⊹◌, each-has}

-- what holds of ı, i, u, ü and of none holds of the vowel gained
pub gained-elim : (P : ℕ → Type 0) (v : ℕ) → P (code "ı") → P (code "i") → P (code "u") → P (code "ü") → P 0 → P (gained v)
unfolding gained
gained-elim P v p q r s z =
    cond_both P (has (text "aı") v) _ _ p
    (cond_both P (has (text "ei") v) _ _ q
    (cond_both P (has (text "ou") v) _ _ r
    (cond_both P (has (text "öü") v) _ _ s z)))

-- what holds of p, ç, t, k and of a character holds of the character hardened
pub hard-elim : (P : ℕ → Type 0) (c : ℕ) → P (code "p") → P (code "ç") → P (code "t") → P (code "k") → P c → P (hard c)
unfolding hard hard_in hardenings
hard-elim P c p q r s z =
    cond_both P (starts (from_end "b") (c ∷ [])) _ _ p
    (cond_both P (starts (from_end "c") (c ∷ [])) _ _ q
    (cond_both P (starts (from_end "d") (c ∷ [])) _ _ r
    (cond_both P (starts (from_end "ğ") (c ∷ [])) _ _ s z)))

-- a gained vowel does not harden
pub hard-gained : (v : ℕ) → hard (gained v) ≡ gained v
unfolding hard hard_in hardenings starts from_end text
hard-gained v = gained-elim (λ c. hard c ≡ c) v refl refl refl refl refl

-- a word that gains a vowel is not hardened, and any other is handed on as it is
append-or-harden : (cs : List ℕ) → (appends cs ≡ true → harden (append_U cs) ≡ append_U cs) × (appends cs ≡ false → append_U cs ≡ cs)
unfolding append_U harden
append-or-harden [] = (λ e. refl, λ e. refl)
append-or-harden (c ∷ cs) = (λ e. rw (e, hard-gained (last_vowel_of cs)), λ e. rw e)

-- so the postlude leaves a reserved word, or else appends, or else hardens
pub postlude-one : (cs : List ℕ) → postlude cs ≡ cond (reserved cs) cs (cond (appends cs) (append_U cs) (harden cs))
unfolding postlude
postlude-one cs = ap (cond (reserved cs) cs) (go (appends cs) refl)
  where
    go : (t : Bool) → appends cs ≡ t → harden (append_U cs) ≡ cond t (append_U cs) (harden cs)
    go true e = (append-or-harden cs).0 e
    go false e = ap harden ((append-or-harden cs).1 e)

-- ---- a vowel at the end ----

-- the postlude leaves a word that ends in a vowel
pub postlude-vowel : (c : ℕ) (cs : List ℕ) → vowel c ≡ true → postlude (c ∷ cs) ≡ c ∷ cs
unfolding vowel vowels postlude reserved same appends append_U harden hard hard_in hardenings starts has any from_end text
postlude-vowel c cs h =
    each-has {P = λ c. postlude (c ∷ cs) ≡ c ∷ cs} c (refl ⊹ refl ⊹ refl ⊹ refl ⊹ refl ⊹ refl ⊹ refl ⊹ refl ⊹ none) h

-- so too where other text stands before it
postlude-ends : (ds es : List ℕ) → is_in vowels ds ≡ true → postlude (ds ++ es) ≡ ds ++ es
unfolding is_in
postlude-ends [] es h = absurd (false≢true h)
postlude-ends (c ∷ ds) es h = postlude-vowel c (ds ++ es) (unfold vowel in h)

-- and what the noun stage closes with na, ne, nda or nde
pub parted-postlude : (cs : List ℕ) (j k : ℕ) → noun_rest cs ≡ parted j k → postlude (noun_leaves cs) ≡ noun_leaves cs
unfolding noun_leaves rest_text
parted-postlude cs j k e = rw e (go (rw e at (noun_rest-rests cs)))
  where
    go : Rests cs (parted j k) → postlude (take j cs ++ drop (j + k) cs) ≡ take j cs ++ drop (j + k) cs
    go (closer _ _ o p q) =
        let ends = one_of-every (is_in vowels) staying (take j cs) (unfold staying every is_in vowels has any from_end text in refl) o in
        postlude-ends (take j cs) (drop (j + k) cs) ends
