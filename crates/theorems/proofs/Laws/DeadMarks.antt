-- Marks that fail wherever another one does, so that an alternative behind the other is dead: ndA behind DA (turkish.sbl, line 351) and
-- lArI behind sU (line 384). Assumes nothing.
use Prim.Native.Nat.{ℕ}
use mathlib.Core.Path.{◌≡◌, refl, sym, ap, ◌∙◌}
use mathlib.Core.Bool.{Bool, true, false, true≢false}
use mathlib.Core.List.{List, [], ◌∷◌, ◌++◌}
use lib.ListN.{length, drop}
use Rattle.turkish.specs.Letters.{text, from_end, any, has, starts}
use Rattle.turkish.specs.Vowels.{vowels, vowel, last_vowel_of, before_last_vowel}
use Rattle.theorems.specs.Simple.Harmony.{partner_table, partners_in, partner, harmony_found, is_found, harmony}
use Rattle.theorems.specs.Simple.Grammar.{Out, fail, took, more, after, asking, among, optional, joining, mark_of}
use Rattle.theorems.specs.Simple.Marks.{unjoined, marked}
use Rattle.theorems.specs.Simple.NounMarks.{by_s, letters_U, sU, lArI, DA, ndA}
use Rattle.theorems.proofs.Laws.Syllables.{starts-split}

-- what takes something does not fail
pub took-fail : {A : Type 0} {k : ℕ} {f : Bool} → took k f ≡ fail → A
took-fail e = absurd (true≢false (ap taken e))
  where
    taken : Out → Bool
    taken fail = false
    taken (took k f) = true

-- a text on which a mark fails does not begin with a key on which it does not
not-begun : (f : List ℕ → Out) (k cs : List ℕ) {n : ℕ} → ((rest : List ℕ) → f (k ++ rest) ≡ took n true) → f cs ≡ fail → starts k cs ≡ false
not-begun f k cs h e = go (starts k cs) refl
  where
    go : (t : Bool) → starts k cs ≡ t → t ≡ false
    go true p = took-fail (sym (h (drop (length k) cs)) ∙ ap f (starts-split k cs p) ∙ e)
    go false p = refl

-- a table of two keys fails on a text that begins with neither
neither-fits : (j k cs : List ℕ) (q : ℕ → Out) → starts j cs ≡ false → starts k cs ≡ false → after (among (j ∷ k ∷ []) cs) q ≡ fail
unfolding after among
neither-fits j k cs q a b = rw (a, b)

-- nda and nde end in da and de, and both marks test harmony
pub ndA-behind-DA : (cs : List ℕ) → mark_of DA cs ≡ fail → mark_of ndA cs ≡ fail
unfolding mark_of DA ndA marked unjoined joining asking among after more starts from_end text
ndA-behind-DA cs e = go (harmony cs) e
  where
    taking : List ℕ → Out
    taking cs = after (among DA.keys cs) (λ k. took 0 true)

    go : (h : Bool) → asking h (taking cs) ≡ fail → asking h (after (among ndA.keys cs) (λ k. took 0 true)) ≡ fail
    go true e =
        neither-fits (from_end "nda") (from_end "nde") cs (λ k. took 0 true)
        (not-begun taking (from_end "nda") cs (λ rest. refl) e) (not-begun taking (from_end "nde") cs (λ rest. refl) e)
    go false e = refl

-- leri and ları end in i and ı, in harmony with the vowel before them, which is the second character back as sU's joint asks
pub lArI-behind-sU : (cs : List ℕ) → mark_of sU cs ≡ fail → mark_of lArI cs ≡ fail
unfolding mark_of sU lArI marked letters_U by_s unjoined joining optional asking among after more starts from_end text has any vowel vowels last_vowel_of before_last_vowel
    harmony harmony_found is_found partner partners_in partner_table
lArI-behind-sU cs e =
    neither-fits (from_end "leri") (from_end "ları") cs (λ k. took 0 true)
    (not-begun (mark_of sU) (from_end "leri") cs (λ rest. refl) e) (not-begun (mark_of sU) (from_end "ları") cs (λ rest. refl) e)
