-- Where each key of a mark has a vowel, the last vowel of a text that the mark fits is its key's own. Assumes nothing.
use Prim.Native.Nat.{ℕ, ◌+◌, ◌≤◌}
use mathlib.Core.Path.{◌≡◌, refl, sym, ap, ◌∙◌}
use mathlib.Core.Bool.{Bool, true, not, ◌||◌}
use mathlib.Core.List.Memᴰ
use mathlib.Core.List.{List, [], ◌∷◌}
use native.Mathlib.Omega.{arith}
use lib.ListN.{length, drop}
use Rattle.encoding.proofs.Laws.Booleans.{and_left, and_right, cond-test}
use Rattle.turkish.specs.Letters.{any, starts}
use Rattle.turkish.specs.Vowels.{vowel, last_vowel_of}
use Rattle.theorems.specs.Simple.Harmony.{to_first, harmony}
use Rattle.theorems.specs.Simple.Grammar.{took, after, among, joining, Mark, mark_of}
use Rattle.theorems.specs.HeardTerms.{KeyVowel}
use Rattle.theorems.proofs.Laws.Tests.{every}
use Rattle.theorems.proofs.Laws.Harmony.{to_first-le, to_first-append, last_vowel_of-append}
use Rattle.theorems.proofs.Laws.Outcome.{Post, unfit, fits, post-took, post-map, post-asking, post-then, post-joining}
use Rattle.theorems.proofs.Laws.Syllables.{starts-split}

-- ---- a key ----

-- a text that ends in a key with a vowel has the key's last vowel
starts-last : (k cs : List ℕ) → any vowel k ≡ true → starts k cs ≡ true → last_vowel_of cs ≡ last_vowel_of k
starts-last k cs v e = ap last_vowel_of (sym (starts-split k cs e)) ∙ last_vowel_of-append k (drop (length k) cs) v

-- which stands in the key
starts-within : (k cs : List ℕ) → any vowel k ≡ true → starts k cs ≡ true → to_first vowel cs ≤ length k
starts-within k cs v e =
    let met : to_first vowel cs ≡ to_first vowel k = ap (to_first vowel) (sym (starts-split k cs e)) ∙ to_first-append vowel k (drop (length k) cs) v in
    omega (arith, to_first-le vowel k)

-- where each key of a table has a vowel, the last vowel is that of the key found
among-vowel : (ks : List (List ℕ)) (cs : List ℕ) → every (any vowel) ks ≡ true → Post (KeyVowel ks cs) (among ks cs)
unfolding among every
among-vowel [] cs h = unfit
among-vowel (k ∷ ks) cs h =
    let v = and_left (any vowel k) (every (any vowel) ks) h in
    cond-test (Post (KeyVowel (k ∷ ks) cs)) (starts k cs)
    (λ e. fits (length k) (record {
      key = k;
      one = Memᴰ.head refl;
      ends = e;
      key-taken = omega arith;
      has-vowel = v;
      its-vowel = starts-last k cs v e;
      vowel-in-key = starts-within k cs v e;
    }))
    (post-map
    (λ j f r. record {
      key = r.key;
      one = Memᴰ.tail r.one;
      ends = r.ends;
      key-taken = r.key-taken;
      has-vowel = r.has-vowel;
      its-vowel = r.its-vowel;
      vowel-in-key = r.vowel-in-key;
    })
    (among-vowel ks cs (and_right (any vowel k) (every (any vowel) ks) h)))

-- ---- a mark ----

-- and a joint takes no vowel of it away
pub keyed-vowel : (m : Mark) (cs : List ℕ) → every (any vowel) m.keys ≡ true
    → Post (KeyVowel m.keys cs) (after (among m.keys cs) (λ k. joining m.joint (drop k cs)))
keyed-vowel m cs h = post-then (among-vowel m.keys cs h) λ k f r. post-joining m.joint (drop k cs) (λ a. more k r 0) (λ c d ds a e. (more k r 0, λ l. more k r 1))
  where
    more : (k : ℕ) → KeyVowel m.keys cs k → (j : ℕ) → KeyVowel m.keys cs (k + j)
    more k r j =
        record {
          key = r.key;
          one = r.one;
          ends = r.ends;
          key-taken = omega (arith, r.key-taken);
          has-vowel = r.has-vowel;
          its-vowel = r.its-vowel;
          vowel-in-key = r.vowel-in-key;
        }

-- a mark that tests no harmony, or of which each key has a vowel
unfoldable pub voiced : Mark → Bool
voiced m = not m.harmonic || every (any vowel) m.keys

-- one that tests harmony is of the second sort
pub voiced-keys : (m : Mark) → voiced m ≡ true → m.harmonic ≡ true → every (any vowel) m.keys ≡ true
unfolding voiced
voiced-keys m v h = rw h at v

-- so where it fits, the last vowel is its key's own
pub mark-vowel : (m : Mark) (cs : List ℕ) {k : ℕ} {f : Bool} → voiced m ≡ true → m.harmonic ≡ true → mark_of m cs ≡ took k f → KeyVowel m.keys cs k
unfolding mark_of
mark-vowel m cs v h e = post-took (rw e at (post-asking (not m.harmonic || harmony cs) (λ t. keyed-vowel m cs (voiced-keys m v h))))
