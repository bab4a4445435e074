-- The two vowels that a harmony test found, told by their places in the word: what stands between them in reading order is what the test
-- skipped, and so the word falls into what its theorem says. Assumes nothing.
use Prim.Native.Nat.{ℕ, suc, ◌+◌, ◌-◌, ◌≤◌, ◌<◌}
use mathlib.Core.Path.{◌≡◌, refl, sym, ap, ◌∙◌}
use mathlib.Core.Bool.{true}
use mathlib.Core.List.{List, ◌∷◌, ◌++◌, append_assoc, reverse}
use native.Mathlib.Nat.{sub-zero}
use native.Mathlib.Numerals.{add-one}
use native.Mathlib.Omega.{arith}
use lib.ListN.{length, take, drop, get_or, length-drop, length-reverse, take-append-drop}
use lib.Seq.{take-suc, take-add, drop-drop, append_snoc, get_or-drop}
use Rattle.encoding.specs.Encoding.{encode_all}
use Rattle.turkish.specs.Letters.{any}
use Rattle.turkish.specs.Vowels.{vowel, last_vowel_of}
use Rattle.turkish.specs.Heard.{heard, loan_in}
use Rattle.turkish.specs.Calls.{chars, bytes, accepted, offset}
use Rattle.theorems.specs.Simple.Harmony.{partner, at, harmony_found, skips_vowel}
use Rattle.theorems.specs.HeardTerms.{TwoVowels}
use Rattle.theorems.proofs.Laws.Tests.{any-reverse}
use Rattle.theorems.proofs.Laws.Accepted.{bytes-chars}
use Rattle.theorems.proofs.Laws.Offsets.{part-reverse, get_d_reverse}
use Rattle.theorems.proofs.Laws.Harmony.{harmony_found-bounds, found-last, found-last-vowel, found-no-nearer, found-partner, found-none-between}

-- ---- between the two ----

-- what stands between two places, the k-th character back and l or p more, is in reverse what was skipped there
pub skipped-between : (cs : List ℕ) (k l p : ℕ) → l < p → k + p ≤ length cs
    → let last = length cs - k - l in let partner = length cs - k - p in
    take (last - (partner + 1)) (drop (partner + 1) (reverse cs)) ≡ reverse (take (p - l - 1) (drop l (drop k cs)))
skipped-between cs k l p h b =
    let n = p - l - 1 in
    let size : length cs - k - l - (length cs - k - p + 1) ≡ n = omega arith in
    rw (size, start (length cs) (k + l + n) (omega arith) b, part-reverse (k + l) n cs (omega arith), drop-drop l k cs)
  where
    start : (n m : ℕ) → m + 1 ≡ k + p → k + p ≤ n → n - k - p + 1 ≡ n - m
    start n m e b = omega arith

-- so a loan candidate is one of which the test skipped a vowel
pub loan-skips : (cs : List ℕ) (k l p : ℕ) → l < p → k + p ≤ length cs
    → loan_in cs (heard (length cs - k - l) (length cs - k - p)) ≡ skips_vowel (drop k cs) l p
unfolding loan_in skips_vowel
loan-skips cs k l p h b = ap (any vowel) (skipped-between cs k l p h b) ∙ any-reverse vowel (take (p - l - 1) (drop l (drop k cs)))

-- and what stands behind one such place, up to the k-th character back, is in reverse what was passed before it
skipped-behind : (cs : List ℕ) (k l : ℕ) → 0 < l → k + l ≤ length cs
    → let last = length cs - k - l in take (length cs - k - (last + 1)) (drop (last + 1) (reverse cs)) ≡ reverse (take (l - 1) (drop k cs))
skipped-behind cs k l h b = simp sub-zero at (skipped-between cs k 0 l h b)

-- ---- the word cut at the two ----

-- up to a place behind another, a text is what stands before that one, the character there, and what stands between
take-cut : (r : List ℕ) (m n : ℕ) → m < n → m < length r → take n r ≡ take m r ++ get_or r m 0 ∷ take (n - (m + 1)) (drop (m + 1) r)
take-cut r m n h b =
    let j = n - suc m in
    let e : n ≡ suc m + j = omega arith in
    rw add-one
    (ap (λ (i : ℕ). take i r) e ∙ take-add (suc m) j r ∙ rw (take-suc r m 0 b) (append_snoc (take m r) (get_or r m 0) (take j (drop (suc m) r))))

-- so up to one behind two others it falls into five
cut-two : (r : List ℕ) (m n e : ℕ) → m < n → n < e → n < length r
    → take e r ≡ take m r ++ get_or r m 0 ∷ (take (n - (m + 1)) (drop (m + 1) r) ++ get_or r n 0 ∷ take (e - (n + 1)) (drop (n + 1) r))
cut-two r m n e h k b = rw (take-cut r n e k b, take-cut r m n h (omega arith)) (append_assoc (take m r) _ _)

-- the i-th character back from the k-th stands at its place
get_or-place : (cs : List ℕ) (k i : ℕ) → 0 < i → k + i ≤ length cs → get_or (reverse cs) (length cs - k - i) 0 ≡ get_or (drop k cs) (i - 1) 0
get_or-place cs k i h b =
    let e : length cs - (length cs - k - i + 1) ≡ k + (i - 1) = omega arith in
    get_d_reverse cs (length cs - k - i) 0 (omega arith) ∙ ap (λ (j : ℕ). get_or cs j 0) e ∙ sym (get_or-drop k cs (i - 1) 0)

-- what a harmony test found at the k-th character back are the word's two vowels before that place
pub two-vowels : (w : List ℕ) → accepted w ≡ true → (k : ℕ) {l p : ℕ} → harmony_found (drop k (chars w)) ≡ at l p
    → let end = length (chars w) - k in
    TwoVowels w (offset w (end - l)) (offset w (end - p)) (offset w end) (loan_in (chars w) (heard (end - l) (end - p)))
unfolding offset loan_in bytes
two-vowels w a k {l} {p} e =
    let cs = chars w in
    let r = reverse cs in
    let d = drop k cs in
    let bounds = harmony_found-bounds d e in
    let inside : k + p ≤ length cs = omega (arith, length-drop k cs) in
    let end = length cs - k in
    let last = end - l in
    let other = end - p in
    let order : other < last = omega arith in
    let within : last < length r = omega (arith, length-reverse cs) in
    let five = cut-two r other last end order (omega arith) within in
    let second : get_or r last 0 ≡ last_vowel_of d = get_or-place cs k l bounds.0 (omega arith) ∙ sym (found-last d e) in
    let first : get_or r other 0 ≡ get_or d (p - 1) 0 = get_or-place cs k p (omega arith) inside in
    record {
      front = take other r;
      first = get_or r other 0;
      between = take (last - (other + 1)) (drop (other + 1) r);
      second = get_or r last 0;
      tail = take (end - (last + 1)) (drop (last + 1) r);
      rest = drop end r;
      spelled = sym (bytes-chars w a) ∙ ap encode_all (sym (take-append-drop end r) ∙ rw five (simp append_assoc));
      partner-starts = refl;
      last-starts = ap (λ (s : List ℕ). length (encode_all s)) (take-cut r other last order (omega arith));
      tail-ends = ap (λ (s : List ℕ). length (encode_all s)) five;
      is-vowel = rw second (found-last-vowel d e);
      none-follows = rw (skipped-behind cs k l bounds.0 (omega arith)) (any-reverse vowel (take (l - 1) d) ∙ found-no-nearer d e);
      is-partner = rw (second, first) (found-partner d e);
      none_between =
          rw (second, skipped-between cs k l p bounds.1 inside)
          (any-reverse (partner (last_vowel_of d)) (take (p - l - 1) (drop l d)) ∙ found-none-between d e);
      candidate = refl;
    }
