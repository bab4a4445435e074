-- The bytes before a place that is told in characters: places told from the word's end and its start, that offsets grow with the
-- places, and which character stands at a byte below 0x80. Assumes nothing.
use Prim.Native.Nat.{ℕ, suc, ◌+◌, ◌-◌, ◌≤◌, ◌<◌}
use mathlib.Core.Path.{◌≡◌, refl, sym, ap, ◌∙◌}
use mathlib.Core.Bool.{Bool, true, cond}
use mathlib.Core.List.{List, [], ◌∷◌, ◌++◌, append_assoc, reverse, reverse-append, reverse-cons}
use native.Mathlib.Nat.{add-zero}
use native.Mathlib.Omega.{arith}
use lib.ListN.{length, take, drop, get_or, length-append, length-drop, length-reverse, take-append-drop}
use lib.Seq.{take-add, take_at, drop_at, length-take-le, split_at, append_snoc, get_or_at, get_or-append-add, get_or-drop}
use lib.Dec.{eqb}
use borrow.Author.Tests.{ne_eqb}
use Rattle.encoding.specs.Encoding.{encode, encode_all}
use Rattle.encoding.proofs.Laws.Booleans.{lt-or-le}
use Rattle.encoding.proofs.Laws.Encoding.{encode-elim}
use Rattle.encoding.proofs.Laws.Decoding.{length_encode_pos}
use Rattle.utf8.specs.Characters.{back}
use Rattle.utf8.proofs.Laws.Characters.{back-le}
use Rattle.utf8.proofs.TextCharacters.{encode_all-append, take_back}
use Rattle.turkish.specs.Pieces.{with_y, after_vowel, alone}
use Rattle.theorems.specs.Simple.Stage.{stage, kept}
use Rattle.theorems.specs.Simple.Pieces.{joint_by}
use Rattle.turkish.specs.Calls.{chars, bytes, accepted, stage_text, offset}
use Rattle.theorems.proofs.Laws.Accepted.{accepted-text, bytes-chars}
use Rattle.theorems.proofs.Source.Calls.{suffix_stage-text}

-- ---- from the end and from the start ----

module _ {A : Type 0} where
  -- a list in reverse without its last k is, in reverse, the list without its first k
  pub take-reverse : (k : ℕ) (l : List A) → take (length l - k) (reverse l) ≡ reverse (drop k l)
  take-reverse k l =
      let whole : reverse l ≡ reverse (drop k l) ++ reverse (take k l) = ap reverse (sym (take-append-drop k l)) ∙ reverse-append (take k l) (drop k l) in
      ap (take (length l - k)) whole ∙ take_at (reverse (drop k l)) (reverse (take k l)) (length l - k) (length-reverse (drop k l) ∙ length-drop k l)

  -- a part of a list in reverse is, in reverse, a part of the list
  pub part-reverse : (i j : ℕ) (l : List A) → i + j ≤ length l → take j (drop (length l - (i + j)) (reverse l)) ≡ reverse (take j (drop i l))
  part-reverse i j l h =
      let d = drop i l in
      let part = reverse (take j d) in
      let before = reverse (drop j d) in
      let behind = reverse (take i l) in
      let parts : reverse (take i l ++ (take j d ++ drop j d)) ≡ before ++ (part ++ behind) = simp (reverse-append, append_assoc) in
      let whole : reverse l ≡ before ++ (part ++ behind) =
      ap reverse (sym (take-append-drop i l) ∙ ap (λ (r : List A). take i l ++ r) (sym (take-append-drop j d))) ∙ parts in
      let left : length before ≡ length l - (i + j) = omega (arith, length-reverse (drop j d), length-drop j d, length-drop i l) in
      let size : length part ≡ j = omega (arith, length-reverse (take j d), length-take-le j d (omega (arith, length-drop i l))) in
      rw (whole, drop_at before (part ++ behind) (length l - (i + j)) left, take_at part behind j size)

  -- what has n before it in the reverse has n behind it in the list
  pub get_d_reverse : (l : List A) (n : ℕ) (d : A) → n < length l → get_or (reverse l) n d ≡ get_or l (length l - (n + 1)) d
  get_d_reverse l n d h =
      let k = length l - (n + 1) in
      let x = get_or l k d in
      let behind = reverse (drop (suc k) l) in
      let parts : reverse (take k l ++ (x ∷ drop (suc k) l)) ≡ behind ++ (x ∷ reverse (take k l)) = simp (reverse-append, reverse-cons, append_snoc) in
      let whole : reverse l ≡ behind ++ (x ∷ reverse (take k l)) = ap reverse (split_at l k d (omega arith)) ∙ parts in
      ap (λ (r : List A). get_or r n d) whole ∙ get_or_at behind x (reverse (take k l)) d n (length-reverse (drop (suc k) l) ∙ length-drop (suc k) l ∙ omega arith)

-- the place k characters back has before it the bytes of all but the nearest k
pub offset-drop : (w : List ℕ) (k : ℕ) → offset w (length (chars w) - k) ≡ length (bytes (drop k (chars w)))
unfolding offset bytes
offset-drop w k = rw take-reverse

-- it is the place of so many characters back in the word's bytes
pub offset-back : (w : List ℕ) (k : ℕ) → accepted w ≡ true → offset w (length (chars w) - k) ≡ back w (length w) k
unfolding bytes chars
offset-back w k e =
    offset-drop w k ∙ ap length (sym (take_back w (accepted-text w e) k)) ∙ length-take-le (back w (length w) k) w (back-le w (length w) k)

-- before the end stand all bytes
pub offset-whole : (w : List ℕ) → accepted w ≡ true → offset w (length (chars w)) ≡ length w
unfolding back
offset-whole w e = let n : length (chars w) ≡ length (chars w) - 0 = omega arith in ap (offset w) n ∙ offset-back w 0 e

-- before what the stage removes stand the bytes that it keeps
pub offset-kept : (w : List ℕ) → offset w (length (chars w) - (stage (chars w)).removed) ≡ length (stage_text w)
unfolding stage_text kept
offset-kept w = offset-drop w (stage (chars w)).removed ∙ ap (λ (cs : List ℕ). length (bytes cs)) (sym (suffix_stage-text (chars w)))

-- ---- offsets grow ----

-- some characters have some bytes
encode_all-pos : (cs : List ℕ) → 0 < length cs → 0 < length (encode_all cs)
unfolding encode_all
encode_all-pos [] h = absurd (omega arith)
encode_all-pos (c ∷ cs) h = omega (arith, length-append (encode c) (encode_all cs), length_encode_pos c)

-- a later place has more bytes before it
pub offset-mono : (w : List ℕ) (m n : ℕ) → m < n → n ≤ length (chars w) → offset w m < offset w n
unfolding offset
offset-mono w m n h k =
    let ds = reverse (chars w) in
    let e : n ≡ m + (n - m) = omega arith in
    let l : length (take (n - m) (drop m ds)) ≡ n - m = length-take-le (n - m) (drop m ds) (omega (arith, length-drop m ds, length-reverse (chars w))) in
    let t : take n ds ≡ take m ds ++ take (n - m) (drop m ds) = ap (λ (i : ℕ). take i ds) e ∙ take-add m (n - m) ds in
    let p : 0 < length (encode_all (take (n - m) (drop m ds))) = encode_all-pos (take (n - m) (drop m ds)) (omega arith) in
    rw (t, encode_all-append, length-append) (omega arith)

-- one that is no earlier has no fewer
pub offset-le : (w : List ℕ) (m n : ℕ) → m ≤ n → n ≤ length (chars w) → offset w m ≤ offset w n
offset-le w m n h k =
    lt-or-le m n (λ l. omega (arith, offset-mono w m n l k))
    (λ g. let e : m ≡ n = omega arith in let d : offset w m ≡ offset w n = ap (offset w) e in omega arith)

-- ---- the character at a byte ----

-- a character's first byte is an ASCII character's where the character is
encode_ascii : (c y : ℕ) (r : List ℕ) → y < 0x80 → eqb (get_or (encode c ++ r) 0 0) y ≡ eqb c y
encode_ascii c y r h =
    encode-elim (λ bs. eqb (get_or (bs ++ r) 0 0) y ≡ eqb c y) c (λ p. refl)
    (λ p q. ne_eqb _ y (λ e. omega arith) ∙ sym (ne_eqb c y (λ e. omega arith)))
    (λ p q. ne_eqb _ y (λ e. omega arith) ∙ sym (ne_eqb c y (λ e. omega arith)))
    (λ p. ne_eqb _ y (λ e. omega arith) ∙ sym (ne_eqb c y (λ e. omega arith)))

-- the byte at a place's offset is an ASCII character's where the character behind the place is
pub byte-ascii : (w : List ℕ) (p y : ℕ) → accepted w ≡ true → p < length (chars w) → y < 0x80
    → eqb (get_or w (offset w p) 0) y ≡ eqb (get_or (chars w) (length (chars w) - (p + 1)) 0) y
unfolding offset bytes encode_all
byte-ascii w p y e h b =
    let ds = reverse (chars w) in
    let c = get_or ds p 0 in
    let f = encode_all (take p ds) in
    let r = encode_all (drop (suc p) ds) in
    let split : ds ≡ take p ds ++ (c ∷ drop (suc p) ds) = split_at ds p 0 (omega (arith, length-reverse (chars w))) in
    let whole : w ≡ f ++ (encode c ++ r) = sym (bytes-chars w e) ∙ ap encode_all split ∙ encode_all-append (take p ds) (c ∷ drop (suc p) ds) in
    let first : get_or (f ++ (encode c ++ r)) (length f) 0 ≡ get_or (encode c ++ r) 0 0 = rw add-zero at (get_or-append-add f (encode c ++ r) 0 0) in
    ap (λ (v : List ℕ). eqb (get_or v (length f) 0) y) whole ∙ ap (λ (x : ℕ). eqb x y) first
    ∙ encode_ascii c y r b ∙ ap (λ (x : ℕ). eqb x y) (get_d_reverse (chars w) p 0 h)

-- so the byte at the place k characters back is an ASCII character's where the k-th character back is
pub byte-back : (w : List ℕ) (k y : ℕ) → accepted w ≡ true → 0 < k → k ≤ length (chars w) → y < 0x80
    → eqb (get_or w (back w (length w) k) 0) y ≡ eqb (get_or (chars w) (k - 1) 0) y
byte-back w k y e z h b =
    let n : length (chars w) - (length (chars w) - k + 1) ≡ k - 1 = omega arith in
    ap (λ (i : ℕ). eqb (get_or w i 0) y) (sym (offset-back w k e))
    ∙ byte-ascii w (length (chars w) - k) y e (omega arith) b
    ∙ ap (λ (i : ℕ). eqb (get_or (chars w) i 0) y) n

-- how a mark joined that took k characters behind the nearest n is told by the first of its bytes
pub joint_by-byte : (w : List ℕ) (joins : Bool) (n k : ℕ) → accepted w ≡ true → 0 < k → n + k ≤ length (chars w)
    → joint_by joins k (drop n (chars w)) ≡ cond joins (cond (eqb (get_or w (back w (length w) (n + k)) 0) 0x79) with_y after_vowel) alone
unfolding joint_by
joint_by-byte w joins n k e z h =
    let i : n + (k - 1) ≡ n + k - 1 = omega arith in
    rw (get_or-drop, i, byte-back w (n + k) 0x79 e (omega arith) h (omega arith))
