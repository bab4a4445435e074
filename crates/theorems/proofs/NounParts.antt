-- What the noun stage leaves of an accepted word, in bytes: a front part of the word, or one with the word's own last na, ne, nda or nde behind
-- it; never more bytes than there were; and another text exactly where it says yes. Assumes nothing.
use Prim.Native.Nat.{ℕ, zero, suc, ◌+◌, ◌≤◌, ◌<◌}
use mathlib.Core.Path.{◌≡◌, refl, sym, ap, ◌∙◌}
use mathlib.Core.Bool.{Bool, true, false, false≢true}
use mathlib.Core.List.Memᴰ
use mathlib.Core.List.{List, [], ◌∷◌, ◌++◌}
use mathlib.Core.Logic.{◌↔◌}
use native.Mathlib.Omega.{arith}
use lib.ListN.{length, take, drop, take-append-drop, length-drop}
use lib.Seq.{length-take-le, drop-drop}
use Rattle.encoding.specs.Encoding.{encode, encode_all}
use Rattle.encoding.proofs.Laws.Decoding.{length_encode_pos}
use Rattle.utf8.specs.Characters.{back}
use Rattle.utf8.proofs.Laws.Characters.{back-le}
use Rattle.utf8.proofs.TextCharacters.{take_back}
use Rattle.turkish.specs.Letters.{text, from_end}
use Rattle.theorems.specs.Simple.Nouns.{Rest, rest_text, is_cut, noun_leaves, noun_yes}
use Rattle.turkish.specs.Answers.{noun_stage}
use Rattle.turkish.specs.Calls.{chars, bytes, accepted, noun_text}
use Rattle.theorems.specs.NounParts.{staying, NounPart, front, closed}
use Rattle.theorems.proofs.Laws.Words.{bytes-append, length-bytes-cons}
use Rattle.theorems.proofs.Laws.Accepted.{accepted-text, bytes-chars}
use Rattle.theorems.proofs.Laws.Same.{one_of-mem}
use Rattle.theorems.proofs.Laws.NounText.{staying as staying_chars, Rests, all, shorter, closer, noun_rest-rests, noun-no-keeps, Shape, noun-shape}
use Rattle.theorems.proofs.Laws.NounText as NounText
use Rattle.theorems.proofs.Source.NounStage.{noun_stage-simple}
use Rattle.theorems.proofs.Source.Calls.{noun_text-simple}
use Rattle.theorems.proofs.Sizes.{bytes-parts}

-- ---- parts of a word ----

-- some characters fewer have fewer bytes, by as many at least
bytes-fewer : (n : ℕ) (cs : List ℕ) → n ≤ length cs → length (bytes (drop n cs)) + n ≤ length (bytes cs)
bytes-fewer zero cs h = omega arith
bytes-fewer (suc n) [] h = absurd (omega arith)
bytes-fewer (suc n) (c ∷ cs) h = omega (arith, bytes-fewer n cs (omega arith), length-bytes-cons c cs, length_encode_pos c)

-- so characters behind which some are cut have fewer bytes
bytes-closer : (j k : ℕ) (cs : List ℕ) → 1 ≤ k → j + k ≤ length cs → length (bytes (drop (j + k) cs)) < length (bytes (drop j cs))
bytes-closer j k cs h l =
    let e = ap (λ (ds : List ℕ). length (bytes ds)) (drop-drop k j cs) in
    omega (arith, bytes-fewer k (drop j cs) (omega (arith, length-drop j cs)))

-- a word's bytes are those of all but its last j characters and then those of the last j
bytes-split : (j : ℕ) (cs : List ℕ) → bytes cs ≡ bytes (drop j cs) ++ bytes (take j cs)
bytes-split j cs = ap bytes (sym (take-append-drop j cs)) ∙ bytes-append (take j cs) (drop j cs)

-- all but the last n characters of an accepted word are a front part of its bytes
bytes-front : (w : List ℕ) → accepted w ≡ true → (n : ℕ) → bytes (drop n (chars w)) ≡ take (back w (length w) n) w
unfolding bytes chars
bytes-front w a n = sym (take_back w (accepted-text w a) n)

-- which has as many as its place says
length_front : (w : List ℕ) → accepted w ≡ true → (n : ℕ) → length (bytes (drop n (chars w))) ≡ back w (length w) n
length_front w a n = ap length (bytes-front w a n) ∙ length-take-le (back w (length w) n) w (back-le w (length w) n)

-- ---- the noun stage's text ----

-- a front part of the word, or one with the word's own last na, ne, nda or nde behind it
pub noun_text-part : (w : List ℕ) → accepted w ≡ true → NounPart w (noun_text w)
noun_text-part w a = rw (noun_text-simple w) (go (noun-shape cs))
  where
    cs : List ℕ
    cs = chars w

    go : {ds : List ℕ} → Shape cs ds → NounPart w (bytes ds)
    go (NounText.front k h e) = front (back w (length w) k) (back-le w (length w) k) (ap bytes e ∙ bytes-front w a k)
    go (NounText.closed j k o h l e) =
        closed (back w (length w) (j + k)) (bytes (drop j cs)) (bytes (take j cs))
        (unfold staying staying_chars bytes encode_all encode from_end text in Memᴰ.map bytes (one_of-mem staying_chars (take j cs) o))
        (sym (bytes-chars w a) ∙ bytes-split j cs)
        (rw (← length_front w a (j + k)) (bytes-closer j k cs h l))
        (ap bytes e ∙ bytes-append (take j cs) (drop (j + k) cs) ∙ ap (λ (x : List ℕ). x ++ bytes (take j cs)) (bytes-front w a (j + k)))

-- where it says yes, it has fewer bytes
yes-fewer : (cs : List ℕ) → noun_yes cs ≡ true → length (bytes (noun_leaves cs)) < length (bytes cs)
unfolding noun_yes noun_leaves is_cut rest_text
yes-fewer cs = go (noun_rest-rests cs)
  where
    go : {r : Rest} → Rests cs r → is_cut r ≡ true → length (bytes (rest_text r cs)) < length (bytes cs)
    go all e = absurd (false≢true e)
    go (shorter k p q) e = omega (arith, bytes-fewer k cs q)
    go (closer j k o p q) e =
        let whole : length (bytes (take j cs)) + length (bytes (drop j cs)) ≡ length (bytes cs) =
        sym (bytes-parts (take j cs) (drop j cs)) ∙ ap (λ (ds : List ℕ). length (bytes ds)) (take-append-drop j cs) in
        omega (arith, bytes-parts (take j cs) (drop (j + k) cs), bytes-closer j k cs p q)

-- so it says yes exactly where the text is another one
pub noun_text-changes : (w : List ℕ) → accepted w ≡ true → ((noun_stage (chars w)).yes ≡ true) ↔ (noun_text w ≡ w → ⊥)
noun_text-changes w a = rw (noun_text-simple w, noun_stage-simple cs) (there, go (noun_yes cs) refl)
  where
    cs : List ℕ
    cs = chars w

    there : noun_yes cs ≡ true → bytes (noun_leaves cs) ≡ w → ⊥
    there e p = let l = ap length (p ∙ sym (bytes-chars w a)) in omega (arith, yes-fewer cs e)

    go : (t : Bool) → noun_yes cs ≡ t → (bytes (noun_leaves cs) ≡ w → ⊥) → t ≡ true
    go true e n = refl
    go false e n = absurd (n (ap bytes (noun-no-keeps cs e) ∙ bytes-chars w a))
