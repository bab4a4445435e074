-- ASCII without I: what the test says byte after byte, and that each byte is folded where it stands. Assumes nothing.
use Prim.Native.Nat.{ℕ, ◌+◌, ◌≤◌, ◌<◌}
use mathlib.Core.Path.{◌≡◌, refl, sym, ◌∙◌}
use mathlib.Core.Bool.{Bool, true, not, ◌&&◌, and_assoc, and-true}
use mathlib.Core.List.{List, [], ◌∷◌, ◌++◌, map, append_assoc}
use native.Mathlib.Omega.{arith}
use native.Mathlib.Nat.{sub_self}
use native.Mathlib.Numerals.{add-one}
use lib.ListN.{length, take, drop, get_or, set, length-map, drop_of_length-le}
use lib.Seq.{drop-cons, take-length, take-suc, length-take-le}
use Rattle.std.proofs.lemmas.List.{set-append_right, map-append}
use lib.Dec.{eqb, ltb}
use borrow.Author.Tests.{ltb-true, eqb-false, not-true}
use Rattle.encoding.proofs.Laws.Booleans.{and-each}
use Rattle.turkish.specs.Calls.{written}
use Rattle.folding.specs.FoldBytes.{small_byte, plain, fold_bytes}
use Rattle.folding.proofs.Laws.Bytes.{fold_bytes-ascii}

-- ---- the test ----

-- one byte more
pub plain_at : (w : List ℕ) (i : ℕ) (ok : Bool) → i < length w
    → (ok && (ltb (get_or w i 0) 0x80 && not (eqb (get_or w i 0) 0x49))) && plain (drop (i + 1) w) ≡ ok && plain (drop i w)
unfolding plain
plain_at w i ok h = rw (drop-cons w i 0 h, add-one i) (simp and_assoc)

-- the end
pub plain_end : (w : List ℕ) (i : ℕ) (ok : Bool) → length w ≤ i → ok ≡ ok && plain (drop i w)
unfolding plain
plain_end w i ok h = rw (drop_of_length-le w h) (sym (and-true ok))

-- ---- the fold ----

-- each byte of such a word is folded where it stands
pub fold_bytes-plain : (w : List ℕ) → plain w ≡ true → fold_bytes w ≡ map small_byte w
unfolding plain fold_bytes
fold_bytes-plain [] p = refl
fold_bytes-plain (b ∷ bs) p =
    let t = and-each (ltb b 0x80) (not (eqb b 0x49)) (plain bs) p in
    fold_bytes-ascii b bs (ltb-true b 0x80 t.0) (eqb-false b 0x49 (not-true (eqb b 0x49) t.1)) ∙ rw (fold_bytes-plain bs t.2)

-- the byte at place i, folded and stored behind those before it
pub small-stored : (w out : List ℕ) (i r : ℕ) → i < length w → length w ≤ length out → r ≡ small_byte (get_or w i 0)
    → set (map small_byte (take i w) ++ drop i out) i r ≡ map small_byte (take (i + 1) w) ++ drop (i + 1) out
small-stored w out i r h k e =
    let n : length (map small_byte (take i w)) ≡ i = length-map (take i w) small_byte ∙ length-take-le i w (omega arith) in
    rw (set-append_right (map small_byte (take i w)) (drop i out) i i r n (omega arith), sub_self, add-one i, drop-cons out i 0 (omega arith), take-suc w i 0 h, map-append, append_assoc, e)

-- all of them stored
pub small-written : (w out : List ℕ) (i : ℕ) → i ≡ length w → map small_byte (take i w) ++ drop i out ≡ written (map small_byte w) out
unfolding written
small-written w out i e = rw (e, take-length, length-map w small_byte)
