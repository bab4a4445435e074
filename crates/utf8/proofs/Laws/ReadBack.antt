-- The character that ends at a place and where it begins, by its width and by its one byte. Assumes nothing.
use Prim.Native.Nat.{ℕ, ◌+◌, ◌-◌, ◌≤◌, ◌<◌}
use mathlib.Core.Path.{◌≡◌, refl, sym, ◌∙◌}
use mathlib.Core.Bool.{true, false}
use mathlib.Core.List.{List, [], ◌∷◌}
use native.Mathlib.Omega.{arith}
use lib.ListN.{length, get_or}
use lib.Dec.{ltb}
use borrow.Author.Tests.{lt-leb, lt-ltb}
use Rattle.encoding.specs.Encoding.{decode, continuation}
use Rattle.utf8.specs.Characters.{width, goes_on_of, last_width_of, last_char, char_at, back}
use Rattle.utf8.specs.Behind.{read_back_of}
use Rattle.encoding.proofs.Laws.Booleans.{and-false}
use Rattle.utf8.proofs.Laws.Widths.{width_one}
use Rattle.utf8.proofs.Laws.CharAt.{char_at-one, char_at-two}
use Rattle.utf8.proofs.Laws.Characters.{before-zero, before-step, back-zero}

-- no character ends at the word's start
pub read_back_of-zero : (w : List ℕ) (c : ℕ) → c ≡ 0 → record { ch = 0; at = 0 } ≡ read_back_of w c
unfolding read_back_of
read_back_of-zero w c e = rw (e, before-zero, back-zero)

-- a character by its width
pub read_back_of-made : (w : List ℕ) (c n ch : ℕ) → 0 < c → n ≡ last_width_of w c → ch ≡ char_at w (c - n) n → record { ch = ch; at = c - n } ≡ read_back_of w c
unfolding read_back_of back last_char
read_back_of-made w c n ch h e d = rw (before-step w c h, d, e)

-- a byte below 128 is a character by itself
pub read_back_of-ascii : (w : List ℕ) (c b : ℕ) → 0 < c → c ≤ length w → b ≡ get_or w (c - 1) 0 → b < 0x80 → record { ch = b; at = c - 1 } ≡ read_back_of w c
unfolding decode
read_back_of-ascii w c b h k e small =
    let one : last_width_of w c ≡ 1 = unfold last_width_of goes_on_of continuation in
    width_one _ _ _ (rw (lt-leb 0x80 (get_or w (c - 1) 0) (omega arith)) (and-false (ltb 1 c))) in
    read_back_of-made w c 1 b h (sym one) (e ∙ sym (char_at-one w (c - 1) 1 refl (omega arith)))

-- two bytes, of which the second goes on and the first does not
pub read_back_of-two : (w : List ℕ) (c a b ch : ℕ) → 2 ≤ c → c ≤ length w → a ≡ get_or w (c - 2) 0 → b ≡ get_or w (c - 1) 0
    → continuation b ≡ true → continuation a ≡ false → ch ≡ decode (a ∷ b ∷ []) → record { ch = ch; at = c - 2 } ≡ read_back_of w c
read_back_of-two w c a b ch h k ea eb on off e =
    let two : last_width_of w c ≡ 2 = unfold last_width_of goes_on_of width in
    rw (lt-ltb 1 c (omega arith), sym eb, on, sym ea, off, and-false (ltb 2 c)) in
    let after : c - 2 + 1 ≡ c - 1 = omega arith in
    read_back_of-made w c 2 ch (omega arith) (sym two)
    (e ∙ sym (char_at-two w (c - 2) 2 refl (omega arith) ∙ rw (after, sym ea, sym eb)))
