-- A character's bytes: decoded they are the character, and only the first of them begins one.
-- Assumes nothing.
use Prim.Native.Nat.{ℕ, ◌+◌, ◌/◌, ◌%◌, ◌≤◌, ◌<◌}
use mathlib.Core.Path.{◌≡◌, refl}
use mathlib.Core.Bool.{true, false, not}
use mathlib.Core.List.{List, [], ◌∷◌}
use native.Mathlib.Omega.{arith}
use lib.ListN.{length}
use lib.Dec.{leb}
use borrow.Author.Tests.{leb-true, le-leb, lt-leb}
use Rattle.encoding.specs.Scalar.{surrogate, scalar}
use Rattle.encoding.specs.Encoding.{encode, decode, continuation}
use Rattle.encoding.proofs.Laws.Booleans.{and_left, and-false}
use Rattle.encoding.proofs.Laws.Encoding.{encode-elim, two, three, four}

-- a scalar value is at most U+10FFFF
pub scalar-le : (c : ℕ) → scalar c ≡ true → c ≤ 0x10FFFF
unfolding scalar
scalar-le c e = leb-true c 0x10FFFF (and_left (leb c 0x10FFFF) (not (surrogate c)) e)

-- the six bits that a further byte carries are read back
six-bits : (n : ℕ) → (0x80 + n % 0x40) % 0x40 ≡ n % 0x40
six-bits n = omega arith

-- two bytes decoded are their character
decode-two : (c : ℕ) → 0x80 ≤ c → c < 0x800 → decode (two c) ≡ c
unfolding decode
decode-two c h k =
    let a : (0xC0 + c / 0x40) % 0x20 ≡ c / 0x40 = omega arith in
    rw (a, six-bits c) (omega arith)

-- three bytes are
decode-three : (c : ℕ) → 0x800 ≤ c → c < 0x10000 → decode (three c) ≡ c
unfolding decode
decode-three c h k =
    let a : (0xE0 + c / 0x1000) % 0x10 ≡ c / 0x1000 = omega arith in
    let b : c / 0x1000 ≡ c / 0x40 / 0x40 = omega arith in
    rw (a, six-bits c, six-bits (c / 0x40), b) (omega arith)

-- four bytes are, up to U+10FFFF
decode-four : (c : ℕ) → 0x10000 ≤ c → c ≤ 0x10FFFF → decode (four c) ≡ c
unfolding decode
decode-four c h k =
    let a : (0xF0 + c / 0x40000) % 0x08 ≡ c / 0x40000 = omega arith in
    let d : c / 0x40000 ≡ c / 0x1000 / 0x40 = omega arith in
    let b : c / 0x1000 ≡ c / 0x40 / 0x40 = omega arith in
    rw (a, six-bits c, six-bits (c / 0x40), six-bits (c / 0x1000), d, b) (omega arith)

-- a scalar value's bytes decoded are the scalar value
pub decode-encode : (c : ℕ) → scalar c ≡ true → decode (encode c) ≡ c
unfolding decode
decode-encode c e = encode-elim (λ l. decode l ≡ c) c (λ h. refl) (decode-two c) (decode-three c) (λ h. decode-four c h (scalar-le c e))

-- the bytes of one character: the first goes on with none, and up to three more go on with it
pub data OneCharacter : List ℕ → Type 0 where
  one_byte : {a : ℕ} → continuation a ≡ false → OneCharacter (a ∷ [])
  two_bytes : {a b : ℕ} → continuation a ≡ false → continuation b ≡ true → OneCharacter (a ∷ b ∷ [])
  three-bytes : {a b c : ℕ} → continuation a ≡ false → continuation b ≡ true → continuation c ≡ true → OneCharacter (a ∷ b ∷ c ∷ [])
  four_bytes : {a b c d : ℕ} → continuation a ≡ false → continuation b ≡ true → continuation c ≡ true → continuation d ≡ true
      → OneCharacter (a ∷ b ∷ c ∷ d ∷ [])

-- a byte below 0x80 goes on with nothing
ascii-byte : (b : ℕ) → b < 0x80 → continuation b ≡ false
unfolding continuation
ascii-byte b h = rw lt-leb

-- nor does one above 0xBF
lead-byte : (b : ℕ) → 0xBF < b → continuation b ≡ false
unfolding continuation
lead-byte b h = simp (lt-leb b 0xBF h, and-false)

-- a byte that carries six bits goes on
further-byte : (n : ℕ) → continuation (0x80 + n % 0x40) ≡ true
unfolding continuation
further-byte n =
    let l : 0x80 ≤ 0x80 + n % 0x40 = omega arith in
    let h : 0x80 + n % 0x40 ≤ 0xBF = omega arith in
    rw (le-leb, le-leb)

-- of a character's bytes the first goes on with none, and all further ones go on
pub encode-lead : (c : ℕ) → OneCharacter (encode c)
encode-lead c =
    encode-elim OneCharacter c
    (λ h. one_byte (ascii-byte c h))
    (λ h k. two_bytes (lead-byte (0xC0 + c / 0x40) (omega arith)) (further-byte c))
    (λ h k. three-bytes (lead-byte (0xE0 + c / 0x1000) (omega arith)) (further-byte (c / 0x40)) (further-byte c))
    (λ h. four_bytes (lead-byte (0xF0 + c / 0x40000) (omega arith)) (further-byte (c / 0x1000)) (further-byte (c / 0x40)) (further-byte c))

-- a character has a byte
pub length_encode_pos : (c : ℕ) → 0 < length (encode c)
length_encode_pos c = encode-elim (λ l. 0 < length l) c (λ h. omega arith) (λ h k. omega arith) (λ h k. omega arith) (λ h. omega arith)
