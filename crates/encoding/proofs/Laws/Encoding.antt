-- The laws of `encode`, by the number of bytes. Assumes nothing.
use Prim.Native.Nat.{ℕ, ◌+◌, ◌*◌, ◌/◌, ◌%◌, ◌≤◌, ◌<◌}
use mathlib.Core.Path.{◌≡◌, refl}
use mathlib.Core.Bool.{cond}
use mathlib.Core.List.{List, [], ◌∷◌}
use native.Mathlib.Omega.{arith}
use lib.Dec.{ltb}
use borrow.Author.Tests.{ltb-true, ltb-false}
use Rattle.encoding.specs.Encoding.{encode}
use Rattle.encoding.proofs.Laws.Booleans.{cond_cases}

-- the two, three and four bytes of a character
abbrev pub two : ℕ → List ℕ
two c = (0xC0 + c / 0x40) ∷ (0x80 + c % 0x40) ∷ []

abbrev pub three : ℕ → List ℕ
three c = (0xE0 + c / 0x1000) ∷ (0x80 + c / 0x40 % 0x40) ∷ (0x80 + c % 0x40) ∷ []

abbrev pub four : ℕ → List ℕ
four c = (0xF0 + c / 0x40000) ∷ (0x80 + c / 0x1000 % 0x40) ∷ (0x80 + c / 0x40 % 0x40) ∷ (0x80 + c % 0x40) ∷ []

-- a case on a test, with what the test says
pub by-test : (P : List ℕ → Type 0) (a b : ℕ) (x y : List ℕ) → (a < b → P x) → (b ≤ a → P y) → P (cond (ltb a b) x y)
by-test P a b x y f g = cond_cases P (ltb a b) (λ e. f (ltb-true a b e)) (λ e. g (ltb-false a b e))

-- what holds of each of the four forms in its range holds of a character's bytes
pub encode-elim : (P : List ℕ → Type 0) (c : ℕ)
    → (c < 0x80 → P (c ∷ []))
    → (0x80 ≤ c → c < 0x800 → P (two c))
    → (0x800 ≤ c → c < 0x10000 → P (three c))
    → (0x10000 ≤ c → P (four c))
    → P (encode c)
unfolding encode
encode-elim P c p₁ p₂ p₃ p₄ =
    by-test P c 0x80 _ _ p₁ λ h₁.
    by-test P c 0x800 _ _ (p₂ h₁) λ h₂.
    by-test P c 0x10000 _ _ (p₃ h₂) p₄

-- ---- which character some bytes encode ----

-- a byte that goes on with a character
abbrev pub GoesOn : ℕ → Type 0
GoesOn b = (0x80 ≤ b) × (b ≤ 0xBF)

-- one byte is its own character
pub encode_one : (c : ℕ) → c ≤ 0x7F → encode c ≡ c ∷ []
encode_one c h = encode-elim (λ bs. bs ≡ c ∷ []) c (λ p. refl) (λ p q. absurd (omega arith)) (λ p q. absurd (omega arith)) (λ p. absurd (omega arith))

-- two bytes; 0x3080 is what their marks add, 0xC0 * 0x40 + 0x80
pub encode-two : (c b b₁ : ℕ) → (c + 0x3080 ≡ b * 0x40 + b₁) × (0xC2 ≤ b) × (b ≤ 0xDF) × GoesOn b₁ → encode c ≡ b ∷ b₁ ∷ []
encode-two c b b₁ h =
    let s : 0xC0 + c / 0x40 ≡ b = omega arith in
    let s₁ : 0x80 + c % 0x40 ≡ b₁ = omega arith in
    encode-elim (λ bs. bs ≡ b ∷ b₁ ∷ []) c (λ p. absurd (omega arith)) (λ p q. cc) (λ p q. absurd (omega arith)) (λ p. absurd (omega arith))

-- three bytes, likewise
pub encode-three : (c b b₁ b₂ : ℕ) → (c + 0xE2080 ≡ b * 0x1000 + b₁ * 0x40 + b₂) × (0x800 ≤ c) × (b ≤ 0xEF) × GoesOn b₁ × GoesOn b₂ → encode c ≡ b ∷ b₁ ∷ b₂ ∷ []
encode-three c b b₁ b₂ h =
    let s : 0xE0 + c / 0x1000 ≡ b = omega arith in
    let s₁ : 0x80 + c / 0x40 % 0x40 ≡ b₁ = omega arith in
    let s₂ : 0x80 + c % 0x40 ≡ b₂ = omega arith in
    encode-elim (λ bs. bs ≡ b ∷ b₁ ∷ b₂ ∷ []) c (λ p. absurd (omega arith)) (λ p q. absurd (omega arith)) (λ p q. cc) (λ p. absurd (omega arith))

-- four bytes, likewise
pub encode-four : (c b b₁ b₂ b₃ : ℕ) → (c + 0x3C82080 ≡ b * 0x40000 + b₁ * 0x1000 + b₂ * 0x40 + b₃) × (0x10000 ≤ c) × GoesOn b₁ × GoesOn b₂ × GoesOn b₃ → encode c ≡ b ∷ b₁ ∷ b₂ ∷ b₃ ∷ []
encode-four c b b₁ b₂ b₃ h =
    let s : 0xF0 + c / 0x40000 ≡ b = omega arith in
    let s₁ : 0x80 + c / 0x1000 % 0x40 ≡ b₁ = omega arith in
    let s₂ : 0x80 + c / 0x40 % 0x40 ≡ b₂ = omega arith in
    let s₃ : 0x80 + c % 0x40 ≡ b₃ = omega arith in
    encode-elim (λ bs. bs ≡ b ∷ b₁ ∷ b₂ ∷ b₃ ∷ []) c (λ p. absurd (omega arith)) (λ p q. absurd (omega arith)) (λ p q. absurd (omega arith)) (λ p. cc)
