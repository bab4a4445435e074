-- What the check accepts is the encoding of some characters: read by the rows of table 3-7, each of which gives one character.
-- Assumes nothing.
use Prim.Native.Nat.{ℕ, zero, suc, ◌+◌, ◌-◌, ◌*◌, ◌≤◌}
use mathlib.Core.Path.{◌≡◌, refl, sym, ◌∙◌}
use mathlib.Core.Bool.{true, ◌&&◌, false≢true}
use mathlib.Core.List.{List, [], ◌∷◌, ◌++◌}
use native.Mathlib.Omega.{arith}
use lib.Dec.{leb, eqb-suc-zero}
use borrow.Author.Tests.{leb-true}
use Rattle.encoding.specs.Encoding.{encode, encode_all}
use Rattle.encoding.specs.Validity.{Row, table37, due, refused, lead, next, accepts, is_text}
use Rattle.encoding.proofs.Laws.Booleans.{and-each}
use Rattle.encoding.proofs.Laws.Encoding.{encode_one, encode-two, encode-three, encode-four}
use Rattle.encoding.proofs.Laws.Table37.{lead-elim}
use Rattle.encoding.proofs.Laws.Validity.{accepts-due}

-- bytes that encode some characters
abbrev pub Encoded : List ℕ → Type 0
Encoded w = (cs : List ℕ) × (encode_all cs ≡ w)

-- n bytes due, the first of them from lo to hi, and then bytes that encode some characters
data Read : ℕ → ℕ → ℕ → List ℕ → Type 0 where
  done : {lo hi : ℕ} {w : List ℕ} → Encoded w → Read 0 lo hi w
  more : {n lo hi b : ℕ} {bs : List ℕ} → lo ≤ b → b ≤ hi → Read n 0x80 0xBF bs → Read (suc n) lo hi (b ∷ bs)

-- one character more in front
encoded-cons : (c : ℕ) (bs w : List ℕ) → encode c ≡ bs → Encoded w → Encoded (bs ++ w)
unfolding encode_all
encoded-cons c bs w e t = (c ∷ t.0, rw (e, t.1))

-- what makes a row's bytes the encoding of a character, by how many follow the first
abbrev Encodes : ℕ → Row → Type 0
Encodes zero r = r.upto ≤ 0x7F
Encodes (suc zero) r = (0xC2 ≤ r.from) × (r.upto ≤ 0xDF) × (0x80 ≤ r.low) × (r.high ≤ 0xBF)
Encodes (suc (suc zero)) r = (0xE2800 ≤ r.from * 0x1000 + r.low * 0x40) × (r.upto ≤ 0xEF) × (0x80 ≤ r.low) × (r.high ≤ 0xBF)
Encodes (suc (suc (suc zero))) r = (0x3C90000 ≤ r.from * 0x40000 + r.low * 0x1000) × (0x80 ≤ r.low) × (r.high ≤ 0xBF)
Encodes (suc (suc (suc (suc n)))) r = ⊥

-- a first byte in such a row, and what the row asks for
encoded-row : {n : ℕ} {bs : List ℕ} (r : Row) (b : ℕ) → Encodes n r → r.from ≤ b → b ≤ r.upto → Read n r.low r.high bs → Encoded (b ∷ bs)
encoded-row r b s f u (done t) = encoded-cons b _ _ (encode_one b (omega arith)) t
encoded-row r b s f u (more {b = b₁} l₁ h₁ (done t)) = encoded-cons (b * 0x40 + b₁ - 0x3080) _ _ (encode-two _ b b₁ (omega arith)) t
encoded-row r b s f u (more {b = b₁} l₁ h₁ (more {b = b₂} l₂ h₂ (done t))) = encoded-cons (b * 0x1000 + b₁ * 0x40 + b₂ - 0xE2080) _ _ (encode-three _ b b₁ b₂ (omega arith)) t
encoded-row r b s f u (more {b = b₁} l₁ h₁ (more {b = b₂} l₂ h₂ (more {b = b₃} l₃ h₃ (done t)))) =
    encoded-cons (b * 0x40000 + b₁ * 0x1000 + b₂ * 0x40 + b₃ - 0x3C82080) _ _ (encode-four _ b b₁ b₂ b₃ (omega arith)) t
encoded-row r b s f u (more l₁ h₁ (more l₂ h₂ (more l₃ h₃ (more l₄ h₄ t)))) = absurd s

-- a first byte that begins a character, and what it asks for
encoded-lead : (b : ℕ) (bs : List ℕ) → ((n lo hi : ℕ) → accepts (due n lo hi) bs ≡ true → Read n lo hi bs) → (lead b).ok && accepts (lead b) bs ≡ true → Encoded (b ∷ bs)
unfolding table37 due refused
encoded-lead b bs read =
    lead-elim (λ d. d.ok && accepts d bs ≡ true → Encoded (b ∷ bs)) (λ r. Encodes r.more r) b (omega arith)
    (λ r s f u e. encoded-row r b s f u (read _ _ _ e)) (λ e. absurd (false≢true e))

-- what is accepted from a state on reads as the state says
accepts-read : (w : List ℕ) (n lo hi : ℕ) → accepts (due n lo hi) w ≡ true → Read n lo hi w
unfolding accepts next due encode_all
accepts-read [] zero lo hi e = done ([], refl)
accepts-read [] (suc n) lo hi e = absurd (false≢true (rw eqb-suc-zero at e))
accepts-read (b ∷ bs) zero lo hi e = done (encoded-lead b bs (accepts-read bs) e)
accepts-read (b ∷ bs) (suc n) lo hi e =
    let q = and-each (leb lo b) (leb b hi) (accepts (due n 0x80 0xBF) bs) (sym (accepts-due n lo hi b bs) ∙ e) in
    more (leb-true lo b q.0) (leb-true b hi q.1) (accepts-read bs n 0x80 0xBF q.2)

-- with nothing due, the characters are all of it
encoded-done : {lo hi : ℕ} {w : List ℕ} → Read 0 lo hi w → Encoded w
encoded-done (done t) = t

-- what the check accepts encodes some characters
pub is_text-encoded : (w : List ℕ) → is_text w ≡ true → Encoded w
unfolding is_text
is_text-encoded w e = encoded-done (accepts-read w 0 0x80 0xBF e)
