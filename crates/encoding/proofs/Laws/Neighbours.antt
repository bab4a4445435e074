-- The check by neighbours is the check: what the last three bytes leave due is a state of it, and each byte takes both on alike.
-- Assumes nothing.
use Prim.Native.Nat.{ℕ, suc, ◌+◌, ◌-◌, ◌≤◌, ◌<◌, min, max}
use mathlib.Core.Path.{◌≡◌, refl, sym, ap, ◌∙◌}
use mathlib.Core.Bool.{Bool, true, false, cond, not, ◌&&◌, ◌||◌, or-false, and_assoc, false≢true}
use mathlib.Core.Logic.{◌⊎◌, inl, inr}
use mathlib.Core.List.{List, [], ◌∷◌}
use native.Mathlib.Omega.{arith}
use native.Mathlib.Numerals.{add-one}
use lib.ListN.{length, drop, get_or, drop_of_length-le}
use lib.Seq.{drop-cons}
use lib.Dec.{ltb, leb, eqb}
use borrow.Author.Tests.{lt-leb, leb-true, leb-false, ltb-true, eq-eqb, ne_eqb}
use Rattle.encoding.specs.Validity.{Row, Due, due, refused, lead, accepts, is_text, table37}
use Rattle.encoding.specs.Encoding.{continuation}
use Rattle.encoding.specs.Neighbours.{owed, follows, text_after, short_begins, short_follows, short_after}
use Rattle.encoding.proofs.Laws.Booleans.{and_left, and_right, or-either, guarded, chosen}
use Rattle.encoding.proofs.Laws.Table37.{lead-none, lead-elim, lead-rows, lead-ok, lead_low, lead_high}
use Rattle.encoding.proofs.Laws.Validity.{next-lead, accepts-due}

-- ---- what a first byte asks for ----

-- how many more bytes, by its size alone: one for each of C0, E0 and F0 that it reaches
unfoldable asks : ℕ → ℕ
asks a = min 1 (a - 0xBF) + min 1 (a - 0xDF) + min 1 (a - 0xEF)

-- below C0, none
asks-0 : (a : ℕ) → a < 0xC0 → asks a ≡ 0
unfolding asks
asks-0 a h = omega arith

-- from C0, one
asks-1 : (a : ℕ) → 0xC0 ≤ a → a < 0xE0 → asks a ≡ 1
unfolding asks
asks-1 a l h = omega arith

-- from E0, two
asks-2 : (a : ℕ) → 0xE0 ≤ a → a < 0xF0 → asks a ≡ 2
unfolding asks
asks-2 a l h = omega arith

-- from F0, three
asks-3 : (a : ℕ) → 0xF0 ≤ a → asks a ≡ 3
unfolding asks
asks-3 a l = omega arith

-- at least and at most so many
asks-least : (a : ℕ) → (0xC0 ≤ a → 1 ≤ asks a) × (0xE0 ≤ a → 2 ≤ asks a)
unfolding asks
asks-least a = (λ h. omega arith, λ h. omega arith)

-- and at most so many
asks-most : (a : ℕ) → (a < 0xE0 → asks a ≤ 1) × (a < 0xF0 → asks a ≤ 2) × (asks a ≤ 3)
unfolding asks
asks-most a = (λ h. omega arith, λ h. omega arith, omega arith)

-- the range after any byte lies among the bytes that begin nothing
pub lead-range : (a : ℕ) → (0x80 ≤ (lead a).low) × ((lead a).high ≤ 0xBF)
unfolding table37 due refused
lead-range a = lead-elim (λ (d : Due). (0x80 ≤ d.low) × (d.high ≤ 0xBF)) (λ (r : Row). (0x80 ≤ r.low) × (r.high ≤ 0xBF)) a (omega arith) (λ r q f u. q) (omega arith)

-- what a first byte asks for, by its row
lead-begun : (x : ℕ) → (lead x).ok ≡ true → lead x ≡ due (asks x) (lead x).low (lead x).high
unfolding table37 due refused
lead-begun x = lead-elim (λ (d : Due). d.ok ≡ true → d ≡ due (asks x) d.low d.high) (λ (r : Row). r.from ≤ x → x ≤ r.upto → r.more ≡ asks x) x (
  λ f u. sym (asks-0 x (omega arith)),
  (
    λ f u. sym (asks-1 x (omega arith) (omega arith)),
    (
      λ f u. sym (asks-2 x (omega arith) (omega arith)),
      (
        λ f u. sym (asks-2 x (omega arith) (omega arith)),
        (
          λ f u. sym (asks-2 x (omega arith) (omega arith)),
          (
            λ f u. sym (asks-2 x (omega arith) (omega arith)),
            (λ f u. sym (asks-3 x (omega arith)), (λ f u. sym (asks-3 x (omega arith)), (λ f u. sym (asks-3 x (omega arith)), tt))),
          ),
        ),
      ),
    ),
  ),
)
    (λ r q f u e. ap (λ (k : ℕ). due k r.low r.high) (q f u)) (λ e. absurd (false≢true e))

-- no character begins with a byte that goes on with one
lead-due : (x : ℕ) → 0x80 ≤ x → x ≤ 0xBF → lead x ≡ refused
unfolding table37
lead-due x l h = lead-none 1 x (omega arith) (omega arith)

-- ---- what the last three bytes leave due ----

-- how many more bytes are due: what the last asks for, what the one before it asks for after the last, and what the one before that does
-- after both
unfoldable need : ℕ → ℕ → ℕ → ℕ
need a b c = max (asks a) (max (asks b - 1) (asks c - 2))

-- the check's state: so many bytes due, the next in the range that the last byte leaves
unfoldable state : ℕ → ℕ → ℕ → Due
state a b c = due (need a b c) (lead a).low (lead a).high

-- one of the three is large enough to ask for a byte after the last
abbrev Large : ℕ → ℕ → ℕ → Type 0
Large a b c = (0xC0 ≤ a) ⊎ (0xE0 ≤ b) ⊎ (0xF0 ≤ c)

-- none is
abbrev Small : ℕ → ℕ → ℕ → Type 0
Small a b c = (a < 0xC0) × (b < 0xE0) × (c < 0xF0)

-- one or the other, as `owed` tells
abbrev Told : Bool → ℕ → ℕ → ℕ → Type 0
Told t a b c = ((t ≡ true) × Large a b c) ⊎ ((t ≡ false) × Small a b c)

-- `owed` tells which
owed-either : (a b c : ℕ) → Told (owed a b c) a b c
unfolding owed
owed-either a b c = go (leb 0xC0 a) (leb 0xE0 b) (leb 0xF0 c) refl refl refl
  where
    go : (p q r : Bool) → leb 0xC0 a ≡ p → leb 0xE0 b ≡ q → leb 0xF0 c ≡ r → Told (p || q || r) a b c
    go true q r e f g = inl (refl, inl (leb-true 0xC0 a e))
    go false true r e f g = inl (refl, inr (inl (leb-true 0xE0 b f)))
    go false false true e f g = inl (refl, inr (inr (leb-true 0xF0 c g)))
    go false false false e f g = inr (refl, (leb-false 0xC0 a e, leb-false 0xE0 b f, leb-false 0xF0 c g))

-- where none is, nothing is due
need-none : (a b c : ℕ) → Small a b c → need a b c ≡ 0
unfolding need
need-none a b c h = omega (arith, asks-0 a h.0, (asks-most b).0 h.1, (asks-most c).1 h.2)

-- where one is, something is due
need-some : (a b c : ℕ) → Large a b c → 0 < need a b c
unfolding need
need-some a b c (inl h) = omega (arith, (asks-least a).0 h)
need-some a b c (inr (inl h)) = omega (arith, (asks-least b).1 h)
need-some a b c (inr (inr h)) = omega (arith, asks-3 c h)

-- one less of the greater of two is the greater of one less of each
less_one : (p m : ℕ) → max p m - 1 ≡ max (p - 1) (m - 1)
less_one p m = omega arith

-- and where three bytes back can ask for no more
less_two : (q r : ℕ) → r ≤ 3 → max (q - 1) (r - 2) - 1 ≡ q - 2
less_two q r h = omega arith

-- after a byte that asks for nothing one less is due
need-after : (x a b c : ℕ) → x < 0xC0 → need x a b ≡ need a b c - 1
unfolding need
need-after x a b c h =
    rw (asks-0 x h, less_one (asks a) (max (asks b - 1) (asks c - 2)), less_two (asks b) (asks c) (asks-most c).2) (omega arith)

-- after a byte where nothing was due, what it asks for is due
need-begun : (x a b c : ℕ) → Small a b c → need x a b ≡ asks x
unfolding need
need-begun x a b c h = omega (arith, asks-0 a h.0, (asks-most b).0 h.1)

-- ---- each byte takes both on alike ----

-- the state after a byte that was due
state-after : (x a b c : ℕ) → (lead a).low ≤ x → x ≤ (lead a).high → state x a b ≡ due (need a b c - 1) 0x80 0xBF
unfolding state refused
state-after x a b c l h =
    let r = lead-range a in let e : lead x ≡ refused = lead-due x (omega (arith, lead-range a)) (omega (arith, lead-range a)) in
    ap (λ (k : ℕ). due k (lead x).low (lead x).high) (need-after x a b c (omega (arith, lead-range a))) ∙ ap (λ (d : Due). due (need a b c - 1) d.low d.high) e

-- the state after a first byte
state-begun : (x a b c : ℕ) → Small a b c → (lead x).ok ≡ true → state x a b ≡ lead x
unfolding state
state-begun x a b c s e = ap (λ (k : ℕ). due k (lead x).low (lead x).high) (need-begun x a b c s) ∙ sym (lead-begun x e)

-- a byte where one is due
step-due : (a b c x : ℕ) (xs : List ℕ) → owed a b c ≡ true → Large a b c → follows a b c x && accepts (state x a b) xs ≡ accepts (state a b c) (x ∷ xs)
unfolding follows state
step-due a b c x xs e l =
    let n : need a b c ≡ suc (need a b c - 1) = omega (arith, need-some a b c l) in
    rw e (guarded (leb (lead a).low x && leb x (lead a).high) (λ t. ap (λ (d : Due). accepts d xs)
    (state-after x a b c (leb-true (lead a).low x (and_left (leb (lead a).low x) _ t)) (leb-true x (lead a).high (and_right (leb (lead a).low x) _ t)))))
    ∙ sym (ap (λ (k : ℕ). accepts (due k (lead a).low (lead a).high) (x ∷ xs)) n ∙ accepts-due (need a b c - 1) (lead a).low (lead a).high x xs)

-- a byte where none is
step-none : (a b c x : ℕ) (xs : List ℕ) → owed a b c ≡ false → Small a b c → follows a b c x && accepts (state x a b) xs ≡ accepts (state a b c) (x ∷ xs)
unfolding follows accepts state due
step-none a b c x xs e s =
    rw (e, next-lead (due (need a b c) (lead a).low (lead a).high) x (need-none a b c s))
    (guarded (lead x).ok (λ t. ap (λ (d : Due). accepts d xs) (state-begun x a b c s t)))

-- at the end nothing is due where nothing is owed
at-end : (a b c : ℕ) → not (owed a b c) ≡ eqb (need a b c) 0
at-end a b c = go (owed-either a b c)
  where
    go : Told (owed a b c) a b c → not (owed a b c) ≡ eqb (need a b c) 0
    go (inl h) = rw (h.0, ne_eqb (need a b c) 0 (λ z. omega (arith, need-some a b c h.1)))
    go (inr h) = rw (h.0, eq-eqb (need a b c) 0 (need-none a b c h.1))

-- the walk by neighbours from any three bytes is the walk from their state
after-accepts : (a b c : ℕ) (xs : List ℕ) → text_after a b c xs ≡ accepts (state a b c) xs
unfolding text_after accepts state due
after-accepts a b c [] = at-end a b c
after-accepts a b c (x ∷ xs) = ap (λ (t : Bool). follows a b c x && t) (after-accepts x a b xs) ∙ go (owed-either a b c)
  where
    go : Told (owed a b c) a b c → follows a b c x && accepts (state x a b) xs ≡ accepts (state a b c) (x ∷ xs)
    go (inl h) = step-due a b c x xs h.0 h.1
    go (inr h) = step-none a b c x xs h.0 h.1

-- the check of a whole word
pub text-after : (w : List ℕ) → text_after 0 0 0 w ≡ is_text w
unfolding is_text state need asks
text-after w = after-accepts 0 0 0 w ∙ ap (λ (d : Due). accepts d w) (unfold lead in refl)

-- ---- characters of one and two bytes ----

-- with no byte from E0 on, what is owed is owed to the last byte
owed-short : (a b c : ℕ) → b < 0xE0 → c < 0xF0 → owed a b c ≡ leb 0xC0 a
unfolding owed
owed-short a b c q r = rw (lt-leb 0xE0 b q, lt-leb 0xF0 c r) (or-false (leb 0xC0 a || false) ∙ or-false (leb 0xC0 a))

-- the range after a byte below E0
follows-short : (a x : ℕ) → a < 0xE0 → leb (lead a).low x && leb x (lead a).high ≡ continuation x
unfolding continuation
follows-short a x h = rw (lead_low a (λ z. omega arith) (λ z. omega arith), lead_high a (λ z. omega arith) (λ z. omega arith))

-- a byte that begins one of at most two begins a character, and is below E0
short-begins : (x : ℕ) → short_begins x ≡ true → ((lead x).ok ≡ true) × (x < 0xE0)
unfolding short_begins
short-begins x e = go (or-either (ltb x 0x80) (leb 0xC2 x && ltb x 0xE0) e)
  where
    go : (ltb x 0x80 ≡ true) ⊎ (leb 0xC2 x && ltb x 0xE0 ≡ true) → ((lead x).ok ≡ true) × (x < 0xE0)
    go (inl f) = let h = ltb-true x 0x80 f in (sym (lead-ok x) ∙ rw f, omega arith)
    go (inr g) =
        let l = leb-true 0xC2 x (and_left (leb 0xC2 x) (ltb x 0xE0) g) in let u = ltb-true x 0xE0 (and_right (leb 0xC2 x) (ltb x 0xE0) g) in
        (lead-rows x l (omega arith), u)

-- a byte that may follow as one of at most two may follow, and is below E0
short-step : (a b c x : ℕ) → a < 0xE0 → b < 0xE0 → c < 0xF0 → short_follows a x ≡ true → (follows a b c x ≡ true) × (x < 0xE0)
unfolding short_follows follows continuation
short-step a b c x p q r = rw (owed-short a b c q r, follows-short a x p) (go (leb 0xC0 a))
  where
    go : (t : Bool) → cond t (continuation x) (short_begins x) ≡ true → (cond t (continuation x) (lead x).ok ≡ true) × (x < 0xE0)
    go true e = let h = leb-true x 0xBF (and_right (leb 0x80 x) (leb x 0xBF) e) in (e, omega arith)
    go false e = short-begins x e

-- what passes the check for at most two bytes passes the check
short-after : (a b c : ℕ) (xs : List ℕ) → a < 0xE0 → b < 0xE0 → c < 0xF0 → short_after a xs ≡ true → text_after a b c xs ≡ true
unfolding short_after text_after
short-after a b c [] p q r e = rw (owed-short a b c q r, lt-leb 0xC0 a (ltb-true a 0xC0 e))
short-after a b c (x ∷ xs) p q r e =
    let s : (follows a b c x ≡ true) × (x < 0xE0) = short-step a b c x p q r (and_left (short_follows a x) (short_after x xs) e) in
    rw s.0 (short-after x a b xs s.1 p (omega arith) (and_right (short_follows a x) (short_after x xs) e))

-- so of a whole word
pub short-text : (w : List ℕ) → short_after 0 w ≡ true → is_text w ≡ true
short-text w e = sym (text-after w) ∙ short-after 0 0 0 w (omega arith) (omega arith) (omega arith) e

-- ---- the tests and walks as the code makes them ----

-- whether x may follow, by tests alone
pub follows-tests : (a b c x lo hi : ℕ) (t s : Bool) → t ≡ owed a b c → lo ≡ (lead a).low → hi ≡ (lead a).high → s ≡ (lead x).ok
    → t && (leb lo x && leb x hi) || not t && s ≡ follows a b c x
unfolding follows
follows-tests a b c x lo hi t s e f g h = chosen t (leb lo x && leb x hi) s ∙ rw (e, f, g, h)

-- the same for at most two bytes
pub short-follows-tests : (a x : ℕ) (s t : Bool) → s ≡ continuation x → t ≡ short_begins x → leb 0xC0 a && s || not (leb 0xC0 a) && t ≡ short_follows a x
unfolding short_follows
short-follows-tests a x s t e f = chosen (leb 0xC0 a) s t ∙ rw (e, f)

-- a byte more
pub text_at : (w : List ℕ) (i a b c : ℕ) (ok r : Bool) → i < length w → r ≡ follows a b c (get_or w i 0)
    → ok && r && text_after (get_or w i 0) a b (drop (i + 1) w) ≡ ok && text_after a b c (drop i w)
unfolding text_after
text_at w i a b c ok r h e = rw (e, drop-cons w i 0 h, add-one i) (and_assoc ok (follows a b c (get_or w i 0)) (text_after (get_or w i 0) a b (drop (suc i) w)))

-- the same for at most two bytes
pub short-at : (w : List ℕ) (i a : ℕ) (ok r : Bool) → i < length w → r ≡ short_follows a (get_or w i 0)
    → ok && r && short_after (get_or w i 0) (drop (i + 1) w) ≡ ok && short_after a (drop i w)
unfolding short_after
short-at w i a ok r h e = rw (e, drop-cons w i 0 h, add-one i) (and_assoc ok (short_follows a (get_or w i 0)) (short_after (get_or w i 0) (drop (suc i) w)))

-- the end
pub text-end : (w : List ℕ) (i a b c : ℕ) (ok r : Bool) → length w ≤ i → r ≡ owed a b c → ok && not r ≡ ok && text_after a b c (drop i w)
unfolding text_after
text-end w i a b c ok r h e = rw (e, drop_of_length-le w h)

-- the same for at most two bytes
pub short-end : (w : List ℕ) (i a : ℕ) (ok : Bool) → length w ≤ i → ok && ltb a 0xC0 ≡ ok && short_after a (drop i w)
unfolding short_after
short-end w i a ok h = rw (drop_of_length-le w h)
