-- Tests over characters that only vowels pass: they see no more of a text than which vowels are among its characters.
-- Assumes nothing.
use Prim.Native.Nat.{ℕ}
use mathlib.Core.Path.{◌≡◌, refl, sym, ap, ◌∙◌}
use mathlib.Core.Bool.{Bool, true, false, cond, ◌||◌, or-true, false≢true}
use mathlib.Core.List.Memᴰ
use mathlib.Core.List.{List, [], ◌∷◌, Memᴰ}
use mathlib.Mathlib.Data.Bool.Basic.{partial_order_laws}
use lib.Dec.{eqb}
use borrow.Author.Tests.{eqb-true, eq-eqb, ne_eqb}
use Rattle.encoding.proofs.Laws.Booleans.{and_left, and_right, cond-test}
use Rattle.turkish.specs.Letters.{text, any, has}
use Rattle.turkish.specs.Vowels.{vowels, vowel, last_vowel_of, before_last_vowel}
use Rattle.theorems.specs.Simple.Harmony.{Partners, partner_table, partners_in, partner}
use Rattle.theorems.proofs.Laws.Tests.{every, every-at}

-- where some character passes a test, one of them does
any-member : (t : ℕ → Bool) (cs : List ℕ) → any t cs ≡ true → (c : ℕ) × Memᴰ c cs × (t c ≡ true)
unfolding any
any-member t [] h = absurd (false≢true h)
any-member t (c ∷ cs) h =
    (elim (t c) as (λ b. t c ≡ b → b || any t cs ≡ true → (d : ℕ) × Memᴰ d (c ∷ cs) × (t d ≡ true))
    [ true ↦ λ e h. (c, Memᴰ.head refl, e) | false ↦ λ e h. let r = any-member t cs h in (r.0, Memᴰ.tail r.1, r.2) ]) refl h

-- and where one of them does, some character passes it
member-any : (t : ℕ → Bool) {c : ℕ} {cs : List ℕ} → Memᴰ c cs → t c ≡ true → any t cs ≡ true
unfolding any
member-any t (Memᴰ.head e) h = rw (← e, h)
member-any t (Memᴰ.tail {x} m) h = rw (member-any t m h) (or-true (t x))

-- what is one of the characters is a member of their list
pub has-member : (cs : List ℕ) (c : ℕ) → has cs c ≡ true → Memᴰ c cs
unfolding has
has-member cs c h = let r = any-member (eqb c) cs h in Memᴰ.cast (eqb-true c r.0 r.2) r.1

-- a test that only vowels pass answers alike on texts with the same vowels
pub any-vowels : (t : ℕ → Bool) (cs ds : List ℕ) → ((v : ℕ) → t v ≡ true → vowel v ≡ true)
    → ((v : ℕ) → vowel v ≡ true → has cs v ≡ has ds v) → any t cs ≡ any t ds
unfolding has
any-vowels t cs ds o h = partial_order_laws.le_antisymm (any t cs) (any t ds) (over cs ds h) (over ds cs (λ v p. sym (h v p)))
  where
    over : (cs ds : List ℕ) → ((v : ℕ) → vowel v ≡ true → has cs v ≡ has ds v) → any t cs ≡ true → any t ds ≡ true
    over cs ds h p =
        let r = any-member t cs p in
        let v : ℕ = r.0 in
        member-any t (has-member ds v (sym (h v (o v r.2)) ∙ member-any (eqb v) r.1 (eq-eqb v v refl))) r.2

-- a vowel's partners are vowels, as all in the table are
partners_in-vowels : (v : ℕ) (ps : List Partners) → every (λ p. every vowel p.are) ps ≡ true → every vowel (partners_in ps v) ≡ true
unfolding partners_in every
partners_in-vowels v [] e = refl
partners_in-vowels v (p ∷ ps) e =
    let b : Bool × Bool = (every vowel p.are, every (λ p. every vowel p.are) ps) in
    cond-test (λ l. every vowel l ≡ true) (eqb v p.of) (λ q. and_left b.0 b.1 e) (partners_in-vowels v ps (and_right b.0 b.1 e))

-- so a partner is a vowel
pub partner-vowel : (v c : ℕ) → partner v c ≡ true → vowel c ≡ true
unfolding partner
partner-vowel v c h =
    every-at vowel (partners_in-vowels v partner_table (unfold partner_table every text vowel vowels has any in refl))
    (has-member (partners_in partner_table v) c h)

-- the vowels among a text's characters are its last one and those before it
pub has-last-before_last_vowel : (cs : List ℕ) (v : ℕ) → vowel v ≡ true → has cs v ≡ (eqb v (last_vowel_of cs) || has (before_last_vowel cs) v)
unfolding vowel vowels text any has last_vowel_of before_last_vowel
has-last-before_last_vowel [] v h = rw (ne_eqb v 0 (λ q. false≢true (ap vowel (sym q) ∙ h)))
has-last-before_last_vowel (c ∷ cs) v h =
    (elim (vowel c) as (λ b. vowel c ≡ b → eqb v c || has cs v ≡ (eqb v (cond b c (last_vowel_of cs)) || has (cond b cs (before_last_vowel cs)) v))
    [ true ↦ λ e. refl | false ↦ λ e. rw (ne_eqb v c (λ q. false≢true (sym e ∙ ap vowel (sym q) ∙ h))) (has-last-before_last_vowel cs v h) ]) refl
