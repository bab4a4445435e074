-- The two routines of the postlude that read backwards, `append_U_to_stems_ending_with_d_or_g` and `post_process_last_consonants`: carried
-- out at the text's end, in any state, they leave the text that the simple form says, and else change nothing but the slice and the
-- number of the key found. Assumes nothing.
use Prim.Native.Nat.{ℕ, suc, ◌-◌}
use Prim.Native.Char.{code}
use Prim.Native.String.{String}
use mathlib.Core.Path.{◌≡◌, refl, sym, ap, ◌∙◌, subst}
use mathlib.Core.Bool.{Bool, true, false, cond, not, ◌&&◌, ◌||◌}
use mathlib.Core.List.{List, [], ◌∷◌}
use native.Mathlib.Omega.{arith}
use lib.ListN.{length}
use lib.Dec.{eqb}
use borrow.Author.Tests.{eqb-true}
use Rattle.turkish.specs.Letters.{text, from_end, any, has, starts}
use Rattle.turkish.specs.Snowball.{State, ahead, place, move_to, with_slice, with_found, Result, done, failed, and_then, carried_out, read_if, is_in, backward, letters, longer, longest, key_ahead, fits, with_text, slice_from, inserted, ◌then◌, ◌or◌, test, goto, literal, grouping, run}
use Rattle.turkish.specs.Source as source
use Rattle.turkish.specs.Vowels.{vowels, vowel, last_vowel_of, before_last_vowel}
use Rattle.theorems.specs.Simple.Grammar.{Out, fail, first}
use Rattle.theorems.specs.Simple.Postlude.{gained, appends, append_U, hardenings, hard_in, hard, harden}
use Rattle.theorems.proofs.Laws.Tests.{eqb_comm}
use Rattle.theorems.proofs.Laws.Harmony.{last_vowel_of-none}
use Rattle.theorems.proofs.Source.Means.{placed, peeked, take_if, means-or, means-test, means-literal}
use Rattle.theorems.proofs.Source.LastVowel.{means-test-goto-vowel}
use Rattle.theorems.proofs.Source.Settled.{carried_out-settled, Does, Asks, does-define, does-behind, does-insert, does-insert-or}

-- ---- letters ----

-- what holds of a letter holds of a character, if it holds of it where it is another
is-or-other : (P : ℕ → Type 0) (k c : ℕ) → P k → (eqb k c ≡ false → P c) → P c
is-or-other P k c p h = go (eqb k c) refl
  where
    go : (t : Bool) → eqb k c ≡ t → P c
    go true e = subst P (eqb-true k c e) p
    go false e = h e

-- a look for one of two letters at a character
peeked-letters : (m n : ℕ) (i j : ℕ) (c : ℕ) (cs : List ℕ)
    → peeked (first (take_if (starts (m ∷ []) (c ∷ cs)) i) (take_if (starts (n ∷ []) (c ∷ cs)) j)) ≡ take_if (has (m ∷ n ∷ []) c) 0
unfolding starts has any peeked first take_if
peeked-letters m n i j c cs = rw (eqb_comm m c, eqb_comm n c) (go (eqb c m) (eqb c n))
  where
    go : (a b : Bool) → peeked (first (take_if (a && true) i) (take_if (b && true) j)) ≡ take_if (a || (b || false)) 0
    go true b = refl
    go false true = refl
    go false false = refl

-- ---- what is asked of the last vowel ----

-- whether the last vowel is one of two letters, the letters of two keys; 0, which stands for none, is neither
asks-last_vowel_of : (x y : String) (m n : ℕ) → letters backward x ≡ m ∷ [] → letters backward y ≡ n ∷ [] → has (m ∷ n ∷ []) 0 ≡ false
    → Asks backward (test (goto (grouping source.vowel) then literal x or literal y)) (λ cs. has (m ∷ n ∷ []) (last_vowel_of cs))
unfolding take_if
asks-last_vowel_of x y m n ex ey z =
    record {
      means = record { on-state = λ self s. (means-test-goto-vowel (means-or (means-literal x) (means-literal y))).on-state self s ∙ ap (placed s) (seen (ahead s) (any vowel (ahead s)) refl) };
    }
  where
    either : List ℕ → Out
    either cs = first (take_if (starts (letters backward x) cs) (length (letters backward x))) (take_if (starts (letters backward y) cs) (length (letters backward y)))

    seen : (cs : List ℕ) (t : Bool) → any vowel cs ≡ t → cond t (peeked (either (last_vowel_of cs ∷ before_last_vowel cs))) fail ≡ take_if (has (m ∷ n ∷ []) (last_vowel_of cs)) 0
    seen cs true e = rw (ex, ey) (peeked-letters m n 1 1 (last_vowel_of cs) (before_last_vowel cs))
    seen cs false e = rw (last_vowel_of-none cs e, z)

-- whether the first character is a d or a g
asks-d-or-g : Asks backward (test (literal "d" or literal "g")) (is_in (text "dg"))
unfolding letters from_end text starts is_in peeked first take_if
asks-d-or-g =
    record { means = record { on-state = λ self s. (means-test (means-or (means-literal "d") (means-literal "g"))).on-state self s ∙ ap (placed s) (seen (ahead s)) } }
  where
    seen : (cs : List ℕ) → peeked (first (take_if (starts (text "d") cs) 1) (take_if (starts (text "g") cs) 1)) ≡ take_if (is_in (text "dg") cs) 0
    seen [] = refl
    seen (c ∷ cs) = peeked-letters (code "d") (code "g") 1 1 c cs

-- ---- the state at the text's end ----

-- the state at the text's end, with this text, this slice and this key found
unfoldable pub reworked : State → List ℕ → ℕ → ℕ → ℕ → State
reworked s t k b n = record { text = t; cursor = 0; ket = k; bra = b; flag = s.flag; strlen = s.strlen; found = n }

-- the same with another text alone
standing : State → List ℕ → State
standing s t = reworked s t s.ket s.bra s.found

-- a state at the text's end is such a one
standing-own : (s : State) → s.cursor ≡ 0 → s ≡ standing s s.text
unfolding standing reworked move_to
standing-own s e = ap (move_to s) e

-- ---- append_U_to_stems_ending_with_d_or_g ----

-- the letter gained after the last vowel v
gains : ℕ → State → Result
gains v s =
    cond (has (text "aı") v) (done (inserted (from_end "ı") s))
    (cond (has (text "ei") v) (done (inserted (from_end "i") s))
    (cond (has (text "ou") v) (done (inserted (from_end "u") s))
    (cond (has (text "öü") v) (done (inserted (from_end "ü") s)) (failed s))))

-- after a final d or g the routine inserts that letter, and else fails
append-does : Does backward source.append_U_to_stems_ending_with_d_or_g (λ s. cond (is_in (text "dg") (ahead s)) (gains (last_vowel_of (ahead s)) s) (failed s))
unfolding source.append_U_to_stems_ending_with_d_or_g gains letters from_end text has any
append-does =
    does-define _
    (does-behind asks-d-or-g
    (does-insert-or (asks-last_vowel_of "a" "ı" (code "a") (code "ı") refl refl refl) "ı"
    (does-insert-or (asks-last_vowel_of "e" "i" (code "e") (code "i") refl refl refl) "i"
    (does-insert-or (asks-last_vowel_of "o" "u" (code "o") (code "u") refl refl refl) "u"
    (does-behind (asks-last_vowel_of "ö" "ü" (code "ö") (code "ü") refl refl refl) (does-insert "ü"))))))

-- it is the simple form's, and where that has none it fails
gains-gained : (v : ℕ) (s : State) → gains v s ≡ cond (not (eqb (gained v) 0)) (done (inserted (gained v ∷ []) s)) (failed s)
unfolding gains gained from_end text
gains-gained v s = go (has (text "aı") v) (has (text "ei") v) (has (text "ou") v) (has (text "öü") v)
  where
    chosen : {A : Type 0} → (i j m n : Bool) → (ℕ → A) → A → A
    chosen i j m n f z = cond i (f (code "ı")) (cond j (f (code "i")) (cond m (f (code "u")) (cond n (f (code "ü")) z)))

    gain : ℕ → Result
    gain c = done (inserted (c ∷ []) s)

    go : (i j m n : Bool) → chosen i j m n gain (failed s) ≡ (let c = chosen i j m n (λ c. c) 0 in cond (not (eqb c 0)) (gain c) (failed s))
    go true j m n = refl
    go false true m n = refl
    go false false true n = refl
    go false false false true = refl
    go false false false false = refl

-- carried out, the letter gained stands before the text
gains-run : (s : State) (t : List ℕ) (v : ℕ)
    → (k : ℕ) × (b : ℕ) × (carried_out 0 (gains v (standing s t)) ≡ done (reworked s (cond (not (eqb (gained v) 0)) (gained v ∷ t) t) k b s.found))
unfolding standing reworked inserted with_slice with_text move_to ahead carried_out
gains-run s t v = rw gains-gained (go (not (eqb (gained v) 0)))
  where
    go : (y : Bool) → (k : ℕ) × (b : ℕ) × (carried_out 0 (cond y (done (inserted (gained v ∷ []) (standing s t))) (failed (standing s t)))
        ≡ done (reworked s (cond y (gained v ∷ t) t) k b s.found))
    go true = (_, _, refl)
    go false = (_, _, refl)

-- so the routine leaves the simple form's text, at the end of any text
append-standing : (self : State → Result) (s : State) (t : List ℕ)
    → (k : ℕ) × (b : ℕ) × (carried_out 0 (run backward self source.append_U_to_stems_ending_with_d_or_g (standing s t)) ≡ done (reworked s (append_U t) k b s.found))
unfolding standing reworked ahead carried_out move_to is_in has any text last_vowel_of vowel vowels append_U appends
append-standing self s t =
    let r = left t in
    let p = source.append_U_to_stems_ending_with_d_or_g in
    (r.0, r.1, sym (carried_out-settled 0 (run backward self p (standing s t))) ∙ ap (carried_out 0) (append-does.on-state self (standing s t)) ∙ r.2)
  where
    Left : List ℕ → Type 0
    Left t =
        (k : ℕ) × (b : ℕ) × (carried_out 0 (cond (is_in (text "dg") t) (gains (last_vowel_of t) (standing s t)) (failed (standing s t)))
        ≡ done (reworked s (append_U t) k b s.found))

    left : (t : List ℕ) → Left t
    left [] = (_, _, refl)
    left (c ∷ cs) =
        is-or-other (λ c. Left (c ∷ cs)) (code "d") c (gains-run s (code "d" ∷ cs) (last_vowel_of cs)) λ d.
        (is-or-other (λ c. Left (c ∷ cs)) (code "g") c (gains-run s (code "g" ∷ cs) (last_vowel_of cs)) λ g.
        (rw (eqb_comm c (code "d"), d, eqb_comm c (code "g"), g) (_, _, refl)))

-- carried out at the text's end, the routine leaves the text with the letter gained
pub append-run : (self : State → Result) (s : State) → s.cursor ≡ 0
    → (k : ℕ) × (b : ℕ) × (carried_out 0 (run backward self source.append_U_to_stems_ending_with_d_or_g s) ≡ done (reworked s (append_U s.text) k b s.found))
append-run self s e =
    subst (λ (u : State). (k : ℕ) × (b : ℕ) × (carried_out 0 (run backward self source.append_U_to_stems_ending_with_d_or_g u) ≡ done (reworked s (append_U s.text) k b s.found)))
    (sym (standing-own s e)) (append-standing self s s.text)

-- ---- post_process_last_consonants ----

-- the state with its first character as the slice, and the cursor behind it
picked : State → ℕ → List ℕ → ℕ → State
picked s c cs n = record { text = c ∷ cs; cursor = 1; ket = suc (length cs); bra = length cs; flag = s.flag; strlen = s.strlen; found = n }

-- a letter in the slice's place stands before the rest of the text
picked-replaced : (s : State) (c d : ℕ) (cs : List ℕ) (n : ℕ) → move_to (slice_from (d ∷ []) (picked s c cs n)) 0 ≡ reworked s (d ∷ cs) (suc (length cs)) (length cs) n
unfolding picked slice_from with_text move_to reworked
picked-replaced s c d cs n =
    let none : suc (length cs) - suc (length cs) ≡ 0 = omega arith in
    let one : suc (length cs) - length cs ≡ 1 = omega arith in
    rw (none, one)

-- so the routine leaves the simple form's text, at the end of any text
harden-standing : (self : State → Result) (s : State) (t : List ℕ)
    → (k : ℕ) × (b : ℕ) × (n : ℕ) × (carried_out 0 (run backward self source.post_process_last_consonants (standing s t)) ≡ done (reworked s (harden t) k b n))
unfolding source.post_process_last_consonants run and_then carried_out standing reworked picked with_slice with_found move_to place ahead key_ahead longest longer fits read_if starts slice_from with_text letters from_end text harden hard hard_in hardenings
harden-standing self s [] = (_, _, _, refl)
harden-standing self s (a ∷ cs) =
    is-or-other Left (code "b") a (_, _, _, ap done (picked-replaced s (code "b") (code "p") cs 1)) λ b.
    (is-or-other Left (code "c") a (_, _, _, ap done (picked-replaced s (code "c") (code "ç") cs 2)) λ c.
    (is-or-other Left (code "d") a (_, _, _, ap done (picked-replaced s (code "d") (code "t") cs 3)) λ d.
    (is-or-other Left (code "ğ") a (_, _, _, ap done (picked-replaced s (code "ğ") (code "k") cs 4)) λ g.
    (rw (b, c, d, g) (_, _, _, refl)))))
  where
    Left : ℕ → Type 0
    Left c = (k : ℕ) × (b : ℕ) × (n : ℕ) × (carried_out 0 (run backward self source.post_process_last_consonants (standing s (c ∷ cs))) ≡ done (reworked s (harden (c ∷ cs)) k b n))

-- carried out at the text's end, the routine leaves the text with its last consonant hardened
pub harden-run : (self : State → Result) (s : State) → s.cursor ≡ 0
    → (k : ℕ) × (b : ℕ) × (n : ℕ) × (carried_out 0 (run backward self source.post_process_last_consonants s) ≡ done (reworked s (harden s.text) k b n))
harden-run self s e =
    subst (λ (u : State). (k : ℕ) × (b : ℕ) × (n : ℕ) × (carried_out 0 (run backward self source.post_process_last_consonants u) ≡ done (reworked s (harden s.text) k b n)))
    (sym (standing-own s e)) (harden-standing self s s.text)
