-- The source's postlude answers what the simple form answers. Assumes nothing.
use Prim.Native.Nat.{ℕ}
use mathlib.Core.Path.{◌≡◌, refl, sym, ap, ◌∙◌}
use mathlib.Core.Bool.{Bool, true, false, cond, not}
use mathlib.Core.List.{List, [], reverse, reverse-reverse}
use Rattle.turkish.specs.Snowball.{State, ahead, move_to, with_strlen, Result, done, failed, and_then, negated, either_way, carried_out, forward, backward, turned, turned_back, Command, ◌then◌, «do», backwards, run}
use Rattle.turkish.specs.Source as source
use Rattle.turkish.specs.Answers.{entered, called, succeeded, left, repaired, postlude_of}
use Rattle.theorems.specs.Simple.Postlude.{reserved, append_U, harden, postlude, postlude_yes}
use Rattle.theorems.proofs.Source.Settled.{negated-settled}
use Rattle.theorems.proofs.Source.Reserved.{reserved-run}
use Rattle.theorems.proofs.Source.LastConsonant.{reworked, append-run, harden-run}

-- what the postlude does read backwards
repairs : Command
repairs = «do» source.append_U_to_stems_ending_with_d_or_g then «do» source.post_process_last_consonants

-- from the text's end that succeeds, and leaves the text with a letter gained or its last consonant hardened
repairs-run : (self : State → Result) (s : State) → s.cursor ≡ 0
    → (u : State) × (run backward self repairs s ≡ done u) × (u.text ≡ harden (append_U s.text))
unfolding repairs run and_then reworked
repairs-run self s e =
    let a = append-run self s e in
    let h = harden-run self (reworked s (append_U s.text) a.0 a.1 s.found) refl in
    let rest = run backward self («do» source.post_process_last_consonants) in
    (_, ap (λ (c : ℕ). and_then (carried_out c (run backward self source.append_U_to_stems_ending_with_d_or_g s)) rest) e ∙ ap (λ (r : Result). and_then r rest) a.2 ∙ h.3, refl)

-- turned round from the text's start and back again, it answers yes and leaves the word so
backwards-repairs : (self : State → Result) (s : State)
    → repaired (run forward self (backwards repairs) (move_to s 0)) ≡ record { yes = true; text = harden (append_U (reverse s.text)) }
unfolding run move_to either_way turned turned_back ahead repaired succeeded left
backwards-repairs self s =
    let r = repairs-run self (turned (move_to s 0)) refl in
    ap (λ (x : Result). repaired (either_way (turned_back []) x)) r.1 ∙ ap (λ (t : List ℕ). record { yes = true; text = t }) (reverse-reverse r.0.text ∙ r.2)

-- the source's postlude, from the text's start in any state, answers what the simple form answers
pub postlude-answers : (s : State) → s.cursor ≡ 0
    → repaired (called forward source.postlude s) ≡ record { yes = postlude_yes (reverse s.text); text = postlude (reverse s.text) }
unfolding source.postlude called run negated and_then repaired succeeded left move_to with_strlen postlude postlude_yes repairs
postlude-answers s e =
    let r = reserved-run failed s e in
    let rest = run forward failed (backwards repairs) in
    ap (λ (c : ℕ). repaired (and_then (negated c (run forward failed source.is_reserved_word s)) rest)) e
    ∙ ap (λ (x : Result). repaired (and_then x rest)) (sym (negated-settled 0 (run forward failed source.is_reserved_word s)) ∙ ap (negated 0) r.1)
    ∙ go r.0 (reserved (reverse s.text))
  where
    go : (n : ℕ) (t : Bool)
        → repaired (and_then (negated 0 (cond t (done (with_strlen s n)) (failed (with_strlen s n)))) (run forward failed (backwards repairs)))
        ≡ record { yes = not t; text = cond t (reverse s.text) (harden (append_U (reverse s.text))) }
    go n true = refl
    go n false = backwards-repairs failed (with_strlen s n)

-- the source's postlude of a word is the simple form's
pub postlude_of-simple : (cs : List ℕ) → postlude_of cs ≡ record { yes = postlude_yes cs; text = postlude cs }
unfolding postlude_of entered
postlude_of-simple cs =
    postlude-answers (entered (reverse cs)) refl
    ∙ ap (λ (ds : List ℕ). record { yes = postlude_yes ds; text = postlude ds }) (reverse-reverse cs)
