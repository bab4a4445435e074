-- The characters that a command takes are letters of its marks' keys and of their joints: a test that all these pass, every
-- character taken passes. So no byte of what the stage removes is an LF. Assumes nothing.
use Prim.Native.Nat.{ℕ, ◌+◌, ◌≤◌, ◌<◌}
use mathlib.Core.Path.{◌≡◌, refl, sym}
use mathlib.Core.Bool.{Bool, true, not, ◌&&◌, ◌||◌, false≢true}
use mathlib.Core.List.{List, [], ◌∷◌, cons-eq-cons}
use native.Mathlib.Omega.{arith}
use lib.ListN.{length, take, drop}
use lib.Seq.{take-add}
use lib.Dec.{eqb}
use borrow.Author.Tests.{eqb-true, ne_eqb}
use Rattle.encoding.specs.Encoding.{encode, encode_all}
use Rattle.encoding.proofs.Laws.Booleans.{and_left, and_right, cond-test}
use Rattle.encoding.proofs.Laws.Encoding.{encode-elim}
use Rattle.turkish.specs.Letters.{text, lf, from_end, starts}
use Rattle.theorems.specs.Simple.Harmony.{harmony}
use Rattle.theorems.specs.Simple.Grammar.{Out, among, Joint, joining, mark_of, Command, mark, ◌then◌, ◌or◌, nothing, unset, try, run}
use Rattle.theorems.specs.Simple.Marks.{unjoined, by_y, marked, yUm, sUn, yUz, sUnUz, lAr, nUz, DUr, cAsInA, yDU, ysA, ymUs, yken}
use Rattle.theorems.specs.Simple.Stage.{person, branch1, branch2, branch3, branch4, branch5, branch6, branches, staged, stage}
use Rattle.turkish.specs.Calls.{bytes}
use Rattle.theorems.proofs.Laws.Outcome.{Post, unfit, fits, post-map, post-first, post-asking, post-then, post-joining}
use Rattle.theorems.proofs.Laws.Tests.{every, every-at}
use Rattle.theorems.proofs.Laws.Members.{every_append, without, without-append}
use Rattle.theorems.proofs.Laws.Vowels.{has-member}
use Rattle.theorems.proofs.Laws.Words.{bytes-cons}

-- ---- a command ----

-- the letters of a key that ends the text are the characters as far as it goes
starts-take : (k cs : List ℕ) → starts k cs ≡ true → take (length k) cs ≡ k
unfolding starts
starts-take [] cs e = refl
starts-take (x ∷ k) [] e = absurd (false≢true e)
starts-take (x ∷ k) (c ∷ cs) e =
    cons-eq-cons.1 (sym (eqb-true x c (and_left (eqb x c) (starts k cs) e)), starts-take k cs (and_right (eqb x c) (starts k cs) e))

-- the letters of every key and joint that stand in a command pass a test
keys_pass : (ℕ → Bool) → Command → Bool
keys_pass f (mark m) = every (every f) m.keys && every f m.joint.letters
keys_pass f (p then q) = keys_pass f p && keys_pass f q
keys_pass f (p or q) = keys_pass f p && keys_pass f q
keys_pass f nothing = true
keys_pass f unset = true

module _ (f : ℕ → Bool) where
  -- the first k characters pass
  abbrev Passes : List ℕ → ℕ → Type 0
  Passes cs k = every f (take k cs) ≡ true

  -- a table takes the letters of a key
  among-passes : (ks : List (List ℕ)) (cs : List ℕ) → every (every f) ks ≡ true → Post (Passes cs) (among ks cs)
  unfolding among every
  among-passes [] cs h = unfit
  among-passes (k ∷ ks) cs h =
      cond-test (Post (Passes cs)) (starts k cs)
      (λ e. fits (length k) (rw (starts-take k cs e) (and_left (every f k) (every (every f) ks) h)))
      (among-passes ks cs (and_right (every f k) (every (every f) ks) h))

  -- where the first k pass, and the next j do, k + j do
  passes_then : (k j : ℕ) (cs : List ℕ) → Passes cs k → Passes (drop k cs) j → Passes cs (k + j)
  passes_then k j cs p q = rw (take-add, every_append, p, q)

  -- a joint takes one of its letters or nothing
  joining-passes : (j : Joint) (cs : List ℕ) → every f j.letters ≡ true → Post (Passes cs) (joining j cs)
  unfolding every
  joining-passes j cs h = post-joining j cs (λ a. refl) (λ c d ds a e. (refl, λ l. rw (e, every-at f h (has-member j.letters c l))))

  -- a command whose keys' and joints' letters pass takes characters that pass
  run-passes : (p : Command) (cs : List ℕ) → keys_pass f p ≡ true → Post (Passes cs) (run p cs)
  unfolding run mark_of keys_pass every
  run-passes (mark m) cs h =
      post-asking (not m.harmonic || harmony cs) λ t.
      post-then (among-passes m.keys cs (and_left (every (every f) m.keys) (every f m.joint.letters) h)) λ k g p.
      post-map (λ j g q. passes_then k j cs p q)
      (joining-passes m.joint (drop k cs) (and_right (every (every f) m.keys) (every f m.joint.letters) h))
  run-passes (p then q) cs h =
      post-then (run-passes p cs (and_left (keys_pass f p) (keys_pass f q) h)) λ k g a.
      post-map (λ j g b. passes_then k j cs a b) (run-passes q (drop k cs) (and_right (keys_pass f p) (keys_pass f q) h))
  run-passes (p or q) cs h =
      post-first (run-passes p cs (and_left (keys_pass f p) (keys_pass f q) h)) (run-passes q cs (and_right (keys_pass f p) (keys_pass f q) h))
  run-passes nothing cs h = fits 0 refl
  run-passes unset cs h = fits 0 refl

-- ---- the stage ----

-- no key or joint of the stage has an LF
branches-pass : keys_pass (λ c. not (eqb c lf)) branches ≡ true
unfolding keys_pass every lf branches branch1 branch2 branch3 branch4 branch5 branch6 person try unjoined by_y marked yUm sUn yUz sUnUz lAr nUz DUr cAsInA
    yDU ysA ymUs yken from_end text
branches-pass = refl

-- so no character that the stage removes is an LF
without-removed : (cs : List ℕ) → without lf (take (stage cs).removed cs) ≡ true
unfolding stage without
without-removed cs = go (run-passes (λ c. not (eqb c lf)) branches cs branches-pass)
  where
    go : {o : Out} → Post (Passes (λ c. not (eqb c lf)) cs) o → Passes (λ c. not (eqb c lf)) cs (staged o).removed
    go unfit = unfold staged every in refl
    go (fits k p) = unfold staged in p

-- ---- its bytes ----

-- bytes from 0x80 on
data High : List ℕ → Type 0 where
  none : High []
  more : {x : ℕ} {s : List ℕ} → 0x80 ≤ x → High s → High (x ∷ s)

module _ (b : ℕ) (ascii : b < 0x80) where
  -- none of these is an ASCII byte
  without-high : {s : List ℕ} → High s → without b s ≡ true
  unfolding without every
  without-high none = refl
  without-high (more {x} h r) = rw (ne_eqb x b (λ p. omega arith), without-high r)

  -- a character's bytes have an ASCII byte only where it is that byte
  without-encode : (c : ℕ) → not (eqb c b) ≡ true → without b (encode c) ≡ true
  unfolding without every
  without-encode c e =
      encode-elim (λ s. without b s ≡ true) c (λ h. rw e)
      (λ h k. without-high (more (omega arith) (more (omega arith) none)))
      (λ h k. without-high (more (omega arith) (more (omega arith) (more (omega arith) none))))
      (λ h. without-high (more (omega arith) (more (omega arith) (more (omega arith) (more (omega arith) none)))))

  -- so of the bytes of some characters
  without-bytes : (cs : List ℕ) → without b cs ≡ true → without b (bytes cs) ≡ true
  unfolding without every
  without-bytes [] e = unfold bytes encode_all in refl
  without-bytes (c ∷ cs) e =
      let first : without b (encode c) ≡ true = without-encode c (and_left (not (eqb c b)) (without b cs) e) in
      rw (bytes-cons, without-append b, without-bytes cs (and_right (not (eqb c b)) (without b cs) e), first)

-- no byte of what the stage removes is an LF
pub without-removed-bytes : (cs : List ℕ) → without lf (bytes (take (stage cs).removed cs)) ≡ true
without-removed-bytes cs = without-bytes lf (unfold lf in omega arith) (take (stage cs).removed cs) (without-removed cs)
