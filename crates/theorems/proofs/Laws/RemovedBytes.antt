-- How many bytes a command takes at most, computed from the command; so the suffix stage removes at most 20. Assumes nothing.
use Prim.Native.Nat.{ℕ, ◌+◌, ◌≤◌, max}
use mathlib.Core.Path.{◌≡◌, ap, ◌∙◌, sym}
use mathlib.Core.Bool.{true, cond, not, ◌||◌}
use mathlib.Core.List.Memᴰ
use mathlib.Core.List.{List, [], ◌∷◌, map, Memᴰ}
use native.Mathlib.Omega.{arith}
use lib.ListN.{length, take, drop, length-append, take-append-drop}
use lib.Seq.{take-add, take-append_seam}
use Rattle.encoding.specs.Encoding.{encode, encode_all}
use Rattle.encoding.proofs.Laws.Booleans.{cond-test}
use Rattle.turkish.specs.Letters.{text, from_end, starts}
use Rattle.theorems.specs.Simple.Harmony.{harmony}
use Rattle.theorems.specs.Simple.Grammar.{Out, among, Joint, joining, mark_of, Command, mark, ◌then◌, ◌or◌, nothing, unset, try, run}
use Rattle.theorems.specs.Simple.Marks.{unjoined, by_y, marked, yUm, sUn, yUz, sUnUz, lAr, nUz, DUr, cAsInA, yDU, ysA, ymUs, yken}
use Rattle.theorems.specs.Simple.Stage.{person, branch1, branch2, branch3, branch4, branch5, branch6, branches, staged, stage, kept}
use Rattle.turkish.specs.Calls.{chars, bytes, accepted, stage_text}
use Rattle.theorems.specs.PieceTerms.{most_bytes}
use Rattle.theorems.proofs.Laws.Outcome.{Post, unfit, fits, post-map, post-first, post-asking, post-then, post-joining}
use Rattle.theorems.proofs.Laws.Vowels.{has-member}
use Rattle.theorems.proofs.Laws.Words.{bytes-append}
use Rattle.theorems.proofs.Laws.Accepted.{bytes-chars}
use Rattle.theorems.proofs.Laws.Syllables.{starts-split}
use Rattle.theorems.proofs.Source.Calls.{suffix_stage-text}

-- the bytes of the nearest k characters
abbrev size_of : ℕ → List ℕ → ℕ
size_of k cs = length (bytes (take k cs))

-- ---- the bound ----

-- the bytes of a table's longest key
longest_bytes : List (List ℕ) → ℕ
longest_bytes [] = 0
longest_bytes (k ∷ ks) = max (length (bytes k)) (longest_bytes ks)

-- of the longest of some letters
letter_bytes : List ℕ → ℕ
letter_bytes cs = longest_bytes (map (λ c. c ∷ []) cs)

-- a command takes at most so many bytes: a key and a letter that joins it
most_taken : Command → ℕ
unfolding letter_bytes
most_taken (mark m) = longest_bytes m.keys + cond m.joint.asked (letter_bytes m.joint.letters) 0
most_taken (p then q) = most_taken p + most_taken q
most_taken (p or q) = max (most_taken p) (most_taken q)
most_taken nothing = 0
most_taken unset = 0

-- ---- a command ----

-- the bytes of k characters and then of j are those of k + j
size-add : (k j : ℕ) (cs : List ℕ) → size_of (k + j) cs ≡ size_of k cs + size_of j (drop k cs)
size-add k j cs = rw (take-add, bytes-append, length-append) (omega arith)

-- characters that begin with a key have it for their nearest
starts-take : (k cs : List ℕ) → starts k cs ≡ true → take (length k) cs ≡ k
starts-take k cs e = ap (take (length k)) (sym (starts-split k cs e)) ∙ take-append_seam k (drop (length k) cs)

-- a table takes the bytes of one of its keys
among-bytes : (ks : List (List ℕ)) (cs : List ℕ) → Post (λ k. size_of k cs ≤ longest_bytes ks) (among ks cs)
unfolding among longest_bytes
among-bytes [] cs = unfit
among-bytes (k ∷ ks) cs =
    cond-test (Post (λ j. size_of j cs ≤ max (length (bytes k)) (longest_bytes ks))) (starts k cs)
    (λ e. fits (length k) (rw (starts-take k cs e) (omega arith)))
    (post-map (λ j f h. omega arith) (among-bytes ks cs))

-- a key of a table has no more bytes than the longest
longest_bytes-at : {k : List ℕ} {ks : List (List ℕ)} → Memᴰ k ks → length (bytes k) ≤ longest_bytes ks
unfolding longest_bytes
longest_bytes-at (Memᴰ.head {x} {xs} p) = rw p (omega arith)
longest_bytes-at (Memᴰ.tail {x} {xs} m) = omega (arith, longest_bytes-at m)

-- a joint takes at most the bytes of its longest letter, and none where it asks for none
joining-bytes : (j : Joint) (cs : List ℕ) → Post (λ k. size_of k cs ≤ cond j.asked (letter_bytes j.letters) 0) (joining j cs)
unfolding letter_bytes bytes encode_all
joining-bytes j cs = post-joining j cs (λ a. omega arith) (λ c d ds a e. (omega arith, λ h. rw (a, e) (longest_bytes-at (Memᴰ.map (λ c. c ∷ []) (has-member j.letters c h)))))

-- a command takes at most the bytes computed for it
run-bytes : (p : Command) (cs : List ℕ) → Post (λ k. size_of k cs ≤ most_taken p) (run p cs)
unfolding run mark_of most_taken bytes encode_all
run-bytes (mark m) cs =
    post-asking (not m.harmonic || harmony cs) λ t.
    post-then (among-bytes m.keys cs) (λ k f h. post-map (λ j g i. omega (arith, size-add k j cs)) (joining-bytes m.joint (drop k cs)))
run-bytes (p then q) cs = post-then (run-bytes p cs) (λ k f h. post-map (λ j g i. omega (arith, size-add k j cs)) (run-bytes q (drop k cs)))
run-bytes (p or q) cs = post-first (post-map (λ k f h. omega arith) (run-bytes p cs)) (post-map (λ k f h. omega arith) (run-bytes q cs))
run-bytes nothing cs = fits 0 (omega arith)
run-bytes unset cs = fits 0 (omega arith)

-- ---- the stage ----

-- the stage's command takes at most 20 bytes
branches-bytes : most_taken branches ≤ most_bytes
unfolding most_bytes most_taken letter_bytes longest_bytes bytes encode_all encode branches branch1 branch2 branch3 branch4 branch5 branch6 person try
    unjoined by_y marked yUm sUn yUz sUnUz lAr nUz DUr cAsInA yDU ysA ymUs yken from_end text
branches-bytes = omega arith

-- so does the stage, which takes none where it says no
staged-bytes : (cs : List ℕ) {o : Out} → Post (λ k. size_of k cs ≤ most_taken branches) o → size_of (staged o).removed cs ≤ most_bytes
unfolding staged bytes encode_all
staged-bytes cs unfit = omega arith
staged-bytes cs (fits k h) = omega (arith, branches-bytes)

-- the bytes of characters are those that the stage removes and those that it keeps
length-kept : (cs : List ℕ) → length (bytes cs) ≡ length (bytes (kept cs)) + size_of (stage cs).removed cs
unfolding kept
length-kept cs =
    let k = (stage cs).removed in
    ap (λ (ds : List ℕ). length (bytes ds)) (sym (take-append-drop k cs)) ∙ ap length (bytes-append (take k cs) (drop k cs)) ∙ length-append (bytes (drop k cs)) (bytes (take k cs))

-- at most 20 bytes of a word are removed
pub stage_text-most : (w : List ℕ) → accepted w ≡ true → length w ≤ length (stage_text w) + most_bytes
unfolding stage_text stage
stage_text-most w e =
    let l : length w ≡ length (bytes (kept (chars w))) + size_of (stage (chars w)).removed (chars w) = rw (bytes-chars w e) at (length-kept (chars w)) in
    rw (suffix_stage-text (chars w)) (omega (arith, staged-bytes (chars w) (run-bytes branches (chars w))))
