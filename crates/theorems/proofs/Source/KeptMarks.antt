-- Each of the twelve mark routines of the source keeps itself, as one piece, with the joint that the simple form reads off the text: the
-- optional y's routine took a y exactly where the first letter of the piece is one, since no key begins with a y. With it goes what the
-- simple form's harmony finds, where the mark tests it. Assumes nothing.
use Prim.Native.Nat.{ℕ, suc, ◌+◌, ◌-◌}
use Prim.Native.String.{String}
use mathlib.Core.Path.{◌≡◌, refl, sym, ap, ◌∙◌}
use mathlib.Core.Bool.{Bool, true, false, cond, not, or-false, false≢true}
use mathlib.Core.List.{List, [], ◌∷◌, map}
use native.Mathlib.Omega.{arith}
use lib.ListN.{length, drop, get_or}
use lib.Seq.{get_or-drop}
use lib.Dec.{eqb, ltb}
use borrow.Author.Tests.{eqb-true, not-true, ltb-true, ltb-false, lt-ltb, le-ltb}
use Rattle.encoding.proofs.Laws.Booleans.{and_left, and_right}
use Rattle.utf8.specs.Steps.{same}
use Rattle.turkish.specs.Letters.{text, from_end, any, has, starts}
use Rattle.turkish.specs.Snowball.{State, ahead, place, move_to, Result, done, backward, letters, Command, define, ◌then◌, run}
use Rattle.turkish.specs.Snowball as Snowball
use Rattle.turkish.specs.Source.{A-12, A-13, A-14, A-15, A-16, A-17, A-18, A-19, A-20, A-21, A-22, check_vowel_harmony, mark_suffix_with_optional_y_consonant, mark_yUm}
use Rattle.turkish.specs.Source.{mark_sUn, mark_yUz, mark_sUnUz, mark_lAr, mark_nUz, mark_DUr, mark_cAsInA, mark_yDU, mark_ysA, mark_ymUs_, mark_yken}
use Rattle.turkish.specs.Answers.{succeeded}
use Rattle.turkish.specs.Pieces.{kind_names, number_from, kind_of, with_y, after_vowel, Reading, blank, or_joined, read_then, read_after, joint_of, heard_by, one_mark, read_in}
use Rattle.turkish.specs.Pieces as Pieces
use Rattle.theorems.specs.Simple.Harmony.{harmony_found, harmony}
use Rattle.theorems.specs.Simple.Grammar.{Out, fail, took, after, asking, among, Joint, joining, Mark, mark_of}
use Rattle.theorems.specs.Simple.Marks.{unjoined, by_y, marked, yUm, sUn, yUz, sUnUz, lAr, nUz, DUr, cAsInA, yDU, ysA, ymUs, yken}
use Rattle.theorems.specs.Simple.NounMarks.{letters_U, possessives, sU, lArI, nU, nUn, yA, nA, DA, ndA, DAn, ndAn, ylA, ki, ncA}
use Rattle.theorems.specs.Simple.Tables.{Table, tables}
use Rattle.theorems.specs.Simple.Pieces.{joint_by, found_by, taken_by, trace_out, trace_of, heard_at, located}
use Rattle.theorems.specs.Simple.Postlude.{hardenings, hard_keys}
use Rattle.theorems.proofs.Laws.Outcome.{Gives, Post, unfit, fits, post-all, post-map, post-both, post-asking, post-more, post-joining}
use Rattle.theorems.proofs.Laws.Tests.{every, every-get_or}
use Rattle.theorems.proofs.Laws.Traces.{summed-mark}
use Rattle.theorems.proofs.Tables.{apart, apart-at}
use Rattle.theorems.proofs.Source.Means.{Means, settled, placed, settled-done, ahead-on, means-as, means-literal, take_if}
use Rattle.theorems.proofs.Source.Marks.{among-means, by_y-means}
use Rattle.theorems.proofs.Source.Marks.{yUm-means, sUn-means, yUz-means, sUnUz-means, lAr-means, nUz-means, DUr-means, cAsInA-means, yDU-means, ysA-means, ymUs-means, yken-means}
use Rattle.theorems.proofs.Source.Keeps.{Shows, Keeps, place-on}
use Rattle.theorems.proofs.Source.Stops.{read_after-done, harmony-done, harmony-stops, heard_by-stops}

-- ---- no key begins with a y ----

-- a key, told from its end, has a first letter, which is no y
unfoldable yless : List ℕ → Bool
yless [] = false
yless (c ∷ []) = not (eqb c 0x79)
yless (c ∷ d ∷ cs) = yless (d ∷ cs)

-- so it is with every key of every table
tables-yless : every (λ (t : Table). every yless t.keys) tables ≡ true
unfolding every yless tables hard_keys hardenings marked yUm sUn yUz sUnUz lAr nUz DUr cAsInA yDU ysA ymUs yken letters_U possessives sU lArI nU nUn yA nA DA ndA DAn ndAn ylA ki ncA from_end text
tables-yless = refl

-- and with those of one, told by its place in the list
yless-at : (n : ℕ) → every yless (get_or tables n (record { width = 0; keys = [] })).keys ≡ true
unfolding every
yless-at n = every-get_or (λ (t : Table). every yless t.keys) tables n _ tables-yless refl

-- the last character that such a key covers is no y
starts-yless : (k cs : List ℕ) → yless k ≡ true → starts k cs ≡ true → eqb (get_or cs (length k - 1) 0) 0x79 ≡ false
unfolding yless starts
starts-yless [] cs u h = absurd (false≢true u)
starts-yless (c ∷ ks) [] u h = absurd (false≢true h)
starts-yless (c ∷ []) (x ∷ cs) u h = rw (sym (eqb-true c x (and_left (eqb c x) true h))) (not-true (eqb c 0x79) u)
starts-yless (c ∷ d ∷ ks) (x ∷ cs) u h =
    let e : suc (suc (length ks)) - 1 ≡ suc (suc (length ks) - 1) = omega arith in
    ap (λ (n : ℕ). eqb (get_or (x ∷ cs) n 0) 0x79) e ∙ starts-yless (d ∷ ks) cs u (and_right (eqb c x) (starts (d ∷ ks) cs) h)

-- so the last that a table takes is none
among-yless : (ks : List (List ℕ)) (cs : List ℕ) → every yless ks ≡ true → Post (λ k. eqb (get_or cs (k - 1) 0) 0x79 ≡ false) (among ks cs)
unfolding every among
among-yless [] cs u = unfit
among-yless (k ∷ ks) cs u = go (starts k cs) refl (among-yless ks cs (and_right (yless k) (every yless ks) u))
  where
    go : (b : Bool) → starts k cs ≡ b → Post (λ k. eqb (get_or cs (k - 1) 0) 0x79 ≡ false) (among ks cs)
        → Post (λ k. eqb (get_or cs (k - 1) 0) 0x79 ≡ false) (cond b (took (length k) true) (among ks cs))
    go true e r = fits (length k) (starts-yless k cs (and_left (yless k) (every yless ks) u) e)
    go false e r = r

-- ---- the joint ----

-- a step goes on exactly where it is of some characters
ltb-on : (c j : ℕ) → ltb c (c + j) ≡ ltb 0 j
ltb-on c j = go (ltb 0 j) refl
  where
    go : (b : Bool) → ltb 0 j ≡ b → ltb c (c + j) ≡ b
    go true e = lt-ltb c (c + j) (omega (arith, ltb-true 0 j e))
    go false e = le-ltb c (c + j) (omega (arith, ltb-false 0 j e))

-- behind k characters of which the last is no y, the last taken is a y exactly where the optional y takes one
by_y-joined : (k : ℕ) (cs : List ℕ) → eqb (get_or cs (k - 1) 0) 0x79 ≡ false
    → Post (λ j. joint_by true (k + j) cs ≡ cond (ltb 0 j) with_y after_vowel) (joining by_y (drop k cs))
unfolding by_y joint_by has any text
by_y-joined k cs u =
    let none : k + 0 - 1 ≡ k - 1 = omega arith in
    let last : k + 1 - 1 ≡ k + 0 = omega arith in
    post-joining by_y (drop k cs) (λ a. rw (none, u)) λ c d ds a e.
    let taken : get_or cs (k + 1 - 1) 0 ≡ c = ap (λ (n : ℕ). get_or cs n 0) last ∙ sym (get_or-drop k cs 0 0) ∙ ap (λ (l : List ℕ). get_or l 0 0) e in
    (rw (none, u), λ h. rw (taken, sym (or-false (eqb c 0x79)) ∙ h))

-- the optional y's routine joins with a y where it takes one, and stops nowhere
by_y-joint : (self : State → Result) (s : State)
    → Post (λ j. Pieces.reading backward self mark_suffix_with_optional_y_consonant s ≡ record { joined = cond (ltb 0 j) with_y after_vowel; stops = []; kept = [] })
    (joining by_y (ahead s))
unfolding mark_suffix_with_optional_y_consonant run Pieces.reading read_in joint_of same text placed move_to
by_y-joint self s = go (joining by_y (ahead s)) _ _ (by_y-means.on-state self s)
  where
    go : (o : Out) (r : Result) (a : Reading) → settled s.cursor r ≡ placed s o
        → Post (λ j. read_in "mark_suffix_with_optional_y_consonant" s r a ≡ record { joined = cond (ltb 0 j) with_y after_vowel; stops = []; kept = [] }) o
    go fail r a e = unfit
    go (took j f) r a e = fits j (rw (settled-done s.cursor r _ e, ltb-on s.cursor j))

-- ---- what a mark's commands are seen to do ----

-- a reading tells of a mark that took k characters: it has the joint that the simple form reads off these, and what harmony found was heard
abbrev Tells : Mark → State → ℕ → Reading → Type 0
Tells m s k a = (a.joined ≡ joint_by m.joint.asked k (ahead s)) × (heard_by a.stops ≡ heard_at (place s) (found_by m.harmonic (ahead s)))

-- in any state the commands of a mark tell of what it took
record Told (p : Command) (m : Mark) : Type 0 where
  on-state : (self : State → Result) (s : State) → Gives (λ k f. Tells m s k (Pieces.reading backward self p s)) (mark_of m (ahead s))

-- a key alone has no joint and stops nowhere
bare : (n : ℕ) (ks : List String) → Told (Snowball.among ks) (marked n false ks unjoined)
unfolding Pieces.reading blank joint_by found_by heard_by heard_at unjoined marked
bare n ks = record { on-state = λ self s. post-all (mark_of (marked n false ks unjoined) (ahead s)) (λ k f. (refl, refl)) }

-- with harmony the joint is that of the rest, and harmony's stops come first
harmonic : {p : Command} (n : ℕ) (j : Joint) (ks : List String)
    → Told p (marked n false ks j) → Told (check_vowel_harmony then p) (marked n true ks j)
unfolding Pieces.reading read_then or_joined mark_of marked asking found_by heard_at
harmonic {p} n j ks x =
    record { on-state = λ self s. post-asking (harmony (ahead s)) (λ h. post-map (λ k f e. tells self s k h e) (x.on-state self s)) }
  where
    tells : (self : State → Result) (s : State) (k : ℕ) → harmony (ahead s) ≡ true → Tells (marked n false ks j) s k (Pieces.reading backward self p s)
        → Tells (marked n true ks j) s k (Pieces.reading backward self (check_vowel_harmony then p) s)
    tells self s k h e =
        let b = Pieces.reading backward self p in
        let seen = read_after-done _ s _ b (harmony-done self s h) ∙ ap (λ (a : Reading). read_then a (b s)) (harmony-stops self s h) in
        let found = heard_by-stops (place s) (harmony_found (ahead s)) (b s).stops e.1 in
        (ap (λ (a : Reading). a.joined) seen ∙ e.0, ap (λ (a : Reading). heard_by a.stops) seen ∙ found)

-- what reads a key and keeps nothing, with an optional y behind it, has the optional y's joint
joined_by : {p : Command} (n : ℕ) (ks : List String) → ((self : State → Result) (s : State) → Pieces.reading backward self p s ≡ blank)
    → Means backward p (among (map from_end ks)) → every yless (map from_end ks) ≡ true
    → Told (p then mark_suffix_with_optional_y_consonant) (marked n false ks by_y)
unfolding Pieces.reading read_then or_joined blank mark_of by_y marked asking after placed found_by heard_by heard_at
joined_by {p} n ks x y u =
    record { on-state = λ self s. go self s (among (map from_end ks) (ahead s)) (run backward self p s) (y.on-state self s) (among-yless (map from_end ks) (ahead s) u) }
  where
    go : (self : State → Result) (s : State) (o : Out) (r : Result) → settled s.cursor r ≡ placed s o
        → Post (λ k. eqb (get_or (ahead s) (k - 1) 0) 0x79 ≡ false) o
        → Post (λ k. Tells (marked n false ks by_y) s k (read_after r (Pieces.reading backward self p s) (Pieces.reading backward self mark_suffix_with_optional_y_consonant)))
        (after o (λ k. joining by_y (drop k (ahead s))))
    go self s o r e unfit = unfit
    go self s o r e (fits k {f} h) =
        let t = move_to s (s.cursor + k) in
        let b = Pieces.reading backward self mark_suffix_with_optional_y_consonant in
        let behind = read_after-done r t _ b (settled-done s.cursor r t e) ∙ ap (λ (a : Reading). read_then a (b t)) (x self s) in
        let rest = rw (ahead-on s k) at (by_y-joint self t) in
        let read = by_y-joined k (ahead s) h in
        post-more k f (λ j g e. let seen = behind ∙ e.0 in (ap (λ (a : Reading). a.joined) seen ∙ sym e.1, ap (λ (a : Reading). heard_by a.stops) seen)) (post-both rest read)

-- so have the keys of a table
joined : (n : ℕ) (ks : List String) → apart (map from_end ks) ≡ true → every yless (map from_end ks) ≡ true
    → Told (Snowball.among ks then mark_suffix_with_optional_y_consonant) (marked n false ks by_y)
unfolding Pieces.reading
joined n ks a u = joined_by n ks (λ self s. refl) (among-means ks a) u

-- ---- the marks ----

-- a routine that is a mark by its name keeps itself, where it takes what the mark takes and its commands tell of that
mark-keeps : {n : String} {p : Command} {m : Mark} → Means backward (define n p) (mark_of m)
    → ((s t : State) (a : Reading) → read_in n s (done t) a ≡ one_mark m.kind s t a) → Told p m → Keeps (define n p) (trace_of m)
unfolding run Pieces.reading trace_of trace_out Shows placed succeeded one_mark located
mark-keeps {n} {p} {m} x y z =
    record {
      means = means-as x (λ cs. sym (summed-mark m cs));
      on-state = λ self s. go s (mark_of m (ahead s)) (run backward self p s) (Pieces.reading backward self p s) (x.on-state self s) (z.on-state self s);
    }
  where
    go : (s : State) (o : Out) (r : Result) (a : Reading) → settled s.cursor r ≡ placed s o
        → Gives (λ k f. Tells m s k a) o → Shows s (trace_out m (ahead s) o) r (read_in n s r a)
    go s o r a e unfit = e
    go s o r a e (fits k {f} h) =
        let t = move_to s (s.cursor + k) in
        let piece : (one_mark m.kind s t a).kept ≡ located (place s) (taken_by m (ahead s) k ∷ []) = rw (h.0, h.1, place-on s k) in
        rw (settled-done s.cursor r t e) (refl, ap (λ (b : Reading). b.kept) (y s t a) ∙ piece)

-- one a mark, in the order of the tables, whose place in the list tells what is known of their keys
pub yUm-keeps : Keeps mark_yUm (trace_of yUm)
unfolding mark_yUm yUm marked tables read_in kind_of number_from kind_names same text
yUm-keeps = mark-keeps yUm-means (λ s t a. refl) (harmonic 1 by_y A-12 (joined 1 A-12 (apart-at 0) (yless-at 0)))

pub sUn-keeps : Keeps mark_sUn (trace_of sUn)
unfolding mark_sUn sUn marked read_in kind_of number_from kind_names same text
sUn-keeps = mark-keeps sUn-means (λ s t a. refl) (harmonic 2 unjoined A-13 (bare 2 A-13))

pub yUz-keeps : Keeps mark_yUz (trace_of yUz)
unfolding mark_yUz yUz marked tables read_in kind_of number_from kind_names same text
yUz-keeps = mark-keeps yUz-means (λ s t a. refl) (harmonic 3 by_y A-14 (joined 3 A-14 (apart-at 2) (yless-at 2)))

pub sUnUz-keeps : Keeps mark_sUnUz (trace_of sUnUz)
unfolding mark_sUnUz sUnUz marked read_in kind_of number_from kind_names same text
sUnUz-keeps = mark-keeps sUnUz-means (λ s t a. refl) (bare 4 A-15)

pub lAr-keeps : Keeps mark_lAr (trace_of lAr)
unfolding mark_lAr lAr marked read_in kind_of number_from kind_names same text
lAr-keeps = mark-keeps lAr-means (λ s t a. refl) (harmonic 5 unjoined A-16 (bare 5 A-16))

pub nUz-keeps : Keeps mark_nUz (trace_of nUz)
unfolding mark_nUz nUz marked read_in kind_of number_from kind_names same text
nUz-keeps = mark-keeps nUz-means (λ s t a. refl) (harmonic 6 unjoined A-17 (bare 6 A-17))

pub DUr-keeps : Keeps mark_DUr (trace_of DUr)
unfolding mark_DUr DUr marked read_in kind_of number_from kind_names same text
DUr-keeps = mark-keeps DUr-means (λ s t a. refl) (harmonic 7 unjoined A-18 (bare 7 A-18))

pub cAsInA-keeps : Keeps mark_cAsInA (trace_of cAsInA)
unfolding mark_cAsInA cAsInA marked read_in kind_of number_from kind_names same text
cAsInA-keeps = mark-keeps cAsInA-means (λ s t a. refl) (bare 8 A-19)

pub yDU-keeps : Keeps mark_yDU (trace_of yDU)
unfolding mark_yDU yDU marked tables read_in kind_of number_from kind_names same text
yDU-keeps = mark-keeps yDU-means (λ s t a. refl) (harmonic 9 by_y A-20 (joined 9 A-20 (apart-at 8) (yless-at 8)))

pub ysA-keeps : Keeps mark_ysA (trace_of ysA)
unfolding mark_ysA ysA marked tables read_in kind_of number_from kind_names same text
ysA-keeps = mark-keeps ysA-means (λ s t a. refl) (joined 10 A-21 (apart-at 9) (yless-at 9))

pub ymUs-keeps : Keeps mark_ymUs_ (trace_of ymUs)
unfolding mark_ymUs_ ymUs marked tables read_in kind_of number_from kind_names same text
ymUs-keeps = mark-keeps ymUs-means (λ s t a. refl) (harmonic 11 by_y A-22 (joined 11 A-22 (apart-at 10) (yless-at 10)))

pub yken-keeps : Keeps mark_yken (trace_of yken)
unfolding mark_yken yken marked tables read_in kind_of number_from kind_names same text Pieces.reading letters from_end among take_if
yken-keeps = mark-keeps yken-means (λ s t a. refl) (joined_by 12 ("ken" ∷ []) (λ self s. refl) (means-literal "ken") (yless-at 11))
