-- The vowels that harmony found in a word: which they are, in which piece the last one lies, that it is a key's own, and where none was
-- looked for. Assumes nothing.
use Prim.Native.Nat.{ℕ, ◌+◌, ◌-◌, ◌≤◌, ◌<◌}
use mathlib.Core.Path.{◌≡◌, refl, sym, ap, ◌∙◌}
use mathlib.Core.Bool.{Bool, true, false, not, true≢false}
use mathlib.Core.List.{List, ◌∷◌, ◌++◌, map, map-append, Memᴰ}
use native.Mathlib.Omega.{arith}
use lib.ListN.{length, drop, length-drop}
use Rattle.utf8.specs.Steps.{same}
use Rattle.turkish.specs.Letters.{text, from_end, any, has}
use Rattle.turkish.specs.Vowels.{vowels, vowel}
use Rattle.turkish.specs.Heard.{Heard, unheard, heard, is_heard, loan_in}
use Rattle.turkish.specs.Pieces.{Kept, first_heard, stage_heard}
use Rattle.theorems.specs.Simple.Grammar.{took, Mark, mark_of, try}
use Rattle.theorems.specs.Simple.Marks.{marked, yUm, sUn, yUz, sUnUz, lAr, nUz, DUr, cAsInA, yDU, ysA, ymUs, yken}
use Rattle.theorems.specs.Simple.NounMarks.{letters_U, possessives, sU, lArI, yU, nU, nUn, yA, nA, DA, ndA, DAn, ndAn, ylA, ki, ncA}
use Rattle.theorems.specs.Simple.Stage.{person, branch1, branch2, branch3, branch4, branch5, branch6, branches}
use Rattle.theorems.specs.Simple.Pieces.{Taken, total, kept_at, stage_marks, located}
use Rattle.turkish.specs.Calls.{chars, accepted, offset, last_offset, partner_offset, stage_call}
use Rattle.turkish.specs.PieceCalls.{span_of, spans_of}
use Rattle.theorems.specs.Fronts.{one_of}
use Rattle.theorems.specs.HeardTerms.{TwoVowels, tests_harmony, untested_endings, kinds, FirstHarmonic, all_marks, KeyVowel}
use Rattle.theorems.proofs.Laws.Tests.{every, every-at, agrees, agrees-equal}
use Rattle.theorems.proofs.Laws.Offsets.{offset-mono, offset-le}
use Rattle.theorems.proofs.Laws.Harmony.{harmony_found-bounds}
use Rattle.theorems.proofs.Laws.Heard.{two-vowels}
use Rattle.theorems.proofs.Laws.KeyVowels.{voiced, mark-vowel}
use Rattle.theorems.proofs.Laws.FirstHeard.{stage_marks-sounded, Sounder, first-sounder, heard-tests}
use Rattle.theorems.proofs.Source.Keeps.{located-append}
use Rattle.theorems.proofs.Source.KeptStage.{kept_marks-simple}
use Rattle.theorems.proofs.Shapes.{crossed, shapes, endings, kinds_of, stage_marks-ending, kinds-located}

-- ---- the call ----

-- what the call says of a word that is accepted
record Says (w : List ℕ) (h : Heard) : Type 0 where
  harmonic : (stage_call w).harmonic ≡ is_heard h
  last : (stage_call w).last ≡ last_offset w h
  partner : (stage_call w).partner ≡ partner_offset w h
  loan : (stage_call w).loan ≡ loan_in (chars w) h

-- it tells what the stage found first
call-says : (w : List ℕ) → accepted w ≡ true → Says w (stage_heard (chars w))
unfolding stage_call
call-says w a = record { harmonic = rw a; last = rw a; partner = rw a; loan = rw a }

-- nothing is told of what was not tested
unheard-says : (w : List ℕ) (h : Heard) → is_heard h ≡ false → (last_offset w h ≡ 0) × (partner_offset w h ≡ 0) × (loan_in (chars w) h ≡ false)
unfolding is_heard last_offset partner_offset loan_in
unheard-says w unheard e = (refl, refl, refl)
unheard-says w (heard last partner) e = absurd (true≢false e)

-- where harmony was not tested, both offsets are 0 and the word is no loan candidate
pub not-harmonic : (w : List ℕ) → (stage_call w).harmonic ≡ false → ((stage_call w).last ≡ 0) × ((stage_call w).partner ≡ 0) × ((stage_call w).loan ≡ false)
unfolding stage_call
not-harmonic w e = go (accepted w) refl
  where
    go : (t : Bool) → accepted w ≡ t → ((stage_call w).last ≡ 0) × ((stage_call w).partner ≡ 0) × ((stage_call w).loan ≡ false)
    go true a =
        let c = call-says w a in
        let u = unheard-says w (stage_heard (chars w)) (sym c.harmonic ∙ e) in
        (c.last ∙ u.0, c.partner ∙ u.1, c.loan ∙ u.2)
    go false a = (rw a, rw a, rw a)

-- ---- the pieces ----

-- the pieces of marks that stand before, at and behind one
spans-split : (w : List ℕ) (n : ℕ) (ts : List Taken) (t : Taken) (us : List Taken)
    → map (span_of w) (located n (ts ++ t ∷ us))
    ≡ map (span_of w) (located n ts) ++ span_of w (kept_at (n - total ts) t) ∷ map (span_of w) (located (n - total ts - t.size) us)
unfolding located
spans-split w n ts t us = ap (map (span_of w)) (located-append n ts (t ∷ us)) ∙ map-append (span_of w) (located n ts) (located (n - total ts) (t ∷ us))

-- what is within a mark lies in its piece, which ends where the mark was entered: a character i back from there, among those that it took
piece-has : (w : List ℕ) (m i : ℕ) (t : Taken) → 0 < i → i ≤ t.size → i ≤ m → m ≤ length (chars w)
    → let p = span_of w (kept_at m t) in (p.first ≤ offset w (m - i)) × (offset w (m - i) ≤ p.last) × (p.last + 1 ≡ offset w m)
unfolding span_of
piece-has w m i t z h k b =
    let below : offset w (m - i) < offset w m = offset-mono w (m - i) m (omega arith) b in
    (offset-le w (m - t.size) (m - i) (omega arith) (omega arith), omega arith, omega arith)

-- ---- which test harmony ----

-- a sequence of kinds of which none tests harmony is one of those, and no other is
passes : List ℕ → Bool
passes ks = agrees (not (any tests_harmony ks)) (one_of untested_endings ks)

-- every sequence of the stage passes
endings-pass : every passes endings ≡ true
unfolding every passes agrees any has tests_harmony one_of same endings shapes crossed branches branch1 branch2 branch3 branch4 branch5 branch6 person try
    marked yUm sUn yUz sUnUz lAr nUz DUr cAsInA yDU ysA ymUs yken
endings-pass = refl

-- ---- a key's own vowel ----

-- each of the 27 marks that tests harmony has a vowel in each key
marks-voiced : every voiced all_marks ≡ true
unfolding every voiced any vowel vowels has all_marks marked yUm sUn yUz sUnUz lAr nUz DUr cAsInA yDU ysA ymUs yken
    letters_U possessives sU lArI yU nU nUn yA nA DA ndA DAn ndAn ylA ki ncA from_end text
marks-voiced = refl

-- so where one fits, the last vowel that harmony looks at is its key's own
pub key-vowel : (m : Mark) → Memᴰ m all_marks → (cs : List ℕ) {k : ℕ} {f : Bool} → mark_of m cs ≡ took k f → m.harmonic ≡ true → KeyVowel m.keys cs k
key-vowel m i cs e h = mark-vowel m cs (every-at voiced marks-voiced i) h e

-- ---- the theorems ----

-- what the stage found first is what the first of its marks found
stage-found : (cs : List ℕ) → stage_heard cs ≡ first_heard (located (length cs) (stage_marks cs))
unfolding stage_heard
stage-found cs = ap first_heard (kept_marks-simple cs)

-- the kinds of a word's pieces are those of its marks
kinds-spans : (w : List ℕ) → kinds (spans_of w) ≡ kinds_of (stage_marks (chars w))
unfolding spans_of
kinds-spans w = ap (λ (ks : List Kept). kinds (map (span_of w) ks)) (kept_marks-simple (chars w)) ∙ kinds-located w (length (chars w)) (stage_marks (chars w))

-- none tested harmony exactly where there is no ending, or sUnUz, ysA or yken alone
pub none-tests : (w : List ℕ) → accepted w ≡ true → not (stage_call w).harmonic ≡ one_of untested_endings (kinds (spans_of w))
unfolding passes
none-tests w a =
    let cs = chars w in
    let ks = kinds_of (stage_marks cs) in
    let tests : (stage_call w).harmonic ≡ any tests_harmony ks =
    (call-says w a).harmonic ∙ ap is_heard (stage-found cs) ∙ heard-tests (length cs) (stage_marks-sounded cs) in
    ap not tests ∙ agrees-equal (not (any tests_harmony ks)) (one_of untested_endings ks) (every-at passes endings-pass (stage_marks-ending cs))
    ∙ ap (one_of untested_endings) (sym (kinds-spans w))

module _ (w : List ℕ) (a : accepted w ≡ true) (h : (stage_call w).harmonic ≡ true) where
  -- where harmony was tested, the first mark that does
  sounder : Sounder (chars w) (length (chars w)) (stage_marks (chars w)) (stage_heard (chars w))
  sounder = first-sounder (length (chars w)) (stage_marks-sounded (chars w)) (stage-found (chars w)) (sym (call-says w a).harmonic ∙ h)

  -- a first piece tests harmony: the offsets are those of the last vowel before its end, which lies in it, and of the nearest partner of
  -- that vowel before it, and a loan candidate has some vowel between them
  pub harmony-finds : (p : FirstHarmonic (spans_of w) (stage_call w).last)
      × TwoVowels w (stage_call w).last (stage_call w).partner (p.it.last + 1) (stage_call w).loan
  unfolding spans_of span_of last_offset partner_offset
  harmony-finds =
      let cs = chars w in
      let n = length cs in
      let c = call-says w a in
      let s = sounder in
      let m = n - total s.before in
      let bounds = harmony_found-bounds (drop (total s.before) cs) s.found in
      let last : (stage_call w).last ≡ offset w (m - s.last) = c.last ∙ ap (last_offset w) s.is in
      let inside = piece-has w m s.last s.it bounds.0 s.inside (omega (arith, length-drop (total s.before) cs)) (omega arith) in
      let piece : FirstHarmonic (spans_of w) (stage_call w).last = record {
        before = map (span_of w) (located n s.before);
        it = span_of w (kept_at m s.it);
        behind = map (span_of w) (located (m - s.it.size) s.behind);
        pieces = ap (map (span_of w)) (kept_marks-simple cs ∙ ap (located n) s.marks) ∙ spans-split w n s.before s.it s.behind;
        untested = rw (kinds-located w n s.before) s.untested;
        tested = s.tested;
        begins = rw last inside.0;
        ends = rw last inside.1;
      } in
      (piece, rw (inside.2, c.last, c.partner, c.loan, s.is) (two-vowels w a (total s.before) s.found))
