-- The file to open first: what the definitions of turkish promise, in the words of the user's demands. Each theorem is proved in
-- a line or two from the files named for what they prove. That the code gives these definitions' answers is the contracts' part.
-- What the calls give is what turkish.sbl's commands answer (specs of `turkish`: Snowball, Source, Answers, Heard, Pieces, Calls, PieceCalls); the
-- code's own contracts rest on simpler forms (Simple: Harmony, Grammar, Marks, Stage, Pieces, Postlude, NounMarks, Nouns, WholeRun), and that these
-- are the same is proved here. The call on a front and its tails has its theorems in the crate `batches`.
-- Assumes nothing.
use Prim.Native.Nat.{ℕ, ◌+◌, ◌*◌, ◌≤◌, ◌<◌}
use Prim.Native.Char.{code}
use Prim.Native.String.{String}
use mathlib.Core.Path.{◌≡◌, refl, sym, ap, ◌∙◌}
use mathlib.Core.Bool.{Bool, true, false, cond, not}
use mathlib.Core.List.{List, ◌++◌, map, reverse, Memᴰ, Permᴰ}
use mathlib.Core.Logic.{◌↔◌}
use native.Mathlib.Omega.{arith}
use lib.ListN.{length, take, drop, get_or, replicate, length-drop}
use lib.Dec.{eqb}
use Rattle.encoding.specs.Validity.{is_text}
use Rattle.encoding.specs.Encoding.{continuation}
use Rattle.turkish.specs.Letters.{has, starts}
use Rattle.turkish.specs.Snowball.{State, ahead, place, Result, done, failed, Direction, forward, backward, letters, deep, Command, define, ◌then◌, try, literal, routine, itself, run}
use Rattle.turkish.specs.Source as source
use Rattle.turkish.specs.Answers.{called, succeeded, left, syllable_check, stemmed, suffix_stage, repaired, postlude_of, uninflected, noun_stage, whole_run}
use Rattle.turkish.specs.Pieces.{alone, with_y, after_vowel, heard_by, reading}
use Rattle.theorems.specs.Simple.Harmony.{harmony_found, harmony, more_than_one_syllable}
use Rattle.theorems.specs.Simple.Grammar.{took, joining, Mark, mark_of}
use Rattle.theorems.specs.Simple.Marks.{by_y, yUm, sUn, yUz, sUnUz, lAr, nUz, DUr, cAsInA, yDU, ysA, ymUs, yken}
use Rattle.theorems.specs.Simple.NounMarks.{by_n, by_s, by_U, possessives, sU, lArI, yU, nU, nUn, yA, nA, DA, ndA, DAn, ndAn, ylA, ki, ncA}
use Rattle.theorems.specs.Simple.Stage.{stage, kept}
use Rattle.theorems.specs.Simple.Nouns as nouns
use Rattle.theorems.specs.Simple.WholeRun as whole
use Rattle.theorems.specs.Simple.Pieces.{stage_marks, heard_at, located}
use Rattle.theorems.specs.Simple.Postlude.{reserved, appends, append_U, harden, postlude, postlude_yes}
use Rattle.theorems.specs.Simple.Tables.{Table, tables, nonzero}
use Rattle.turkish.specs.Fold.{capitals01, fold_by}
use Rattle.turkish.specs.Calls.{chars, bytes, limit, refusal, accepted, stage_text, stage_part_of, stage_call, postlude_text, postlude_refusal, postlude_out}
use Rattle.turkish.specs.Calls.{fold_text, fold_refusal, fold_call, fold_out, pass_text, pass_refusal, pass_out}
use Rattle.turkish.specs.Calls.{noun_text, noun_refusal, noun_out, whole_text, whole_refusal, whole_out}
use Rattle.theorems.specs.Replies.{Call, refusal_from, reply, GivesOnly}
use Rattle.theorems.specs.NounParts.{NounPart}
use Rattle.turkish.specs.PieceCalls.{Span, spans_of, given, most_pieces, pieces_room, buffer, buffer_of, pieces_refusal, PiecesOut, text_room, piece_line, text_of}
use Rattle.turkish.specs.PieceCalls.{pieces_text_refusal, pieces_text_call, PiecesTextOut}
use Rattle.theorems.specs.PieceTerms.{EndToEnd, between, covering, spelled, most_bytes}
use Rattle.theorems.specs.HeardTerms.{TwoVowels, untested_endings, kinds, FirstHarmonic, all_marks, KeyVowel}
use Rattle.theorems.specs.Fronts.{most_removed, front, Pair, reaches_reserved, pass_gives, SameAnswers, left_empty, one_of}
use Rattle.theorems.proofs.Source.Means.{settled, Means, take_if}
use Rattle.theorems.proofs.Source.Harmony.{harmony-means}
use Rattle.theorems.proofs.Source.Stops.{harmony-heard}
use Rattle.theorems.proofs.Source.Marks.{by_y-means, yUm-means, sUn-means, yUz-means, sUnUz-means, lAr-means, nUz-means, DUr-means, cAsInA-means, yDU-means, ysA-means, ymUs-means, yken-means}
use Rattle.theorems.proofs.Source.NounMarks.{possessives-means, sU-means, lArI-means, yU-means, nU-means, nUn-means, yA-means, nA-means, DA-means, ndA-means, DAn-means}
use Rattle.theorems.proofs.Source.NounMarks.{ndAn-means, ylA-means, ki-means, ncA-means}
use Rattle.theorems.proofs.Source.NounMarks.{by_n-means, by_s-means, by_U-means, ndA-dead, lArI-dead}
use Rattle.theorems.proofs.Source.NounChain.{chain_body, chain-any-depth, chain-is-text}
use Rattle.theorems.proofs.Source.NounStage.{noun-answers, noun_stage-simple}
use Rattle.theorems.proofs.Source.WholeRun.{whole-answers, whole_run-simple}
use Rattle.theorems.proofs.Source.Stage.{stage-answers, suffix_stage-simple}
use Rattle.theorems.proofs.Source.KeptStage.{keeps-of-source}
use Rattle.theorems.proofs.Source.Syllables.{syllables-run, syllable_check-simple}
use Rattle.theorems.proofs.Source.Postlude.{postlude-answers}
use Rattle.theorems.proofs.Source.Calls.{suffix_stage-text, postlude_of-text}
use Rattle.theorems.proofs.Source.Recursion.{CallsBehind, deep-same, routine-text, calls-itself, calls-try, calls-behind, shortens-literal}
use Rattle.theorems.proofs.Laws.Bounds.{stage-most, stage-yes, stage-no}
use Rattle.theorems.proofs.Laws.Leaves.{stage-within}
use Rattle.theorems.proofs.Laws.RemovedBytes.{stage_text-most}
use Rattle.theorems.proofs.Laws.Joints.{joins}
use Rattle.theorems.proofs.Laws.FirstLetters.{tell_joined}
use Rattle.theorems.proofs.Laws.PieceForms.{buffer_of-perm, text_of-perm, none_written}
use Rattle.theorems.proofs.Laws.Accepted.{accepted-iff}
use Rattle.turkish.proofs.Limit.{limit-96}
use Rattle.theorems.proofs.Replies.{refused-only, answered-0}
use Rattle.theorems.proofs.Fronts.{pair-fares-alike}
use Rattle.theorems.proofs.Nothing.{left-empty}
use Rattle.theorems.proofs.Laws.Syllables.{more_than_one_syllable-no}
use Rattle.theorems.proofs.Sizes.{postlude_text-size, pass_text-size, noun_text-size, whole_text-size, stage_text-length, stage_part_of-front}
use Rattle.theorems.proofs.NounParts.{noun_text-part, noun_text-changes}
use Rattle.theorems.proofs.Texts.{calls-text}
use Rattle.theorems.proofs.Folds.{fold_text-doubled, fold_text-before, fold_text-text, fold_text-fold_text, fold_call-fits, fold_call-short, fold_call-long}
use Rattle.theorems.proofs.Folds.{letters-I-text, letters-I-length, letters-I-folded, letters-ı-length}
use Rattle.turkish.proofs.FoldWords as FoldWords
use Rattle.theorems.proofs.Tables.{one_key, key-letters, key-start}
use Rattle.theorems.proofs.PostludeRules.{postlude-one}
use Rattle.theorems.proofs.PieceTheorems.{at-most-three-pieces, kinds-1-to-12, end_to_end, together-removed, covered-once, pieces-within, joined-told, buffer-fits, buffer-bytes, text-fits}
use Rattle.theorems.proofs.ReadBack.{lines-tell-word, texts-tell-word, calls-tell-word}
use Rattle.theorems.proofs.PieceTexts.{text_of-text}
use Rattle.turkish.proofs.PieceWords as PieceWords
use Rattle.theorems.proofs.HeardTheorems.{harmony-finds, not-harmonic, none-tests, key-vowel}
use Rattle.turkish.proofs.HeardWords as HeardWords
use Rattle.turkish.proofs.CallWords as CallWords
use Rattle.turkish.proofs.Starred as Starred
use Rattle.turkish.proofs.NounWords as NounWords

-- ---- demand 1: who is refused, what a refused call gives, and that its output stays ----

-- a word is accepted exactly when it has no more bytes than the limit and is UTF-8
pub accepts-exactly : (w : List ℕ) → (accepted w ≡ true) ↔ ((length w ≤ limit) × (is_text w ≡ true))
accepts-exactly w = accepted-iff w

-- 96 bytes pass and 97 do not (document 02, request 6): a text of up to 96 is accepted, and more bytes, whatever they are, are refused under 1
pub passes-96-not-97 : (w : List ℕ) → (length w ≤ 96 → is_text w ≡ true → accepted w ≡ true) × (96 < length w → refusal w ≡ 1)
passes-96-not-97 = limit-96

-- "A refused call gives its number, length and any other number or count 0, every yes/no answer no, flag false, an empty part where a part is
-- handed back": every call on a word. That no lent byte changes is what `refused-stays` and `refused-pieces-stay` say
pub refused-gives-nothing : (c : Call) → (refusal_from c ≡ 0 → ⊥) → GivesOnly (refusal_from c) (reply c)
refused-gives-nothing = refused-only

-- and one that is not refused gives number 0
pub answered-gives-0 : (c : Call) → refusal_from c ≡ 0 → (reply c).number ≡ 0
answered-gives-0 = answered-0

-- whole answers of each call, answered and refused, and the outputs after it, computed from turkish.sbl's own commands; those of the fold are in
-- `words-folded`, and of the calls on pieces in `words-with-pieces`
pub words-answered-and-refused : CallWords.AnsweredMet × CallWords.RefusedMet × CallWords.OutputsMet
words-answered-and-refused = CallWords.calls-met

-- a call refused under any number leaves its output as it was
pub refused-stays : (w out : List ℕ)
    → (eqb (postlude_refusal w (length out)) 0 ≡ false → postlude_out w out ≡ out)
    × (eqb (fold_refusal w (length out)) 0 ≡ false → fold_out w out ≡ out)
    × (eqb (pass_refusal w (length out)) 0 ≡ false → pass_out w out ≡ out)
    × (eqb (noun_refusal w (length out)) 0 ≡ false → noun_out w out ≡ out)
    × (eqb (whole_refusal w (length out)) 0 ≡ false → whole_out w out ≡ out)
unfolding postlude_out fold_out pass_out noun_out whole_out
refused-stays w out = (λ e. rw e, λ e. rw e, λ e. rw e, λ e. rw e, λ e. rw e)

-- the outputs asked for suffice: n + 2 bytes for postlude, pass and whole run, n for the noun stage, and 2n for the fold; what the fold asks
-- for is `fold-refuses-short`
pub outputs-suffice : (w : List ℕ) → accepted w ≡ true
    → (length (postlude_text w) ≤ length w + 2) × (length (pass_text w) ≤ length w + 2) × (length (fold_text w) ≤ 2 * length w)
    × (length (noun_text w) ≤ length w) × (length (whole_text w) ≤ length w + 2)
outputs-suffice w a =
    (postlude_text-size w a, pass_text-size w a, (fold_text-doubled w ((accepted-iff w).0 a).1).0, noun_text-size w a, whole_text-size w a)

-- what the calls give of an accepted word is UTF-8, as `folded-is-text` says of the fold
pub texts-are-text : (w : List ℕ) → accepted w ≡ true
    → (is_text (stage_text w) ≡ true) × (is_text (postlude_text w) ≡ true) × (is_text (pass_text w) ≡ true)
    × (is_text (noun_text w) ≡ true) × (is_text (whole_text w) ≡ true)
texts-are-text = calls-text

-- ---- demand 2: turkish.sbl, and the simple forms that the code's contracts rest on ----

-- in whatever state it is entered at the text's end, the suffix stage leaves the simple form's text, answer and flag
pub stage-of-source : (s : State) → s.cursor ≡ 0
    → stemmed (called backward source.stem_nominal_verb_suffixes s) ≡ record { yes = (stage s.text).yes; text = kept s.text; flag = (stage s.text).flag }
stage-of-source = stage-answers

-- entered so, it keeps the simple form's marks in the same order, each with its joint, what its harmony test found and between its places: the
-- pieces of the ending
pub pieces-of-source : (s : State) → s.cursor ≡ 0
    → (reading backward failed source.stem_nominal_verb_suffixes s).kept ≡ located (length s.text) (stage_marks s.text)
pieces-of-source = keeps-of-source

-- from any place, the syllable check answers what the simple form answers of the characters ahead, and changes nothing
pub syllables-of-source : (s : State) → settled s.cursor (called forward source.more_than_one_syllable_word s)
    ≡ cond (more_than_one_syllable (reverse (ahead s))) (done s) (failed s)
unfolding called
syllables-of-source s = syllables-run failed s

-- and the postlude leaves the simple form's text and answer
pub postlude-of-source : (s : State) → s.cursor ≡ 0
    → repaired (called forward source.postlude s) ≡ record { yes = postlude_yes (reverse s.text); text = postlude (reverse s.text) }
postlude-of-source = postlude-answers

-- harmony takes nothing, and succeeds where the simple form finds it
pub harmony-of-source : Means backward source.check_vowel_harmony (λ cs. take_if (harmony cs) 0)
harmony-of-source = harmony-means

-- and where it succeeds, its two walks stopped at the two vowels that the simple form finds
pub harmony-stops-of-source : (self : State → Result) (s : State) → harmony (ahead s) ≡ true
    → heard_by (reading backward self source.check_vowel_harmony s).stops ≡ heard_at (place s) (harmony_found (ahead s))
harmony-stops-of-source = harmony-heard

-- the optional letters: y, n and s after a vowel, U after a character that is none
pub optional-letters-of-source : Means backward source.mark_suffix_with_optional_y_consonant (joining by_y)
    × Means backward source.mark_suffix_with_optional_n_consonant (joining by_n)
    × Means backward source.mark_suffix_with_optional_s_consonant (joining by_s)
    × Means backward source.mark_suffix_with_optional_U_vowel (joining by_U)
optional-letters-of-source = (by_y-means, by_n-means, by_s-means, by_U-means)

-- the suffix stage's twelve marks
pub marks-of-source : Means backward source.mark_yUm (mark_of yUm) × Means backward source.mark_sUn (mark_of sUn)
    × Means backward source.mark_yUz (mark_of yUz) × Means backward source.mark_sUnUz (mark_of sUnUz)
    × Means backward source.mark_lAr (mark_of lAr) × Means backward source.mark_nUz (mark_of nUz)
    × Means backward source.mark_DUr (mark_of DUr) × Means backward source.mark_cAsInA (mark_of cAsInA)
    × Means backward source.mark_yDU (mark_of yDU) × Means backward source.mark_ysA (mark_of ysA)
    × Means backward source.mark_ymUs_ (mark_of ymUs) × Means backward source.mark_yken (mark_of yken)
marks-of-source =
    (yUm-means, sUn-means, yUz-means, sUnUz-means, lAr-means, nUz-means, DUr-means, cAsInA-means, yDU-means, ysA-means, ymUs-means, yken-means)

-- a routine that calls itself, where each call has read something: how many calls deep the definition goes does not matter
pub depth-is-free : (d : Direction) (p : Command) → CallsBehind (λ again. run d again p) → (m n : ℕ) (s : State)
    → length (ahead s) < m → length (ahead s) < n → deep (λ again. run d again p) m s ≡ deep (λ again. run d again p) n s
depth-is-free d p r = deep-same r

-- and the routine is its own text with itself called in it
pub self-calls : (d : Direction) (self : State → Result) (p : Command) → CallsBehind (λ again. run d again p)
    → (s : State) → run d self (routine p) s ≡ run d (run d self (routine p)) p s
self-calls = routine-text

-- as one that reads a literal and then may call itself
pub literal-then-itself : (d : Direction) (self : State → Result) (l : String) → 0 < length (letters d l) → let p = literal l then try itself in
    (s : State) → run d self (routine p) s ≡ run d (run d self (routine p)) p s
literal-then-itself d self l n =
    let calls = calls-behind d (literal l) (try itself) (shortens-literal d l n) (calls-try d itself (calls-itself d)) in
    routine-text d self (literal l then try itself) calls

-- ---- demand 3 ----

-- two accepted words of 16 characters or more that share their last 16, with fronts alike in their vowels, fare alike in any calls of
-- the pass with outputs long enough: the three further answers are equal, and the results differ in the fronts alone, unless what
-- reaches the postlude is `ad` or `soyad` for one of them
pub fronts-fare-alike : (u v o p : List ℕ) → Pair u v → length u + 2 ≤ length o → length v + 2 ≤ length p
    → SameAnswers (pass_gives u o) (pass_gives v p)
    × (reaches_reserved (chars u) ≡ false → reaches_reserved (chars v) ≡ false
    → (e : List ℕ) × ((pass_gives u o).text ≡ front u ++ e) × ((pass_gives v p).text ≡ front v ++ e))
fronts-fare-alike = pair-fares-alike

-- of an accepted word the suffix stage leaves nothing exactly when it is empty, siniz, sunuz, sınız or sünüz
pub nothing-left : (w : List ℕ) → accepted w ≡ true → eqb (stage_call w).length 0 ≡ one_of left_empty w
unfolding stage_call
nothing-left w a = rw (a, stage_text-length w a) (left-empty w a)

-- ---- words with their outcome ----

-- the starred words of document 01
pub starred-words : Starred.Met Starred.table
starred-words = (Starred.outcomes).0

-- the words that tell its plausible misreadings apart
pub misreadings-told : Starred.Met Starred.misread
misreadings-told = (Starred.outcomes).1

-- ---- the suffix stage ----

-- it leaves a front part of the word's characters, and removes at most 15
pub removes-at-most-15 : (cs : List ℕ) → (k : ℕ) × (k ≤ most_removed) × (k ≤ length cs) × ((suffix_stage cs).text ≡ drop k cs)
unfolding kept
removes-at-most-15 cs = ((stage cs).removed, stage-most cs, stage-within cs, suffix_stage-text cs)

-- what it hands back is a front part of the word's bytes
pub keeps-a-front : (w : List ℕ) → stage_part_of w ≡ take (length (stage_part_of w)) w
keeps-a-front = stage_part_of-front

-- a yes means that something was removed; a no that nothing was, and then the flag is true
pub yes-removes : (cs : List ℕ) → ((suffix_stage cs).yes ≡ true → length (suffix_stage cs).text < length cs)
    × ((suffix_stage cs).yes ≡ false → suffix_stage cs ≡ record { yes = false; text = cs; flag = true })
unfolding kept
yes-removes cs =
    rw (suffix_stage-simple cs)
    (λ e. omega (arith, length-drop (stage cs).removed cs, stage-yes cs e, stage-within cs), λ e. rw (e, (stage-no cs e).0, (stage-no cs e).1))

-- where the syllable check says no, the stage says no with flag true
pub one-syllable-has-no-ending : (cs : List ℕ) → syllable_check cs ≡ false → suffix_stage cs ≡ record { yes = false; text = cs; flag = true }
unfolding kept
one-syllable-has-no-ending cs e =
    let none = more_than_one_syllable-no cs (sym (syllable_check-simple cs) ∙ e) in
    suffix_stage-simple cs ∙ rw none

-- ---- the pieces of an ending (document 02, request 1) ----

-- words with their pieces, both forms, the calls' answers and the entries for Rattle callers, computed from turkish.sbl's own commands; and the
-- kinds with their numbers
pub words-with-pieces : PieceWords.Pieced PieceWords.table × PieceWords.Formed PieceWords.forms × PieceWords.AnswersMet × PieceWords.ToldMet × PieceWords.KindsMet
words-with-pieces = ((PieceWords.words-met).0, (PieceWords.words-met).1, (PieceWords.words-met).2, (PieceWords.words-met).3, PieceWords.kinds-met)

-- a word has at most three pieces, and each has a kind from 1 to 12
pub three-pieces-at-most : (w : List ℕ) → (length (spans_of w) ≤ most_pieces) × ((p : Span) → Memᴰ p (spans_of w) → (0 < p.kind) × (p.kind ≤ 12))
three-pieces-at-most w = (at-most-three-pieces w, kinds-1-to-12 w)

-- they lie end to end from the word's end down to the kept text's
pub pieces-end-to-end : (w : List ℕ) → accepted w ≡ true → EndToEnd (length w) (spans_of w) (length (stage_text w))
pieces-end-to-end = end_to_end

-- and are together exactly what was removed: the kept text and their letters are the word
pub pieces-are-what-was-removed : (w : List ℕ) → accepted w ≡ true → stage_text w ++ spelled w (spans_of w) ≡ w
pieces-are-what-was-removed = together-removed

-- in every order each byte that was removed is in one piece, and no other byte is in any
pub each-byte-in-one-piece : (w : List ℕ) {ps : List Span} → accepted w ≡ true → Permᴰ (spans_of w) ps → (i : ℕ)
    → covering i ps ≡ between (length (stage_text w)) (length w) i
each-byte-in-one-piece = covered-once

-- a piece of the six kinds that an optional y may join did so with a y exactly where its first letter is one; the other six join alone
pub joined-by-first-letter : (w : List ℕ) (p : Span) → accepted w ≡ true → Memᴰ p (spans_of w)
    → p.joined ≡ cond (joins p.kind) (cond (eqb (get_or w p.first 0) 0x79) with_y after_vowel) alone
unfolding tell_joined
joined-by-first-letter = joined-told

-- no more than 20 bytes are removed, and every piece lies within them
pub pieces-within-20-bytes : (w : List ℕ) → accepted w ≡ true → (length w ≤ length (stage_text w) + most_bytes)
    × ((p : Span) → Memᴰ p (spans_of w) → (length (stage_text w) ≤ p.first) × (p.first ≤ p.last) × (p.last < length (stage_text w) + most_bytes))
pieces-within-20-bytes w a = (stage_text-most w a, λ p i. pieces-within w p a i)

-- so in every order all that the buffer holds, kinds and distances, are bytes
pub distances-are-bytes : (w : List ℕ) {ps : List Span} → accepted w ≡ true → Permᴰ (spans_of w) ps
    → (b : ℕ) → Memᴰ b (buffer_of w ps) → b < 256
distances-are-bytes = buffer-bytes

-- in every order the pieces fit their buffers, and take as much of them
pub forms-fit : (w : List ℕ) {ps : List Span} → accepted w ≡ true → Permᴰ (spans_of w) ps
    → (length (buffer_of w ps) ≤ pieces_room) × (length (text_of w ps) ≤ text_room)
    × (length (buffer_of w ps) ≡ length (buffer_of w (spans_of w))) × (length (text_of w ps) ≡ length (text_of w (spans_of w)))
forms-fit w a r = (buffer-fits w r, text-fits w a r, sym (buffer_of-perm w r), sym (text_of-perm w r))

-- in every order their text form is UTF-8
pub pieces-are-text : (w : List ℕ) {ps : List Span} → accepted w ≡ true → Permᴰ (spans_of w) ps → is_text (text_of w ps) ≡ true
pieces-are-text = text_of-text

-- a refused call leaves its buffer as it was
pub refused-pieces-stay : (w before after : List ℕ)
    → (eqb (pieces_refusal w (length before)) 0 ≡ false → PiecesOut w before after → after ≡ before)
    × (eqb (pieces_text_refusal w (length before)) 0 ≡ false → PiecesTextOut w before after → after ≡ before)
unfolding given buffer_of buffer text_of
refused-pieces-stay w before after =
    (λ e o. none_written (buffer_of w) refl (rw e at o.pieces), λ e o. none_written (text_of w) refl (rw e at o.lines))

-- from the kept text and the lines, in whatever order they stand, the word can be read back in one way only
pub lines-read-back-one-way : (u v : List ℕ) → accepted u ≡ true → accepted v ≡ true → stage_text u ≡ stage_text v
    → Permᴰ (map (piece_line u) (spans_of u)) (map (piece_line v) (spans_of v)) → u ≡ v
lines-read-back-one-way = lines-tell-word

-- so too from two texts, each in an order of its own
pub texts-read-back-one-way : (u v : List ℕ) (ps qs : List Span) → accepted u ≡ true → accepted v ≡ true → stage_text u ≡ stage_text v
    → Permᴰ (spans_of u) ps → Permᴰ (spans_of v) qs → text_of u ps ≡ text_of v qs → u ≡ v
texts-read-back-one-way = texts-tell-word

-- so two calls that leave the same text below the lengths that they give, of two words with the same kept text, were given one word
pub calls-read-back-one-way : (u v : List ℕ) {o p x y : List ℕ} → eqb (pieces_text_refusal u (length o)) 0 ≡ true → eqb (pieces_text_refusal v (length p)) 0 ≡ true
    → PiecesTextOut u o x → PiecesTextOut v p y → stage_text u ≡ stage_text v
    → take (pieces_text_call u (length o)).length x ≡ take (pieces_text_call v (length p)).length y → u ≡ v
calls-read-back-one-way = calls-tell-word

-- ---- which vowels harmony found (document 02, request 5) ----

-- words with what the stage's call gives of harmony, computed from turkish.sbl's own commands, and a refused one
pub words-heard : HeardWords.Met HeardWords.table × HeardWords.RefusedMet
words-heard = HeardWords.outcomes

-- of the first piece, in order of running, that tests harmony: the offsets are the starts of the last vowel up to its end, which lies in it, and
-- of the nearest of that vowel's partners before it; the word is a loan candidate exactly where some vowel stands between the two
pub vowels-found : (w : List ℕ) → accepted w ≡ true → (stage_call w).harmonic ≡ true
    → (p : FirstHarmonic (spans_of w) (stage_call w).last) × TwoVowels w (stage_call w).last (stage_call w).partner (p.it.last + 1) (stage_call w).loan
vowels-found = harmony-finds

-- where no piece tests harmony, there are no offsets and no loan candidate
pub no-vowels-found : (w : List ℕ) → (stage_call w).harmonic ≡ false
    → ((stage_call w).last ≡ 0) × ((stage_call w).partner ≡ 0) × ((stage_call w).loan ≡ false)
no-vowels-found = not-harmonic

-- and that is so exactly for no ending, and for sUnUz, ysA or yken alone
pub none-tests-harmony : (w : List ℕ) → accepted w ≡ true
    → not (stage_call w).harmonic ≡ one_of untested_endings (kinds (spans_of w))
none-tests-harmony = none-tests

-- for a mark that fits and tests harmony, of the suffix stage's or the noun stage's, the last vowel is its key's own
pub last-vowel-is-the-key's : (m : Mark) → Memᴰ m all_marks → (cs : List ℕ) {k : ℕ} {f : Bool} → mark_of m cs ≡ took k f → m.harmonic ≡ true
    → KeyVowel m.keys cs k
last-vowel-is-the-key's = key-vowel

-- ---- the fold (document 02, request 2) ----

-- headings with their folded texts and the calls' answers, each with an output that is long enough and one that is a byte short
pub words-folded : FoldWords.Folded FoldWords.table
words-folded = FoldWords.words-met

-- an accepted word is refused, under 3, exactly where the output is shorter than its folded text
pub fold-refuses-short : (w : List ℕ) (room : ℕ) → accepted w ≡ true
    → (length (fold_text w) ≤ room → fold_call w room ≡ record { refusal = 0; length = length (fold_text w) })
    × (room < length (fold_text w) → fold_call w room ≡ record { refusal = 3; length = 0 })
fold-refuses-short w room a = (fold_call-fits w room a, fold_call-short w room a)

-- the folded text of a text is a text
pub folded-is-text : (w : List ℕ) → is_text w ≡ true → is_text (fold_text w) ≡ true
folded-is-text = fold_text-text

-- folding twice is folding once
pub folds-once : (w : List ℕ) → is_text w ≡ true → fold_text (fold_text w) ≡ fold_text w
folds-once = fold_text-fold_text

-- its length is at most twice the word's and at least half of it
pub folded-length : (w : List ℕ) → is_text w ≡ true → (length (fold_text w) ≤ 2 * length w) × (length w ≤ 2 * length (fold_text w))
folded-length = fold_text-doubled

-- a word without I and İ folds as before, by document 01's letters, to as many bytes
pub folds-as-before : (w : List ℕ) → is_text w ≡ true → has (chars w) (code "I") ≡ false → has (chars w) (code "İ") ≡ false
    → (fold_text w ≡ bytes (map (fold_by capitals01) (chars w))) × (length (fold_text w) ≡ length w)
folds-as-before = fold_text-before

-- n letters I, up to the limit, fold to n letters ı, of twice as many bytes: with an output of 2n bytes the call gives 2n, and with any
-- shorter one number 3
pub letters-I-double : (n : ℕ) → n ≤ limit → let w = bytes (replicate n (code "I")) in
    (length w ≡ n) × (fold_text w ≡ bytes (replicate n (code "ı"))) × (fold_call w (2 * n) ≡ record { refusal = 0; length = 2 * n })
    × ((room : ℕ) → room < 2 * n → fold_call w room ≡ record { refusal = 3; length = 0 })
letters-I-double n h =
    let w = bytes (replicate n (code "I")) in
    let l : length (fold_text w) ≡ 2 * n = ap length (letters-I-folded n) ∙ letters-ı-length n in
    let a : accepted w ≡ true = (accepted-iff w).1 (rw (letters-I-length n) h, letters-I-text n) in (
      letters-I-length n,
      letters-I-folded n,
      rw l at (fold_call-fits w (2 * n) a (omega arith)),
      λ room k. fold_call-short w room a (omega arith),
    )

-- so 96 letters I fold to 192 bytes, and 97 are refused under 1 (document 02, request 6)
pub letters-I-96-to-192 : (fold_call (bytes (replicate 96 (code "I"))) 192 ≡ record { refusal = 0; length = 192 })
    × ((room : ℕ) → fold_call (bytes (replicate 97 (code "I"))) room ≡ record { refusal = 1; length = 0 })
unfolding limit
letters-I-96-to-192 =
    let w = bytes (replicate 97 (code "I")) in
    ((letters-I-double 96 (omega arith)).2, λ room. fold_call-long w room (rw (letters-I-length 97) (omega arith)))

-- ---- the noun stage and the whole run (document 02, request 4) ----

-- words of the noun stage with their outcome, computed from turkish.sbl's own commands
pub noun-words : NounWords.Met NounWords.nouns
noun-words = (NounWords.outcomes).0

-- and words of the whole run
pub whole-words : NounWords.Met NounWords.wholes
whole-words = (NounWords.outcomes).1

-- in whatever state it is entered at the text's end, the noun stage leaves the simple form's text and answer
pub noun-of-source : (s : State) → s.cursor ≡ 0
    → uninflected (called backward source.stem_noun_suffixes s) ≡ record { yes = nouns.noun_yes s.text; text = nouns.noun_leaves s.text }
noun-of-source = noun-answers

-- its fifteen marks; lAr is the suffix stage's
pub noun-marks-of-source : Means backward source.mark_possessives (mark_of possessives) × Means backward source.mark_sU (mark_of sU)
    × Means backward source.mark_lArI (mark_of lArI) × Means backward source.mark_yU (mark_of yU)
    × Means backward source.mark_nU (mark_of nU) × Means backward source.mark_nUn (mark_of nUn)
    × Means backward source.mark_yA (mark_of yA) × Means backward source.mark_nA (mark_of nA)
    × Means backward source.mark_DA (mark_of DA) × Means backward source.mark_ndA (mark_of ndA)
    × Means backward source.mark_DAn (mark_of DAn) × Means backward source.mark_ndAn (mark_of ndAn)
    × Means backward source.mark_ylA (mark_of ylA) × Means backward source.mark_ki (mark_of ki)
    × Means backward source.mark_ncA (mark_of ncA)
noun-marks-of-source =
    (possessives-means, sU-means, lArI-means, yU-means, nU-means, nUn-means, yA-means, nA-means, DA-means, ndA-means, DAn-means, ndAn-means, ylA-means, ki-means, ncA-means)

-- in whatever state it is entered at the text's start, the whole run leaves the simple form's text
pub whole-of-source : (s : State) → s.cursor ≡ 0 → reverse (left (called forward source.stem s)).text ≡ whole.whole_leaves (reverse s.text)
whole-of-source = whole-answers

-- so it is the stages one after the other: a word of one syllable stays; else the suffix stage, and unless its flag is down the noun stage
-- of what that leaves and the postlude of what this does
pub whole-is-the-stages : (cs : List ℕ) → whole_run cs ≡ cond (syllable_check cs)
    (cond (suffix_stage cs).flag (postlude_of (noun_stage (suffix_stage cs).text).text).text (suffix_stage cs).text) cs
unfolding whole.whole_leaves
whole-is-the-stages cs =
    rw (whole_run-simple cs, syllable_check-simple cs, suffix_stage-simple cs, noun_stage-simple (kept cs), postlude_of-text (nouns.noun_leaves (kept cs)))

-- the chain before `ki` calls itself, each time behind a `ki`: how many calls deep its definition goes does not matter
pub chain-depth-is-free : (m n : ℕ) (s : State) → length (ahead s) < m → length (ahead s) < n
    → deep (λ again. run backward again chain_body) m s ≡ deep (λ again. run backward again chain_body) n s
chain-depth-is-free = chain-any-depth

-- these are its commands, and it is they with itself called in them
pub chain-calls-itself : (source.stem_suffix_chain_before_ki ≡ define "stem_suffix_chain_before_ki" (routine chain_body))
    × ((self : State → Result) (s : State)
    → run backward self source.stem_suffix_chain_before_ki s ≡ run backward (run backward self source.stem_suffix_chain_before_ki) chain_body s)
unfolding source.stem_suffix_chain_before_ki
chain-calls-itself = (refl, chain-is-text)

-- ndA fails wherever DA does, and lArI wherever sU does: the chain's third alternative (line 351) and line 384's lArI are dead
pub dead-alternatives : (s : State)
    → (succeeded (called backward source.mark_DA s) ≡ false → succeeded (called backward source.mark_ndA s) ≡ false)
    × (succeeded (called backward source.mark_sU s) ≡ false → succeeded (called backward source.mark_lArI s) ≡ false)
dead-alternatives s = (ndA-dead s, lArI-dead s)

-- of an accepted word the noun stage leaves a front part, or one with the word's own last na, ne, nda or nde behind it
pub noun-parts : (w : List ℕ) → accepted w ≡ true → NounPart w (noun_text w)
noun-parts = noun_text-part

-- it says yes exactly where the text is another one
pub noun-yes-changes : (w : List ℕ) → accepted w ≡ true → ((noun_stage (chars w)).yes ≡ true) ↔ (noun_text w ≡ w → ⊥)
noun-yes-changes = noun_text-changes

-- and never makes a word longer
pub noun-never-longer : (w : List ℕ) → accepted w ≡ true → length (noun_text w) ≤ length w
noun-never-longer = noun_text-size

-- ---- the key tables and the postlude's rules ----

-- at most one key of a table ends a text
pub at-most-one-key : (cs : List ℕ) {t : Table} {j k : List ℕ} → Memᴰ t tables → Memᴰ j t.keys → Memᴰ k t.keys
    → starts j cs ≡ true → starts k cs ≡ true → j ≡ k
at-most-one-key = one_key

-- a key has a letter, no more letters than its table's width, and none that is 0
pub keys-have-letters : {t : Table} {k : List ℕ} → Memᴰ t tables → Memᴰ k t.keys → (0 < length k) × (length k ≤ t.width) × (nonzero k ≡ true)
keys-have-letters = key-letters

-- keys match only from a character's start: the first byte of each is a lead byte
pub keys-begin-characters : {t : Table} {k : List ℕ} → Memᴰ t tables → Memᴰ k t.keys
    → (0 < length (bytes k)) × (continuation (get_or (bytes k) 0 0) ≡ false)
keys-begin-characters = key-start

-- the postlude's three rules never act together: a reserved word stays, a vowel is gained, or the last consonant hardens
pub one-rule-acts : (cs : List ℕ) → (postlude_of cs).text ≡ cond (reserved cs) cs (cond (appends cs) (append_U cs) (harden cs))
one-rule-acts cs = postlude_of-text cs ∙ postlude-one cs
