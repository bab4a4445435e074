-- From the lines of a word's pieces and the text that the stage leaves, the word can be read back in one way only, in whatever order the
-- lines stand (document 02, request 1). The kinds of the pieces tell the order in which they were kept, and then each piece has its place.
-- Assumes nothing.
use Prim.Native.Nat.{ℕ}
use mathlib.Core.Path.{◌≡◌, refl, sym, ap, ◌∙◌}
use mathlib.Core.Bool.{Bool, true, false, cond}
use mathlib.Core.List.{List, [], ◌∷◌, ◌++◌, map, map-map, cons≢nil, head-eq_of_cons-eq, tail-eq_of_cons-eq, cons-eq-cons, append_cancel_left}
use mathlib.Core.List.Memᴰ
use mathlib.Core.List.Permᴰ
use mathlib.Core.List.{Memᴰ, Permᴰ}
use lib.ListN.{length, take, drop, take-append-drop}
use lib.Seq.{take_at}
use lib.Dec.{eqb, ltb}
use Rattle.encoding.proofs.Laws.Booleans.{and_left, and_right}
use Rattle.turkish.specs.Letters.{lf}
use Rattle.turkish.specs.Calls.{chars, bytes, refusal, refusal_short_of, accepted, written, stage_text}
use Rattle.turkish.specs.PieceCalls.{Span, span_of, spans_of, piece_refusal, given, text_room, piece_line, text_of, pieces_text_refusal, pieces_text_call, PiecesTextOut}
use Rattle.theorems.specs.PieceTerms.{spelled}
use Rattle.theorems.proofs.Laws.PieceForms.{text_of-perm}
use Rattle.theorems.specs.Simple.Stage.{stage, kept}
use Rattle.theorems.specs.Simple.Pieces.{Taken, stage_marks, located}
use Rattle.theorems.proofs.Laws.Tests.{every, every-at}
use Rattle.theorems.proofs.Laws.Members.{mem-perm, mem-behind, mem-front, mem-map-mono, every_of, without, without-append, distinct, distinct_head, distinct_tail}
use Rattle.theorems.proofs.Laws.Words.{bytes-append}
use Rattle.theorems.proofs.Laws.Accepted.{bytes-chars}
use Rattle.theorems.proofs.Laws.KeyLetters.{without-removed-bytes}
use Rattle.theorems.proofs.Source.Calls.{suffix_stage-text}
use Rattle.theorems.proofs.Source.KeptStage.{kept_marks-simple}
use Rattle.theorems.proofs.PieceTheorems.{together-removed}
use Rattle.theorems.proofs.PieceLines.{named, Entry, entry_of, line_of, line-entry, line-tells, lines_of, text-entries, clear, lines-injective}
use Rattle.theorems.proofs.Shapes.{kinds_of, endings, ending-distinct, ending-named, endings-equal, stage_marks-ending, kinds-located}

-- ---- entries ----

-- the kinds of some entries
abbrev entry_kind : Entry → ℕ
entry_kind e = e.kind

abbrev kinds : List Entry → List ℕ
kinds es = map entry_kind es

-- what the lines of a word's pieces tell
abbrev entries_of : List ℕ → List Entry
entries_of w = map (entry_of w) (spans_of w)

-- the lines are the pieces'
lines-entries : (w : List ℕ) (ps : List Span) → map (piece_line w) ps ≡ map line_of (map (entry_of w) ps)
lines-entries w [] = refl
lines-entries w (p ∷ ps) = cons-eq-cons.1 (line-entry w p, lines-entries w ps)

-- the entries' letters, in the word's order
spelled_by : List Entry → List ℕ
spelled_by [] = []
spelled_by (e ∷ es) = spelled_by es ++ e.letters

-- these are the pieces' own
spelled-entries : (w : List ℕ) (ps : List Span) → spelled w ps ≡ spelled_by (map (entry_of w) ps)
unfolding spelled spelled_by
spelled-entries w [] = refl
spelled-entries w (p ∷ ps) = rw (spelled-entries w ps)

-- what does not stand among these does not stand among one entry's
without-spelled_by : (b : ℕ) {e : Entry} {es : List Entry} → Memᴰ e es → without b (spelled_by es) ≡ true → without b e.letters ≡ true
unfolding spelled_by
without-spelled_by b (Memᴰ.head {x} {xs} p) h = rw p (and_right (without b (spelled_by xs)) (without b x.letters) (rw without-append at h))
without-spelled_by b (Memᴰ.tail {x} {xs} m) h =
    without-spelled_by b m (and_left (without b (spelled_by xs)) (without b x.letters) (rw without-append at h))

-- where no kind stands twice, the first entry's kind is no other's
kind-once : (f : Entry) (fs : List Entry) {x : Entry} → distinct (kinds (f ∷ fs)) ≡ true → x.kind ≡ f.kind → Memᴰ x fs → ⊥
kind-once f fs d q m = distinct_head f.kind (kinds fs) d (Memᴰ.cast (sym q) (Memᴰ.map entry_kind m))

-- entries of the same kinds in the same order, no kind twice, are equal where each of the ones is one of the others
entries-equal : (es fs : List Entry) → kinds es ≡ kinds fs → distinct (kinds fs) ≡ true → ((x : Entry) → Memᴰ x es → Memᴰ x fs) → es ≡ fs
entries-equal [] [] k d h = refl
entries-equal [] (f ∷ fs) k d h = absurd (cons≢nil (sym k))
entries-equal (e ∷ es) [] k d h = absurd (cons≢nil k)
entries-equal (e ∷ es) (f ∷ fs) k d h =
    let j : e.kind ≡ f.kind = head-eq_of_cons-eq k in
    let first : e ≡ f = mem-front (h e (Memᴰ.head refl)) (kind-once f fs d j) in
    let once : distinct (kinds (e ∷ es)) ≡ true = rw k d in
    cons-eq-cons.1 (
      first,
      entries-equal es fs (tail-eq_of_cons-eq k) (distinct_tail f.kind (kinds fs) d)
          (λ x m. mem-behind (h x (Memᴰ.tail m)) (λ p. kind-once e es once (ap entry_kind p ∙ sym j) m)),
    )

-- the marks' kinds are those of what their lines tell
kinds-told : (w : List ℕ) (n : ℕ) (ts : List Taken) → kinds (map (entry_of w) (map (span_of w) (located n ts))) ≡ kinds_of ts
kinds-told w n ts = map-map entry_kind (entry_of w) (map (span_of w) (located n ts)) ∙ kinds-located w n ts

-- ---- words ----

-- the kinds that a word's lines tell are one of the stage's sequences
entries-ending : (w : List ℕ) → Memᴰ (kinds (entries_of w)) endings
unfolding spans_of
entries-ending w = Memᴰ.cast (rw (kept_marks-simple (chars w)) (kinds-told w (length (chars w)) (stage_marks (chars w)))) (stage_marks-ending (chars w))

-- so each has a name that tells it
entries-named : (w : List ℕ) (e : Entry) → Memᴰ e (entries_of w) → named e.kind ≡ true
entries-named w e m = every-at named (ending-named (entries-ending w)) (Memᴰ.map entry_kind m)

-- what a word's lines tell, the lines of another tell where they are the same, in whatever order
entries-subset : (u v : List ℕ) → Permᴰ (map (piece_line u) (spans_of u)) (map (piece_line v) (spans_of v))
    → (e : Entry) → Memᴰ e (entries_of u) → Memᴰ e (entries_of v)
entries-subset u v l e m =
    let n = mem-perm (rw (lines-entries u (spans_of u), lines-entries v (spans_of v)) at l) (Memᴰ.map line_of m) in
    let r = Memᴰ.of_map line_of (entries_of v) n in
    Memᴰ.cast (line-tells e r.0 (entries-named u e m) (entries-named v r.0 r.1) (sym r.2)) r.1

-- so the two words' lines tell the same in the same order
entries-same : (u v : List ℕ) → Permᴰ (map (piece_line u) (spans_of u)) (map (piece_line v) (spans_of v)) → entries_of u ≡ entries_of v
entries-same u v l =
    let there = entries-subset u v l in
    let back = entries-subset v u (Permᴰ.symm l) in
    let k = endings-equal (entries-ending u) (entries-ending v) (mem-map-mono entry_kind there) (mem-map-mono entry_kind back) in
    entries-equal (entries_of u) (entries_of v) k (ending-distinct (entries-ending v)) there

-- two accepted words with the same kept text and the same lines, in whatever order each list stands, are equal
pub lines-tell-word : (u v : List ℕ) → accepted u ≡ true → accepted v ≡ true → stage_text u ≡ stage_text v
    → Permᴰ (map (piece_line u) (spans_of u)) (map (piece_line v) (spans_of v)) → u ≡ v
lines-tell-word u v a b t l =
    let e : entries_of u ≡ entries_of v = entries-same u v l in
    let s : spelled u (spans_of u) ≡ spelled v (spans_of v) = spelled-entries u (spans_of u) ∙ ap spelled_by e ∙ sym (spelled-entries v (spans_of v)) in
    sym (together-removed u a) ∙ (rw (t, s)) ∙ together-removed v b

-- the pieces' own bytes are those of the characters that the stage removes
spelled-removed : (w : List ℕ) → accepted w ≡ true → spelled w (spans_of w) ≡ bytes (take (stage (chars w)).removed (chars w))
unfolding stage_text kept
spelled-removed w a =
    let n = (stage (chars w)).removed in
    let k : stage_text w ++ bytes (take n (chars w)) ≡ w = rw (suffix_stage-text (chars w), ← bytes-append, take-append-drop) (bytes-chars w a) in
    append_cancel_left (stage_text w) (spelled w (spans_of w)) (bytes (take n (chars w))) (together-removed w a ∙ sym k)

-- so no line of a word has an LF before its end
entries-clear : (w : List ℕ) → accepted w ≡ true → (e : Entry) → Memᴰ e (entries_of w) → clear e ≡ true
unfolding clear
entries-clear w a e m =
    let s : without lf (spelled_by (entries_of w)) ≡ true = rw (← spelled-entries w (spans_of w), spelled-removed w a) (without-removed-bytes (chars w)) in
    rw (entries-named w e m, without-spelled_by lf m s)

-- nor has one of them in any order
rearranged-clear : (w : List ℕ) (ps : List Span) → accepted w ≡ true → Permᴰ (spans_of w) ps → every clear (map (entry_of w) ps) ≡ true
rearranged-clear w ps a c = every_of clear (map (entry_of w) ps) (λ e m. entries-clear w a e (mem-perm (Permᴰ.map (entry_of w) (Permᴰ.symm c)) m))

-- two accepted words with the same kept text and the same text of lines, each in whatever order, are equal
pub texts-tell-word : (u v : List ℕ) (ps qs : List Span) → accepted u ≡ true → accepted v ≡ true → stage_text u ≡ stage_text v
    → Permᴰ (spans_of u) ps → Permᴰ (spans_of v) qs → text_of u ps ≡ text_of v qs → u ≡ v
texts-tell-word u v ps qs a b t c d e =
    let x : lines_of (map (entry_of u) ps) ≡ lines_of (map (entry_of v) qs) = sym (text-entries u ps) ∙ e ∙ text-entries v qs in
    let l = lines-injective (map (entry_of u) ps) (map (entry_of v) qs) (rearranged-clear u ps a c) (rearranged-clear v qs b d) x in
    let s : map (piece_line u) ps ≡ map (piece_line v) qs = lines-entries u ps ∙ l ∙ sym (lines-entries v qs) in
    lines-tell-word u v a b t (Permᴰ.trans (rw s at (Permᴰ.map (piece_line u) c)) (Permᴰ.symm (Permᴰ.map (piece_line v) d)))

-- ---- the calls ----

-- a call that gives no number accepts the word
given-accepted : (w : List ℕ) (room : ℕ) → eqb (pieces_text_refusal w room) 0 ≡ true → accepted w ≡ true
unfolding pieces_text_refusal piece_refusal refusal_short_of accepted
given-accepted w room e = go (eqb (refusal w) 0) refl e
  where
    go : (b : Bool) → eqb (refusal w) 0 ≡ b → eqb (cond b (cond (ltb room text_room) 5 0) (refusal w)) 0 ≡ true → b ≡ true
    go true q e = refl
    go false q e = sym q ∙ e

-- and leaves the text of its pieces, in some order, below the length that it gives
given-text : (w : List ℕ) {out after : List ℕ} → eqb (pieces_text_refusal w (length out)) 0 ≡ true → PiecesTextOut w out after
    → (ps : List Span) × Permᴰ (spans_of w) ps × (take (pieces_text_call w (length out)).length after ≡ text_of w ps)
unfolding pieces_text_call given written
given-text w {out} {after} e o =
    let r = rw e at o.lines in
    let t = text_of w r.order in
    let n : length t ≡ length (text_of w (spans_of w)) = sym (text_of-perm w r.rearranged) in
    (r.order, r.rearranged, rw e (ap (take (length (text_of w (spans_of w)))) r.holds ∙ take_at t (drop (length t) out) (length (text_of w (spans_of w))) n))

-- so two calls that leave the same text of two words with the same kept text were given one word
pub calls-tell-word : (u v : List ℕ) {o p x y : List ℕ} → eqb (pieces_text_refusal u (length o)) 0 ≡ true → eqb (pieces_text_refusal v (length p)) 0 ≡ true
    → PiecesTextOut u o x → PiecesTextOut v p y → stage_text u ≡ stage_text v
    → take (pieces_text_call u (length o)).length x ≡ take (pieces_text_call v (length p)).length y → u ≡ v
calls-tell-word u v {o} {p} e f x y k t =
    let a = given-text u e x in
    let b = given-text v f y in
    texts-tell-word u v a.0 b.0 (given-accepted u (length o) e) (given-accepted v (length p) f) k a.1 b.1 (sym a.2 ∙ t ∙ b.2)
