-- The text form of a word's pieces is a text, in whatever order they stand: each line is made of a kind's name, a tab, whole characters of
-- the word and an LF. Assumes nothing.
use Prim.Native.Nat.{ℕ, ◌+◌, ◌-◌, ◌≤◌, ◌<◌}
use Prim.Native.String.{String}
use mathlib.Core.Path.{◌≡◌, refl, sym, ap, ◌∙◌}
use mathlib.Core.Bool.{Bool, true}
use mathlib.Core.List.Memᴰ
use mathlib.Core.List.Permᴰ
use mathlib.Core.List.{List, [], ◌∷◌, ◌++◌, reverse, Memᴰ, Permᴰ}
use native.Mathlib.Omega.{arith}
use lib.ListN.{length, take, drop, take-append-drop, length-append}
use lib.Seq.{take-add, take_at, drop-append_seam}
use lib.Dec.{eqb}
use Rattle.encoding.specs.Encoding.{encode_all}
use Rattle.encoding.specs.Text.{TextOf}
use Rattle.encoding.specs.Validity.{due, table37, lead_in, lead, next, accepts, is_text}
use Rattle.encoding.proofs.CheckExact.{is_text-encodes, is_text-iff}
use Rattle.encoding.proofs.Laws.Booleans.{and_left, and_right, cond_both}
use Rattle.encoding.proofs.Laws.Parts.{text-plain}
use Rattle.utf8.proofs.TextCharacters.{encode_all-append}
use Rattle.turkish.specs.Letters.{text, tab, lf}
use Rattle.turkish.specs.Pieces.{Kept, kind_names, name_from, kind_name, kept_marks}
use Rattle.turkish.specs.Calls.{chars, bytes, accepted, offset}
use Rattle.turkish.specs.PieceCalls.{Span, span_of, spans_of, letters_of, piece_line, text_of}
use Rattle.theorems.proofs.Laws.Tests.{every}
use Rattle.theorems.proofs.Laws.Members.{mem-perm}
use Rattle.theorems.proofs.Laws.Words.{scalars-chars}
use Rattle.theorems.proofs.Laws.Accepted.{accepted-text, bytes-chars}
use Rattle.theorems.proofs.Laws.Offsets.{offset-mono}
use Rattle.theorems.proofs.PieceTheorems.{marks-placed}
use Rattle.theorems.proofs.Texts.{scalars-cut, text-joined}

-- ---- letters ----

-- an encoding is that of the first n characters and then that of the others
encode_all-split : (n : ℕ) (ds : List ℕ) → encode_all ds ≡ encode_all (take n ds) ++ encode_all (drop n ds)
encode_all-split n ds = rw (← encode_all-append, take-append-drop)

-- the bytes between two places of a word are those of the characters between them
bytes-between : (w : List ℕ) (m n : ℕ) → accepted w ≡ true → m ≤ n
    → take (offset w n - offset w m) (drop (offset w m) w) ≡ encode_all (take (n - m) (drop m (reverse (chars w))))
unfolding offset bytes
bytes-between w m n a h =
    let ds = reverse (chars w) in
    let front = encode_all (take m ds) in
    let part = encode_all (take (n - m) (drop m ds)) in
    let rest = encode_all (drop (n - m) (drop m ds)) in
    let whole : w ≡ front ++ (part ++ rest) =
    sym (bytes-chars w a) ∙ encode_all-split m ds ∙ ap (λ (s : List ℕ). front ++ s) (encode_all-split (n - m) (drop m ds)) in
    let e : n ≡ m + (n - m) = omega arith in
    let upto : encode_all (take n ds) ≡ front ++ part = ap (λ (i : ℕ). encode_all (take i ds)) e ∙ rw (take-add, encode_all-append) in
    let size : length part ≡ length (encode_all (take n ds)) - length front = omega (arith, ap length upto, length-append front part) in
    ap (λ (s : List ℕ). take (offset w n - offset w m) (drop (length front) s)) whole
    ∙ rw drop-append_seam (take_at part rest (offset w n - offset w m) size)

-- so a piece's letters are a text
letters-text : (w : List ℕ) (p : Span) → accepted w ≡ true → Memᴰ p (spans_of w) → TextOf (letters_of w p)
unfolding spans_of span_of letters_of
letters-text w p a i =
    let found = Memᴰ.of_map (span_of w) (kept_marks (chars w)) i in
    let k : Kept = found.0 in
    let placed = marks-placed (chars w) k found.1 in
    let ds = reverse (chars w) in
    let size : offset w k.from - 1 + 1 - offset w k.to ≡ offset w k.from - offset w k.to =
    omega (arith, offset-mono w k.to k.from placed.some placed.within) in
    rw (← found.2) (record {
      chars = take (k.from - k.to) (drop k.to ds);
      valid = (scalars-cut (k.from - k.to) (drop k.to ds) (scalars-cut k.to ds (scalars-chars w (accepted-text w a))).1).0;
      encoded = sym (rw size (bytes-between w k.to k.from a (omega (arith, placed.some))));
    })

-- ---- names ----

-- the test that a name is a text
text_name : String → Bool
text_name m = is_text (text m)

-- every name passes it
names-text : every text_name kind_names ≡ true
unfolding every text_name kind_names text is_text accepts next lead lead_in due table37
names-text = refl

-- so the name of any kind is a text
name_from-text : (i : ℕ) (ms : List String) (k : ℕ) → every text_name ms ≡ true → is_text (name_from i ms k) ≡ true
unfolding name_from every text_name
name_from-text i [] k e = unfold is_text accepts due in refl
name_from-text i (m ∷ ms) k e =
    cond_both (λ s. is_text s ≡ true) (eqb k i) (text m) (name_from (i + 1) ms k) (and_left (text_name m) (every text_name ms) e)
    (name_from-text (i + 1) ms k (and_right (text_name m) (every text_name ms) e))

kind_name-text : (k : ℕ) → TextOf (kind_name k)
unfolding kind_name
kind_name-text k = is_text-encodes (kind_name k) (name_from-text 1 kind_names k names-text)

-- ---- lines ----

-- nothing is a text
empty-text : TextOf []
empty-text = is_text-encodes [] (unfold is_text accepts due in refl)

-- so is an ASCII character before a text
ascii-text : (b : ℕ) {s : List ℕ} → b < 0x80 → TextOf s → TextOf (b ∷ s)
ascii-text b {s} h t = is_text-encodes (b ∷ s) (text-plain b s h ∙ (is_text-iff s).1 t)

-- and the line of a piece whose letters are
line-text : (w : List ℕ) (p : Span) → TextOf (letters_of w p) → TextOf (piece_line w p)
unfolding piece_line tab lf
line-text w p t = text-joined (kind_name-text p.kind) (ascii-text tab (omega arith) (text-joined t (ascii-text lf (omega arith) empty-text)))

-- so the lines of such pieces are one
lines-text : (w : List ℕ) (ps : List Span) → ((p : Span) → Memᴰ p ps → TextOf (letters_of w p)) → TextOf (text_of w ps)
unfolding text_of
lines-text w [] h = empty-text
lines-text w (p ∷ ps) h = text-joined (line-text w p (h p (Memᴰ.head refl))) (lines-text w ps (λ q i. h q (Memᴰ.tail i)))

-- in every order the text of a word's pieces is a text
pub text_of-text : (w : List ℕ) {ps : List Span} → accepted w ≡ true → Permᴰ (spans_of w) ps → is_text (text_of w ps) ≡ true
text_of-text w {ps} a r = (is_text-iff (text_of w ps)).1 (lines-text w ps (λ p i. letters-text w p a (mem-perm (Permᴰ.symm r) i)))
