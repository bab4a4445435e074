-- Demand 3, first half: calls of the pass on two words of one end and alike fronts fare alike. It holds of the words' characters
-- (`pass-near`), and so of the bytes that the calls give. Assumes nothing.
use Prim.Native.Nat.{ℕ, ◌+◌, ◌≤◌}
use mathlib.Core.Path.{◌≡◌, ap, ◌∙◌}
use mathlib.Core.Bool.{true, false}
use mathlib.Core.List.{List, ◌++◌}
use lib.ListN.{length, drop}
use lib.Seq.{take-append_seam}
use borrow.Author.Tests.{le-ltb}
use Rattle.encoding.specs.Text.{TextOf}
use Rattle.turkish.specs.WordPass.{Passed, pass}
use Rattle.turkish.specs.Calls.{chars, bytes, accepted, refusal_short_of, written, pass_text, pass_refusal, pass_call, pass_out}
use Rattle.theorems.specs.Fronts.{front, end, Pair, reaches_reserved, pass_gives, SameAnswers}
use Rattle.theorems.proofs.Laws.Words.{bytes-append, chars-parts, front_bytes, end-long}
use Rattle.theorems.proofs.Laws.Accepted.{accepted-text}
use Rattle.theorems.proofs.Near.{pass-near}

-- what a pass gives, with its text as bytes
in_bytes : Passed → Passed
in_bytes p = record { text = bytes p.text; syllable = p.syllable; yes = p.yes; flag = p.flag }

-- a call on an accepted word, with room enough, gives what the pass of its characters gives
pass_gives-pass : (w out : List ℕ) → accepted w ≡ true → length w + 2 ≤ length out → pass_gives w out ≡ in_bytes (pass (chars w))
unfolding pass_gives pass_call pass_out pass_refusal refusal_short_of accepted written pass_text in_bytes
pass_gives-pass w out h l = rw (h, le-ltb (length out) (length w + 2) l, take-append_seam (pass_text w) (drop (length (pass_text w)) out))

-- a text whose characters are x and then the front's has the front's bytes and then those of x
front-append : (w x : List ℕ) → TextOf w → bytes (x ++ chars (front w)) ≡ front w ++ bytes x
front-append w x t = rw (bytes-append x (chars (front w)), ← front_bytes w t)

-- calls on two accepted words of 16 characters or more, with one end of 16 and alike fronts, fare alike
pub pair-fares-alike : (u v o p : List ℕ) → Pair u v → length u + 2 ≤ length o → length v + 2 ≤ length p → SameAnswers (pass_gives u o) (pass_gives v p)
    × (reaches_reserved (chars u) ≡ false → reaches_reserved (chars v) ≡ false
    → (e : List ℕ) × ((pass_gives u o).text ≡ front u ++ e) × ((pass_gives v p).text ≡ front v ++ e))
unfolding in_bytes
pair-fares-alike u v o p q l m =
    let t : TextOf u = accepted-text u q.accepts.0 in
    let s : TextOf v = accepted-text v q.accepts.1 in
    let n = pass-near (chars (end u)) (chars (front u)) (chars (front v)) q.fronts (end-long u t q.longs.0) in
    let y : chars v ≡ chars (end u) ++ chars (front v) = rw q.ends (chars-parts v s) in
    rw (pass_gives-pass u o q.accepts.0 l, pass_gives-pass v p q.accepts.1 m, chars-parts u t, y) (
      record { syllable = n.0.syllable; yes = n.0.yes; flag = n.0.flag },
      λ h k. let x = n.1 h k in (bytes x.0, ap bytes x.1 ∙ front-append u x.0 t, ap bytes x.2 ∙ front-append v x.0 s),
    )
