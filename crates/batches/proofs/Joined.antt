-- A front and a tail joined to one word: its characters, what the suffix stage keeps of it, and that the front's summary alone settles that
-- (document 02, request 7). Assumes nothing.
use Prim.Native.Nat.{ℕ, ◌+◌, ◌≤◌}
use mathlib.Core.Path.{◌≡◌, sym, ap, ◌∙◌}
use mathlib.Core.Bool.{true, ◌&&◌}
use mathlib.Core.List.{List, [], ◌∷◌, ◌++◌, reverse-append, append-nil}
use native.Mathlib.Omega.{arith}
use lib.ListN.{length, drop, length-append, length-drop}
use lib.Seq.{length-take-le, drop-append-le}
use borrow.Author.Tests.{leb-true}
use Rattle.encoding.specs.Scalar.{scalars}
use Rattle.encoding.specs.Encoding.{encode, encode_all}
use Rattle.encoding.specs.Text.{TextOf}
use Rattle.encoding.specs.Validity.{is_text}
use Rattle.encoding.proofs.Laws.Booleans.{and_right}
use Rattle.encoding.proofs.CheckExact.{is_text-encode_all-append, is_text-encode_all, is_text-encodes, is_text-iff}
use Rattle.utf8.proofs.Laws.Characters.{back-le}
use Rattle.utf8.proofs.TextCharacters.{before-whole}
use Rattle.theorems.specs.Simple.Stage.{Staged, stage, kept, kept_length}
use Rattle.turkish.specs.Answers.{suffix_stage}
use Rattle.turkish.specs.Calls.{chars, bytes, accepted}
use Rattle.theorems.specs.Fronts.{end_length, most_removed, long, Alike}
use Rattle.batches.specs.Summary.{summary_from, summary, added, removed_from}
use Rattle.theorems.proofs.Laws.Words.{bytes-append, bytes-chars-text, chars-bytes}
use Rattle.theorems.proofs.Laws.Accepted.{accepted-iff, accepted-text}
use Rattle.batches.proofs.Laws.Summary.{summary_from-cons, summary-alike}
use Rattle.theorems.proofs.Source.Calls.{suffix_stage-yes, suffix_stage-flag, suffix_stage-text}
use Rattle.theorems.proofs.Laws.Bounds.{stage-most}
use Rattle.theorems.proofs.Near.{stage-near}
use Rattle.theorems.proofs.Sizes.{kept-text}
use Rattle.theorems.proofs.Texts.{text-joined}

-- with the tail's characters nearest, and then the front's
chars-joined : {f t : List ℕ} → TextOf f → TextOf t → chars (f ++ t) ≡ chars t ++ chars f
unfolding chars text-joined
chars-joined {f} {t} a b = before-whole (f ++ t) (text-joined a b) ∙ reverse-append a.chars b.chars ∙ rw (before-whole f a, before-whole t b)

module _ {f t : List ℕ} (a : TextOf f) (b : TextOf t) (long : end_length ≤ length (chars t)) where
  -- the stage keeps the front, and of the tail the bytes of the characters that it does not remove
  pub kept_length-joined : kept_length (f ++ t) ≡ length f + length (bytes (drop (stage (chars (f ++ t))).removed (chars t)))
  unfolding kept_length kept end_length most_removed
  kept_length-joined =
      let w : List ℕ = f ++ t in
      let k : ℕ = (stage (chars w)).removed in
      let few : k ≤ most_removed = stage-most (chars w) in
      let cut : drop k (chars w) ≡ drop k (chars t) ++ chars f = ap (drop k) (chars-joined a b) ∙ drop-append-le k (chars t) (chars f) (omega arith) in
      let front : bytes (drop k (chars w)) ≡ f ++ bytes (drop k (chars t)) = ap bytes cut ∙ bytes-append (drop k (chars t)) (chars f) ∙ rw (bytes-chars-text f a) in
      sym (length-take-le (kept_length w) w (back-le w (length w) k)) ∙ ap length (kept-text w (text-joined a b) ∙ front)
      ∙ length-append f (bytes (drop k (chars t)))

-- so the stage does alike to one tail behind alike fronts
module _ {f g t : List ℕ} (a : TextOf f) (c : TextOf g) (b : TextOf t) (alike : Alike (chars f) (chars g)) (long : end_length ≤ length (chars t)) where
  pub stage-joined : stage (chars (f ++ t)) ≡ stage (chars (g ++ t))
  stage-joined = rw (chars-joined a b, chars-joined c b) (stage-near (chars t) (chars f) (chars g) alike long)

  -- and keeps as many bytes of it
  pub kept-joined : kept_length (f ++ t) + length g ≡ kept_length (g ++ t) + length f
  kept-joined =
      let e : (stage (chars (f ++ t))).removed ≡ (stage (chars (g ++ t))).removed = ap (λ (s : Staged). s.removed) stage-joined in
      omega (arith, rw e at (kept_length-joined a b long), kept_length-joined c b long)

-- ---- the summary of the front ----

-- a character's encoding has that character alone
chars-one : (c : ℕ) → is_text (encode c) ≡ true → chars (encode c) ≡ c ∷ []
unfolding bytes encode_all
chars-one c e =
    let v : scalars (c ∷ []) ≡ true = sym (rw append-nil at (is_text-encode_all (c ∷ []))) ∙ e in
    rw append-nil at (chars-bytes (c ∷ []) v)

-- a character added at a front's end, the longer front being accepted too, makes of the summary the one built afresh
pub summary-grows : (f : List ℕ) (c : ℕ) → accepted f ≡ true → accepted (f ++ encode c) ≡ true → summary (f ++ encode c) ≡ added c (summary f)
unfolding summary
summary-grows f c a l =
    let t : TextOf f = accepted-text f a in
    let all : scalars t.chars && is_text (encode c) ≡ true =
    sym (is_text-encode_all-append t.chars (encode c)) ∙ rw t.encoded ((accepted-iff (f ++ encode c)).0 l).1 in
    let one : TextOf (encode c) = is_text-encodes (encode c) (and_right (scalars t.chars) (is_text (encode c)) all) in
    ap summary_from (chars-joined t one ∙ ap (λ (cs : List ℕ). cs ++ chars f) (chars-one c ((is_text-iff (encode c)).1 one))) ∙ summary_from-cons c (chars f)

-- how many characters the stage removes
removed-simple : (w : List ℕ) → most_removed ≤ length (chars w) → removed_from w ≡ (stage (chars w)).removed
unfolding removed_from kept
removed-simple w h =
    let k = (stage (chars w)).removed in
    rw (suffix_stage-text (chars w)) (omega (arith, length-drop k (chars w), stage-most (chars w)))

-- two fronts with one summary, accepted with a tail: the stage removes as many characters, and gives the same yes or no and the same flag
pub summary-settles : (f g t : List ℕ) → accepted f ≡ true → accepted g ≡ true → accepted t ≡ true → long t ≡ true → summary f ≡ summary g
    → (removed_from (f ++ t) ≡ removed_from (g ++ t))
    × ((suffix_stage (chars (f ++ t))).yes ≡ (suffix_stage (chars (g ++ t))).yes)
    × ((suffix_stage (chars (f ++ t))).flag ≡ (suffix_stage (chars (g ++ t))).flag)
unfolding summary long end_length most_removed
summary-settles f g t p q r l e =
    let a : TextOf f = accepted-text f p in
    let c : TextOf g = accepted-text g q in
    let b : TextOf t = accepted-text t r in
    let h : end_length ≤ length (chars t) = leb-true end_length (length (chars t)) l in
    let s : stage (chars (f ++ t)) ≡ stage (chars (g ++ t)) = stage-joined a c b (summary-alike (chars f) (chars g) e) h in
    let m : most_removed ≤ length (chars (f ++ t)) = rw (chars-joined a b) (omega (arith, length-append (chars t) (chars f))) in
    let n : most_removed ≤ length (chars (g ++ t)) = rw (chars-joined c b) (omega (arith, length-append (chars t) (chars g))) in (
      removed-simple (f ++ t) m ∙ ap (λ (s : Staged). s.removed) s ∙ sym (removed-simple (g ++ t) n),
      suffix_stage-yes (chars (f ++ t)) ∙ ap (λ (s : Staged). s.yes) s ∙ sym (suffix_stage-yes (chars (g ++ t))),
      suffix_stage-flag (chars (f ++ t)) ∙ ap (λ (s : Staged). s.flag) s ∙ sym (suffix_stage-flag (chars (g ++ t))),
    )
