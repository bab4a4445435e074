-- What the stage removes of a tail behind a stand-in: the word that it runs on, and that it removes as much behind the front. Assumes nothing.
use Prim.Native.Nat.{ℕ, ◌+◌, ◌-◌, ◌≤◌}
use mathlib.Core.Path.{◌≡◌, refl, sym, ap, ◌∙◌}
use mathlib.Core.Bool.{Bool, true, false}
use mathlib.Core.List.{List, ◌++◌, append_assoc}
use native.Mathlib.Omega.{arith}
use lib.ListN.{length, take, drop, length-append}
use lib.Seq.{length-take-le, take_at, take-append_seam}
use borrow.Author.Tests.{leb-true}
use Rattle.encoding.specs.Text.{TextOf}
use Rattle.encoding.proofs.CheckExact.{is_text-iff}
use Rattle.utf8.proofs.Laws.Characters.{back-le}
use Rattle.turkish.specs.Calls.{chars, accepted, stage_call}
use Rattle.theorems.specs.Fronts.{end_length, long, Alike}
use mir.Val.{bool_byte as from_bool}
use Rattle.batches.specs.BatchCalls.{bit}
use Rattle.batches.specs.Summary.{summary}
use Rattle.theorems.specs.Simple.Stage.{Staged, stage, kept_length}
use Rattle.theorems.proofs.Laws.Accepted.{accepted-text}
use Rattle.theorems.proofs.Source.Calls.{suffix_stage-yes, suffix_stage-flag}
use Rattle.theorems.proofs.Sizes.{stage_text-length}
use Rattle.batches.proofs.Joined.{kept_length-joined, stage-joined, kept-joined}
use Rattle.fronts.specs.StandIn.{stand_in_of}
use Rattle.fronts.proofs.Laws.StandIn.{stand_in_of-text, stand_in_of-alike}
use Rattle.stages.specs.declared.stage.Outcome.{Outcome}
use Rattle.stages.specs.Outcome.{outcome_of}
use Rattle.stages.proofs.Laws.Kept.{kept-le}
use Rattle.writing.specs.Put.{put}
use Rattle.writing.proofs.Laws.Put.{put-end}
use Rattle.batch.specs.declared.entries.Removal.{Removal}
use Rattle.batch.specs.Removal.{removal_of}

-- ---- a tail put behind some bytes ----

-- what stands up to its end
take_put : (m : ℕ) (t word : List ℕ) → m + length t ≤ length word → take (m + length t) (put m t word) ≡ take m word ++ t
unfolding put
take_put m t word h =
    ap (take (m + length t)) (sym (append_assoc (take m word) t (drop (m + length t) word)))
    ∙ take_at (take m word ++ t) (drop (m + length t) word) (m + length t) (omega (arith, length-append (take m word) t, length-take-le m word (omega arith)))

module _ (m end : ℕ) (t word after : List ℕ) (room : m + length t ≤ length word) (w : (end ≡ m + length t) × (after ≡ put m t word)) where
  -- the stage's word
  behind-word : take end after ≡ take m word ++ t
  behind-word = rw (w.0, w.1) (take_put m t word room)

  -- it ends within it
  pub behind-end : end ≡ length (take end after)
  behind-end = sym (length-take-le end after (rw (w.0, w.1) (put-end m t word (omega arith))))

  module _ (o : Outcome) (e : o ≡ outcome_of (take end after)) where
    -- what is kept of it lies within it
    pub behind-kept : o.kept ≤ end
    behind-kept = omega (arith, kept-le (take end after) o e, behind-end)

    -- and the stage does to it what the definition says
    pub behind-removal : ◌≡◌ {A = Removal} (record { bytes = end - o.kept; yes = o.yes; flag = o.flag }) (removal_of (take m word ++ t))
    unfolding removal_of
    behind-removal = rw (← behind-word, ← behind-end, e)

-- what stands before the tail stays
pub take-before : (m : ℕ) (t word : List ℕ) → m ≤ length word → take m (put m t word) ≡ take m word
unfolding put
take-before m t word h = take_at (take m word) (t ++ drop (m + length t) word) m (length-take-le m word h)

-- a text put at the front stands there
pub take-front : (s word : List ℕ) → take (length s) (put 0 s word) ≡ s
unfolding put
take-front s word = take-append_seam s (drop (0 + length s) word)

-- ---- a tail behind a front and behind its stand-in ----

module _ (f t : List ℕ) (front : accepted f ≡ true) (tail : accepted t ≡ true) (joined : accepted (f ++ t) ≡ true) (whole : long t ≡ true) where
  g : List ℕ
  g = stand_in_of (summary f)

  behind : List ℕ
  behind = g ++ t

  f-text : TextOf f
  f-text = accepted-text f front

  t-text : TextOf t
  t-text = accepted-text t tail

  g-text : TextOf g
  unfolding g
  g-text = (is_text-iff (stand_in_of (summary f))).0 (stand_in_of-text (summary f))

  alike : Alike (chars g) (chars f)
  unfolding g summary
  alike = stand_in_of-alike (chars f)

  enough : end_length ≤ length (chars t)
  unfolding long
  enough = leb-true end_length (length (chars t)) whole

  -- the stage does the same to both words
  same-stage : stage (chars behind) ≡ stage (chars (f ++ t))
  unfolding behind
  same-stage = stage-joined g-text f-text t-text alike enough

  -- it keeps at least the stand-in, and at most all
  kept-behind : (length g ≤ kept_length behind) × (kept_length behind ≤ length g + length t)
  unfolding behind kept_length
  kept-behind =
      let all = length-append g t in
      (omega (arith, kept_length-joined g-text t-text enough), omega (arith, back-le (g ++ t) (length (g ++ t)) (stage (chars (g ++ t))).removed))

  -- no more bytes go than the tail has
  pub removed-le : (removal_of (stand_in_of (summary f) ++ t)).bytes ≤ length t
  unfolding removal_of outcome_of behind g
  removed-le = let all = length-append g t in omega (arith, kept-behind.0)

  -- and the front with the rest is what the stage keeps of the joined word
  pub length-kept : length f + length t - (removal_of (stand_in_of (summary f) ++ t)).bytes ≡ (stage_call (f ++ t)).length
  unfolding removal_of outcome_of stage_call behind g
  length-kept =
      rw joined
      (let all = length-append g t in
      omega (arith, kept-behind.0, kept-behind.1, kept-joined g-text f-text t-text alike enough, stage_text-length (f ++ t) joined))

  pub yes-kept : (removal_of (stand_in_of (summary f) ++ t)).yes ≡ (stage_call (f ++ t)).yes
  unfolding removal_of outcome_of stage_call behind g
  yes-kept = rw joined (ap (λ (s : Staged). s.yes) same-stage ∙ sym (suffix_stage-yes (chars (f ++ t))))

  pub flag-kept : (removal_of (stand_in_of (summary f) ++ t)).flag ≡ (stage_call (f ++ t)).flag
  unfolding removal_of outcome_of stage_call behind g
  flag-kept = rw joined (ap (λ (s : Staged). s.flag) same-stage ∙ sym (suffix_stage-flag (chars (f ++ t))))

-- ---- yes and true as numbers ----

pub from_bool-bit : (t : Bool) → from_bool t ≡ bit t
unfolding bit
from_bool-bit true = refl
from_bool-bit false = refl
