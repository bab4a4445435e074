-- The file to open first: what the definitions of batches promise (document 02, request 7). That the code gives these definitions' answers is the
-- contracts' part. Assumes nothing.
use Prim.Native.Nat.{ℕ, ◌<◌}
use mathlib.Core.Path.{◌≡◌}
use mathlib.Core.Bool.{true, false}
use mathlib.Core.List.{List, [], ◌++◌}
use mathlib.Core.Logic.{◌↔◌}
use lib.ListN.{length, drop, get_or}
use lib.Dec.{eqb}
use Rattle.encoding.specs.Encoding.{encode}
use Rattle.turkish.specs.Answers.{suffix_stage}
use Rattle.turkish.specs.Calls.{chars, accepted, stage_call}
use Rattle.theorems.specs.Fronts.{long}
use Rattle.theorems.specs.Replies.{GivesOnly}
use Rattle.batches.specs.Summary.{summary, added, removed_from}
use Rattle.batches.specs.BatchCalls.{Batch, tails_in, batch_refusal, batch_call, batch_reply, bit, lengths_after, answers_after, flags_after, Answered}
use Rattle.batches.proofs.Laws.Batches.{batch-answered, answered-batch}
use Rattle.batches.proofs.Joined.{summary-grows, summary-settles}
use Rattle.batches.proofs.BatchTheorems.{entry_at, entries-stay, entries-refused, refused-only, answered-0}
use Rattle.batches.proofs.BatchWords as BatchWords

-- ---- many tails behind one front (document 02, request 7) ----

-- fronts with tails and what the call gives, computed from turkish.sbl's own commands; refusals of every number and in their order, and the whole
-- answer of a refused call; and summaries
pub words-batched : BatchWords.Met BatchWords.table × BatchWords.RefusalsMet × BatchWords.RefusedMet × BatchWords.SummariesMet
words-batched = (BatchWords.answers-met, (BatchWords.refusals-met).0, (BatchWords.refusals-met).1, BatchWords.summaries-met)

-- a batch is answered exactly when the front is accepted, each tail is, has 16 characters or more and makes an accepted word with the front, there
-- are no more than 64 tails, and each buffer has 64 entries or more
pub batch-answered-exactly : (b : Batch) → (batch_refusal b ≡ 0) ↔ Answered b
batch-answered-exactly b = (batch-answered b, answered-batch b)

-- then it gives number 0
pub answered-batch-gives-0 : (b : Batch) → batch_refusal b ≡ 0 → (batch_reply b).number ≡ 0
answered-batch-gives-0 = answered-0

-- and each entry is the stage's own answer on the joined word
pub batch-is-the-stage : (b : Batch) → batch_refusal b ≡ 0 → (i : ℕ) → i < length (tails_in b.tails) → let w = b.front ++ get_or (tails_in b.tails) i [] in
    (get_or (lengths_after b) i 0 ≡ (stage_call w).length)
    × (get_or (answers_after b) i 0 ≡ bit (stage_call w).yes)
    × (get_or (flags_after b) i 0 ≡ bit (stage_call w).flag)
unfolding lengths_after answers_after flags_after
batch-is-the-stage b z i h =
    (entry_at (λ w. (stage_call w).length) b b.lengths z i h, entry_at (λ w. bit (stage_call w).yes) b b.answers z i h, entry_at (λ w. bit (stage_call w).flag) b b.flags z i h)

-- entries past the last tail's stay
pub unused-entries-stay : (b : Batch) → let n = (batch_call b).count in
    (drop n (lengths_after b) ≡ drop n b.lengths) × (drop n (answers_after b) ≡ drop n b.answers) × (drop n (flags_after b) ≡ drop n b.flags)
unfolding lengths_after answers_after flags_after
unused-entries-stay b =
    (entries-stay (λ w. (stage_call w).length) b b.lengths, entries-stay (λ w. bit (stage_call w).yes) b b.answers, entries-stay (λ w. bit (stage_call w).flag) b b.flags)

-- and all do where the batch is refused
pub refused-batch-stays : (b : Batch) → eqb (batch_refusal b) 0 ≡ false
    → (lengths_after b ≡ b.lengths) × (answers_after b ≡ b.answers) × (flags_after b ≡ b.flags)
unfolding lengths_after answers_after flags_after
refused-batch-stays b e =
    (entries-refused (λ w. (stage_call w).length) b b.lengths e, entries-refused (λ w. bit (stage_call w).yes) b b.answers e, entries-refused (λ w. bit (stage_call w).flag) b b.flags e)

-- a refused batch gives its number and the count 0 (document 01, "Whose fault a refusal is"), as `refused-gives-nothing` of `theorems` says of the
-- other calls
pub refused-batch-gives-nothing : (b : Batch) → (batch_refusal b ≡ 0 → ⊥) → GivesOnly (batch_refusal b) (batch_reply b)
refused-batch-gives-nothing = refused-only

-- a character added at an accepted front's end, the longer front being accepted too, changes the summary to the one built afresh
pub summary-built-afresh : (f : List ℕ) (c : ℕ) → accepted f ≡ true → accepted (f ++ encode c) ≡ true → summary (f ++ encode c) ≡ added c (summary f)
summary-built-afresh = summary-grows

-- the summary alone settles what is removed of a tail: behind two fronts with one summary the stage removes as many characters, with the same yes or no and
-- the same flag
pub summary-alone-settles : (f g t : List ℕ) → accepted f ≡ true → accepted g ≡ true → accepted t ≡ true → long t ≡ true → summary f ≡ summary g
    → (removed_from (f ++ t) ≡ removed_from (g ++ t))
    × ((suffix_stage (chars (f ++ t))).yes ≡ (suffix_stage (chars (g ++ t))).yes)
    × ((suffix_stage (chars (f ++ t))).flag ≡ (suffix_stage (chars (g ++ t))).flag)
summary-alone-settles = summary-settles
