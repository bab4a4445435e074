-- The loop over the tails of a batch that is answered: what stands in the buffers at each turn, and what a turn makes of them. Assumes nothing.
use Prim.Native.Nat.{ℕ, ◌+◌, ◌-◌, ◌≤◌, ◌<◌}
use mathlib.Core.Path.{◌≡◌, refl, sym, ap, ◌∙◌}
use mathlib.Core.Bool.{true}
use mathlib.Core.List.Memᴰ
use mathlib.Core.List.{List, [], ◌∷◌, ◌++◌, map, append_assoc, append-nil, map-append, Memᴰ}
use native.Mathlib.Omega.{arith}
use lib.ListN.{length, take, drop, get_or, set, length-append, length-set, length-map}
use lib.Seq.{get_or-take, get_or_at}
use borrow.Author.Tests.{eq-eqb}
use Rattle.encoding.proofs.Laws.Booleans.{lt-or-le}
use Rattle.turkish.specs.Lines.{lines_from}
use Rattle.turkish.specs.Calls.{limit, accepted, written, stage_call}
use Rattle.theorems.specs.Fronts.{long}
use Rattle.batches.specs.Summary.{summary}
use Rattle.batches.specs.BatchCalls.{Batch, most_tails, tails_in, joined_words, batch_refusal, entries_after, bit, lengths_after, answers_after, flags_after}
use Rattle.theorems.proofs.Laws.Accepted.{accepted-iff}
use Rattle.batches.proofs.Laws.Batches.{batch-answered}
use Rattle.batches.proofs.BatchTheorems.{length-joined}
use Rattle.writing.specs.Put.{put}
use Rattle.writing.proofs.Laws.Put.{length-put}
use Rattle.fronts.specs.StandIn.{stand_in_of}
use Rattle.fronts.proofs.Laws.StandIn.{stand_in_of-length}
use Rattle.batch.specs.declared.tails.Tails.{Tails}
use Rattle.batch.specs.Tails.{line_of, ends_from, tails_of}
use Rattle.batch.specs.Removal.{removal_of, word_room}
use Rattle.batch.proofs.Laws.Tails.{set-written, lines_at, lines_none, line-within, line_of-front, survey-count, tails-survey, tails-ends}
use Rattle.batch.proofs.Laws.Removals.{take-before, take-front, removed-le, length-kept, yes-kept, flag-kept}

-- ---- a buffer ----

-- the entries of some tails
abbrev entries : (List ℕ → ℕ) → List ℕ → List (List ℕ) → List ℕ
entries entry front ts = map entry (joined_words front ts)

-- the entry of each
abbrev pub length_of : List ℕ → ℕ
length_of w = (stage_call w).length

abbrev pub yes_of : List ℕ → ℕ
yes_of w = bit (stage_call w).yes

abbrev pub flag_of : List ℕ → ℕ
flag_of w = bit (stage_call w).flag

-- there are as many as tails
length-entries : (entry : List ℕ → ℕ) (front : List ℕ) (ts : List (List ℕ)) → length (entries entry front ts) ≡ length ts
length-entries entry front ts = length-map (joined_words front ts) entry ∙ length-joined front ts

-- a tail more has one more
entries-more : (entry : List ℕ → ℕ) (front : List ℕ) (ts : List (List ℕ)) (t : List ℕ)
    → entries entry front (ts ++ (t ∷ [])) ≡ entries entry front ts ++ (entry (front ++ t) ∷ [])
unfolding joined_words
entries-more entry front ts t = rw (map-append, map-append)

-- so an entry stored is that of one tail more
stored : (entry : List ℕ → ℕ) (f : List ℕ) (done : List (List ℕ)) (t : List ℕ) (i x : ℕ) (out before : List ℕ) → length done ≡ i → i < length before
    → out ≡ written (entries entry f done) before → x ≡ entry (f ++ t) → set out i x ≡ written (entries entry f (done ++ (t ∷ []))) before
stored entry f done t i x out before c h o e =
    let n : length (entries entry f done) ≡ i = length-entries entry f done ∙ c in
    rw (o, e, entries-more entry f done t, ← n) (set-written (entries entry f done) before (entry (f ++ t)) (rw n h))

-- ---- the loop ----

-- some tails are done, the others begin at place `at` of the slice; the buffers hold the entries of those done, and the first m bytes of the word
-- are the front's stand-in
pub record Entered (b : Batch) (m : ℕ) (lengths answers flags word : List ℕ) (at i : ℕ) : Type 0 where
  pub done : List (List ℕ)
  pub ended : List ℕ
  pub split : tails_in b.tails ≡ done ++ lines_from [] (drop at b.tails)
  pub count : length done ≡ i
  pub ends : ends_from 0 (tails_in b.tails) ≡ ended ++ ends_from at (lines_from [] (drop at b.tails))
  pub endings : length ended ≡ i
  pub size : m ≡ length (stand_in_of (summary b.front))
  pub stand : take m word ≡ stand_in_of (summary b.front)
  pub room : length word ≡ word_room
  pub lengths_are : lengths ≡ written (entries length_of b.front done) b.lengths
  pub answers_are : answers ≡ written (entries yes_of b.front done) b.answers
  pub flags_are : flags ≡ written (entries flag_of b.front done) b.flags
  pub sizes : (length lengths ≡ length b.lengths) × (length answers ≡ length b.answers) × (length flags ≡ length b.flags)

-- at first none is done
pub entered-none : (b : Batch) (m : ℕ) (word₀ word : List ℕ) → length word₀ ≡ word_room
    → (m ≡ length (stand_in_of (summary b.front))) × (word ≡ put 0 (stand_in_of (summary b.front)) word₀)
    → Entered b m b.lengths b.answers b.flags word 0 0
unfolding tails_in joined_words written word_room
entered-none b m word₀ word r p =
    record {
      done = [];
      ended = [];
      split = refl;
      count = refl;
      ends = refl;
      endings = refl;
      size = p.0;
      stand = rw (p.0, p.1) (take-front (stand_in_of (summary b.front)) word₀);
      room = rw p.1 (length-put 0 (stand_in_of (summary b.front)) word₀ (omega (arith, stand_in_of-length (summary b.front))) ∙ r);
      lengths_are = refl;
      answers_are = refl;
      flags_are = refl;
      sizes = (refl, refl, refl);
    }

-- a list without a member is empty
none_left : (l : List (List ℕ)) → length l ≤ 0 → l ≡ []
none_left [] h = refl
none_left (x ∷ l) h = absurd (omega arith)

-- where as many are done as there are, the buffers are the call's
module _ (b : Batch) (m : ℕ) (lengths answers flags word : List ℕ) (at i : ℕ) (e : Entered b m lengths answers flags word at i) where
  ts : List (List ℕ)
  ts = tails_in b.tails

  rest : List (List ℕ)
  rest = lines_from [] (drop at b.tails)

  both : length ts ≡ i + length rest
  unfolding ts rest
  both = ap length e.split ∙ length-append e.done rest ∙ ap (λ (n : ℕ). n + length rest) e.count

  -- then none is left, and all are done
  all_done : length ts ≤ i → e.done ≡ ts
  unfolding ts rest
  all_done h = sym (append-nil e.done) ∙ ap (λ (r : List (List ℕ)). e.done ++ r) (sym (none_left rest (omega (arith, both)))) ∙ sym e.split

  module _ (z : batch_refusal b ≡ 0) (h : length (tails_in b.tails) ≤ i) where
    pub entered_all : (lengths ≡ lengths_after b) × ((answers ≡ answers_after b) × (flags ≡ flags_after b))
    unfolding lengths_after answers_after flags_after entries_after ts
    entered_all =
        rw (eq-eqb (batch_refusal b) 0 z, ← all_done h) (e.lengths_are, (e.answers_are, e.flags_are))

  -- the next tail
  module _ (z : batch_refusal b ≡ 0) (t : Tails) (v : t ≡ tails_of (tails_in b.tails)) (h : i < t.survey.count) where
    line : List ℕ
    line = line_of (drop at b.tails)

    more : i < length ts
    unfolding ts
    more = rw (← survey-count (tails_in b.tails) (tails-survey (tails_in b.tails) v)) h

    few : length ts ≤ most_tails
    unfolding ts
    few = (batch-answered b z).few

    pub below : i < most_tails
    below = omega (arith, more, few)

    -- it begins within the slice
    inside : at < length b.tails
    unfolding rest
    inside = lt-or-le at (length b.tails) (λ l. l) (λ l. absurd (omega (arith, both, more, ap length (lines_none b.tails at l))))

    -- and is the first of those left
    rest-line : rest ≡ line ∷ lines_from [] (drop (at + length line + 1) b.tails)
    unfolding rest line
    rest-line = lines_at b.tails at inside

    -- the code finds where it ends
    end-at : get_or t.ends i 0 ≡ at + length (line_of (drop at b.tails))
    unfolding ts rest line ends_from
    end-at =
        sym (get_or-take (length ts) t.ends i 0 more)
        ∙ ap (λ (l : List ℕ). get_or l i 0) (tails-ends (tails_in b.tails) v few ∙ e.ends ∙ ap (λ (r : List (List ℕ)). e.ended ++ ends_from at r) rest-line)
        ∙ get_or_at e.ended (at + length line) _ 0 i e.endings

    pub at-end : at ≤ get_or t.ends i 0
    at-end = omega (arith, end-at)

    pub end-within : get_or t.ends i 0 ≤ length b.tails
    end-within = rw end-at (line-within b.tails at (omega (arith, inside)))

    -- and hands it on
    tail-is : take (get_or t.ends i 0 - at) (drop at b.tails) ≡ line_of (drop at b.tails)
    tail-is =
        let n : get_or t.ends i 0 - at ≡ length (line_of (drop at b.tails)) = omega (arith, end-at) in
        rw n (sym (line_of-front (drop at b.tails)))

    -- it is one of the tails
    member : Memᴰ line ts
    unfolding ts rest
    member = rw (e.split, rest-line) (Memᴰ.append_right e.done (Memᴰ.head refl))

    -- so it is accepted, joined to the front too, and long enough
    fit : (accepted line ≡ true) × (accepted (b.front ++ line) ≡ true) × (long line ≡ true)
    unfolding ts
    fit = (batch-answered b z).tails member

    front-fit : accepted b.front ≡ true
    front-fit = (batch-answered b z).front

    -- the joined word is within the limit
    within : length b.front + length line ≤ limit
    within = omega (arith, ((accepted-iff (b.front ++ line)).0 fit.1).0, length-append b.front line)

    -- the stage runs on the tail behind the stand-in
    stands : take m word ++ line ≡ stand_in_of (summary b.front) ++ line
    stands = ap (λ (s : List ℕ). s ++ line) e.stand

    rooms : (i < length lengths) × ((i < length answers) × (i < length flags))
    unfolding ts
    rooms =
        let r = (batch-answered b z).rooms in
        (omega (arith, few, more, r.0, e.sizes.0), (omega (arith, few, more, r.1, e.sizes.1), omega (arith, few, more, r.2, e.sizes.2)))

    -- what the entry's function asks for
    pub ready : let tail = take (get_or t.ends i 0 - at) (drop at b.tails) in
        (m + length tail ≤ length word)
        × ((length b.front + length tail ≤ limit)
        × (((removal_of (take m word ++ tail)).bytes ≤ length b.front + length tail) × ((i < length lengths) × ((i < length answers) × (i < length flags)))))
    unfolding line word_room
    ready =
        rw (tail-is, stands) (
          omega (arith, e.size, stand_in_of-length (summary b.front), e.room, within),
          (within, (omega (arith, removed-le b.front line front-fit fit.0 fit.1 fit.2), rooms)),
        )

    -- what it leaves is the next turn's
    pub again : (lengths' answers' flags' word' : List ℕ) → let tail = take (get_or t.ends i 0 - at) (drop at b.tails) in
        let removal = removal_of (take m word ++ tail) in
        (word' ≡ put m tail word)
        × ((lengths' ≡ set lengths i (length b.front + length tail - removal.bytes))
        × ((answers' ≡ set answers i (bit removal.yes)) × (flags' ≡ set flags i (bit removal.flag))))
        → Entered b m lengths' answers' flags' word' (get_or t.ends i 0 + 1) (i + 1)
    unfolding line rest ends_from word_room
    again lengths' answers' flags' word' p =
        let q = rw (tail-is, stands) at p in
        let f : List ℕ = b.front in
        let asked = fit in
        let m-room : m + length line ≤ length word = omega (arith, e.size, stand_in_of-length (summary f), e.room, within) in
        let r = rooms in
        record {
          done = e.done ++ (line ∷ []);
          ended = e.ended ++ ((at + length line) ∷ []);
          split = rw end-at (e.split ∙ ap (λ (l : List (List ℕ)). e.done ++ l) rest-line ∙ sym (append_assoc e.done (line ∷ []) _));
          count = length-append e.done (line ∷ []) ∙ ap (λ (n : ℕ). n + 1) e.count;
          ends = rw end-at (e.ends ∙ ap (λ (l : List (List ℕ)). e.ended ++ ends_from at l) rest-line ∙ sym (append_assoc e.ended ((at + length line) ∷ []) _));
          endings = length-append e.ended ((at + length line) ∷ []) ∙ ap (λ (n : ℕ). n + 1) e.endings;
          size = e.size;
          stand = rw q.0 (take-before m line word (omega arith) ∙ e.stand);
          room = rw q.0 (length-put m line word m-room ∙ e.room);
          lengths_are =
              q.1.0 ∙ stored length_of f e.done line i _ lengths b.lengths e.count (rw (← e.sizes.0) r.0) e.lengths_are
              (length-kept f line front-fit asked.0 asked.1 asked.2);
          answers_are =
              q.1.1.0 ∙ stored yes_of f e.done line i _ answers b.answers e.count (rw (← e.sizes.1) r.1.0) e.answers_are
              (ap bit (yes-kept f line front-fit asked.0 asked.1 asked.2));
          flags_are =
              q.1.1.1 ∙ stored flag_of f e.done line i _ flags b.flags e.count (rw (← e.sizes.2) r.1.1) e.flags_are
              (ap bit (flag-kept f line front-fit asked.0 asked.1 asked.2));
          sizes = (
            ap length q.1.0 ∙ length-set lengths i _ ∙ e.sizes.0,
            ap length q.1.1.0 ∙ length-set answers i _ ∙ e.sizes.1,
            ap length q.1.1.1 ∙ length-set flags i _ ∙ e.sizes.2,
          );
        }
