-- A turn of the chain as the code holds it: behind a mark that leads to a place, and past one that does not fit; and the chain by its turns'
-- places. Assumes nothing.
use Prim.Native.Nat.{ℕ, ◌<◌}
use mathlib.Core.Path.{◌≡◌, refl, sym, ap, ap₂, ◌∙◌}
use mathlib.Core.Bool.{true}
use mathlib.Core.List.{List}
use native.Mathlib.Nat.{add-zero}
use lib.ListN.{drop}
use Rattle.std.specs.Prelude.{Option, Some, None}
use Rattle.std.specs.Option.{option_or}
use Rattle.utf8.specs.declared.cursor.Cursor.{Cursor}
use Rattle.utf8.specs.Steps.{move_to}
use Rattle.utf8.specs.Behind.{behind, back_by, Open}
use Rattle.utf8.proofs.Laws.Behind.{behind-back_by, back_by-add, back_by-zero, back_by-less, move_to-back_by, open-back_by}
use Rattle.theorems.specs.Simple.Grammar.{Out, fail, took, more, first}
use Rattle.theorems.specs.Simple.Nouns.{Taking, perhaps, chain}
use Rattle.keys.specs.declared.seen.Seen.{Seen}
use Rattle.keys.specs.Passed.{passes}
use Rattle.keys.specs.Seen.{seen_at, Sees}
use Rattle.keys.proofs.Laws.Sees.{seen-c, sees-made}
use Rattle.nouns.specs.declared.link.Link.{Link}
use Rattle.nouns.specs.declared.link.Link.TheVariants.{Ends, Calls}
use Rattle.nouns.specs.Link.{Turn, unfit, ends, calls, later, or_turn, link_of, closed, linked}
use Rattle.nouns.proofs.Laws.Passing.{passes-none, leads-some, there-c, there-behind}
use Rattle.nouns.proofs.Laws.Turns.{chain-closed, calls-some, calls-within}

-- ---- a turn's parts ----

module _ (w : List ℕ) (c : Cursor) where
  -- so many characters before a turn: it is the same from the record back there
  linked-later : (k : ℕ) (t : Turn) → linked w (back_by w c k) t ≡ linked w c (later k t)
  unfolding linked later
  linked-later k unfit = refl
  linked-later k (ends j) = ap (λ (x : Cursor). Some (Ends x.cursor)) (back_by-add w c k j)
  linked-later k (calls j) = ap (λ (x : Cursor). Some (Calls x.cursor)) (back_by-add w c k j)

  -- a turn that takes nothing leads to the record's own place
  pub ends-here : Open w c → Some (Ends c.cursor) ≡ linked w c (ends 0)
  unfolding linked
  ends-here h = sym (ap (λ (x : Cursor). Some (Ends x.cursor)) (back_by-zero w c h))

  pub calls-here : Open w c → Some (Calls c.cursor) ≡ linked w c (calls 0)
  unfolding linked
  calls-here h = sym (ap (λ (x : Cursor). Some (Calls x.cursor)) (back_by-zero w c h))

module _ (w : List ℕ) (c : Cursor) (f : Taking) (r : Turn) {p : Option ℕ} (is : p ≡ passes w c (f (behind w c))) where
  -- past a mark that does not fit
  pub or-none : (q : ℕ → Turn) → p ≡ None → {l : Option Link} → l ≡ linked w c r → l ≡ linked w c (or_turn (f (behind w c)) q r)
  unfolding or_turn
  or-none q e then = then ∙ sym (ap (λ (o : Out). linked w c (or_turn o q r)) (passes-none w c (f (behind w c)) is e))

  -- behind one that does
  module _ {at : ℕ} (e : p ≡ Some at) where
    or-later : (q : ℕ → Turn) → let l = leads-some w c (f (behind w c)) is e in linked w c (later l.taken (q l.taken)) ≡ linked w c (or_turn (f (behind w c)) q r)
    unfolding or_turn
    or-later q = let l = leads-some w c (f (behind w c)) is e in sym (ap (λ (o : Out). linked w c (or_turn o q r)) l.is)

    -- where a turn ends there, or calls
    pub or-ends : Some (Ends at) ≡ linked w c (or_turn (f (behind w c)) (λ k. ends 0) r)
    unfolding later linked move_to
    or-ends =
        let l = leads-some w c (f (behind w c)) is e in
        ap (λ (x : Cursor). Some (Ends x.cursor)) l.there ∙ ap (λ (n : ℕ). Some (Ends (back_by w c n).cursor)) (sym (add-zero l.taken)) ∙ or-later (λ k. ends 0)

    pub or-calls : Some (Calls at) ≡ linked w c (or_turn (f (behind w c)) (λ k. calls 0) r)
    unfolding later linked move_to
    or-calls =
        let l = leads-some w c (f (behind w c)) is e in
        ap (λ (x : Cursor). Some (Calls x.cursor)) l.there ∙ ap (λ (n : ℕ). Some (Calls (back_by w c n).cursor)) (sym (add-zero l.taken)) ∙ or-later (λ k. calls 0)

    -- or goes on from what is seen there
    pub or-then : (q : List ℕ → Turn) {t : Seen} → t ≡ seen_at w (move_to c at) → {l : Option Link} → l ≡ linked w t.c (q (behind w t.c))
        → l ≡ linked w c (or_turn (f (behind w c)) (λ k. q (drop k (behind w c))) r)
    or-then q to then =
        let k = (leads-some w c (f (behind w c)) is e).taken in
        then ∙ ap₂ (λ (x : Cursor) (ds : List ℕ). linked w x (q ds)) (there-c w c f f is e to) (there-behind w c f f is e to)
        ∙ linked-later w c k (q (drop k (behind w c))) ∙ or-later (λ k. q (drop k (behind w c)))

-- ---- the chain ----

-- where the chain is called at what is seen in t behind s: that is nearer to the word's start, and the chain comes to where it comes from there, or
-- to there
pub record Called (w : List ℕ) (s : Seen) (p : ℕ) (t : Seen) : Type 0 where
  pub less : t.c.cursor < s.c.cursor
  pub sees : Sees w t
  pub same : option_or (passes w t.c (chain (behind w t.c))) (Some p) ≡ passes w s.c (chain (behind w s.c))

-- what need not fit passes over nothing where it fails
passes-perhaps : (w : List ℕ) (d : Cursor) (k : ℕ) (o : Out)
    → option_or (passes w (back_by w d k) o) (Some (back_by w d k).cursor) ≡ passes w d (more k true (first o (took 0 true)))
unfolding more passes first
passes-perhaps w d k fail = ap (λ (n : ℕ). Some (back_by w d n).cursor) (sym (add-zero k))
passes-perhaps w d k (took j g) = ap (λ (x : Cursor). Some x.cursor) (back_by-add w d k j)

-- the chain by its first turn
chain-turn : (w : List ℕ) (d : Cursor) (t : Turn) → link_of (behind w d) ≡ t → passes w d (chain (behind w d)) ≡ passes w d (closed t (behind w d))
chain-turn w d t e = ap (passes w d) (chain-closed (behind w d) ∙ ap (λ (x : Turn). closed x (behind w d)) e)

module _ (w : List ℕ) (s : Seen) (h : Sees w s) {l : Option Link} (is : l ≡ linked w s.c (link_of (behind w s.c))) where
  -- what a turn's answer says of the turn
  turn : (P : Turn → Type 0) → (l ≡ None → P unfit) → ((k : ℕ) → l ≡ Some (Ends (back_by w s.c k).cursor) → P (ends k))
      → ((k : ℕ) → l ≡ Some (Calls (back_by w s.c k).cursor) → P (calls k)) → P (link_of (behind w s.c))
  unfolding linked
  turn P a b c = go (link_of (behind w s.c)) is
    where
      go : (t : Turn) → l ≡ linked w s.c t → P t
      go unfit i = a i
      go (ends k) i = b k i
      go (calls k) i = c k i

  -- it does not fit
  pub chain-unfit : l ≡ None → None ≡ passes w s.c (chain (behind w s.c))
  unfolding closed passes
  chain-unfit e =
      turn (λ (t : Turn). link_of (behind w s.c) ≡ t → None ≡ passes w s.c (chain (behind w s.c)))
      (λ i t. sym (chain-turn w s.c unfit t)) (λ k i t. cc) (λ k i t. cc) refl

  -- it ends at a place
  pub chain-ends : {p : ℕ} → l ≡ Some (Ends p) → Some p ≡ passes w s.c (chain (behind w s.c))
  unfolding closed passes
  chain-ends {p} e =
      turn (λ (t : Turn). link_of (behind w s.c) ≡ t → Some p ≡ passes w s.c (chain (behind w s.c)))
      (λ i t. cc) (λ k i t. let there : p ≡ (back_by w s.c k).cursor = cc in ap Some there ∙ sym (chain-turn w s.c (ends k) t)) (λ k i t. cc) refl

  -- it is called at a place, which is open
  pub chain-open : {p : ℕ} → l ≡ Some (Calls p) → Open w (move_to s.c p)
  chain-open {p} e =
      turn (λ (t : Turn). Open w (move_to s.c p)) (λ i. cc) (λ k i. cc)
      (λ k i.
      let there : p ≡ (back_by w s.c k).cursor = cc in
      rw (there, move_to-back_by w s.c k) (open-back_by w s.c k h.opens))

  -- and goes on from there
  pub chain-calls : {p : ℕ} {t : Seen} → l ≡ Some (Calls p) → t ≡ seen_at w (move_to s.c p) → Called w s p t
  unfolding closed perhaps
  chain-calls {p} {t} e to =
      turn (λ (x : Turn). link_of (behind w s.c) ≡ x → Called w s p t) (λ i x. cc) (λ k i x. cc)
      (λ k i x.
      let cs = behind w s.c in
      let there : p ≡ (back_by w s.c k).cursor = cc in
      let from : move_to s.c p ≡ back_by w s.c k = ap (move_to s.c) there ∙ move_to-back_by w s.c k in
      let on : t.c ≡ back_by w s.c k = seen-c w (move_to s.c p) to ∙ from in
      record {
        less = rw on (back_by-less w s.c k (calls-some cs k x) (calls-within cs k x));
        sees = sees-made w (move_to s.c p) to (rw from (open-back_by w s.c k h.opens));
        same =
            ap₂ (λ (d : Cursor) (q : ℕ). option_or (passes w d (chain (behind w d))) (Some q)) on there
            ∙ ap (λ (ds : List ℕ). option_or (passes w (back_by w s.c k) (chain ds)) (Some (back_by w s.c k).cursor)) (behind-back_by w s.c k)
            ∙ passes-perhaps w s.c k (chain (drop k cs)) ∙ sym (chain-turn w s.c (calls k) x);
      })
      refl
