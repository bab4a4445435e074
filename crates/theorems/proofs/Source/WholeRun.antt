-- The source's whole run, stem, leaves what the simple form's leaves. Assumes nothing.
use Prim.Native.Nat.{ℕ}
use mathlib.Core.Path.{◌≡◌, refl, sym, ap, ap₂, ◌∙◌}
use mathlib.Core.Bool.{Bool, true, false, cond}
use mathlib.Core.List.{List, [], reverse, reverse-reverse}
use Rattle.turkish.specs.Snowball.{State, ahead, move_to, Result, done, failed, and_then, either_way, carried_out, forward, backward, turned, turned_back, Command, ◌then◌, «do»}
use Rattle.turkish.specs.Snowball.{backwards, is_set, run}
use Rattle.turkish.specs.Source as source
use Rattle.turkish.specs.Answers.{entered, called, left, Stemmed, stemmed, Repaired, repaired, Uninflected, uninflected, whole_run}
use Rattle.theorems.specs.Simple.Harmony.{more_than_one_syllable}
use Rattle.theorems.specs.Simple.Stage.{stage, kept}
use Rattle.theorems.specs.Simple.Nouns.{noun_leaves}
use Rattle.theorems.specs.Simple.Postlude.{postlude}
use Rattle.theorems.specs.Simple.WholeRun.{whole_leaves}
use Rattle.theorems.proofs.Source.Means.{settled, done-failed, done-state, failed-state}
use Rattle.theorems.proofs.Source.Syllables.{syllables-run}
use Rattle.theorems.proofs.Source.Stage.{stage-answers}
use Rattle.theorems.proofs.Source.NounStage.{noun-answers}
use Rattle.theorems.proofs.Source.Postlude.{postlude-answers}

-- `do` succeeds with what the command left, the cursor put back
carried_out-left : (c : ℕ) (r : Result) → carried_out c r ≡ done (move_to (left r) c)
unfolding carried_out left
carried_out-left c (done s) = refl
carried_out-left c (failed s) = refl

-- lines 468 to 470, which are read backwards
inward : Command
inward = «do» source.stem_nominal_verb_suffixes then is_set then «do» source.stem_noun_suffixes

-- after the suffix stage, the noun stage runs where the flag is up, and all fails where it is down
noun-behind : (s : State) → s.cursor ≡ 0
    → (u : State) × (run backward failed (is_set then «do» source.stem_noun_suffixes) s ≡ cond s.flag (done u) (failed u))
    × (u.text ≡ cond s.flag (noun_leaves s.text) s.text)
unfolding run and_then called uninflected move_to
noun-behind s h = go s.flag
  where
    after : State → Result
    after t = carried_out t.cursor (run backward failed source.stem_noun_suffixes t)

    go : (f : Bool) → (u : State) × (and_then (cond f (done s) (failed s)) after ≡ cond f (done u) (failed u))
        × (u.text ≡ cond f (noun_leaves s.text) s.text)
    go true =
        let r = run backward failed source.stem_noun_suffixes s in
        (move_to (left r) s.cursor, carried_out-left s.cursor r, ap (λ (x : Uninflected). x.text) (noun-answers s h))
    go false = (s, refl, refl)

-- both stages from the text's end
inward-run : (s : State) → s.cursor ≡ 0 → let cs = s.text in
    (u : State) × (run backward failed inward s ≡ cond (stage cs).flag (done u) (failed u))
    × (u.text ≡ cond (stage cs).flag (noun_leaves (kept cs)) (kept cs))
unfolding inward run and_then called stemmed move_to
inward-run s h =
    let r = run backward failed source.stem_nominal_verb_suffixes s in
    let flagged : (left r).flag ≡ (stage s.text).flag = ap (λ (x : Stemmed). x.flag) (stage-answers s h) in
    let keeps : (left r).text ≡ kept s.text = ap (λ (x : Stemmed). x.text) (stage-answers s h) in
    let n = noun-behind (move_to (left r) s.cursor) h in (
      n.0,
      ap (λ (x : Result). and_then x (run backward failed (is_set then «do» source.stem_noun_suffixes))) (carried_out-left s.cursor r)
          ∙ n.1 ∙ ap (λ (f : Bool). cond f (done n.0) (failed n.0)) flagged,
      n.2 ∙ ap₂ (λ (f : Bool) (ds : List ℕ). cond f (noun_leaves ds) ds) flagged keeps,
    )

-- turned round and back again, and the postlude where both stages ran
outward-run : (s : State) → let cs = reverse s.text in
    reverse (left (run forward failed (backwards inward then source.postlude) (move_to s 0))).text
    ≡ cond (stage cs).flag (postlude (noun_leaves (kept cs))) (kept cs)
unfolding run and_then move_to turned turned_back either_way ahead called repaired left
outward-run s =
    let n = inward-run (turned (move_to s 0)) refl in
    ap (λ (x : Result). reverse (left (and_then (either_way (turned_back []) x) (run forward failed source.postlude))).text) n.1
    ∙ go (stage (reverse s.text)).flag n.0 n.2
  where
    cs : List ℕ
    cs = kept (reverse s.text)

    go : (f : Bool) (u : State) → u.text ≡ cond f (noun_leaves cs) cs
        → reverse (left (and_then (either_way (turned_back []) (cond f (done u) (failed u))) (run forward failed source.postlude))).text
        ≡ cond f (postlude (noun_leaves cs)) cs
    go true u e =
        ap (λ (x : Repaired). x.text) (postlude-answers (turned_back [] u) refl) ∙ ap postlude (reverse-reverse u.text ∙ e)
    go false u e = reverse-reverse u.text ∙ e

-- the source's whole run, from the text's start in any state, leaves the simple form's text
pub whole-answers : (s : State) → s.cursor ≡ 0 → reverse (left (called forward source.stem s)).text ≡ whole_leaves (reverse s.text)
unfolding source.stem called run and_then settled move_to ahead left whole_leaves inward
whole-answers s h =
    let rest = backwards inward then source.postlude in
    let check = run forward failed source.more_than_one_syllable_word in
    ap (λ (c : ℕ). reverse (left (and_then (check (move_to s c)) (run forward failed rest))).text) h
    ∙ go (check (move_to s 0)) (more_than_one_syllable (reverse s.text)) (syllables-run failed (move_to s 0))
  where
    go : (r : Result) (b : Bool) → settled 0 r ≡ cond b (done (move_to s 0)) (failed (move_to s 0)) → let cs = reverse s.text in
        reverse (left (and_then r (run forward failed (backwards inward then source.postlude)))).text
        ≡ cond b (cond (stage cs).flag (postlude (noun_leaves (kept cs))) (kept cs)) cs
    go (done t) true e =
        ap (λ (u : State). reverse (left (run forward failed (backwards inward then source.postlude) u)).text) (done-state e) ∙ outward-run s
    go (done t) false e = done-failed e
    go (failed t) true e = done-failed (sym e)
    go (failed t) false e = ap (λ (u : State). reverse u.text) (failed-state e)

-- the whole run of a word is the simple form's
pub whole_run-simple : (cs : List ℕ) → whole_run cs ≡ whole_leaves cs
unfolding whole_run entered
whole_run-simple cs = whole-answers (entered (reverse cs)) refl ∙ ap whole_leaves (reverse-reverse cs)
