-- `keys::among::key_before` meets its contract: the key's last three letters are held to the three characters seen at once, and the rest to the text.
-- Assumes nothing.
use mathlib.Core.Path.{sym, ap, subst, ◌∙◌}
use Prim.Native.Nat.{ℕ}
use mathlib.Core.List.{List}
use Rattle.utf8.specs.Steps.{move_to}
use Rattle.utf8.specs.declared.cursor.Cursor.{Cursor}
use Rattle.utf8.specs.Behind.{Open}
use Rattle.utf8.proofs.Laws.Part.{part_from, part_from-drop}
use Rattle.keys.specs.Keys.{up_to_zero}
use Rattle.keys.specs.Search.{over}
use Rattle.keys.proofs.Laws.KeyBefore.{letters-differ, letters-none, letters-one, letters-two, letters-three, letters-left, open-three}
use Rattle.keys.proofs.among.key_before.Goals as goal

pub returns-then-not-ends_in : goal.returns-then-not-ends_in
returns-then-not-ends_in c =
    letters-differ _ _ c.requires _ c.letter_of-a.ensures c.letter_of-b.ensures c.letter_of-d.ensures (sym c.ends_in.ensures ∙ c.if-not-ends_in.true)

pub returns-then-a-eq0 : goal.returns-then-a-eq0
returns-then-a-eq0 c = letters-none _ _ c.requires _ c.letter_of-a.ensures c.letter_of-b.ensures c.letter_of-d.ensures c.if-a-eq0.true

pub returns-then-b-eq0 : goal.returns-then-b-eq0
returns-then-b-eq0 c =
    letters-one _ _ c.requires _ c.letter_of-a.ensures c.letter_of-b.ensures c.letter_of-d.ensures (sym c.ends_in.ensures ∙ c.if-not-ends_in.false)
    c.if-a-eq0.false c.if-b-eq0.true

pub returns-then-d-eq0 : goal.returns-then-d-eq0
returns-then-d-eq0 c =
    letters-two _ _ c.requires _ c.letter_of-a.ensures c.letter_of-b.ensures c.letter_of-d.ensures (sym c.ends_in.ensures ∙ c.if-not-ends_in.false)
    c.if-a-eq0.false c.if-b-eq0.false c.if-d-eq0.true

pub returns-then-key-le3 : goal.returns-then-key-le3
returns-then-key-le3 c =
    letters-three _ _ c.requires _ c.letter_of-a.ensures c.letter_of-b.ensures c.letter_of-d.ensures (sym c.ends_in.ensures ∙ c.if-not-ends_in.false)
    c.if-a-eq0.false c.if-b-eq0.false c.if-d-eq0.false c.if-key-le3.true

pub key_rest-requires : goal.key_rest-requires
key_rest-requires c = subst (Open _) (sym c.moved_to.ensures) (open-three _ c.args.s c.requires)

pub returns : goal.returns
returns c =
    let w = c.args.w.now in
    let there = ap (λ (x : Cursor). over w x (up_to_zero (part_from c.args.key.now 3))) c.moved_to.ensures in
    let left = ap (λ (k : List ℕ). over w (move_to c.args.s.c c.args.s.ending.three) (up_to_zero k)) (part_from-drop c.args.key.now 3) in
    c.key_rest.ensures ∙ there ∙ left
    ∙ letters-left _ _ c.requires _ c.letter_of-a.ensures c.letter_of-b.ensures c.letter_of-d.ensures (sym c.ends_in.ensures ∙ c.if-not-ends_in.false)
    c.if-a-eq0.false c.if-b-eq0.false c.if-d-eq0.false
