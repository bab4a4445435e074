-- What `lent::back_over` answers is `over`, once that is unfolded: the contracts of `literal_back` and `step_back` say each of its fields, the
-- last by what `then_some` makes of it. Assumes nothing.
use Rattle.std.specs.Prelude.{◌≡◌, is_some, option_map, unwrap_or, Some, None}
use Rattle.std.specs.Bool.{then_some}
use Rattle.std.specs.declared.option.Option.{Option}
use Rattle.std.proofs.Common.{rules}
use mathlib.Core.Path.{refl, ◌∙◌}
use Rattle.utf8.specs.declared.step.Step.{Step}
use Rattle.utf8.specs.Steps.{previous_char_of}
use Rattle.lent.specs.Over.{one_back, over}
use Rattle.lent.proofs.back_over.Goals as goal

-- what a step leaves, where it is one, is the step's own record
kept : {A B : Type 0} (f : A → B) (o : Option A) (d : B) → then_some (is_some o) (unwrap_or (option_map f o) d) ≡ option_map f o
kept f None d = refl
kept f (Some x) d = refl

pub returns : goal.returns
unfolding over
returns c =
    let next : c.then_some-next.result ≡ one_back c.args.w.now c.literal_back-joined.new.c =
    c.then_some-next.ensures
    ∙ rw (c.step_back.ensures.value, c.step_back.ensures.c_after)
    (kept (λ (s : Step). s.next) (previous_char_of c.args.w.now c.literal_back-joined.new.c) c.literal_back-joined.new.c) in
    search rules
