-- A result whose error was put in another (`map_err`): where it is Ok, what holds of the first's value holds of its. Assumes nothing.
use Rattle.std.proofs.Common.{◌≡◌, sym, ap, subst, Result, Ok, Err, MatchResult, IfOk, IfErr}
use Rattle.std.specs.Result.{IsErrAnd}

value_or : {T D : Type 0} → T → Result T D → T
value_or d (Ok x) = x
value_or d (Err e) = d

pub at_renamed : {T E : Type 0} (D : Type 0) (r : Result T E) (n : T) (P : T → Type 0) (Q : E → Type 0)
    → MatchResult r (λ x. ◌≡◌ {A = Result T D} (Ok n) (Ok x)) (λ e. ⊥) → MatchResult r P Q → P n
unfolding value_or
at_renamed D (Ok x) n P Q m h = subst P (sym (ap (value_or n) m)) h
at_renamed D (Err e) n P Q m h = absurd m

pub renamed : {T E D : Type 0} (r : Result T E) (q : Result T D) (Z : E → D → Type 0) (P : T → Type 0) (Q : E → Type 0)
    → MatchResult r (λ x. q ≡ Ok x) (λ e. IsErrAnd q (Z e)) → MatchResult r P Q → IfOk q P
renamed (Ok x) (Ok y) Z P Q m h = at_renamed _ (Ok x) y P Q m h
renamed (Ok x) (Err d) Z P Q m h = tt
renamed (Err e) (Ok y) Z P Q m h = absurd m
renamed (Err e) (Err d) Z P Q m h = tt

-- and where it is an error, it is one of those that the other may be put in
pub renamed-err : {T E D : Type 0} (r : Result T E) (q : Result T D) (Z : E → D → Type 0) (A : D → Type 0)
    → MatchResult r (λ x. q ≡ Ok x) (λ e. IsErrAnd q (Z e)) → ((e : E) (d : D) → Z e d → A d) → IfErr q A
renamed-err (Ok x) (Ok y) Z A m f = tt
renamed-err (Ok x) (Err d) Z A m f = absurd (subst (λ s. IfOk s (λ _. ⊥)) m tt)
renamed-err (Err e) (Ok y) Z A m f = tt
renamed-err (Err e) (Err d) Z A m f = f e d m
