-- The papers' number of each refusal, and of a call's result. Assumes nothing.
use Rattle.std.specs.Prelude.{ℕ, Result, Ok, Err}
use Rattle.turkish.specs.declared.refusal.Refusal.{Refusal}
use Rattle.turkish.specs.declared.refusal.Refusal.TheVariants.{OverLimit, NotUtf8, OutputTooShort, HasTab, BufferTooShort, TailsRefused}

abbrev pub refusal_number : Refusal → ℕ
refusal_number OverLimit = 1
refusal_number NotUtf8 = 2
refusal_number OutputTooShort = 3
refusal_number HasTab = 4
refusal_number BufferTooShort = 5
refusal_number TailsRefused = 6

-- 0 where the call is not refused
abbrev pub result_number : {A : Type 0} → Result A Refusal → ℕ
result_number (Ok x) = 0
result_number (Err r) = refusal_number r
