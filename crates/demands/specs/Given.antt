-- A number of what a call gives, and 0 where it is refused.
use Rattle.std.specs.Prelude.{ℕ, Result, Ok, Err}
use Rattle.answer.specs.declared.Refusal.{Refusal}

abbrev pub given : {A : Type 0} → (A → ℕ) → Result A Refusal → ℕ
given f (Ok x) = f x
given f (Err r) = 0
