-- Refusals in order: each is given exactly under its condition and none earlier in the order.
use Rattle.std.specs.Prelude.{ℕ, Bool, true, false, cond, List, [], ◌∷◌}
use Rattle.answer.specs.declared.Told.{Told}
use Rattle.answer.specs.Answer.{plain}

-- a condition and the number of its refusal
abbrev pub Test : Type 0
Test = Bool × ℕ

-- the refusal of the first test that holds, and what follows where none does
abbrev pub refuse : List Test → Told → Told
refuse [] after = after
refuse (t ∷ ts) after = cond t.0 (plain t.1) (refuse ts after)

-- the first test that holds has the number n
pub data FirstHolds : List Test → ℕ → Type 0 where
  here : {n : ℕ} {ts : List Test} → FirstHolds ((true, n) ∷ ts) n
  later : {m n : ℕ} {ts : List Test} → FirstHolds ts n → FirstHolds ((false, m) ∷ ts) n

-- no test holds
pub data NoneHolds : List Test → Type 0 where
  end : NoneHolds []
  next : {m : ℕ} {ts : List Test} → NoneHolds ts → NoneHolds ((false, m) ∷ ts)
