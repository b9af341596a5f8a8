-- What a cell makes of a value by its height, where the height's sign is known.
use Rattle.std.specs.Prelude.{ℕ, ◌+◌, ◌-◌, min, Bool, true, false, cond, eqb}

-- by a height of size g that raises, or does not; a height that raises leaves a value at the end where it is
abbrev pub lift_by : Bool → Bool → ℕ → ℕ → ℕ
lift_by true true g v = cond (eqb v 0) 0 (min 255 (v + g))
lift_by true false g v = v - g
lift_by false true g v = cond (eqb v 255) 255 (v - g)
lift_by false false g v = min 255 (v + g)
