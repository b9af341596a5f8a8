-- A number with five digits of 128 each: the outline's width and height, the origin's column and row, and
-- whether the operation grows.
use Rattle.std.specs.Prelude.{ℕ, ◌+◌, ◌*◌, ◌/◌, ◌%◌, ◌<◌, Bool, cond, leb}
use Rattle.element.specs.declared.Outline.{Outline}

-- an outline whose numbers are digits
pub record Small (o : Outline) : Type 0 where
  pub wide : o.w < 128
  pub high : o.h < 128
  pub column : o.origin.ping.0 < 128
  pub row : o.origin.bin.0 < 128

unfoldable pub digits : ℕ → ℕ → ℕ → ℕ → ℕ
digits w h x y = ((y * 128 + x) * 128 + h) * 128 + w

unfoldable pub plan_of : Bool → Outline → ℕ
plan_of grows o =
    digits o.w o.h o.origin.ping.0 (cond grows 128 0 + o.origin.bin.0)

unfoldable pub outline_by : ℕ → Outline
outline_by plan =
    record {
      w = plan % 128;
      h = plan / 128 % 128;
      origin = record { ping = record { 0 = plan / 16384 % 128 }; bin = record { 0 = plan / 2097152 % 128 } };
    }

unfoldable pub grows_by : ℕ → Bool
grows_by plan = leb 268435456 plan
