-- Document 01: hit and miss elements share an offset.
-- Offsets are compared and not cells, since origins may differ.
use Rattle.std.specs.Prelude.{ℕ, Bool, ◌&&◌}
use Rattle.element.specs.Shape.{Shape}
use Rattle.morphology.specs.Step.{Place}
use Rattle.morphology.specs.Check.{step_test}
use Rattle.basics.specs.Tests.{any}

-- the place of a cell, and that of the origin: between them lies the cell's offset
abbrev pub cell_place : ℕ → ℕ → Place
cell_place c r = record { x = c; y = r }

abbrev pub origin_place : Shape → Place
origin_place B = cell_place B.origin_column B.origin_row

-- some set cell of B has an offset that C has too
unfoldable pub shared : Shape → Shape → Bool
shared B C =
    any (λ r. any (λ c. B.has c r && step_test C (origin_place B) (cell_place c r)) B.wide) B.high
