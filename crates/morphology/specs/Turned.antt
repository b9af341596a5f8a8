-- An element turned about its origin, as the law of the complement has it.
use Rattle.std.specs.Prelude.{◌-◌}
use Rattle.element.specs.Shape.{Shape}

-- an offset -b for each offset b
unfoldable pub turned_element : Shape → Shape
turned_element B =
    record {
      wide = B.wide;
      high = B.high;
      origin_column = B.wide - 1 - B.origin_column;
      origin_row = B.high - 1 - B.origin_row;
      has = λ c r. B.has (B.wide - 1 - c) (B.high - 1 - r);
      height = λ c r. B.height (B.wide - 1 - c) (B.high - 1 - r);
    }
