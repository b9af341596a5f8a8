-- The links and the offsets that the code holds, as the definitions of chains have them.
use Rattle.std.specs.Prelude.{ℕ, ◌≤◌, List, [], map, get_or, take, replicate}
use Rattle.basics.specs.Lists.{firsts}
use Rattle.element.specs.declared.Element.{Element}
use Rattle.element.specs.declared.Outline.{Outline}
use Rattle.element.specs.Shape.{Shape}
use Rattle.element.specs.Record.{shape_by}
use Rattle.morphology.specs.Step.{Place}
use Rattle.morphology.specs.Chain.{most_link_cells, most_links, AllFit}
use Rattle.reach.specs.declared.Link.{Link}
use Rattle.reach.specs.declared.Offset.{Offset}

-- a link of an element that was read: its size and origin, and its first rows, all that a small one has
unfoldable pub first_rows : List ℕ → List ℕ
first_rows rows = firsts (λ r. get_or rows r 0) most_link_cells

unfoldable pub link_by : Outline → List ℕ → Link
link_by o rows = record { outline = o; rows = first_rows rows }

abbrev pub link_of : Element → Link
link_of e = link_by e.outline e.rows

-- the links
abbrev pub link_shape : Link → Shape
link_shape l = shape_by l.outline l.rows

abbrev pub shapes_of : List Link → List Shape
shapes_of ls = map link_shape ls

-- what stands for a link past the last, and where none is read
abbrev pub empty_link : Link
empty_link =
    record {
      outline = record { w = 0; h = 0; origin = record { ping = record { 0 = 0 }; bin = record { 0 = 0 } } };
      rows = [];
    }

unfoldable pub no_link : Link
no_link =
    record {
      outline = record { w = 0; h = 0; origin = record { ping = record { 0 = 0 }; bin = record { 0 = 0 } } };
      rows = replicate most_link_cells 0;
    }

-- the place that stands for an offset
abbrev pub place_of : Offset → Place
place_of e = record { x = e.x; y = e.y }

-- each coordinate is one byte
pub record OneByte (e : Offset) : Type 0 where
  pub x_high : e.x ≤ 255
  pub y_high : e.y ≤ 255

-- the first k links are few and small
pub record Linked (links : List Link) (k : ℕ) : Type 0 where
  pub few : k ≤ most_links
  pub small : AllFit most_link_cells (shapes_of (take k links))
