-- Which points an element joins: q = p + b for an offset b of the element.
use Rattle.std.specs.Prelude.{ℕ, ◌+◌, ◌<◌, ◌≡◌, T, pos, ◌+ℤ◌}
use Rattle.picture.specs.Frame.{Frame}
use Rattle.element.specs.Shape.{Shape, Offset, offset_of}

-- a place is a column and a row
pub record Place : Type 0 where
  pub x : ℕ
  pub y : ℕ

-- p is a point of the frame
pub record In (F : Frame) (p : Place) : Type 0 where
  pub ping : p.x < F.pings
  pub bin : p.y < F.bins

-- a set cell of the element
pub record Cell (B : Shape) : Type 0 where
  pub column : ℕ
  pub row : ℕ
  pub in_width : column < B.wide
  pub in_height : row < B.high
  pub set : T (B.has column row)

-- the offset that it stands for
abbrev pub cell_offset : (B : Shape) → Cell B → Offset
cell_offset B k = offset_of B k.column k.row

-- the element has the offset b
abbrev pub Has : Shape → Offset → Type 0
Has B b = (k : Cell B) × (cell_offset B k ≡ b)

-- q = p + b, which is also p = q - b
pub record Plus (p : Place) (b : Offset) (q : Place) : Type 0 where
  pub across : pos q.x ≡ pos p.x +ℤ b.dx
  pub down : pos q.y ≡ pos p.y +ℤ b.dy

-- the element leads from p to q: q = p + b for an offset b that it has, written with no negative number
pub record Step (B : Shape) (p q : Place) : Type 0 where
  pub cell : Cell B
  pub across : q.x + B.origin_column ≡ p.x + cell.column
  pub down : q.y + B.origin_row ≡ p.y + cell.row
