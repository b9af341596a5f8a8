-- Document 01, "Chains": offsets, sums, paths, faults, and the chained runs.
-- A chain is a list of elements, its links.
use Rattle.std.specs.Prelude.{ℕ, ◌≤◌, ◌<◌, ◌≡◌, ◌⊎◌, List, [], ◌∷◌, ℤ, pos, ◌+ℤ◌, ◌≤ℤ◌, ◌<ℤ◌, length}
use Rattle.picture.specs.Frame.{Frame}
use Rattle.picture.specs.Bytes.{Picture}
use Rattle.element.specs.Shape.{Shape, Offset}
use Rattle.element.specs.Descriptor.{most_cells}
use Rattle.morphology.specs.Step.{Cell, cell_offset, Has}
use Rattle.morphology.specs.Operations.{erode, dilate}

-- ---- sums and paths

abbrev pub origin : Offset
origin = record { dx = pos 0; dy = pos 0 }

abbrev pub plus : Offset → Offset → Offset
plus s t = record { dx = s.dx +ℤ t.dx; dy = s.dy +ℤ t.dy }

-- a choice takes one offset from each link, in order
abbrev pub Choice : List Shape → Type 0
Choice [] = Unit {0}
Choice (B ∷ Bs) = Cell B × Choice Bs

-- s and all offsets of a choice
abbrev pub sum_from : (Bs : List Shape) → Offset → Choice Bs → Offset
sum_from [] s k = s
sum_from (B ∷ Bs) s k = sum_from Bs (plus s (cell_offset B k.0)) k.1

-- P holds of s, of s with the first offset of a choice, with the first two, and so on to all of them
abbrev pub EachSumFrom : (P : Offset → Type 0) (Bs : List Shape) → Offset → Choice Bs → Type 0
EachSumFrom P [] s k = P s
EachSumFrom P (B ∷ Bs) s k = P s × EachSumFrom P Bs (plus s (cell_offset B k.0)) k.1

-- e is a sum of the chain
abbrev pub Sum : List Shape → Offset → Type 0
Sum Bs e = (k : Choice Bs) × (sum_from Bs origin k ≡ e)

-- s lies between 0 and e, ends included; and in each coordinate
abbrev pub Amid : ℤ → ℤ → Type 0
Amid e s = ((pos 0 ≤ℤ s) × (s ≤ℤ e)) ⊎ ((e ≤ℤ s) × (s ≤ℤ pos 0))

abbrev pub Between : Offset → Offset → Type 0
Between e s = Amid e.dx s.dx × Amid e.dy s.dy

-- a path for e is a choice with sum e whose every partial sum lies between 0 and e
abbrev pub PathTo : List Shape → Offset → Type 0
PathTo Bs e = (k : Choice Bs) × (sum_from Bs origin k ≡ e) × EachSumFrom (Between e) Bs origin k

-- ---- faults

-- the element has e and no path leads to it, or the element lacks e and it is a sum
pub data Fault (E : Shape) (Bs : List Shape) (e : Offset) : Type 0 where
  missed : Has E e → ¬ PathTo Bs e → Fault E Bs e
  extra : ¬ Has E e → Sum Bs e → Fault E Bs e

-- the chain is accepted: no offset is at fault
abbrev pub Accepted : Shape → List Shape → Type 0
Accepted E Bs = (e : Offset) → ¬ Fault E Bs e

-- lesser dy first, then lesser dx
abbrev pub Before : Offset → Offset → Type 0
Before d e = (d.dy <ℤ e.dy) ⊎ ((d.dy ≡ e.dy) × (d.dx <ℤ e.dx))

-- e is the first of all offsets with the property P
pub record First (P : Offset → Type 0) (e : Offset) : Type 0 where
  pub holds : P e
  pub none_before : (d : Offset) → Before d e → ¬ P d

-- ---- the chained runs: each link in order, all as erosion or all as dilation

unfoldable pub erode_all : ℕ → Frame → List Shape → Picture → Picture
erode_all top F [] A = A
erode_all top F (B ∷ Bs) A = erode_all top F Bs (erode top F B A)

unfoldable pub dilate_all : Frame → List Shape → Picture → Picture
dilate_all F [] A = A
dilate_all F (B ∷ Bs) A = dilate_all F Bs (dilate F B A)

-- ---- the limits

-- cells across and down of a link, and links of a chain
abbrev pub most_link_cells : ℕ
most_link_cells = 8

abbrev pub most_links : ℕ
most_links = 5

-- an element at most n wide and n high, its origin within it
pub record Fits (n : ℕ) (B : Shape) : Type 0 where
  pub few_columns : B.wide ≤ n
  pub few_rows : B.high ≤ n
  pub origin_column_in : B.origin_column < B.wide
  pub origin_row_in : B.origin_row < B.high

abbrev pub AllFit : ℕ → List Shape → Type 0
AllFit n [] = Unit {0}
AllFit n (B ∷ Bs) = Fits n B × AllFit n Bs

-- an element, and its chain of one to five links, each at most 8 wide and 8 high
pub record Chained (E : Shape) (Bs : List Shape) : Type 0 where
  pub element : Fits most_cells E
  pub links : AllFit most_link_cells Bs
  pub some_links : 1 ≤ length Bs
  pub few_links : length Bs ≤ most_links
