-- Request (xiv): which points of a one-bit picture belong together.
-- Node 0 is what lies beyond the frame, node p + 1 is the point p in row order: column p % w of row p / w.
-- A gives the value of a point by its number: 1 for an echo, 0 for background.
use Rattle.std.specs.Prelude.{ℕ, ◌+◌, ◌-◌, ◌*◌, ◌/◌, ◌%◌, ◌≤◌, ◌<◌, ◌≡◌, List}
use Rattle.picture.specs.declared.Depth.TheVariants.{OneBit}
use Rattle.picture.specs.Points.{value_at}

-- the points of the picture in the bytes s, of W pings
unfoldable pub point_of : List ℕ → ℕ → ℕ → ℕ
point_of s w p = value_at OneBit s w (p % w) (p / w)

-- p lies on the frame's edge: in the first or last column or row
pub data Edge (w h p : ℕ) : Type 0 where
  first_column : p % w ≡ 0 → Edge w h p
  last_column : p % w + 1 ≡ w → Edge w h p
  first_row : p / w ≡ 0 → Edge w h p
  last_row : p / w + 1 ≡ h → Edge w h p

-- p and q are like, and neighbours: of echoes any of the 8, of background only in one row or one column, the
-- 4
pub data Straight (w p q : ℕ) : Type 0 where
  one_column : p % w ≡ q % w → Straight w p q
  one_row : p / w ≡ q / w → Straight w p q

pub record Neighbours (w : ℕ) (A : ℕ → ℕ) (p q : ℕ) : Type 0 where
  pub like : A p ≡ A q
  pub right : p % w ≤ q % w + 1
  pub left : q % w ≤ p % w + 1
  pub down : p / w ≤ q / w + 1
  pub up : q / w ≤ p / w + 1
  pub straight : A p ≡ 0 → Straight w p q

-- two nodes next to each other: background on the edge is next to what lies beyond
pub data Linked (w h : ℕ) (A : ℕ → ℕ) (a b : ℕ) : Type 0 where
  beyond : (p : ℕ) → a ≡ 0 → b ≡ p + 1 → p < h * w → A p ≡ 0 → Edge w h p → Linked w h A a b
  beside : (p q : ℕ) → a ≡ p + 1 → b ≡ q + 1 → p < h * w → q < h * w → Neighbours w A p q → Linked w h A a b

-- nodes of one region: steps lead from one to the other
pub data Joined (w h : ℕ) (A : ℕ → ℕ) (a : ℕ) : ℕ → Type 0 where
  here : Joined w h A a a
  onward : {b c : ℕ} → Joined w h A a b → Linked w h A b c → Joined w h A a c
  back : {b c : ℕ} → Joined w h A a b → Linked w h A c b → Joined w h A a c

-- R gives each node the first of its region: 0 for the outer one, and else its first point in row order, 1
-- more
pub record Firsts (w h : ℕ) (A R : ℕ → ℕ) : Type 0 where
  pub joined : (a : ℕ) → a ≤ h * w → Joined w h A a (R a)
  pub least : (a b : ℕ) → a ≤ h * w → Joined w h A a b → R a ≤ b
