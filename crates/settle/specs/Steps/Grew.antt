-- What one visit of a part of the target may do, whatever the order of the visits.
-- There are h rows of n bytes, the last u bits of each spare;
-- a point is a column x and a row y, and the padding counts as columns here.
use Rattle.std.specs.Prelude.{ℕ, ◌+◌, ◌-◌, ◌*◌, ◌/◌, ◌%◌, ◌≤◌, ◌<◌, min, ◌≡◌, Bool, true, false, cond}
use Rattle.std.specs.Prelude.{List, ◌⊎◌, ltb, length, get_or}
use Rattle.basics.specs.Bits.{bit}
use Rattle.basics.specs.Bytes.{Bytes}

-- column x of the row from the place `at` on
abbrev pub point_in : List ℕ → ℕ → ℕ → ℕ
point_in l at x = bit (get_or l (at + x / 8) 0) (7 - x % 8)

-- at most one apart; and, of columns in the row above or below, the same alone with the cross
abbrev pub Near : ℕ → ℕ → Type 0
Near a b = (a ≤ b + 1) × (b ≤ a + 1)

abbrev pub NearBy : Bool → ℕ → ℕ → Type 0
NearBy true a b = Near a b
NearBy false a b = a ≡ b

-- a neighbouring step from (x, y) to (v, z), or none
abbrev pub Touch : Bool → ℕ → ℕ → ℕ → ℕ → Type 0
Touch true x y v z = Near x v × Near y z
Touch false x y v z = ((x ≡ v) × Near y z) ⊎ (Near x v × (y ≡ z))

-- a point of the mask: the padding is none
unfoldable pub mask_point : ℕ → ℕ → List ℕ → ℕ → ℕ → ℕ
mask_point n u mask v z = cond (ltb v (8 * n - u)) (point_in mask (z * n) v) 0

-- no point of the rows l lies outside G
abbrev pub Under : ℕ → ℕ → List ℕ → (ℕ → ℕ → ℕ) → Type 0
Under n h l G = (x y : ℕ) → x < 8 * n → y < h → point_in l (y * n) x ≤ G x y

-- no neighbouring step inside the mask leads out of G
abbrev pub Shut : Bool → ℕ → ℕ → ℕ → List ℕ → (ℕ → ℕ → ℕ) → Type 0
Shut square n u h mask G =
    (x y v z : ℕ) → x < 8 * n → y < h → v < 8 * n → z < h → Touch square x y v z
    → min (mask_point n u mask v z) (G x y) ≤ G v z

-- from l to t: points are gained, inside whatever l lies in and no step leads out of;
-- nothing past the picture changes
pub record Grew (square : Bool) (n u h : ℕ) (mask l t : List ℕ) : Type 0 where
  pub same_length : length t ≡ length l
  pub bytes : Bytes l → Bytes t
  pub rest : (i : ℕ) → h * n ≤ i → get_or t i 0 ≡ get_or l i 0
  pub more : (x y : ℕ) → x < 8 * n → y < h → point_in l (y * n) x ≤ point_in t (y * n) x
  pub under : (G : ℕ → ℕ → ℕ) → Shut square n u h mask G → Under n h l G → Under n h t G

-- a point was gained
abbrev pub Gained : ℕ → ℕ → List ℕ → List ℕ → Type 0
Gained n h l t =
    (x : ℕ) × (y : ℕ) × (x < 8 * n) × (y < h) × (point_in l (y * n) x < point_in t (y * n) x)

-- no neighbouring step inside the mask leads to column v of row z from a point of l, unless it is one
abbrev pub StillAt : Bool → ℕ → ℕ → ℕ → List ℕ → List ℕ → ℕ → ℕ → Type 0
StillAt square n u h mask l v z =
    (x y : ℕ) → x < 8 * n → y < h → Touch square x y v z
    → min (mask_point n u mask v z) (point_in l (y * n) x) ≤ point_in l (z * n) v
