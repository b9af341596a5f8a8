-- What an element whose cells are all set, with its origin at its first cell, leads to: all places of a
-- rectangle. So its erosion and its dilation are settled by bounds alone, once for both.
use Prim.Native.Nat.{ℕ, ◌+◌, ◌-◌, ◌≤◌, ◌<◌}
use mathlib.Core.Path.{◌≡◌, refl}
use mathlib.Core.Bool.{Bool, true, false}
use native.Mathlib.Omega.{arith}
use lib.Dec.{T}
use Rattle.picture.specs.Frame.{Frame}
use Rattle.picture.specs.Bytes.{Picture}
use Rattle.element.specs.Shape.{Shape}
use Rattle.morphology.specs.Step.{Place, In, Step}
use Rattle.morphology.specs.Operations.{flat}
use Rattle.morphology.specs.Order.{Bounded}
use Rattle.morphology.proofs.Reach.{erosion, dilation}
use Rattle.rows.specs.Steps.Ways.{swept_by}
use Rattle.rows.proofs.Swept.{swept_bounded}
use Rattle.windows.specs.Steps.Bounds.{Bound}
use Rattle.windows.proofs.Bounds.{bounds_same}
use Rattle.sizes.specs.Spectrum.{rect}

-- a columns by b rows of set cells
pub record Full (a b : ℕ) (B : Shape) : Type 0 where
  pub wide_is : B.wide ≡ a
  pub high_is : B.high ≡ b
  pub column_first : B.origin_column ≡ 0
  pub row_first : B.origin_row ≡ 0
  pub each_set : (c r : ℕ) → c < a → r < b → T (B.has c r)

pub rect_full : (a b : ℕ) → Full a b (rect a b)
unfolding rect
rect_full a b =
    record {
      wide_is = refl;
      high_is = refl;
      column_first = refl;
      row_first = refl;
      each_set = λ c r hc hr. tt;
    }

-- q is one of the a by b places from p on
pub record From (a b : ℕ) (p q : Place) : Type 0 where
  pub left : p.x ≤ q.x
  pub right : q.x < p.x + a
  pub upper : p.y ≤ q.y
  pub lower : q.y < p.y + b

-- erosion looks on from p, dilation back
abbrev pub Near : Bool → ℕ → ℕ → Place → Place → Type 0
Near true a b p q = From a b q p
Near false a b p q = From a b p q

module _ (a b : ℕ) (B : Shape) (full : Full a b B) (p q : Place) where
  step_from : Step B p q → From a b p q
  step_from s =
      let e = full.wide_is in
      let f = full.high_is in
      let g = full.column_first in
      let h = full.row_first in
      let u = s.cell.in_width in
      let v = s.cell.in_height in
      let x = s.across in
      let y = s.down in
      record { left = omega arith; right = omega arith; upper = omega arith; lower = omega arith }

  from_step : From a b p q → Step B p q
  from_step n =
      let e = full.wide_is in
      let f = full.high_is in
      let g = full.column_first in
      let h = full.row_first in
      let hl = n.left in
      let hr = n.right in
      let hu = n.upper in
      let hd = n.lower in
      record {
        cell = record {
          column = q.x - p.x;
          row = q.y - p.y;
          in_width = omega arith;
          in_height = omega arith;
          set = full.each_set (q.x - p.x) (q.y - p.y) (omega arith) (omega arith);
        };
        across = omega arith;
        down = omega arith;
      }

-- v bounds the result at p exactly where it bounds the picture at each place near p
module _ (a b : ℕ) (B : Shape) (full : Full a b B) (F : Frame) (A : Picture) (p : Place) (v : ℕ) where
  pub near_to : (grows : Bool) → Bound grows (swept_by grows flat 1 F B A p.x p.y) v
      → (q : Place) → In F q → Near grows a b p q → Bound grows (A q.x q.y) v
  near_to true h q i n = (dilation flat F B A p v).0 h q i (from_step a b B full q p n)
  near_to false h q i n = ((erosion flat 1 F B A p v).0 h).1 q i (from_step a b B full p q n)

  pub near_from : (grows : Bool) → v < 2
      → ((q : Place) → In F q → Near grows a b p q → Bound grows (A q.x q.y) v)
      → Bound grows (swept_by grows flat 1 F B A p.x p.y) v
  near_from true l each = (dilation flat F B A p v).1 (λ q i s. each q i (step_from a b B full q p s))
  near_from false l each =
      (erosion flat 1 F B A p v).1 (omega arith, λ q i s. each q i (step_from a b B full p q s))

-- results of one bit are 0 or 1
pub swept_small : (grows : Bool) (F : Frame) (B : Shape) (A : Picture) → Bounded 1 F A
    → (p : Place) → In F p → swept_by grows flat 1 F B A p.x p.y < 2
swept_small grows F B A b p i = let l = swept_bounded grows 1 F B A b p i in omega arith

-- what has the same bounds is the same: two elements, each on its own picture in its own frame
module _ (grows : Bool) (a b c d : ℕ) (B C : Shape) (fb : Full a b B) (fc : Full c d C) (F G : Frame)
    (A D : Picture) (ba : Bounded 1 F A) (bd : Bounded 1 G D) (p q : Place) (ip : In F p) (iq : In G q)
  where
    pub same_near : ((v : ℕ) → v < 2 → ((r : Place) → In F r → Near grows a b p r → Bound grows (A r.x
        r.y) v)
        → (r : Place) → In G r → Near grows c d q r → Bound grows (D r.x r.y) v)
        → ((v : ℕ) → v < 2 → ((r : Place) → In G r → Near grows c d q r → Bound grows (D r.x r.y) v)
        → (r : Place) → In F r → Near grows a b p r → Bound grows (A r.x r.y) v)
        → swept_by grows flat 1 F B A p.x p.y ≡ swept_by grows flat 1 G C D q.x q.y
    same_near to from =
        bounds_same grows _ _ (swept_small grows F B A ba p ip) (swept_small grows G C D bd q iq)
        (λ v l h. near_from c d C fc G D q v grows l (to v l (near_to a b B fb F A p v grows h)))
        (λ v l h. near_from a b B fb F A p v grows l (from v l (near_to c d C fc G D q v grows h)))
