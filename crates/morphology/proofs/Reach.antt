-- The universal properties of erosion and dilation, in terms of steps:
-- what every law says of them it says through these two.
use Prim.Native.Nat.{ℕ, ◌+◌, ◌≤◌, ◌<◌, zero-le, min, max}
use mathlib.Core.Path.{◌≡◌, sym, subst₂}
use mathlib.Core.Bool.{Bool, ◌&&◌}
use mathlib.Core.Logic.{◌↔◌, ◌⊎◌, inl, inr, ⊎_elim}
use native.Mathlib.Nat.{le_refl}
use native.Mathlib.Omega.{arith}
use lib.Dec.{T, leb, ltb, leb→le, le→leb, ltb→lt, lt→ltb, nleb→lt, not_T}
use Rattle.picture.specs.Frame.{Frame}
use Rattle.picture.specs.Bytes.{Picture}
use Rattle.element.specs.Shape.{Shape}
use Rattle.morphology.specs.Step.{Place, In, Cell, Step}
use Rattle.morphology.specs.Operations.{moved, within, onward, backward, Change, erode_by, dilate_by}
use Rattle.basics.proofs.Truth.{and_intro, and_parts, three_intro, three_parts, decided}
use Rattle.morphology.proofs.Folds.{least_shared, most_shared, gathered, gather_found}

-- ---- places in the frame, by their tests

within_parts : (n p plus minus : ℕ) → T (within n p plus minus)
    → (minus ≤ p + plus) × (moved p plus minus < n)
within_parts n p plus minus t =
    let a = and_parts (leb minus (p + plus)) (ltb (moved p plus minus) n) t in
    (leb→le minus (p + plus) a.0, ltb→lt (moved p plus minus) n a.1)

within_intro : (n p plus minus : ℕ) → minus ≤ p + plus → moved p plus minus < n → T (within n p plus minus)
within_intro n p plus minus h l =
    and_intro (leb minus (p + plus)) (ltb (moved p plus minus) n)
    (le→leb minus (p + plus) h) (lt→ltb (moved p plus minus) n l)

-- the place (x + plus - minus, y + down - up)
abbrev pub there : ℕ → ℕ → ℕ → ℕ → ℕ → ℕ → Place
there x plus minus y down up = record { x = moved x plus minus; y = moved y down up }

-- the test on one cell: the cell is set, and the place is in the frame
abbrev pub taken : Frame → Bool → ℕ → ℕ → ℕ → ℕ → ℕ → ℕ → Bool
taken F set x plus minus y down up = set && (within F.pings x plus minus && within F.bins y down up)

pub record TakenAt (F : Frame) (set : Bool) (x plus minus y down up : ℕ) : Type 0 where
  pub is_set : T set
  pub is_in : In F (there x plus minus y down up)
  pub left : minus ≤ x + plus
  pub upper : up ≤ y + down

pub taken_parts : (F : Frame) (set : Bool) (x plus minus y down up : ℕ)
    → T (taken F set x plus minus y down up) → TakenAt F set x plus minus y down up
taken_parts F set x plus minus y down up t =
    let a = three_parts set (within F.pings x plus minus) (within F.bins y down up) t in
    let h = within_parts F.pings x plus minus a.1 in
    let k = within_parts F.bins y down up a.2 in
    record { is_set = a.0; is_in = record { ping = h.1; bin = k.1 }; left = h.0; upper = k.0 }

-- a place q with q + minus = p + plus in each coordinate is the place that the test looks at
pub taken_there : (F : Frame) (set : Bool) (x plus minus y down up : ℕ) (q : Place)
    → T set → In F q → q.x + minus ≡ x + plus → q.y + up ≡ y + down
    → T (taken F set x plus minus y down up) × (moved x plus minus ≡ q.x) × (moved y down up ≡ q.y)
taken_there F set x plus minus y down up q t i ex ey = (
  three_intro set (within F.pings x plus minus) (within F.bins y down up) t
      (within_intro F.pings x plus minus (omega arith) (omega arith))
      (within_intro F.bins y down up (omega arith) (omega arith)),
  omega arith,
  omega arith,
)

-- the height of the cell of a step
abbrev pub height_at : (B : Shape) {p q : Place} → Step B p q → ℕ
height_at B s = B.height s.cell.column s.cell.row

-- what holds at each cell that is taken holds at each place that such a cell leads to,
-- and the other way round; a cell leads on by plus - minus
module _ (F : Frame) (B : Shape) (A : Picture) (P : ℕ → Type 0)
    (f : Change) (plus minus down up : ℕ → ℕ) (p : Place) where
  cells_lead : ((c r : ℕ) → c < B.wide → r < B.high
      → T (taken F (B.has c r) p.x (plus c) (minus c) p.y (down r) (up r))
      → P (f (B.height c r) (A (moved p.x (plus c) (minus c)) (moved p.y (down r) (up r)))))
      ↔ ((q : Place) → In F q → (k : Cell B) → q.x + minus k.column ≡ p.x + plus k.column
      → q.y + up k.row ≡ p.y + down k.row
      → P (f (B.height k.column k.row) (A q.x q.y)))
  cells_lead = (
    λ each q i k ex ey.
        let t = taken_there F (B.has k.column k.row) p.x (plus k.column)
        (minus k.column) p.y (down k.row) (up k.row) q k.set i ex ey in
        subst₂ (λ u v. P (f (B.height k.column k.row) (A u v))) t.1
        t.2 (each k.column k.row k.in_width k.in_height t.0),
    λ each c r lc lr t.
        let k = taken_parts F (B.has c r) p.x (plus c) (minus c) p.y (down r) (up r) t in
        each (there p.x (plus c) (minus c) p.y (down r) (up r)) k.is_in
        (record { column = c; row = r; in_width = lc; in_height = lr; set = k.is_set })
        (omega arith) (omega arith),
  )

-- ---- the universal properties

-- v is at most the erosion at p exactly where it is at most top and at most each value,
-- lowered, that a step from p leads to
pub erosion : (lower : Change) (top : ℕ) (F : Frame) (B : Shape) (A : Picture) (p : Place) (v : ℕ)
    → (v ≤ erode_by lower top F B A p.x p.y)
    ↔ ((v ≤ top) × ((q : Place) → In F q → (s : Step B p q) → v ≤ lower (height_at B s) (A q.x q.y)))
unfolding erode_by
erosion lower top F B A p v =
    let g = gathered min (λ a. v ≤ a) (least_shared v) top B (onward F B p.x p.y) _ in
    let l = cells_lead F B A (λ a. v ≤ a) lower (λ c. c)
    (λ c. B.origin_column) (λ r. r) (λ r. B.origin_row) p in (
      λ h. ((g.0 h).0, λ q i s. l.0 (g.0 h).1 q i s.cell s.across s.down),
      λ h. g.1 (h.0, l.1 (λ q i k ex ey. h.1 q i (record { cell = k; across = ex; down = ey }))),
    )

-- the dilation at q is at most v exactly where each value, raised, that a step to q comes from is
pub dilation : (raise : Change) (F : Frame) (B : Shape) (A : Picture) (q : Place) (v : ℕ)
    → (dilate_by raise F B A q.x q.y ≤ v)
    ↔ ((p : Place) → In F p → (s : Step B p q) → raise (height_at B s) (A p.x p.y) ≤ v)
unfolding dilate_by
dilation raise F B A q v =
    let g = gathered max (λ a. a ≤ v) (most_shared v) 0 B (backward F B q.x q.y) _ in
    let l = cells_lead F B A (λ a. a ≤ v) raise (λ c. B.origin_column)
    (λ c. c) (λ r. B.origin_row) (λ r. r) q in (
      λ h p i s. l.0 (g.0 h).1 p i s.cell (sym s.across) (sym s.down),
      λ h. g.1 (zero-le, l.1 (λ p i k ex ey. h p i (record { cell = k; across = sym ex; down = sym ey }))),
    )

-- so the erosion is at most top and at most each of those values,
-- and the dilation at least each of its values
pub erode_top : (lower : Change) (top : ℕ) (F : Frame) (B : Shape) (A : Picture) (p : Place)
    → erode_by lower top F B A p.x p.y ≤ top
erode_top lower top F B A p = ((erosion lower top F B A p _).0 (le_refl _)).0

pub erode_le : (lower : Change) (top : ℕ) (F : Frame) (B : Shape) (A : Picture) (p q : Place) → In F q
    → (s : Step B p q)
    → erode_by lower top F B A p.x p.y ≤ lower (height_at B s) (A q.x q.y)
erode_le lower top F B A p q i s = ((erosion lower top F B A p _).0 (le_refl _)).1 q i s

pub le_dilate : (raise : Change) (F : Frame) (B : Shape) (A : Picture) (p q : Place) → In F p
    → (s : Step B p q)
    → raise (height_at B s) (A p.x p.y) ≤ dilate_by raise F B A q.x q.y
le_dilate raise F B A p q i s = (dilation raise F B A q _).0 (le_refl _) p i s

-- a dilation above 0 is the value, raised, that one of the steps comes from
pub dilate_found : (raise : Change) (F : Frame) (B : Shape) (A : Picture) (q : Place)
    → 0 < dilate_by raise F B A q.x q.y
    → (p : Place) × In F p
    × ((s : Step B p q) × (dilate_by raise F B A q.x q.y ≡ raise (height_at B s) (A p.x p.y)))
unfolding dilate_by
dilate_found raise F B A q l =
    ⊎_elim (λ e. absurd (omega arith))
    (λ k.
    let t = taken_parts F (B.has k.column k.row) q.x B.origin_column
    k.column q.y B.origin_row k.row k.is_taken in
    let c : Cell B =
    record {
      column = k.column;
      row = k.row;
      in_width = k.in_width;
      in_height = k.in_height;
      set = t.is_set;
    } in
    (_, t.is_in, (record { cell = c; across = omega arith; down = omega arith }, k.is)))
    (gather_found max either 0 B (backward F B q.x q.y) _)
  where
    either : (a b : ℕ) → (max a b ≡ a) ⊎ (max a b ≡ b)
    either a b =
        ⊎_elim (λ t. let h = leb→le a b t in inr (omega arith))
        (λ n. let h = nleb→lt a b (not_T (leb a b) n) in inl (omega arith)) (decided (leb a b))
