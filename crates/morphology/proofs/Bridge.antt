-- The offsets of Chain.antt and the places that stand for them:
-- steps are cells, walks are choices, and so on to faults and differences.
use Prim.Native.Nat.{ℕ, suc, ◌+◌, ◌-◌, ◌*◌, ◌≤◌, min, max}
use mathlib.Core.Path.{◌≡◌, refl, sym, ap, ◌∙◌, subst}
use mathlib.Core.Logic.{◌⊎◌, inl, inr, ⊎_elim}
use mathlib.Core.List.{List, [], ◌∷◌}
use native.Mathlib.Omega.{arith}
use lib.Dec.{leb, leb→le, nleb→lt, not_T}
use lib.IntN.{ℤ, pos, negsuc, sub_ℕ, +ℤ_idl}
use lib.ListN.{length}
use Rattle.answer.specs.Answer.{centre}
use Rattle.element.specs.Shape.{Shape, Offset}
use Rattle.morphology.specs.Step.{Place, Cell, cell_offset, Has, Step}
use Rattle.morphology.specs.Chain.{origin, plus, Choice, sum_from, EachSumFrom, Sum, Amid, Between}
use Rattle.morphology.specs.Chain.{PathTo, Fault, missed, extra, Before, Fits, AllFit, Chained}
use Rattle.morphology.specs.Check.{value, still}
use Rattle.basics.proofs.Truth.{decided}
use Rattle.morphology.proofs.Places.{same_place, Walk, HasAt, SumAt, BetweenAt}
use Rattle.morphology.proofs.Places.{PathAt, FaultAt, missed_at, extra_at, BeforeAt}
use Rattle.morphology.proofs.Integers.{sub_eq, sub_same, sub_add, sub_le}
use Rattle.morphology.proofs.Integers.{le_sub, sub_lt, lt_sub, pos_is, negsuc_is}

-- ---- offsets and places
same_offset : {s t : Offset} → s.dx ≡ t.dx → s.dy ≡ t.dy → s ≡ t
same_offset ex ey = λ i. record { dx = ex i; dy = ey i }

dx_of : {s t : Offset} → s ≡ t → s.dx ≡ t.dx
dx_of e = ap (λ z. z.dx) e

dy_of : {s t : Offset} → s ≡ t → s.dy ≡ t.dy
dy_of e = ap (λ z. z.dy) e

pub value_same : (d e : Place) → value d ≡ value e → (d.x ≡ e.x) × (d.y ≡ e.y)
value_same d e h =
    let a = sub_same d.x centre e.x centre (dx_of h) in
    let b = sub_same d.y centre e.y centre (dy_of h) in
    (omega arith, omega arith)

-- the offset (0, 0) is the middle of the board
middle : origin ≡ value still
middle = refl

-- which integers are the coordinate of a place, and which offsets are that of a place
coordinate : (z : ℤ) → ((n : ℕ) × (sub_ℕ n centre ≡ z)) ⊎ ((n : ℕ) → sub_ℕ n centre ≡ z → ⊥)
coordinate (pos k) = inl (k + centre, sub_eq (k + centre) centre k 0 (omega arith) ∙ sym (pos_is k))
coordinate (negsuc k) =
    ⊎_elim (λ t. let h = leb→le (suc k) centre t in
    inl (centre - suc k, sub_eq (centre - suc k) centre 0 (suc k) (omega arith) ∙ sym (negsuc_is k)))
    (λ t. let h = nleb→lt (suc k) centre (not_T (leb (suc k) centre) t) in
    inr (λ n e. let j = sub_same n centre 0 (suc k) (e ∙ negsuc_is k) in omega arith))
    (decided (leb (suc k) centre))

pub placed : (o : Offset) → ((e : Place) × (value e ≡ o)) ⊎ ((e : Place) → value e ≡ o → ⊥)
placed o =
    ⊎_elim (λ a. ⊎_elim (λ b. inl (record { x = a.0; y = b.0 }, same_offset a.1 b.1))
    (λ n. inr (λ e h. n e.y (dy_of h))) (coordinate o.dy))
    (λ n. inr (λ e h. n e.x (dx_of h))) (coordinate o.dx)

nil_plus : (s : Offset) → plus origin s ≡ s
nil_plus s = same_offset (+ℤ_idl s.dx) (+ℤ_idl s.dy)

-- ---- a step is a cell

step_adds : (B : Shape) (p q : Place) (s : Step B p q) → plus (value p) (cell_offset B s.cell) ≡ value q
step_adds B p q s =
    same_offset
    (sub_add p.x centre s.cell.column B.origin_column
    ∙ sub_eq (p.x + s.cell.column) (centre + B.origin_column) q.x centre (omega arith))
    (sub_add p.y centre s.cell.row B.origin_row
    ∙ sub_eq (p.y + s.cell.row) (centre + B.origin_row) q.y centre (omega arith))

adds_step : (B : Shape) (p q : Place) (b : Cell B) → plus (value p) (cell_offset B b) ≡ value q → Step B p q
adds_step B p q b h =
    let ex = sub_same (p.x + b.column) (centre + B.origin_column)
    q.x centre (sym (sub_add p.x centre b.column B.origin_column) ∙ dx_of h) in
    let ey = sub_same (p.y + b.row) (centre + B.origin_row)
    q.y centre (sym (sub_add p.y centre b.row B.origin_row) ∙ dy_of h) in
    record {
      cell = b;
      across = omega arith;
      down = omega arith;
    }

-- with room before it, a place can be moved by any cell
cell_step : (B : Shape) (p : Place) (b : Cell B) → B.origin_column ≤ p.x → B.origin_row ≤ p.y
    → (q : Place) × Step B p q × (plus (value p) (cell_offset B b) ≡ value q)
cell_step B p b hx hy =
    let q : Place = record { x = p.x + b.column - B.origin_column; y = p.y + b.row - B.origin_row } in
    let s : Step B p q = record {
      cell = b;
      across = omega arith;
      down = omega arith;
    } in
    (q, s, step_adds B p q s)

-- ---- a walk is a choice

walk_choice : (P : Place → Type 0) (R : Offset → Type 0) → ((m : Place) → P m → R (value m))
    → (Bs : List Shape) (p q : Place) → R (value p) → Walk P Bs p q
    → (k : Choice Bs) × (sum_from Bs (value p) k ≡ value q) × EachSumFrom R Bs (value p) k
walk_choice P R f [] p q r w = (tt, ap value (same_place {p = p} {q = q} w.0 w.1), r)
walk_choice P R f (B ∷ Bs) p q r w =
    let e = sym (step_adds B p w.0 w.1) in
    let h = walk_choice P R f Bs w.0 q (f w.0 w.2) w.3 in (
      (w.1.cell, h.0),
      subst (λ (z : Offset). sum_from Bs z h.0 ≡ value q) e h.1,
      (r, subst (λ (z : Offset). EachSumFrom R Bs z h.0) e h.2),
    )

-- there is room for n links before the place
record Room (n : ℕ) (p : Place) : Type 0 where
  left : 7 * n ≤ p.x
  upper : 7 * n ≤ p.y

room_step : (n : ℕ) {B : Shape} {p q : Place} → Fits 8 B → Room (suc n) p → Step B p q → Room n q
room_step n f r s = record { left = omega arith; upper = omega arith }

room_for : (n : ℕ) {B : Shape} {p : Place} → Fits 8 B → Room (suc n) p
    → (B.origin_column ≤ p.x) × (B.origin_row ≤ p.y)
room_for n f r = (omega arith, omega arith)

first_sum : (R : Offset → Type 0) (Bs : List Shape) (s : Offset) (k : Choice Bs) → EachSumFrom R Bs s k → R s
first_sum R [] s k h = h
first_sum R (B ∷ Bs) s k h = h.0

choice_walk : (P : Place → Type 0) (R : Offset → Type 0) → ((m : Place) → R (value m) → P m)
    → (Bs : List Shape) (p q : Place) → AllFit 8 Bs → Room (length Bs) p
    → (k : Choice Bs) → sum_from Bs (value p) k ≡ value q → EachSumFrom R Bs (value p) k → Walk P Bs p q
choice_walk P R f [] p q fit room k e h = value_same p q e
choice_walk P R f (B ∷ Bs) p q fit room k e h =
    let g = room_for (length Bs) fit.0 room in
    let m = cell_step B p k.0 g.0 g.1 in
    let rest = subst (λ (z : Offset). EachSumFrom R Bs z k.1) m.2 h.1 in (
      m.0,
      m.1,
      f m.0 (first_sum R Bs (value m.0) k.1 rest),
      choice_walk P R f Bs m.0 q fit.1 (room_step (length Bs) fit.0 room m.1)
          k.1 (subst (λ (z : Offset). sum_from Bs z k.1 ≡ value q) m.2 e) rest,
    )

-- every sum is the offset of a place
choice_ends : (Bs : List Shape) (p : Place) → AllFit 8 Bs → Room (length Bs) p → (k : Choice Bs)
    → (q : Place) × (sum_from Bs (value p) k ≡ value q)
choice_ends [] p fit room k = (p, refl)
choice_ends (B ∷ Bs) p fit room k =
    let g = room_for (length Bs) fit.0 room in
    let m = cell_step B p k.0 g.0 g.1 in
    let h = choice_ends Bs m.0 fit.1 (room_step (length Bs) fit.0 room m.1) k.1 in
    (h.0, subst (λ (z : Offset). sum_from Bs z k.1 ≡ value h.0) (sym m.2) h.1)

any_sums : (Bs : List Shape) (s : Offset) (k : Choice Bs) → EachSumFrom (λ t. Unit {0}) Bs s k
any_sums [] s k = tt
any_sums (B ∷ Bs) s k = (tt, any_sums Bs _ k.1)

-- ---- between

amid_to : (e s : ℕ) → min centre e ≤ s → s ≤ max centre e → Amid (sub_ℕ e centre) (sub_ℕ s centre)
amid_to e s l r =
    ⊎_elim (λ t. let h = leb→le centre e t in
    inl (le_sub centre centre s centre (omega arith), le_sub s centre e centre (omega arith)))
    (λ t. let h = nleb→lt centre e (not_T (leb centre e) t) in
    inr (le_sub e centre s centre (omega arith), le_sub s centre centre centre (omega arith)))
    (decided (leb centre e))

amid_from : (e s : ℕ) → Amid (sub_ℕ e centre) (sub_ℕ s centre) → (min centre e ≤ s) × (s ≤ max centre e)
amid_from e s h =
    ⊎_elim (λ k. let a = sub_le centre centre s centre k.0 in
    let b = sub_le s centre e centre k.1 in (omega arith, omega arith))
    (λ k. let a = sub_le e centre s centre k.0 in
    let b = sub_le s centre centre centre k.1 in (omega arith, omega arith)) h

between_to : (e s : Place) → BetweenAt e s → Between (value e) (value s)
between_to e s b = (amid_to e.x s.x b.left b.right, amid_to e.y s.y b.upper b.lower)

between_from : (e s : Place) → Between (value e) (value s) → BetweenAt e s
between_from e s b =
    let h = amid_from e.x s.x b.0 in
    let k = amid_from e.y s.y b.1 in
    record { left = h.0; right = h.1; upper = k.0; lower = k.1 }

-- ---- row order

pub before_to : (d e : Place) → BeforeAt d e → Before (value d) (value e)
before_to d e b =
    ⊎_elim (λ l. inl (lt_sub d.y centre e.y centre (omega arith)))
    (λ k. inr (ap (λ n. sub_ℕ n centre) k.0, lt_sub d.x centre e.x centre (omega arith))) b

pub before_from : (d e : Place) → Before (value d) (value e) → BeforeAt d e
before_from d e b =
    ⊎_elim (λ l. let h = sub_lt d.y centre e.y centre l in inl (omega arith))
    (λ k. let h = sub_same d.y centre e.y centre k.0 in
    let j = sub_lt d.x centre e.x centre k.1 in inr (omega arith, omega arith)) b

-- ---- sums, paths, faults

module _ (E : Shape) (Bs : List Shape) (C : Chained E Bs) where
  room : Room (length Bs) still
  room = let l = C.few_links in record { left = omega arith; upper = omega arith }

  has_to : (e : Place) → HasAt E e → Has E (value e)
  has_to e s = (s.cell, sym (nil_plus (cell_offset E s.cell)) ∙ step_adds E still e s)

  has_from : (e : Place) → Has E (value e) → HasAt E e
  has_from e h = adds_step E still e h.0 (nil_plus (cell_offset E h.0) ∙ h.1)

  sum_to : (e : Place) → SumAt Bs e → Sum Bs (value e)
  sum_to e w = let h = walk_choice (λ m. Unit {0}) (λ o. Unit {0}) (λ m u. tt) Bs still e tt w in (h.0, h.1)

  sum_from_lem : (e : Place) → Sum Bs (value e) → SumAt Bs e
  sum_from_lem e h =
      choice_walk (λ m. Unit {0}) (λ o. Unit {0})
      (λ m u. tt) Bs still e C.links room h.0 h.1 (any_sums Bs origin h.0)

  path_to : (e : Place) → PathAt Bs e → PathTo Bs (value e)
  path_to e w =
      walk_choice (BetweenAt e) (Between (value e)) (between_to e) Bs still e
      (between_to e still
      (record { left = omega arith; right = omega arith; upper = omega arith; lower = omega arith })) w

  path_from : (e : Place) → PathTo Bs (value e) → PathAt Bs e
  path_from e h =
      choice_walk (BetweenAt e) (Between (value e))
      (between_from e) Bs still e C.links room h.0 h.1 h.2

  pub fault_to : (e : Place) → FaultAt E Bs e → Fault E Bs (value e)
  fault_to e (missed_at h np) = missed (has_to e h) (λ p. np (path_from e p))
  fault_to e (extra_at nh s) = extra (λ h. nh (has_from e h)) (sum_to e s)

  pub fault_from : (e : Place) → Fault E Bs (value e) → FaultAt E Bs e
  fault_from e (missed h np) = missed_at (has_from e h) (λ p. np (path_to e p))
  fault_from e (extra nh s) = extra_at (λ h. nh (has_to e h)) (sum_from_lem e s)

  -- every offset at fault is that of a place
  pub fault_place : (o : Offset) → Fault E Bs o → (e : Place) × (value e ≡ o)
  fault_place o (missed h np) =
      let f = C.element in
      let m = cell_step E still h.0 (omega arith) (omega arith) in
      (m.0, sym m.2 ∙ (nil_plus (cell_offset E h.0) ∙ h.1))
  fault_place o (extra nh s) = let h = choice_ends Bs still C.links room s.0 in
      (h.0, sym h.1 ∙ s.1)
