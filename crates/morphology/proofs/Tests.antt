-- The tests of the check say what they are named after; so a step, a walk and a fault can be decided.
use Prim.Native.Nat.{ℕ, ◌+◌, ◌-◌, ◌≤◌, ◌<◌, min, max}
use mathlib.Core.Path.{◌≡◌, subst, subst₂}
use mathlib.Core.Bool.{Bool, true, false, not, ◌&&◌}
use mathlib.Core.Logic.{◌⊎◌, inl, inr, ⊎_elim}
use mathlib.Core.List.{List, [], ◌∷◌}
use native.Mathlib.Omega.{arith}
use lib.Dec.{T, leb, eqb, leb→le, le→leb, eqb→eq, eqb_refl, T_not, not_T}
use Rattle.answer.specs.Answer.{centre}
use Rattle.picture.specs.Frame.{Frame}
use Rattle.element.specs.Shape.{Shape}
use Rattle.morphology.specs.Step.{Place, Step}
use Rattle.morphology.specs.Operations.{moved}
use Rattle.morphology.specs.Check.{still, amid_test, step_test, moved_by, can_move, walk_test}
use Rattle.morphology.specs.Check.{between_test, has_test, sum_test, path_test, fault_test}
use Rattle.basics.specs.Tests.{any}
use Rattle.basics.proofs.Any.{any_intro, any_elim}
use Rattle.basics.proofs.Truth.{and_intro, and_parts, three_intro, three_parts}
use Rattle.morphology.proofs.Reach.{taken_parts, taken_there}
use Rattle.morphology.proofs.Places.{same_place, Walk, HasAt, SumAt, BetweenAt}
use Rattle.morphology.proofs.Places.{PathAt, FaultAt, missed_at, extra_at}

-- ---- steps

-- an element's cells are the points of a frame of its size
abbrev box : Shape → Frame
box B = record { pings = B.wide; bins = B.high }

abbrev has_cell : Shape → Place → Place → Bool
has_cell B p q = B.has (moved q.x B.origin_column p.x) (moved q.y B.origin_row p.y)

pub step_sound : (B : Shape) (p q : Place) → T (step_test B p q) → Step B p q
unfolding step_test
step_sound B p q t =
    let k = taken_parts (box B) (has_cell B p q) q.x
    B.origin_column p.x q.y B.origin_row p.y t in
    record {
      cell =
          record {
            column = _;
            row = _;
            in_width = k.is_in.ping;
            in_height = k.is_in.bin;
            set = k.is_set;
          };
      across = omega arith;
      down = omega arith;
    }

pub step_complete : (B : Shape) (p q : Place) → Step B p q → T (step_test B p q)
unfolding step_test
step_complete B p q s =
    let k = s.cell in
    let ex : k.column ≡ moved q.x B.origin_column p.x = omega arith in
    let ey : k.row ≡ moved q.y B.origin_row p.y = omega arith in
    (taken_there (box B) (has_cell B p q) q.x B.origin_column p.x
    q.y B.origin_row p.y (record { x = k.column; y = k.row })
    (subst₂ (λ (c r : ℕ). T (B.has c r)) ex ey k.set)
    (record { ping = k.in_width; bin = k.in_height }) (omega arith) (omega arith)).0

-- ---- walks
moved_there : (B : Shape) (p m : Place) (s : Step B p m) → m ≡ moved_by B p s.cell.column s.cell.row
unfolding moved_by
moved_there B p m s =
    let ex : m.x ≡ moved p.x s.cell.column B.origin_column = omega arith in
    let ey : m.y ≡ moved p.y s.cell.row B.origin_row = omega arith in
    same_place ex ey

moved_step : (B : Shape) (p : Place) (c r : ℕ) → c < B.wide → r < B.high → T (can_move B p c r)
    → Step B p (moved_by B p c r)
unfolding moved_by can_move
moved_step B p c r lc lr t =
    let a = three_parts (B.has c r) (leb B.origin_column (p.x + c)) (leb B.origin_row (p.y + r)) t in
    let hx = leb→le B.origin_column (p.x + c) a.1 in
    let hy = leb→le B.origin_row (p.y + r) a.2 in
    record {
      cell = record { column = c; row = r; in_width = lc; in_height = lr; set = a.0 };
      across = omega arith;
      down = omega arith;
    }

step_can : (B : Shape) (p m : Place) (s : Step B p m) → T (can_move B p s.cell.column s.cell.row)
unfolding can_move
step_can B p m s =
    let k = s.cell in
    three_intro (B.has k.column k.row) (leb B.origin_column (p.x + k.column))
    (leb B.origin_row (p.y + k.row)) k.set
    (le→leb B.origin_column (p.x + k.column) (omega arith))
    (le→leb B.origin_row (p.y + k.row) (omega arith))

module _ (test : Place → Bool) (P : Place → Type 0) where
  -- what the walk's test asks of one cell
  cell : (B : Shape) (Bs : List Shape) (p q : Place) (r c : ℕ) → Bool
  cell B Bs p q r c = can_move B p c r && (test (moved_by B p c r) && walk_test test Bs (moved_by B p c r) q)

  pub walk_sound : ((m : Place) → T (test m) → P m)
      → (Bs : List Shape) (p q : Place) → T (walk_test test Bs p q) → Walk P Bs p q
  unfolding walk_test cell
  walk_sound f [] p q t =
      let a = and_parts (eqb p.x q.x) (eqb p.y q.y) t in
      (eqb→eq p.x q.x a.0, eqb→eq p.y q.y a.1)
  walk_sound f (B ∷ Bs) p q t =
      let j = any_elim (λ r. any (cell B Bs p q r) B.wide) B.high t in
      let i = any_elim (cell B Bs p q j.0) B.wide j.2 in
      let m = moved_by B p i.0 j.0 in
      let a = three_parts (can_move B p i.0 j.0) (test m) (walk_test test Bs m q) i.2 in
      (m, moved_step B p i.0 j.0 i.1 j.1 a.0, f m a.1, walk_sound f Bs m q a.2)

  pub walk_complete : ((m : Place) → P m → T (test m)) → (Bs : List Shape) (p q : Place) → Walk P Bs p q
      → T (walk_test test Bs p q)
  unfolding walk_test cell
  walk_complete f [] p q w =
      and_intro (eqb p.x q.x) (eqb p.y q.y)
      (subst (λ (k : ℕ). T (eqb p.x k)) w.0 (eqb_refl p.x))
      (subst (λ (k : ℕ). T (eqb p.y k)) w.1 (eqb_refl p.y))
  walk_complete f (B ∷ Bs) p q w =
      let s = w.1 in
      any_intro (λ r. any (cell B Bs p q r) B.wide) B.high s.cell.row s.cell.in_height
      (any_intro (cell B Bs p q s.cell.row) B.wide s.cell.column s.cell.in_width
      (and_intro (can_move B p s.cell.column s.cell.row) _ (step_can B p w.0 s)
      (subst (λ (m : Place). T (test m && walk_test test Bs m q)) (moved_there B p w.0 s)
      (and_intro (test w.0) (walk_test test Bs w.0 q)
      (f w.0 w.2) (walk_complete f Bs w.0 q w.3)))))

-- ---- between, and what is decided
amid_sound : (e s : ℕ) → T (amid_test e s) → (min centre e ≤ s) × (s ≤ max centre e)
amid_sound e s t = let a = and_parts (leb (min centre e) s) (leb s (max centre e)) t in
    (leb→le _ _ a.0, leb→le _ _ a.1)

amid_complete : (e s : ℕ) → min centre e ≤ s → s ≤ max centre e → T (amid_test e s)
amid_complete e s h k = and_intro (leb (min centre e) s) (leb s (max centre e)) (le→leb _ _ h) (le→leb _ _ k)

between_sound : (e s : Place) → T (between_test e s) → BetweenAt e s
unfolding between_test
between_sound e s t =
    let a = and_parts (amid_test e.x s.x) (amid_test e.y s.y) t in
    let b = amid_sound e.x s.x a.0 in
    let c = amid_sound e.y s.y a.1 in
    record { left = b.0; right = b.1; upper = c.0; lower = c.1 }

between_complete : (e s : Place) → BetweenAt e s → T (between_test e s)
unfolding between_test
between_complete e s b =
    and_intro (amid_test e.x s.x) (amid_test e.y s.y)
    (amid_complete _ _ b.left b.right) (amid_complete _ _ b.upper b.lower)

pub has_sound : (E : Shape) (e : Place) → T (has_test E e) → HasAt E e
unfolding has_test
has_sound E e t = step_sound E still e t

pub has_complete : (E : Shape) (e : Place) → HasAt E e → T (has_test E e)
unfolding has_test
has_complete E e s = step_complete E still e s

pub sum_sound : (Bs : List Shape) (e : Place) → T (sum_test Bs e) → SumAt Bs e
unfolding sum_test
sum_sound Bs e t = walk_sound (λ s. true) (λ s. Unit {0}) (λ m h. tt) Bs still e t

pub sum_complete : (Bs : List Shape) (e : Place) → SumAt Bs e → T (sum_test Bs e)
unfolding sum_test
sum_complete Bs e w = walk_complete (λ s. true) (λ s. Unit {0}) (λ m h. tt) Bs still e w

pub path_sound : (Bs : List Shape) (e : Place) → T (path_test Bs e) → PathAt Bs e
unfolding path_test
path_sound Bs e t = walk_sound (between_test e) (BetweenAt e) (between_sound e) Bs still e t

pub path_complete : (Bs : List Shape) (e : Place) → PathAt Bs e → T (path_test Bs e)
unfolding path_test
path_complete Bs e w = walk_complete (between_test e) (BetweenAt e) (between_complete e) Bs still e w

choose_sound : (h p s : Bool) → T (elim h [ true ↦ not p | false ↦ s ])
    → (T h × T (not p)) ⊎ ((T h → ⊥) × T s)
choose_sound true p s t = inl (tt, t)
choose_sound false p s t = inr (λ h. h, t)

choose_missed : (h p s : Bool) → T h → (T p → ⊥) → T (elim h [ true ↦ not p | false ↦ s ])
choose_missed true p s t f = not_T p f
choose_missed false p s t f = absurd t

choose_extra : (h p s : Bool) → (T h → ⊥) → T s → T (elim h [ true ↦ not p | false ↦ s ])
choose_extra true p s f t = absurd (f tt)
choose_extra false p s f t = t

pub fault_sound : (E : Shape) (Bs : List Shape) (e : Place) → T (fault_test E Bs e) → FaultAt E Bs e
unfolding fault_test
fault_sound E Bs e t =
    ⊎_elim (λ a. missed_at (has_sound E e a.0) (λ w. T_not (path_test Bs e) a.1 (path_complete Bs e w)))
    (λ a. extra_at (λ h. a.0 (has_complete E e h)) (sum_sound Bs e a.1))
    (choose_sound (has_test E e) (path_test Bs e) (sum_test Bs e) t)

pub fault_complete : (E : Shape) (Bs : List Shape) (e : Place) → FaultAt E Bs e → T (fault_test E Bs e)
unfolding fault_test
fault_complete E Bs e (missed_at h np) =
    choose_missed (has_test E e) (path_test Bs e) (sum_test Bs e)
    (has_complete E e h) (λ t. np (path_sound Bs e t))
fault_complete E Bs e (extra_at nh s) =
    choose_extra (has_test E e) (path_test Bs e) (sum_test Bs e)
    (λ t. nh (has_sound E e t)) (sum_complete Bs e s)
