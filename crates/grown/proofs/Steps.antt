-- A neighbouring step is a step of the element around.
use Prim.Native.Nat.{ℕ, ◌+◌, ◌-◌}
use mathlib.Core.Path.{◌≡◌, refl, sym}
use mathlib.Core.Logic.{◌⊎◌, inl, inr, ⊎_elim}
use mathlib.Core.Bool.{Bool, true, false, ◌||◌}
use native.Mathlib.Omega.{arith}
use lib.Dec.{T, eqb, eqb→eq}
use Rattle.morphology.specs.Step.{Place, Step}
use Rattle.grown.specs.declared.Neighbours.{Neighbours}
use Rattle.grown.specs.declared.Neighbours.TheVariants.{Cross, Square}
use Rattle.grown.specs.Grown.{cell_around, around}
use Rattle.grown.specs.Reached.{Near, Beside}

pub beside_self : (neighbours : Neighbours) (p : Place) → Beside neighbours p p
beside_self Cross p = inl (refl, (omega arith, omega arith))
beside_self Square p = ((omega arith, omega arith), (omega arith, omega arith))

pub beside_turned : (neighbours : Neighbours) (p q : Place) → Beside neighbours p q → Beside neighbours q p
beside_turned Cross p q b =
    ⊎_elim (λ a. inl (sym a.0, (a.1.1, a.1.0))) (λ a. inr ((a.0.1, a.0.0), sym a.1)) b
beside_turned Square p q b = ((b.0.1, b.0.0), (b.1.1, b.1.0))

or_cases : (a b : Bool) → T (a || b) → T a ⊎ T b
or_cases true b t = inl tt
or_cases false b t = inr t

or_left : (a b : Bool) → T a → T (a || b)
or_left true b t = tt
or_left false b t = absurd t

or_right : (a b : Bool) → T b → T (a || b)
or_right true b t = tt
or_right false b t = t

middle : (a b : ℕ) → a ≡ b → T (eqb (b + 1 - a) 1)
middle a b e = let m : b + 1 - a ≡ 1 = omega arith in rw m tt

set_around : (neighbours : Neighbours) (p q : Place) → Beside neighbours p q
    → T (cell_around neighbours (q.x + 1 - p.x) (q.y + 1 - p.y))
set_around Cross p q b =
    ⊎_elim (λ a. or_left (eqb (q.x + 1 - p.x) 1) (eqb (q.y + 1 - p.y) 1) (middle p.x q.x a.0))
    (λ a. or_right (eqb (q.x + 1 - p.x) 1) (eqb (q.y + 1 - p.y) 1) (middle p.y q.y a.1)) b
set_around Square p q b = tt

near_both : (neighbours : Neighbours) (p q : Place) → Beside neighbours p q
    → Near p.x q.x × Near p.y q.y
near_both Cross p q b =
    ⊎_elim (λ a. ((omega arith, omega arith), (omega arith, omega arith)))
    (λ a. ((omega arith, omega arith), (omega arith, omega arith))) b
near_both Square p q b = b

pub beside_step : (neighbours : Neighbours) (p q : Place) → Beside neighbours p q
    → Step (around neighbours) p q
beside_step neighbours p q b =
    let n = near_both neighbours p q b in
    record {
      cell =
          record {
            column = q.x + 1 - p.x;
            row = q.y + 1 - p.y;
            in_width = omega arith;
            in_height = omega arith;
            set = set_around neighbours p q b;
          };
      across = omega arith;
      down = omega arith;
    }

pub step_beside : (neighbours : Neighbours) (p q : Place) → Step (around neighbours) p q
    → Beside neighbours p q
step_beside Cross p q s =
    ⊎_elim (λ t. let e = eqb→eq s.cell.column 1 t in inl (omega arith, (omega arith, omega arith)))
    (λ t. let e = eqb→eq s.cell.row 1 t in inr ((omega arith, omega arith), omega arith))
    (or_cases (eqb s.cell.column 1) (eqb s.cell.row 1) s.cell.set)
step_beside Square p q s = ((omega arith, omega arith), (omega arith, omega arith))
