-- Walks that are moved, and how far they lead.
use Prim.Native.Nat.{ℕ, suc, ◌+◌, ◌*◌, ◌≤◌}
use mathlib.Core.Path.{◌≡◌}
use mathlib.Core.List.{List, [], ◌∷◌}
use native.Mathlib.Omega.{arith}
use lib.ListN.{length}
use Rattle.element.specs.Shape.{Shape}
use Rattle.morphology.specs.Step.{Place, Step}
use Rattle.morphology.specs.Chain.{Fits, AllFit}
use Rattle.morphology.proofs.Places.{Walk}

-- m' is m moved by v - u
pub record Shift (u v m m' : Place) : Type 0 where
  pub across : m'.x + u.x ≡ m.x + v.x
  pub down : m'.y + u.y ≡ m.y + v.y

pub shift_step : {B : Shape} {u v p q p' q' : Place} → Shift u v p p' → Shift u v q q' → Step B p q
    → Step B p' q'
shift_step a b s =
    record { cell = s.cell; across = omega arith; down = omega arith }

-- a walk may be moved where each place on it may be
pub carry : (P Q : Place → Type 0) (u v : Place) → ((m : Place) → P m → (m' : Place) × Shift u v m m' × Q m')
    → (Bs : List Shape) (p q p' q' : Place) → Shift u v p p' → Shift u v q q' → Walk P Bs p q
    → Walk Q Bs p' q'
carry P Q u v f [] p q p' q' a b w = (omega arith, omega arith)
carry P Q u v f (B ∷ Bs) p q p' q' a b w =
    let n = f w.0 w.2 in
    (n.0, shift_step a n.1 w.1, n.2, carry P Q u v f Bs w.0 q n.0 q' n.1 b w.3)

pub weaken : (P Q : Place → Type 0) → ((m : Place) → P m → Q m)
    → (Bs : List Shape) (p q : Place) → Walk P Bs p q → Walk Q Bs p q
weaken P Q f [] p q w = w
weaken P Q f (B ∷ Bs) p q w = (w.0, w.1, f w.0 w.2, weaken P Q f Bs w.0 q w.3)

-- m is at most k away from p in each coordinate
pub record Near (k : ℕ) (p m : Place) : Type 0 where
  pub left : p.x ≤ m.x + k
  pub right : m.x ≤ p.x + k
  pub upper : p.y ≤ m.y + k
  pub lower : m.y ≤ p.y + k

near_step : {B : Shape} {p q : Place} → Fits 8 B → Step B p q → Near 7 p q
near_step f s = omega arith

near_then : (k : ℕ) {p m q : Place} → Near 7 p m → Near (7 * k) m q → Near (7 * suc k) p q
near_then k a b = omega arith

near_at_once : (k : ℕ) {p m : Place} → Near 7 p m → Near (7 * suc k) p m
near_at_once k a = omega arith

-- a walk by small links stays near
pub near_end : (P : Place → Type 0) (Bs : List Shape) (p q : Place) → AllFit 8 Bs → Walk P Bs p q
    → Near (7 * length Bs) p q
near_end P [] p q f w = omega arith
near_end P (B ∷ Bs) p q f w =
    near_then (length Bs) (near_step f.0 w.1) (near_end P Bs w.0 q f.1 w.3)

pub near_all : (P : Place → Type 0) (Bs : List Shape) (p q : Place) → AllFit 8 Bs → Walk P Bs p q
    → Walk (λ m. P m × Near (7 * length Bs) p m) Bs p q
near_all P [] p q f w = w
near_all P (B ∷ Bs) p q f w =
    let s = near_step f.0 w.1 in (
      w.0,
      w.1,
      (w.2, near_at_once (length Bs) s),
      weaken _ _ (λ m h. (h.0, near_then (length Bs) s h.1))
          Bs w.0 q (near_all P Bs w.0 q f.1 w.3),
    )
