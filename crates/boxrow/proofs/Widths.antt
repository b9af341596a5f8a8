-- A run of cells: how many lie before its origin, and which windows make it up.
use Prim.Native.Nat.{ℕ, ◌*◌, ◌≤◌, ◌<◌}
use mathlib.Core.Path.{◌≡◌, refl}
use mathlib.Core.Bool.{Bool, true, false, cond}
use mathlib.Core.Logic.{◌⊎◌, inl, inr}
use native.Mathlib.Omega.{arith}
use lib.Dec.{leb}
use borrow.Author.Tests.{leb-true, leb-false}
use Rattle.packedline.specs.Steps.Cells.{window_of}
use Rattle.boxrow.specs.Steps.Along.{before_of}

pub before_lt : (grows : Bool) (o wide : ℕ) → o < wide → before_of grows o wide < wide
before_lt true o wide h = omega arith
before_lt false o wide h = h

-- ---- the windows of a run: at most four make it up
abbrev pub Which : ℕ → Type 0
Which m = (m ≡ 1) ⊎ ((m ≡ 4) ⊎ (m ≡ 16))

pub size_facts : (wide : ℕ) → 1 ≤ wide → wide ≤ 64
    → Which (window_of wide) × ((window_of wide ≤ wide) × (wide ≤ 4 * window_of wide))
size_facts wide some few = by (leb wide 4) refl (leb wide 16) refl
  where
    by : (s : Bool) → leb wide 4 ≡ s → (t : Bool) → leb wide 16 ≡ t
        → Which (cond s 1 (cond t 4 16)) × ((cond s 1 (cond t 4 16) ≤ wide) × (wide ≤ 4 * cond s 1 (cond t
        4 16)))
    by true p t q = let h = leb-true wide 4 p in (inl refl, (omega arith, omega arith))
    by false p true q =
        let h = leb-false wide 4 p in
        let k = leb-true wide 16 q in
        (inr (inl refl), (omega arith, omega arith))
    by false p false q = let h = leb-false wide 16 q in (inr (inr refl), (omega arith, omega arith))
