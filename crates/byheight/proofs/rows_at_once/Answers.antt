-- As many rows as there is room for, or all that are left where they are fewer.
-- A row has at most 64 cells, so there is room for one.
use Prim.Native.Nat.{◌*◌, ◌/◌, ◌≤◌, ◌<◌}
use mathlib.Core.Logic.{⊎_elim}
use native.Mathlib.Nat.{mul-le-mul, div-lt_iff_lt-mul, div-add-mod', le_refl}
use native.Mathlib.Omega.{arith}
use Rattle.basics.proofs.SliceParts.{below_or_not}
use Rattle.byheight.proofs.rows_at_once.Goals as goal
use Rattle.byheight.proofs.rows_at_once.Goals.{Start}

room : (s : Start) → 256 / s.args.wide * s.args.wide ≤ 256
room s = omega (arith, div-add-mod' 256 s.args.wide)

some : (s : Start) → 0 < 256 / s.args.wide
some s = ⊎_elim
    (λ l. absurd (omega (
      arith,
      s.requires.1,
      (div-lt_iff_lt-mul {k = s.args.wide} {x = 256} {y = 1} s.requires.0).0 l,
    )))
    (λ l. l) (below_or_not (256 / s.args.wide) 1)

pub returns-then-n-left : goal.returns-then-n-left
returns-then-n-left c =
    (room c.before, (omega (arith, c.if-n-left.true), λ l. some c.before))

pub returns-else-n-left : goal.returns-else-n-left
returns-else-n-left c =
    let a = c.args in
    let l : a.left ≤ 256 / a.wide = omega (arith, c.if-n-left.false) in (
      omega (
        arith,
        room c.before,
        mul-le-mul {n₁ = a.left} {m₁ = a.wide} {n₂ = 256 / a.wide}
            {m₂ = a.wide} l (le_refl a.wide),
      ),
      (le_refl a.left, λ l. l),
    )
