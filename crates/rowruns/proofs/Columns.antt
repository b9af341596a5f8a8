-- Runs down the columns: from runs of c rows those of c + d, where d is no more than c.
use Prim.Native.Nat.{ℕ, ◌+◌, ◌≤◌, ◌<◌}
use mathlib.Core.Path.{◌≡◌}
use mathlib.Core.Bool.{Bool, true, false, cond}
use mathlib.Core.Logic.{⊎_elim}
use native.Mathlib.Omega.{arith}
use Rattle.basics.proofs.SliceParts.{below_or_not}
use Rattle.picture.specs.Frame.{Frame}
use Rattle.picture.specs.Bytes.{Picture}
use Rattle.morphology.specs.Step.{Place, In}
use Rattle.morphology.specs.Operations.{flat}
use Rattle.morphology.specs.Order.{Bounded}
use Rattle.rows.specs.Steps.Fold.{join_by}
use Rattle.rows.specs.Steps.Ways.{swept_by}
use Rattle.windows.specs.Steps.Bounds.{Bound}
use Rattle.windows.proofs.Bounds.{bounds_same, join_to, join_from, join_lt}
use Rattle.sizes.specs.Spectrum.{rect}
use Rattle.sizes.proofs.Near.{Near, rect_full, near_to, near_from, swept_small}

module _ (F : Frame) (A : Picture) (b : Bounded 1 F A) (c d : ℕ) (some : 1 ≤ c) (few : d ≤ c) where
  abbrev run : Bool → ℕ → ℕ → ℕ → ℕ
  run grows k x y = swept_by grows flat 1 F (rect 1 k) A x y

  abbrev at : ℕ → ℕ → Place
  at x y = record { x = x; y = y }

  bound_to : (grows : Bool) (k x y v : ℕ) → Bound grows (run grows k x y) v
      → (q : Place) → In F q → Near grows 1 k (at x y) q → Bound grows (A q.x q.y) v
  bound_to grows k x y v = near_to 1 k (rect 1 k) (rect_full 1 k) F A (at x y) v grows

  bound_from : (grows : Bool) (k x y v : ℕ) → v < 2
      → ((q : Place) → In F q → Near grows 1 k (at x y) q → Bound grows (A q.x q.y) v)
      → Bound grows (run grows k x y) v
  bound_from grows k x y v = near_from 1 k (rect 1 k) (rect_full 1 k) F A (at x y) v grows

  small : (grows : Bool) (k x y : ℕ) → x < F.pings → y < F.bins → run grows k x y < 2
  small grows k x y hx hy = swept_small grows F (rect 1 k) A b (at x y) (record { ping = hx; bin = hy })

  -- at row a and d rows further on: runs of c from both are a run of c + d
  pub run_met : (grows : Bool) (x a : ℕ) → x < F.pings → a + d < F.bins
      → join_by grows (run grows c x a) (run grows c x (a + d)) ≡ run grows (c + d) x (cond grows (a + d) a)
  run_met true x a hx hy =
      bounds_same true _ _ (join_lt true _ _ (small true c x a hx (omega arith)) (small true c x (a + d)
      hx hy))
      (small true (c + d) x (a + d) hx hy)
      (λ v l h. let p = join_to true (run true c x a) (run true c x (a + d)) v h in
      bound_from true (c + d) x (a + d) v l (λ q i n.
      let n0 = n.left in let n1 = n.right in let n2 = n.upper in let n3 = n.lower in
      ⊎_elim
      (λ z. bound_to true c x (a + d) v p.1 q i
      (record { left = n0; right = n1; upper = n2; lower = omega arith }))
      (λ z. bound_to true c x a v p.0 q i
      (record { left = n0; right = n1; upper = z; lower = omega arith }))
      (below_or_not a q.y)))
      (λ v l h. join_from true (run true c x a) (run true c x (a + d)) v
      (bound_from true c x a v l (λ q i n.
      let n0 = n.left in let n1 = n.right in let n2 = n.upper in let n3 = n.lower in
      bound_to true (c + d) x (a + d) v h q i
      (record { left = n0; right = n1; upper = omega arith; lower = omega arith })))
      (bound_from true c x (a + d) v l (λ q i n.
      let n0 = n.left in let n1 = n.right in let n2 = n.upper in let n3 = n.lower in
      bound_to true (c + d) x (a + d) v h q i
      (record { left = n0; right = n1; upper = n2; lower = omega arith }))))
  run_met false x a hx hy =
      bounds_same false _ _ (join_lt false _ _ (small false c x a hx (omega arith)) (small false c x (a +
      d) hx hy))
      (small false (c + d) x a hx (omega arith))
      (λ v l h. let p = join_to false (run false c x a) (run false c x (a + d)) v h in
      bound_from false (c + d) x a v l (λ q i n.
      let n0 = n.left in let n1 = n.right in let n2 = n.upper in let n3 = n.lower in
      ⊎_elim
      (λ z. bound_to false c x a v p.0 q i
      (record { left = n0; right = n1; upper = n2; lower = z }))
      (λ z. bound_to false c x (a + d) v p.1 q i
      (record { left = n0; right = n1; upper = omega arith; lower = omega arith }))
      (below_or_not q.y (a + c))))
      (λ v l h. join_from false (run false c x a) (run false c x (a + d)) v
      (bound_from false c x a v l (λ q i n.
      let n0 = n.left in let n1 = n.right in let n2 = n.upper in let n3 = n.lower in
      bound_to false (c + d) x a v h q i
      (record { left = n0; right = n1; upper = n2; lower = omega arith })))
      (bound_from false c x (a + d) v l (λ q i n.
      let n0 = n.left in let n1 = n.right in let n2 = n.upper in let n3 = n.lower in
      bound_to false (c + d) x a v h q i
      (record { left = n0; right = n1; upper = omega arith; lower = omega arith }))))

  -- where the frame has no row d further on, a run of c reaches as far as one of c + d
  abbrev pub Alone : Bool → ℕ → Type 0
  Alone true y = y < d
  Alone false y = F.bins ≤ y + d

  longer : (grows : Bool) (x y : ℕ) (q : Place) → Near grows 1 c (at x y) q → Near grows 1 (c + d) (at x
      y) q
  longer true x y q n =
      let n0 = n.left in let n1 = n.right in let n2 = n.upper in let n3 = n.lower in
      record { left = n0; right = n1; upper = n2; lower = omega arith }
  longer false x y q n =
      let n0 = n.left in let n1 = n.right in let n2 = n.upper in let n3 = n.lower in
      record { left = n0; right = n1; upper = n2; lower = omega arith }

  shorter : (grows : Bool) (x y : ℕ) (q : Place) → Alone grows y → In F q
      → Near grows 1 (c + d) (at x y) q → Near grows 1 c (at x y) q
  shorter true x y q z i n =
      let n0 = n.left in let n1 = n.right in let n2 = n.upper in let n3 = n.lower in
      record { left = n0; right = n1; upper = n2; lower = omega arith }
  shorter false x y q z i n =
      let n0 = n.left in let n1 = n.right in let n2 = n.upper in let n3 = n.lower in
      let k = i.bin in
      record { left = n0; right = n1; upper = n2; lower = omega arith }

  pub run_alone : (grows : Bool) (x y : ℕ) → x < F.pings → y < F.bins → Alone grows y
      → run grows c x y ≡ run grows (c + d) x y
  run_alone grows x y hx hy z =
      bounds_same grows _ _ (small grows c x y hx hy) (small grows (c + d) x y hx hy)
      (λ v l h. bound_from grows (c + d) x y v l
      (λ q i n. bound_to grows c x y v h q i (shorter grows x y q z i n)))
      (λ v l h. bound_from grows c x y v l
      (λ q i n. bound_to grows (c + d) x y v h q i (longer grows x y q n)))
