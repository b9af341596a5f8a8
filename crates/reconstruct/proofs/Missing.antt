-- How many points are not set: fewer where a visit gained one. So walks and sweeps end.
use Prim.Native.Nat.{ℕ, ◌+◌, ◌-◌, ◌*◌, ◌/◌, ◌%◌, ◌≤◌, ◌<◌}
use mathlib.Core.Path.{◌≡◌, refl, sym, ap, subst}
use mathlib.Core.Bool.{Bool, true, false}
use mathlib.Core.List.{List}
use native.Mathlib.Omega.{arith}
use lib.ListN.{get_or}
use Rattle.basics.proofs.Bits.{bit_lt}
use Rattle.picture.specs.Frame.{frame}
use Rattle.picture.specs.Bytes.{Picture}
use Rattle.grown.proofs.Counts.{count, count_most, count_le, count_lt}
use Rattle.settle.specs.Steps.Grew.{point_in}
use Rattle.reconstruct.specs.declared.Rows.{Rows}
use Rattle.reconstruct.specs.Steps.Visits.{next_row, Grew, Visit}

abbrev points : Rows → List ℕ → Picture
points r t x y = point_in t (y * r.n) x

unfoldable pub missing : Rows → List ℕ → ℕ
missing r t = r.h * (8 * r.n) - count (frame (8 * r.n) r.h) (points r t)

module _ (r : Rows) (mask t s : List ℕ) (S : ℕ → ℕ → Type 0) where
  gained_less : Visit r mask t s true S → missing r s < missing r t
  unfolding missing
  gained_less v =
      let g = v.gained refl in
      let k = count_lt (frame (8 * r.n) r.h) (points r t) (points r s)
      (λ p i. v.grew.more p.x p.y i.ping i.bin)
      (record { x = g.0; y = g.1 }) (record { ping = g.2; bin = g.3 }) g.4 in
      let m = count_most (frame (8 * r.n) r.h) (points r s)
      (λ p i. omega (arith, bit_lt (get_or s (p.y * r.n + p.x / 8) 0) (7 - p.x % 8))) in
      omega arith

  same_missing : Visit r mask t s false S → missing r s ≡ missing r t
  same_missing v = ap (missing r) (sym (v.same refl))

  pub walk_less : (b : Bool) (y z : ℕ) → Visit r mask t s b S → y < r.h → z ≡ next_row b y
      → 2 * missing r s + (r.h - z) < 2 * missing r t + (r.h - y)
  walk_less true y z v hy e = omega (arith, gained_less v)
  walk_less false y z v hy e = omega (arith, same_missing v)

-- a turn: what is gained before the sweep leaves no more to gain
grew_missing : (r : Rows) (mask l t : List ℕ) → Grew r mask l t → missing r t ≤ missing r l
unfolding missing
grew_missing r mask l t g =
    omega (
      arith,
      count_le (frame (8 * r.n) r.h) (points r l) (points r t)
          (λ p i. g.more p.x p.y i.ping i.bin),
    )

pub helped_less : (r : Rows) (mask l t s : List ℕ) (S : ℕ → ℕ → Type 0) (b : Bool) → b ≡ true
    → Grew r mask l t → Visit r mask t s b S → missing r s < missing r l
helped_less r mask l t s S b e g v =
    let w = gained_less r mask t s S (subst (λ b. Visit r mask t s b S) e v) in
    omega (arith, w, grew_missing r mask l t g)

pub next_in : (b : Bool) (y z h : ℕ) → y < h → z ≡ next_row b y → z ≤ h
next_in true y z h hy e = omega arith
next_in false y z h hy e = omega arith
