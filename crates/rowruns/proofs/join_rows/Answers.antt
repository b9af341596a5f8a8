-- Where no row lies d further on nothing is joined.
-- That is a piece of no bytes.
use Prim.Native.Nat.{ℕ, ◌+◌, ◌-◌, ◌*◌, ◌≤◌, ◌<◌}
use mathlib.Core.Path.{◌≡◌, sym, ap, ◌∙◌}
use native.Mathlib.Nat.{mul-le-mul}
use native.Mathlib.Omega.{arith}
use Rattle.rowruns.specs.Steps.Pieces.{piece_of}
use Rattle.rowruns.proofs.Pieces.{piece_none}
use Rattle.rowruns.proofs.join_rows.Goals as goal

product : (h d n : ℕ) → d < h → h ≤ 256 → n ≤ 128 → d * n ≤ 256 * 128
product h d n l k m = mul-le-mul {n₁ = d} {m₁ = n} {n₂ = 256} {m₂ = 128} (omega arith) m

product' : (h d n : ℕ) → h ≤ 256 → n ≤ 128 → (h - d) * n ≤ 256 * 128
product' h d n k m = mul-le-mul {n₁ = h - d} {m₁ = n} {n₂ = 256} {m₂ = 128} (omega arith) m

parts : (h d n : ℕ) → d ≤ h → (h - d) * n + d * n ≡ h * n
parts h d n l = let e : h - d + d ≡ h = omega arith in omega (arith, ap (λ k. k * n) e)

pub returns-then-h-d : goal.returns-then-h-d
returns-then-h-d c =
    let a = c.args in
    let l : a.h - a.d ≡ 0 = omega (arith, c.if-h-d.true) in
    let e : (a.h - a.d) * a.n ≡ 0 = ap (λ k. k * a.n) l ∙ none a.n in
    piece_none a.grows 0 (a.d * a.n) a.t.now
    ∙ ap (λ m. piece_of a.grows 0 (a.d * a.n) m a.t.now) (sym e)
  where
    none : (n : ℕ) → 0 * n ≡ 0
    none n = omega arith

pub overflow_mul-d : goal.overflow_mul-d
overflow_mul-d c =
    let a = c.args in
    let p = c.requires in
    record {
      fits = omega (
        arith,
        product a.h a.d a.n (omega (arith, c.if-h-d.false)) p.1.0 p.0,
      );
    }

pub overflow_mul-h : goal.overflow_mul-h
overflow_mul-h c =
    let a = c.args in
    let p = c.requires in
    record { fits = omega (arith, product' a.h a.d a.n p.1.0 p.0) }

pub join_all-requires : goal.join_all-requires
join_all-requires c =
    let a = c.args in
    omega (arith, parts a.h a.d a.n (omega (arith, c.if-h-d.false)))
