-- A side in parts of 7, link after link: what a link takes, what is left, and a step of a path along it.
use Prim.Native.Nat.{ℕ, suc, ◌+◌, ◌-◌, ◌*◌, ◌≤◌, ◌<◌}
use mathlib.Core.Path.{◌≡◌}
use mathlib.Core.Logic.{◌⊎◌, inl, inr, ⊎_elim}
use native.Mathlib.Omega.{arith}
use lib.Dec.{leb, leb→le, nleb→lt, not_T}
use Rattle.answer.specs.Answer.{centre}
use Rattle.basics.proofs.Truth.{decided}
use Rattle.hulls.specs.declared.Side.{Side}
use Rattle.candidates.specs.Candidates.{part}

-- what is left of x after i links
unfoldable pub rest : ℕ → ℕ → ℕ
rest x i = x - 7 * i

pub part_rest : (x i : ℕ) → part 7 x i + rest x (suc i) ≡ rest x i
unfolding part rest
part_rest x i = omega arith

pub part_few : (x i : ℕ) → part 7 x i ≤ 7
unfolding part
part_few x i = omega arith

pub part_mono : {x y : ℕ} (i : ℕ) → x ≤ y → part 7 x i ≤ part 7 y i
unfolding part
part_mono i h = omega arith

pub rest_mono : {x y : ℕ} (i : ℕ) → x ≤ y → rest x i ≤ rest y i
unfolding rest
rest_mono i h = omega arith

pub rest_none : (x i : ℕ) → x ≤ 7 * i → rest x i ≡ 0
unfolding rest
rest_none x i h = omega arith

pub rest_all : (x : ℕ) → rest x 0 ≡ x
unfolding rest
rest_all x = omega arith

pub le_or : (m n : ℕ) → (m ≤ n) ⊎ (n < m)
le_or m n = ⊎_elim (λ t. inl (leb→le m n t)) (λ t. inr (nleb→lt m n (not_T (leb m n) t))) (decided
    (leb m n))

-- ---- three stretches that meet two by two meet all three
pub record Met (p f l o e F L O lo hi m : ℕ) : Type 0 where
  pub from : p + f ≤ m + o
  pub to : m + o ≤ p + l
  pub near : e + O ≤ m + L
  pub far : m + F ≤ e + O
  pub low : lo ≤ m
  pub high : m ≤ hi

meet : (p f l o e F L O lo hi : ℕ) → p + f + F ≤ e + O + o → e + O + o ≤ p + l + L → f ≤ l → F ≤ L
    → p + f ≤ hi + o → lo + o ≤ p + l → e + O ≤ hi + L → lo + F ≤ e + O → lo ≤ hi
    → (m : ℕ) × Met p f l o e F L O lo hi m
meet p f l o e F L O lo hi a b fl FL c d g k h =
    ⊎_elim (λ u. ⊎_elim
    (λ v. (lo, record { from = u; to = d; near = v; far = k; low = omega arith; high = h }))
    (λ v. second (omega arith) v) (le_or (e + O) (lo + L)))
    (λ u. ⊎_elim (λ v. first (omega arith) u) (λ v. second (omega arith) (omega arith))
    (le_or (e + O + o) (p + f + L))) (le_or (p + f) (lo + o))
  where
    first : e + O + o ≤ p + f + L → lo + o < p + f → (m : ℕ) × Met p f l o e F L O lo hi m
    first u v =
        let m = p + f - o in
        let q : m + o ≡ p + f = omega arith in (
          m,
          record {
            from = omega arith;
            to = omega arith;
            near = omega arith;
            far = omega arith;
            low = omega arith;
            high = omega arith;
          },
        )

    second : p + f + L ≤ e + O + o → lo + L < e + O → (m : ℕ) × Met p f l o e F L O lo hi m
    second u v =
        let m = e + O - L in
        let q : m + L ≡ e + O = omega arith in (
          m,
          record {
            from = omega arith;
            to = omega arith;
            near = omega arith;
            far = omega arith;
            low = omega arith;
            high = omega arith;
          },
        )

-- ---- a step along a side
module _ (S : Side) where
  -- from p the links from i on can lead to q
  pub record Leads (i p q : ℕ) : Type 0 where
    pub least : p + rest S.first i ≤ q + rest S.origin i
    pub most : q + rest S.origin i ≤ p + rest S.last i

  -- what link i does
  pub record Goes (i p m : ℕ) : Type 0 where
    pub least : p + part 7 S.first i ≤ m + part 7 S.origin i
    pub most : m + part 7 S.origin i ≤ p + part 7 S.last i

  -- on the way to e, onward or back
  abbrev pub Way : ℕ → ℕ → Type 0
  Way e p = ((S.origin ≤ S.last) × (centre ≤ p) × (p ≤ e)) ⊎ ((S.first ≤ S.origin) × (e ≤ p) ×
      (p ≤ centre))

  pub then_leads : (i p m q : ℕ) → Goes i p m → Leads (suc i) m q → Leads i p q
  then_leads i p m q g l =
      let a = part_rest S.first i in
      let b = part_rest S.origin i in
      let c = part_rest S.last i in
      record {
        least = omega (arith, a, b, g.least, l.least);
        most = omega (arith, b, c, g.most, l.most);
      }

  pub next : (i p e : ℕ) → S.first ≤ S.last → Way e p → Leads i p e
      → (m : ℕ) × Goes i p m × Leads (suc i) m e × Way e m
  next i p e fl w l =
      let f = part 7 S.first i in
      let o = part 7 S.origin i in
      let t = part 7 S.last i in
      let F = rest S.first (suc i) in
      let O = rest S.origin (suc i) in
      let L = rest S.last (suc i) in
      let a = part_rest S.first i in
      let b = part_rest S.origin i in
      let c = part_rest S.last i in
      let u : p + f + F ≤ e + O + o = omega (arith, a, b, l.least) in
      let v : e + O + o ≤ p + t + L = omega (arith, b, c, l.most) in
      ⊎_elim
      (λ h.
      let ol = part_mono i h.0 in
      let OL = rest_mono (suc i) h.0 in
      ⊎_elim (λ q. onward h (meet p f t o e F L O p e u v (part_mono i fl) (rest_mono (suc i) fl)
      (omega (arith, part_mono i q, h.2)) (omega (arith, ol)) (omega (arith, OL))
      (omega (arith, rest_mono (suc i) q, h.2)) h.2))
      (λ q. onward h (meet p f t o e F L O p e u v (part_mono i fl) (rest_mono (suc i) fl)
      (omega (arith, u, rest_mono (suc i) (lt_le q))) (omega (arith, ol)) (omega (arith, OL))
      (omega (arith, u, part_mono i (lt_le q))) h.2))
      (le_or S.first S.origin))
      (λ h.
      let fo = part_mono i h.0 in
      let FO = rest_mono (suc i) h.0 in
      ⊎_elim (λ q. back h (meet p f t o e F L O e p u v (part_mono i fl) (rest_mono (suc i) fl)
      (omega (arith, fo)) (omega (arith, part_mono i q, h.1)) (omega (arith, rest_mono (suc i) q, h.1))
      (omega (arith, FO)) h.1))
      (λ q. back h (meet p f t o e F L O e p u v (part_mono i fl) (rest_mono (suc i) fl)
      (omega (arith, fo)) (omega (arith, v, rest_mono (suc i) (lt_le q)))
      (omega (arith, v, part_mono i (lt_le q))) (omega (arith, FO)) h.1))
      (le_or S.origin S.last))
      w
    where
      lt_le : {m n : ℕ} → m < n → m ≤ n
      lt_le h = omega arith

      onward : (S.origin ≤ S.last) × (centre ≤ p) × (p ≤ e)
          → (m : ℕ) × Met p (part 7 S.first i) (part 7 S.last i) (part 7 S.origin i) e
          (rest S.first (suc i)) (rest S.last (suc i)) (rest S.origin (suc i)) p e m
          → (m : ℕ) × Goes i p m × Leads (suc i) m e × Way e m
      onward h k =
          let q = k.1 in (
            k.0,
            record { least = q.from; most = q.to },
            record { least = q.far; most = q.near },
            inl (h.0, omega (arith, h.1, q.low), q.high),
          )

      back : (S.first ≤ S.origin) × (e ≤ p) × (p ≤ centre)
          → (m : ℕ) × Met p (part 7 S.first i) (part 7 S.last i) (part 7 S.origin i) e
          (rest S.first (suc i)) (rest S.last (suc i)) (rest S.origin (suc i)) e p m
          → (m : ℕ) × Goes i p m × Leads (suc i) m e × Way e m
      back h k =
          let q = k.1 in (
            k.0,
            record { least = q.from; most = q.to },
            record { least = q.far; most = q.near },
            inr (h.0, q.low, omega (arith, h.2, q.high)),
          )
