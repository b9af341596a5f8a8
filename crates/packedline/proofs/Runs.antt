-- Places found one after another: the windows of a run, and the set cells.
use Prim.Native.Nat.{ℕ, ◌+◌, ◌-◌, ◌^◌, ◌≤◌, ◌<◌}
use mathlib.Core.Path.{◌≡◌, sym, ap, ◌∙◌, subst}
use mathlib.Core.Bool.{Bool, true}
use mathlib.Core.List.{List}
use mathlib.Core.Logic.{◌⊎◌, inl, inr, ⊎_elim}
use native.Mathlib.Omega.{arith}
use native.Mathlib.Nat.{eq-or-lt_of_le, not-suc-le-zero, lt_of_lt_of_le, not-le_of_lt}
use lib.Dec.{eqb}
use lib.Pow.{pow_mono, shr_le}
use lib.ListN.{length, get_or, set, length-set}
use lib.Seq.{get_or-set_same, get_or-set_other}
use borrow.Author.Tests.{eq-eqb, eqb-true}
use Rattle.basics.specs.Bits.{bit}
use Rattle.basics.proofs.SliceParts.{below_or_not}
use Rattle.packedline.specs.Steps.Cells.{cell_on64, place_of, RunOf, CellsOf}
use Rattle.packedline.proofs.Words.{rest_lt, rest_below, top_on, rest_top, rest_above}

-- what was found stays when one more is written after it
kept : (at : List ℕ) (n v j : ℕ) → j < n → get_or (set at n v) j 0 ≡ get_or at j 0
kept at n v j h = get_or-set_other at n j v 0 (λ e. absurd (omega arith))

-- ---- a run: windows within it, which cover its first c places
abbrev pub RunSo : ℕ → ℕ → ℕ → ℕ → ℕ → List ℕ → Type 0
RunSo n wide from c count at =
    (length at ≡ 64) × (((j : ℕ) → j < count → (from ≤ get_or at j 0) × (get_or at j 0 + n ≤ from + wide))
    × ((k : ℕ) → k < c → (j : ℕ)
    × ((j < count) × ((get_or at j 0 ≤ from + k) × (from + k < get_or at j 0 + n)))))

pub run_none : (n wide from : ℕ) (at : List ℕ) → length at ≡ 64 → RunSo n wide from 0 0 at
run_none n wide from at e = (e, ((λ j h. absurd (not-suc-le-zero h)), (λ k h. absurd (not-suc-le-zero h))))

pub run_more : (n wide from c d count v : ℕ) (at : List ℕ) → count < 64 → from ≤ v → v + n ≤ from + wide
    → v ≤ from + c → from + d ≤ v + n
    → RunSo n wide from c count at → RunSo n wide from d (count + 1) (set at count v)
run_more n wide from c d count v at small h1 h2 h3 h4 so = (
  length-set at count v ∙ so.0,
  (
    λ j h. ⊎_elim
        (λ e. let q : get_or (set at count v) j 0 ≡ v = ap (λ i. get_or (set at count v) i 0) e ∙ here in
        (omega (arith, q), omega (arith, q)))
        (λ l. let q = kept at count v j l in let r = so.1.0 j l in
        (omega (arith, q, r.0), omega (arith, q, r.1)))
        (eq-or-lt_of_le (below_one j count h)),
    λ k h. ⊎_elim
        (λ l. let r = so.1.1 k l in
        let q = kept at count v r.0 r.1.0 in
        (r.0, (omega (arith, r.1.0), (omega (arith, q, r.1.1.0), omega (arith, q, r.1.1.1)))))
        (λ l. let q = here in (count, (omega arith, (omega (arith, q), omega (arith, q)))))
        (below_or_not k c),
  ),
)
  where
    here : get_or (set at count v) count 0 ≡ v
    here = get_or-set_same at count v 0 (subst (λ m. count < m) (sym so.0) small)

    below_one : (i n : ℕ) → i < n + 1 → i ≤ n
    below_one i n h = omega arith

pub run_done : (n wide from count : ℕ) (at : List ℕ) → count ≤ 64 → RunSo n wide from wide count at
    → RunOf n wide from count at
run_done n wide from count at h so = record { few = h; long = so.0; inside = so.1.0; covered = so.1.1 }

-- ---- the set cells: those that are not in the rest m have been found
abbrev pub CellSo : Bool → ℕ → ℕ → ℕ → ℕ → List ℕ → Type 0
CellSo grows word o m count at =
    (length at ≡ 64) × ((count ≤ 64) × ((m < 2 ^ (64 - count))
    × (((j : ℕ) → j < count → (c : ℕ) × ((c < 64)
    × ((cell_on64 word c ≡ true) × (get_or at j 0 ≡ place_of grows o c))))
    × (((c : ℕ) → c < 64 → cell_on64 word c ≡ true
    → (cell_on64 m c ≡ true) ⊎ ((j : ℕ) × ((j < count) × (get_or at j 0 ≡ place_of grows o c))))
    × ((c : ℕ) → c < 64 → cell_on64 m c ≡ true → cell_on64 word c ≡ true)))))

pub cell_none : (grows : Bool) (word o : ℕ) (at : List ℕ) → word < 2 ^ 64 → length at ≡ 64
    → CellSo grows word o word 0 at
cell_none grows word o at h e =
    (e, (omega arith, (h, ((λ j l. absurd (not-suc-le-zero l)), ((λ c l q. inl q), (λ c l q. q))))))

module _ (grows : Bool) (word o m count : ℕ) (at : List ℕ) (so : CellSo grows word o m count at) (c : ℕ)
    (hc : c < 64) (lo : 2 ^ (63 - c) ≤ m) (hi : m < 2 ^ (64 - c)) where
  high : m < 2 ^ (63 - c + 1)
  high = subst (λ n. m < 2 ^ n) (one c hc) hi
    where
      one : (c : ℕ) → c < 64 → 64 - c ≡ 63 - c + 1
      one c h = omega arith

  -- the digit lies below the digits that were taken
  lower : 63 - c < 64 - count
  lower =
      ⊎_elim (λ h. h)
      (λ h. absurd (not-le_of_lt (lt_of_lt_of_le so.1.1.0 (pow_mono {i = 64 - count} {j = 63 - c} h))
      lo)) (below_or_not (63 - c) (64 - count))

  pub room : count < 64
  room = omega (arith, lower)

  is_on : cell_on64 m c ≡ true
  is_on = eq-eqb (bit m (63 - c)) 1 (top_on m (63 - c) lo high)

  same_bit : (d : ℕ) → d < 64 → (d < c) ⊎ (c < d) → bit (m - 2 ^ (63 - c)) (63 - d) ≡ bit m (63 - d)
  same_bit d hd s =
      ⊎_elim
      (λ h. rest_above m (63 - c) lo high (63 - d) (omega arith))
      (λ h. rest_below m (63 - c) lo high (63 - d) (omega arith))
      s

  apart : (d : ℕ) → (d ≡ c) ⊎ ((d < c) ⊎ (c < d))
  apart d =
      ⊎_elim (λ h. inr (inl h)) (λ h. ⊎_elim (λ e. inl (sym e)) (λ l. inr (inr l)) (eq-or-lt_of_le h))
      (below_or_not d c)

  pub cell_more : (v : ℕ) → v ≡ place_of grows o c
      → CellSo grows word o (m - 2 ^ (63 - c)) (count + 1) (set at count v)
  cell_more v e = (
    length-set at count v ∙ so.0,
    (
      omega (arith, room),
      (
        lt_of_lt_of_le (rest_lt m (63 - c) lo high)
            (pow_mono {i = 63 - c} {j = 64 - (count + 1)} (omega (arith, lower))),
        (
          λ j h. ⊎_elim
              (λ q. (
                c,
                (hc, (so.1.1.1.1.1 c hc is_on, ap (λ i. get_or (set at count v) i 0) q ∙ here ∙ e)),
              ))
              (λ l. let r = so.1.1.1.0 j l in
              (r.0, (r.1.0, (r.1.1.0, kept at count v j l ∙ r.1.1.1))))
              (eq-or-lt_of_le (below_one j count h)),
          (
            λ d hd q. ⊎_elim
                (λ on. ⊎_elim
                (λ z. inr (count, (omega arith, here ∙ e ∙ ap (place_of grows o) (sym z))))
                (λ z. inl (ap (λ n. eqb n 1) (same_bit d hd z) ∙ on))
                (apart d))
                (λ r. inr (r.0, (omega (arith, r.1.0), kept at count v r.0 r.1.0 ∙ r.1.1)))
                (so.1.1.1.1.0 d hd q),
            λ d hd q. ⊎_elim
                (λ z. absurd (never d z q))
                (λ z. so.1.1.1.1.1 d hd (sym (ap (λ n. eqb n 1) (same_bit d hd z)) ∙ q))
                (apart d),
          ),
        ),
      ),
    ),
  )
    where
      here : get_or (set at count v) count 0 ≡ v
      here = get_or-set_same at count v 0 (subst (λ m. count < m) (sym so.0) room)

      below_one : (i n : ℕ) → i < n + 1 → i ≤ n
      below_one i n h = omega arith

      never : (d : ℕ) → d ≡ c → cell_on64 (m - 2 ^ (63 - c)) d ≡ true → ⊥
      never d z q =
          let a = eqb-true (bit (m - 2 ^ (63 - c)) (63 - d)) 1 q in
          let b : bit (m - 2 ^ (63 - c)) (63 - d) ≡ 0 = ap (λ n. bit (m - 2 ^ (63 - c)) (63 - n)) z
          ∙ rest_top m (63 - c) lo high in
          apart_one (bit (m - 2 ^ (63 - c)) (63 - d)) a b
        where
          apart_one : (n : ℕ) → n ≡ 1 → n ≡ 0 → ⊥
          apart_one n a b = omega arith

pub cell_done : (grows : Bool) (word o m count : ℕ) (at : List ℕ) → m ≡ 0 → CellSo grows word o m count at
    → CellsOf grows word o count at
cell_done grows word o m count at z so =
    record {
      few = so.1.0;
      long = so.0;
      inside = so.1.1.1.0;
      covered = λ c h q. ⊎_elim
          (λ on. absurd (none c on)) (λ r. r) (so.1.1.1.1.0 c h q);
    }
  where
    none : (c : ℕ) → cell_on64 m c ≡ true → ⊥
    none c q =
        let a = eqb-true (bit m (63 - c)) 1 q in
        let b : bit m (63 - c) ≤ m = omega (arith, shr_le m (63 - c)) in
        low (bit m (63 - c)) m a b z
      where
        low : (n m : ℕ) → n ≡ 1 → n ≤ m → m ≡ 0 → ⊥
        low n m a b c = omega arith
