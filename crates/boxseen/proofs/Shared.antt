-- What the inner call asks and gives: the rows that two rows see.
use Prim.Native.Nat.{ℕ, ◌+◌, ◌-◌, ◌*◌, ◌≤◌, ◌<◌, min}
use mathlib.Core.Path.{◌≡◌, sym, ap, ap₂, ◌∙◌, subst}
use mathlib.Core.Bool.{Bool}
use mathlib.Core.List.{List}
use native.Mathlib.Omega.{arith}
use native.Mathlib.Nat.{mul-le-mul_right}
use lib.ListN.{take}
use lib.Seq.{get_or-take}
use Rattle.basics.specs.Lists.{firsts}
use Rattle.basics.proofs.Lists.{firsts_same}
use Rattle.morphology.proofs.Cells.{fold_same}
use Rattle.rows.specs.Steps.Fold.{start_by}
use Rattle.joins.specs.Steps.Joins.{join_at}
use Rattle.picture.proofs.Sizes.{row_room}
use Rattle.columns.specs.Steps.Down.{down_at, also_at, Pair}
use Rattle.boxrow.specs.Steps.Along.{before_of}
use Rattle.boxrow.proofs.Widths.{before_lt}
use Rattle.boxseen.specs.Steps.Seen.{upper_at, lower_at, LeadFit}

lo_end : (above high h y z lo end : ℕ) → lo ≡ z - above → end ≡ min (y + high - above) h → above < high
    → z ≤ y + 1 → z < h → lo ≤ end
lo_end above high h y z lo end p q l m n = omega arith

first_in : (above h y z first : ℕ) → first ≡ y - above → y ≤ z → z < h → first < h
first_in above h y z first p l m = omega arith

last_in : (a h z last : ℕ) → last ≡ min a (h - 1) → z < h → last < h
last_in a h z last p l = omega arith

end_in_lem : (a h lo end : ℕ) → end ≡ min a h → lo ≤ end → lo + (end - lo) ≤ h
end_in_lem a h lo end p l = omega arith

-- rows of the first m bytes are rows of the source
also_own : (packed grows : Bool) (s : List ℕ) (n m lo count row i : ℕ) → (lo + count) * n ≤ m
    → row * n + n ≤ m → i < n
    → also_at packed grows (take m s) n lo count row i ≡ also_at packed grows s n lo count row i
unfolding also_at down_at
also_own packed grows s n m lo count row i p q l =
    ap₂ (join_at packed grows)
    (fold_same (join_at packed grows) (start_by grows 255) _ _ count
    (λ v k. get_or-take m s ((lo + v) * n + i) 0 (omega (arith, seen v k))))
    (get_or-take m s (row * n + i) 0 (omega arith))
  where
    seen : (v : ℕ) → v < count → (lo + v) * n + n ≤ (lo + count) * n
    seen v k = row_room n (omega arith)

module _ (ns n nz h o high y z above lo end last first : ℕ) (grows : Bool) (fit : LeadFit ns n nz h o high
    y z)
    (ea : above ≡ before_of grows o high) (el : lo ≡ z - above) (ee : end ≡ min (y + high - above) h)
    (et : last ≡ min (z + high - above - 1) (h - 1)) (ef : first ≡ y - above) where
  pub lead_lo : lo ≤ end
  lead_lo =
      lo_end above high h y z lo end el ee
      (subst (λ a. a < high) (sym ea) (before_lt grows o high fit.origin_in)) fit.next fit.row

  -- of the picture's own bytes
  own_fit : Pair (h * n) n nz first lo (end - lo) last
  own_fit =
      record {
        same = fit.same;
        common = mul-le-mul_right n (end_in_lem (y + high - above) h lo end ee lead_lo);
        one = row_room n (first_in above h y z first ef fit.up fit.row);
        other = row_room n (last_in (z + high - above - 1) h z last et fit.row);
      }

  pub lead_fit : (m : ℕ) → m ≡ h * n → Pair m n nz first lo (end - lo) last
  lead_fit m e = subst (λ m. Pair m n nz first lo (end - lo) last) (sym e) own_fit

  pub lead_upper : (packed : Bool) (s u : List ℕ)
      → u ≡ firsts (also_at packed grows (take (h * n) s) n lo (end - lo) first) n
      → u ≡ firsts (upper_at packed grows s n h o high y z) n
  unfolding upper_at
  lead_upper packed s u e =
      e ∙ firsts_same _ _ n (λ i l.
      also_own packed grows s n (h * n) lo (end - lo) first i own_fit.common own_fit.one l
      ∙ ap (λ a. also_at packed grows s n lo (end - lo) a i) (ef ∙ ap (λ a. y - a) ea)
      ∙ ap₂ (λ a b. also_at packed grows s n a b (y - before_of grows o high) i) (el ∙ ap (λ a. z - a) ea)
      (ap₂ (λ a b. a - b) ee el ∙ ap (λ a. min (y + high - a) h - (z - a)) ea))

  pub lead_lower : (packed : Bool) (s u : List ℕ)
      → u ≡ firsts (also_at packed grows (take (h * n) s) n lo (end - lo) last) n
      → u ≡ firsts (lower_at packed grows s n h o high y z) n
  unfolding lower_at
  lead_lower packed s u e =
      e ∙ firsts_same _ _ n (λ i l.
      also_own packed grows s n (h * n) lo (end - lo) last i own_fit.common own_fit.other l
      ∙ ap (λ a. also_at packed grows s n lo (end - lo) a i)
      (et ∙ ap (λ a. min (z + high - a - 1) (h - 1)) ea)
      ∙ ap₂ (λ a b. also_at packed grows s n a b (min (z + high - before_of grows o high - 1) (h - 1)) i)
      (el ∙ ap (λ a. z - a) ea)
      (ap₂ (λ a b. a - b) ee el ∙ ap (λ a. min (y + high - a) h - (z - a)) ea))
