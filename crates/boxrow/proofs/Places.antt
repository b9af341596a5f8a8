-- The four places of a run: what the inner calls ask and give, put together.
use Prim.Native.Nat.{ℕ, ◌+◌, ◌-◌, ◌≤◌, ◌<◌, min}
use mathlib.Core.Path.{◌≡◌, refl, sym, ap₂, ◌∙◌, subst}
use mathlib.Core.Bool.{Bool, cond}
use mathlib.Core.List.{List}
use native.Mathlib.Omega.{arith}
use Rattle.picture.specs.Bytes.{row_of}
use Rattle.picture.proofs.Rows.{row_same}
use Rattle.packedline.specs.Steps.Cells.{window_of}
use Rattle.joins.specs.Steps.Joins.{depth_if}
use Rattle.boxrow.specs.Steps.Along.{before_of, bits_along, bytes_along, along_at}
use Rattle.boxrow.specs.Steps.Along.{bits_left, bytes_left, left_along, AlongFit, RunFit}
use Rattle.boxrow.proofs.Widths.{before_lt, size_facts}

module _ (packed grows : Bool) (w o wide m f d e : ℕ) (em : m ≡ window_of wide) (ef : f ≡ before_of grows o
    wide)
    (ed : d ≡ min m (wide - m)) (ee : e ≡ min (m + m) (wide - m)) where
  places_fit : (nb nt : ℕ) → RunFit packed nb nt w o wide
      → AlongFit packed nb nt w (64 - f) (64 - f + d) (64 - f + e) (64 - f + (wide - m))
  places_fit nb nt r =
      let l = before_lt grows o wide r.origin_in in
      let k = size_facts wide (omega (arith, r.origin_in)) r.few_wide in
      record {
        some_points = r.some_points;
        few_points = r.few_points;
        room = r.room;
        target = r.target;
        first = omega arith;
        second = omega (arith, r.few_wide, k.1.0, l);
        third = omega (arith, r.few_wide, k.1.0, l);
        fourth = omega (arith, r.few_wide, k.1.0, l, origin_reach);
      }
    where
      origin_reach : 64 - f ≤ 64
      origin_reach = omega arith

  -- at the depth that was found
  pub places_at_lem : (q : Bool) → packed ≡ q → (nb nt : ℕ) → RunFit packed nb nt w o wide
      → AlongFit q nb nt w (64 - f) (64 - f + d) (64 - f + e) (64 - f + (wide - m))
  places_at_lem q eq nb nt r =
      subst (λ p. AlongFit p nb nt w (64 - f) (64 - f + d) (64 - f + e) (64 - f + (wide - m))) eq
      (places_fit nb nt r)

  -- what is made of the numbers found is what is made of those of the run
  found : (R : ℕ → ℕ → ℕ → ℕ → List ℕ)
      → R m f d e
      ≡ R (window_of wide) (before_of grows o wide) (min (window_of wide) (wide - window_of wide))
      (min (window_of wide + window_of wide) (wide - window_of wide))
  found R =
      ap₂ (λ d e. R m f d e) ed ee ∙ ap₂ (λ m f. R m f (min m (wide - m)) (min (m + m) (wide - m))) em ef

  abbrev row_at : Bool → List ℕ → ℕ → ℕ → ℕ → ℕ → List ℕ
  row_at packed b m f d e =
      row_of (depth_if packed)
      (cond packed bits_along bytes_along grows w m (64 - f) (64 - f + d) (64 - f + e)
      (64 - f + (wide - m)) b) w

  abbrev rest_at : Bool → List ℕ → ℕ → ℕ → ℕ → ℕ → List ℕ
  rest_at packed b m f d e =
      cond packed bits_left bytes_left grows w m (64 - f) (64 - f + d) (64 - f + e) (64 - f + (wide - m)) b

  pub along_as : (q : Bool) → packed ≡ q → (b u : List ℕ) → u ≡ row_at q b m f d e
      → u ≡ row_of (depth_if packed) (along_at packed grows w o wide b) w
  unfolding along_at
  along_as q eq b u eu =
      subst (λ p. u ≡ row_at p b m f d e) (sym eq) eu ∙ found (row_at packed b)
      ∙ row_same (depth_if packed) _ _ w (λ x h. refl)

  pub left_as : (q : Bool) → packed ≡ q → (b u : List ℕ) → u ≡ rest_at q b m f d e
      → u ≡ left_along packed grows w o wide b
  unfolding left_along
  left_as q eq b u eu = subst (λ p. u ≡ rest_at p b m f d e) (sym eq) eu ∙ found (rest_at packed b)
