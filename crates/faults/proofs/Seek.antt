-- The scan of all offsets from -63 to 63 as one loop makes it: by number, row after row.
use Prim.Native.Nat.{ℕ, zero, suc, ◌+◌, ◌-◌, ◌*◌, ◌/◌, ◌%◌, ◌≤◌, ◌<◌}
use mathlib.Core.Path.{◌≡◌, refl, sym, ap, ap₂, ◌∙◌}
use mathlib.Core.Bool.{Bool, true, false}
use native.Mathlib.Omega.{arith}
use native.Mathlib.Numerals.{add-one}
use Rattle.morphology.specs.Step.{Place}
use Rattle.faults.specs.Steps.Scan.{least, row_offsets, all_offsets}
use Rattle.morphology.specs.Check.{Verdict, Taken, Split, scan_row, scan}

-- the place number n
abbrev pub place_no : ℕ → Place
place_no n = record { x = least + n % row_offsets; y = least + n / row_offsets }

-- the first of the places from number n on that passes, of `left` places
unfoldable pub seek : (Place → Bool) → ℕ → ℕ → Verdict
seek test n zero = Taken
seek test n (suc left) =
    elim (test (place_no
    n)) [ true ↦ Split (least + n % row_offsets) (least + n / row_offsets) | false ↦ seek test (suc n) left ]

module _ (test : Place → Bool) where
  row_seek : (j rest n c : ℕ) → c + n ≡ row_offsets
      → scan_row test (least + j) (least + c) n (seek test ((j + 1) * row_offsets) rest)
      ≡ seek test (j * row_offsets + c) (n + rest)
  unfolding scan_row seek
  row_seek j rest zero c e = ap₂ (λ a b. seek test a b) (next j c e) (none rest)
    where
      next : (j c : ℕ) → c + 0 ≡ row_offsets → (j + 1) * row_offsets ≡ j * row_offsets + c
      next j c e = omega arith

      none : (n : ℕ) → n ≡ 0 + n
      none n = omega arith
  row_seek j rest (suc n) c e =
      ap₂ {C = Verdict} (λ x y. elim (test (record { x = x; y = y })) [
        | true ↦ Split x y
        | false ↦ scan_row test (least + j) (suc (least + c)) n (seek test ((j + 1) * row_offsets) rest)
      ]) (column j c n e) (row j c n e)
      ∙ ap {B = Verdict} (λ v. elim (test (place_no (j * row_offsets + c))) [
        | true ↦ Split (least + (j * row_offsets + c) % row_offsets)
            (least + (j * row_offsets + c) / row_offsets)
        | false ↦ v
      ])
      (ap (λ x. scan_row test (least + j) x n (seek test ((j + 1) * row_offsets) rest)) (up c)
      ∙ row_seek j rest n (c + 1) (on c n e) ∙ ap (λ m. seek test m (n + rest)) (further j c))
      ∙ ap (λ m. seek test (j * row_offsets + c) m) (more n rest)
    where
      column : (j c n : ℕ) → c + suc n ≡ row_offsets → least + c ≡ least + (j * row_offsets + c) % row_offsets
      column j c n e = omega arith

      row : (j c n : ℕ) → c + suc n ≡ row_offsets → least + j ≡ least + (j * row_offsets + c) / row_offsets
      row j c n e = omega arith

      up : (c : ℕ) → suc (least + c) ≡ least + (c + 1)
      up c = omega arith

      on : (c n : ℕ) → c + suc n ≡ row_offsets → c + 1 + n ≡ row_offsets
      on c n e = omega arith

      further : (j c : ℕ) → j * row_offsets + (c + 1) ≡ suc (j * row_offsets + c)
      further j c = omega arith

      more : (n rest : ℕ) → suc (n + rest) ≡ suc n + rest
      more n rest = omega arith

  rows_seek : (n j : ℕ)
      → scan test least row_offsets (least + j) n ≡ seek test (j * row_offsets) (n * row_offsets)
  unfolding scan seek
  rows_seek zero j = refl
  rows_seek (suc n) j =
      ap (λ v. scan_row test (least + j) least row_offsets v)
      (ap (λ y. scan test least row_offsets y n) (down j) ∙ rows_seek n (j + 1))
      ∙ row_seek j (n * row_offsets) row_offsets 0 refl ∙ ap₂ (λ a b. seek test a b) (here j) (more n)
    where
      down : (j : ℕ) → suc (least + j) ≡ least + (j + 1)
      down j = omega arith

      here : (j : ℕ) → j * row_offsets + 0 ≡ j * row_offsets
      here j = omega arith

      more : (n : ℕ) → row_offsets + n * row_offsets ≡ suc n * row_offsets
      more n = omega arith

  pub scan_seek : seek test 0 all_offsets ≡ scan test least row_offsets least row_offsets
  scan_seek = sym (rows_seek row_offsets 0)

  -- the loop: the verdict from here on is the verdict
  pub seek_found : (n N : ℕ) (v : Verdict) → n < N → seek test n (N - n) ≡ v → test (place_no n) ≡ true
      → Split (least + n % row_offsets) (least + n / row_offsets) ≡ v
  unfolding seek
  seek_found n N v h e t =
      sym (ap (λ b. elim b [
        | true ↦ Split (least + n % row_offsets) (least + n / row_offsets)
        | false ↦ seek test (suc n) (N - suc n)
      ]) t) ∙ ap (λ m. seek test n m) (less n N h) ∙ e
    where
      less : (n N : ℕ) → n < N → suc (N - suc n) ≡ N - n
      less n N h = omega arith

  pub seek_next : (n N : ℕ) (v : Verdict) → n < N → seek test n (N - n) ≡ v → test (place_no n) ≡ false
      → seek test (n + 1) (N - (n + 1)) ≡ v
  unfolding seek
  seek_next n N v h e t =
      ap₂ (λ i m. seek test i m) (add-one n) (same n N)
      ∙ sym (ap (λ b. elim b [
        | true ↦ Split (least + n % row_offsets) (least + n / row_offsets)
        | false ↦ seek test (suc n) (N - suc n)
      ]) t) ∙ ap (λ m. seek test n m) (less n N h) ∙ e
    where
      same : (n N : ℕ) → N - (n + 1) ≡ N - suc n
      same n N = omega arith

      less : (n N : ℕ) → n < N → suc (N - suc n) ≡ N - n
      less n N h = omega arith

  pub seek_none : (n N : ℕ) (v : Verdict) → N ≤ n → seek test n (N - n) ≡ v → Taken ≡ v
  unfolding seek
  seek_none n N v h e = ap (λ m. seek test n m) (none n N h) ∙ e
    where
      none : (n N : ℕ) → N ≤ n → 0 ≡ N - n
      none n N h = omega arith
