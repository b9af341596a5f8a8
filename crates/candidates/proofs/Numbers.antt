-- The numbers of a candidate, as the code finds them.
use Prim.Native.Nat.{ℕ, ◌+◌, ◌-◌, ◌*◌, ◌/◌, ◌%◌, ◌^◌, ◌≤◌, ◌<◌, min, max}
use mathlib.Core.Path.{◌≡◌, sym, ap, ap₂, ◌∙◌}
use mathlib.Core.Bool.{true, false, cond}
use native.Mathlib.Omega.{arith}
use borrow.Author.Tests.{lt-ltb, le-ltb, le-leb, lt-leb, eq-eqb, ne_eqb}
use lib.Bits.{bit_and}
use lib.ListN.{get_or}
use Rattle.hulls.specs.declared.Hull.{Hull}
use Rattle.candidates.specs.declared.Try.{Try}
use Rattle.candidates.specs.Candidates.{try_no, part, needed, links_of, run_byte, heads, tails}
use Rattle.candidates.specs.Candidates.{row_with, row_byte, link_byte}

-- ---- how many links a side needs
module _ (m n : ℕ) where
  pub needs_one : n ≤ m → needed m n ≡ 1
  unfolding needed
  needs_one a = simp (le-leb n m a)

  pub needs_two : m < n → n ≤ 2 * m → needed m n ≡ 2
  unfolding needed
  needs_two a b = simp (lt-leb n m a, le-leb n (2 * m) b)

  pub needs_three : m < n → 2 * m < n → n ≤ 3 * m → needed m n ≡ 3
  unfolding needed
  needs_three a b c = simp (lt-leb n m a, lt-leb n (2 * m) b, le-leb n (3 * m) c)

  pub needs_four : m < n → 2 * m < n → 3 * m < n → n ≤ 4 * m → needed m n ≡ 4
  unfolding needed
  needs_four a b c d = simp (lt-leb n m a, lt-leb n (2 * m) b, lt-leb n (3 * m) c, le-leb n (4 * m) d)

  pub needs_five : m < n → 2 * m < n → 3 * m < n → 4 * m < n → needed m n ≡ 5
  unfolding needed
  needs_five a b c d = simp (lt-leb n m a, lt-leb n (2 * m) b, lt-leb n (3 * m) c, lt-leb n (4 * m) d)

module _ (H : Hull) (c : Try) where
  pub links_own : c.own ≡ true → links_of H c ≡ 1
  unfolding links_of
  links_own e = ap (λ b. cond b 1 (needed c.side (max H.across.span H.down.span))) e

  pub links_more : (n : ℕ) → c.own ≡ false → n ≡ max H.across.span H.down.span
      → links_of H c ≡ needed c.side n
  unfolding links_of
  links_more n e q =
      ap (λ b. cond b 1 (needed c.side (max H.across.span H.down.span))) e
      ∙ ap (needed c.side) (sym q)

-- ---- the cells of a row of a link
module _ (f l : ℕ) where
  pub run_turned : l < f → run_byte f l ≡ 0
  unfolding run_byte
  run_turned a = simp (lt-ltb l f a)

  pub run_far : f ≤ l → 7 < l → run_byte f l ≡ 0
  unfolding run_byte
  run_far a b = simp (le-ltb l f a, lt-ltb 7 l b)

  pub run_cells : f ≤ l → l ≤ 7 → run_byte f l ≡ bit_and (get_or heads f 0) (get_or tails l 0)
  unfolding run_byte
  run_cells a b = simp (le-ltb l f a, le-ltb 7 l b)

-- ---- the candidates
pub try_first : (t : ℕ) → t ≡ 0 → try_no t ≡ record { side = 7; origin = 7; cut = 0; own = true }
unfolding try_no
try_first t e = simp (eq-eqb t 0 e)

pub try_second : (t : ℕ) → t ≡ 1 → try_no t ≡ record { side = 7; origin = 7; cut = 0; own = false }
unfolding try_no
try_second t e = simp (ne_eqb t 0 (λ z. omega arith), eq-eqb t 1 e)

abbrev the : ℕ → ℕ → Try
the m n = record { side = m; origin = n; cut = n; own = false }

pub try_other : (t s k : ℕ) → (t ≡ 0 → ⊥) → (t ≡ 1 → ⊥) → s ≡ 7 - (t - 2) / 7 → k ≡ 7 - (t - 2) % 7
    → try_no t ≡ record { side = s; origin = k; cut = k; own = false }
unfolding try_no
try_other t s k a b e f =
    let h : try_no t ≡ the (7 - (t - 2) / 7) (7 - (t - 2) % 7) = simp (ne_eqb t 0 a, ne_eqb t 1 b) in
    h ∙ ap₂ the (sym e) (sym f)

-- ---- a row of a link
module _ (u l f t nw ne sw se r : ℕ) where
  pub row_above : r < u → row_with u l f t nw ne sw se r ≡ 0
  unfolding row_with
  row_above a = simp (lt-ltb r u a)

  pub row_below : u ≤ r → l < r → row_with u l f t nw ne sw se r ≡ 0
  unfolding row_with
  row_below a b = simp (le-ltb r u a, lt-ltb l r b)

  pub row_in : u ≤ r → r ≤ l → row_with u l f t nw ne sw se r
      ≡ run_byte (f + max (nw - (r - u)) (sw - (l - r))) (t - max (ne - (r - u)) (se - (l - r)))
  unfolding row_with
  row_in a b = simp (le-ltb r u a, le-ltb l r b)

-- ---- a byte of a link
module _ (H : Hull) (c : Try) (i j : ℕ) where
  pub byte_wide : j ≡ 0 → link_byte H c i j ≡ min c.side H.across.span + 1
  unfolding link_byte
  byte_wide e = simp (eq-eqb j 0 e)

  pub byte_high : j ≡ 1 → link_byte H c i j ≡ min c.side H.down.span + 1
  unfolding link_byte
  byte_high e = simp (ne_eqb j 0 (λ z. omega arith), eq-eqb j 1 e)

  pub byte_column : j ≡ 2 → link_byte H c i j ≡ part c.origin H.across.origin i
  unfolding link_byte
  byte_column e = simp (ne_eqb j 0 (λ z. omega arith), ne_eqb j 1 (λ z. omega arith), eq-eqb j 2 e)

  pub byte_row_lem : j ≡ 3 → link_byte H c i j ≡ part c.origin H.down.origin i
  unfolding link_byte
  byte_row_lem e =
      simp (
        ne_eqb j 0 (λ z. omega arith),
        ne_eqb j 1 (λ z. omega arith),
        ne_eqb j 2 (λ z. omega arith),
        eq-eqb j 3 e,
      )

  pub byte_cells : 4 ≤ j
      → link_byte H c i j ≡ cond c.own (get_or H.own (j - 4) 0) (row_byte H c i (j - 4))
  unfolding link_byte
  byte_cells h =
      simp (
        ne_eqb j 0 (λ z. omega arith),
        ne_eqb j 1 (λ z. omega arith),
        ne_eqb j 2 (λ z. omega arith),
        ne_eqb j 3 (λ z. omega arith),
      )

  pub byte_own : 4 ≤ j → c.own ≡ true → link_byte H c i j ≡ get_or H.own (j - 4) 0
  byte_own h e = byte_cells h ∙ ap (λ b. cond b (get_or H.own (j - 4) 0) (row_byte H c i (j - 4))) e

  pub byte_boxed : 4 ≤ j → c.own ≡ false → link_byte H c i j ≡ row_byte H c i (j - 4)
  byte_boxed h e = byte_cells h ∙ ap (λ b. cond b (get_or H.own (j - 4) 0) (row_byte H c i (j - 4))) e

-- ---- a row of a link, number by number as the code finds them
pub few_sum : (f x a b p q k m : ℕ) → f ≤ 7 → x ≡ max a b → a ≡ p - k → b ≡ q - m → p ≤ 7 → q ≤ 7
    → f + x < 2 ^ 64
few_sum f x a b p q k m hf e g h hp hq =
    omega (arith, hf, e, few a p k g hp, few b q m h hq)
  where
    few : (a p k : ℕ) → a ≡ p - k → p ≤ 7 → a ≤ 7
    few a p k e h = omega arith

module _ (H : Hull) (c : Try) (i r : ℕ) where
  pub row_made : (u l f t a p b q ul ll ur lr x y z v : ℕ)
      → u ≡ part c.side H.down.first i → l ≡ part c.side H.down.last i
      → f ≡ part c.side H.across.first i → t ≡ part c.side H.across.last i
      → a ≡ part c.cut H.nw i → p ≡ part c.cut H.sw i
      → b ≡ part c.cut H.ne i → q ≡ part c.cut H.se i
      → u ≤ r → r ≤ l → ul ≡ a - (r - u) → ll ≡ p - (l - r) → ur ≡ b - (r - u) → lr ≡ q - (l - r)
      → x ≡ max ul ll → y ≡ max ur lr → z ≡ t - y → v ≡ run_byte (f + x) z → v ≡ row_byte H c i r
  unfolding row_byte
  row_made u l f t a p b q ul ll ur lr x y z v eu el ef et ea ep eb eq hu hl gul gll gur glr gx gy gz gv =
      gv
      ∙ ap₂ run_byte (ap (λ n. f + n) (gx ∙ ap₂ max gul gll)) (gz ∙ ap (λ n. t - n) (gy ∙ ap₂ max gur glr))
      ∙ sym (row_in u l f t a b p q r hu hl)
      ∙ λ j. row_with (eu j) (el j) (ef j) (et j) (ea j) (eb j) (ep j) (eq j) r
