-- Windows at the places found make up exactly the places of the set cells of a row word.
use Prim.Native.Nat.{ℕ, ◌+◌, ◌-◌, ◌/◌, ◌^◌, ◌≤◌, ◌<◌}
use mathlib.Core.Path.{◌≡◌, refl, sym, ap, ap₂, ◌∙◌, subst}
use mathlib.Core.Bool.{Bool, true, false, cond}
use mathlib.Core.List.{List}
use mathlib.Core.Logic.{◌⊎◌, inl, inr, ⊎_elim}
use native.Mathlib.Omega.{arith}
use native.Mathlib.Nat.{lt_of_le_of_lt}
use lib.Dec.{eqb, leb, lit<}
use lib.Pow.{pow_pos, pow_mono, shr_le}
use lib.Count.{count_leading_zeros, ones, ones-le}
use lib.ListN.{get_or}
use borrow.Author.Tests.{eq-eqb, ne_eqb, eqb-true, leb-false}
use Rattle.basics.specs.Bits.{bit}
use Rattle.basics.proofs.Bits.{bit_up, bit_not}
use Rattle.basics.proofs.SliceParts.{below_or_not}
use Rattle.packedline.specs.Steps.Cells.{cell_on64, place_of, end_cell, window_of, run_word, level_of, RunOf}
use Rattle.packedline.specs.Steps.Cells.{CellsOf, Covers}
use Rattle.blocks.proofs.Points.{bit_above}

-- ---- the digits of a run
all_on : (i : ℕ) → i < 64 → bit (2 ^ 64 - 1) i ≡ 1
all_on i h = bit_not 64 0 i (pow_pos 64) h ∙ ap (λ n. 1 - n) (bit_above 0 i (pow_pos i))

quotient_lt : (wide : ℕ) → (2 ^ 64 - 1) / 2 ^ wide < 2 ^ 64
quotient_lt wide = lt_of_le_of_lt (shr_le (2 ^ 64 - 1) wide) all
  where
    all : 2 ^ 64 - 1 < 2 ^ 64
    all = omega arith

run_bit : (wide i : ℕ) → i < 64 → bit (run_word wide) i ≡ 1 - bit (2 ^ 64 - 1) (wide + i)
run_bit wide i h =
    bit_not 64 ((2 ^ 64 - 1) / 2 ^ wide) i (quotient_lt wide) h ∙ ap (λ n. 1 - n) (bit_up (2 ^ 64 - 1) wide i)

pub run_on : (wide i : ℕ) → i < 64 → 64 ≤ wide + i → bit (run_word wide) i ≡ 1
run_on wide i h k =
    run_bit wide i h ∙ ap (λ n. 1 - n)
    (bit_above (2 ^ 64 - 1) (wide + i) (lt_of_lt (pow_mono {i = 64} {j = wide + i} k)))
  where
    lt_of_lt : {m : ℕ} → 2 ^ 64 ≤ m → 2 ^ 64 - 1 < m
    lt_of_lt {m} h = omega arith

pub run_off : (wide i : ℕ) → i < 64 → wide + i < 64 → bit (run_word wide) i ≡ 0
run_off wide i h k = run_bit wide i h ∙ ap (λ n. 1 - n) (all_on (wide + i) k)

run_high : (wide i : ℕ) → 64 ≤ i → bit (run_word wide) i ≡ 0
run_high wide i h =
    bit_above (run_word wide) i (below ((2 ^ 64 - 1) / 2 ^ wide) (2 ^ i) (pow_mono {i = 64} {j = i} h))
  where
    below : (q m : ℕ) → 2 ^ 64 ≤ m → 2 ^ 64 - 1 - q < m
    below q m h = omega arith

-- ---- a word that is the run of `wide` cells from column c on has just these cells
module _ (word c wide : ℕ) (is : run_word wide / 2 ^ c ≡ word) (fits : c + wide ≤ 64) where
  digit : (d : ℕ) → bit word (63 - d) ≡ bit (run_word wide) (c + (63 - d))
  digit d = ap (λ n. bit n (63 - d)) (sym is) ∙ bit_up (run_word wide) c (63 - d)

  pub in_run : (d : ℕ) → c ≤ d → d < c + wide → cell_on64 word d ≡ true
  in_run d h k =
      eq-eqb (bit word (63 - d)) 1 (digit d ∙ run_on wide (c + (63 - d)) (omega arith) (omega arith))

  pub of_run : (d : ℕ) → d < 64 → cell_on64 word d ≡ true → (c ≤ d) × (d < c + wide)
  of_run d h q =
      let one : bit word (63 - d) ≡ 1 = eqb-true (bit word (63 - d)) 1 q in (
        ⊎_elim (λ l. absurd (never (bit word (63 - d)) one
            (digit d ∙ run_high wide (c + (63 - d)) (omega arith)))) (λ l. l) (below_or_not d c),
        ⊎_elim (λ l. l)
            (λ l. ⊎_elim
            (λ m. absurd (never (bit word (63 - d)) one
            (digit d ∙ run_off wide (c + (63 - d)) m (omega arith))))
            (λ m. absurd (never (bit word (63 - d)) one (digit d ∙ run_high wide (c + (63 - d)) m)))
            (below_or_not (c + (63 - d)) 64)) (below_or_not d (c + wide)),
      )
    where
      never : (n : ℕ) → n ≡ 1 → n ≡ 0 → ⊥
      never n a b = omega arith

-- ---- the windows that a word wants
pub level_none : (word : ℕ) → word ≡ 0 → 0 ≡ level_of word
unfolding level_of
level_none word e =
    ap (λ t. cond t 0 (cond (eqb (run_word (ones word) / 2 ^ count_leading_zeros 64 word) word)
    (window_of (ones word)) 1)) (sym (eq-eqb word 0 e))

pub level_run : (word c wide n : ℕ) → (word ≡ 0 → ⊥) → c ≡ count_leading_zeros 64 word → wide ≡ ones word
    → run_word wide / 2 ^ c ≡ word → n ≡ window_of wide → n ≡ level_of word
unfolding level_of
level_run word c wide n h ec ew is en =
    en ∙ ap window_of ew
    ∙ ap₂ (λ t u. cond t 0 (cond u (window_of (ones word)) 1)) (sym (ne_eqb word 0 h))
    (sym (eq-eqb (run_word (ones word) / 2 ^ count_leading_zeros 64 word) word
    (ap₂ (λ a b. run_word a / 2 ^ b) (sym ew) (sym ec) ∙ is)))

pub level_1 : (word c wide : ℕ) → (word ≡ 0 → ⊥) → c ≡ count_leading_zeros 64 word → wide ≡ ones word
    → (run_word wide / 2 ^ c ≡ word → ⊥) → 1 ≡ level_of word
unfolding level_of
level_1 word c wide h ec ew isnt =
    ap₂ (λ t u. cond t 0 (cond u (window_of (ones word)) 1)) (sym (ne_eqb word 0 h))
    (sym (ne_eqb (run_word (ones word) / 2 ^ count_leading_zeros 64 word) word
    (λ q. isnt (ap₂ (λ a b. run_word a / 2 ^ b) ew ec ∙ q))))

-- a word that wants more than single cells is a run
pub some_cell : (word n : ℕ) → 0 < n → n ≡ level_of word → 0 < word
some_cell word n h e = ⊎_elim (λ l. absurd (none (tiny word l))) (λ l. l) (below_or_not word 1)
  where
    tiny : (w : ℕ) → w < 1 → w ≡ 0
    tiny w h = omega arith

    none : word ≡ 0 → ⊥
    none z = let q : n ≡ 0 = e ∙ sym (level_none word z) in omega arith

pub record IsRun (word n : ℕ) : Type 0 where
  pub is : run_word (ones word) / 2 ^ count_leading_zeros 64 word ≡ word
  pub size : n ≡ window_of (ones word)

pub run_of : (word n : ℕ) → 0 < word → (n ≡ 1 → ⊥) → n ≡ level_of word → IsRun word n
unfolding level_of
run_of word n h ne e = by (eqb (run_word (ones word) / 2 ^ count_leading_zeros 64 word) word) refl
  where
    level : level_of word ≡ cond (eqb (run_word (ones word) / 2 ^ count_leading_zeros 64 word) word)
        (window_of (ones word)) 1
    level =
        ap (λ t. cond t 0 (cond (eqb (run_word (ones word) / 2 ^ count_leading_zeros 64 word) word)
        (window_of (ones word)) 1)) (ne_eqb word 0 (some word h))
      where
        some : (w : ℕ) → 0 < w → w ≡ 0 → ⊥
        some w h z = omega arith

    by : (t : Bool) → eqb (run_word (ones word) / 2 ^ count_leading_zeros 64 word) word ≡ t → IsRun word n
    by true q =
        record {
          is = eqb-true (run_word (ones word) / 2 ^ count_leading_zeros 64 word) word q;
          size = e ∙ level
              ∙ ap (λ t. cond t (window_of (ones word)) 1) q;
        }
    by false q = absurd (ne (e ∙ level ∙ ap (λ t. cond t (window_of (ones word)) 1) q))

-- the windows fit into the run
pub window_fits : (n wide : ℕ) → (n ≡ 1 → ⊥) → n ≡ window_of wide → (0 < n) × (n ≤ wide)
window_fits n wide ne e = by (leb wide 4) refl (leb wide 16) refl
  where
    by : (s : Bool) → leb wide 4 ≡ s → (t : Bool) → leb wide 16 ≡ t → (0 < n) × (n ≤ wide)
    by true p t q = absurd (ne (e ∙ ap (λ u. cond u 1 (cond (leb wide 16) 4 16)) p))
    by false p true q =
        let z : n ≡ 4 = e ∙ ap₂ (λ u v. cond u 1 (cond v 4 16)) p q in
        let h = leb-false wide 4 p in
        (omega arith, omega arith)
    by false p false q =
        let z : n ≡ 16 = e ∙ ap₂ (λ u v. cond u 1 (cond v 4 16)) p q in
        let h = leb-false wide 16 q in
        (omega arith, omega arith)

pub run_fits : (word c : ℕ) → c < 64 → word < 2 ^ (64 - c) → c + ones word ≤ 64
run_fits word c hc h = omega (arith, ones-le (64 - c) word h)

-- ---- what covers the cells
pub cells_cover : (grows : Bool) (word o count : ℕ) (at : List ℕ) → CellsOf grows word o count at
    → Covers grows word o 1 count at
cells_cover grows word o count at r =
    record {
      few = r.few;
      long = r.long;
      inside =
          λ j k hj hk. let f = r.inside j hj in
          (f.0, (f.1.0, (f.1.1.0, zero_plus (get_or at j 0) k hk ∙ f.1.1.1)));
      covered =
          λ c hc q. let f = r.covered c hc q in
          (f.0, (0, (f.1.0, (omega arith, zero_plus (get_or at f.0 0) 0 (omega arith) ∙ f.1.1))));
    }
  where
    zero_plus : (n k : ℕ) → k < 1 → n + k ≡ n
    zero_plus n k h = omega arith

pub run_covers : (grows : Bool) (word o n c wide from count : ℕ) (at : List ℕ) → o < 64 → 0 < wide
    → run_word wide / 2 ^ c ≡ word → c + wide ≤ 64
    → from ≡ place_of grows o (end_cell grows c wide) → RunOf n wide from count at
    → Covers grows word o n count at
run_covers false word o n c wide from count at ho hw is fits ef r =
    record {
      few = r.few;
      long = r.long;
      inside = λ j k hj hk.
          let f = r.inside j hj in
          let d = c + (get_or at j 0 + k - from) in (
            d,
            (
              omega (arith, f.0, f.1),
              (
                in_run word c wide is fits d (omega arith)
                    (omega (arith, f.0, f.1)),
                omega (arith, f.0, f.1),
              ),
            ),
          );
      covered = λ d hd q.
          let b = of_run word c wide is fits d hd q in
          let f = r.covered (d - c) (omega (arith, b.0, b.1)) in (
            f.0,
            (
              from + (d - c) - get_or at f.0 0,
              (f.1.0, (omega (arith, f.1.1.0, f.1.1.1), omega (arith, b.0, f.1.1.0))),
            ),
          );
    }
run_covers true word o n c wide from count at ho hw is fits ef r =
    record {
      few = r.few;
      long = r.long;
      inside = λ j k hj hk.
          let f = r.inside j hj in
          let d = c + wide - 1 - (get_or at j 0 + k - from) in (
            d,
            (
              omega (arith, f.0, f.1),
              (
                in_run word c wide is fits d (omega (arith, f.0, f.1))
                    (omega (arith, f.0, f.1)),
                omega (arith, f.0, f.1),
              ),
            ),
          );
      covered = λ d hd q.
          let b = of_run word c wide is fits d hd q in
          let f = r.covered (c + wide - 1 - d) (omega (arith, b.0, b.1)) in (
            f.0,
            (
              from + (c + wide - 1 - d) - get_or at f.0 0,
              (f.1.0, (omega (arith, f.1.1.0, f.1.1.1), omega (arith, b.0, b.1, f.1.1.0))),
            ),
          );
    }

-- what places_of knows of a word that wants windows of n, n not 1
pub run_facts : (word n c wide : ℕ) → 0 < n → (n ≡ 1 → ⊥) → n ≡ level_of word → c < 64 → word < 2 ^ (64 - c)
    → c ≡ count_leading_zeros 64 word → wide ≡ ones word
    → (n ≤ wide) × ((c + wide ≤ 64) × (run_word wide / 2 ^ c ≡ word))
run_facts word n c wide h ne e hc hi ec ew =
    let r = run_of word n (some_cell word n h e) ne e in (
      (window_fits n wide ne (r.size ∙ ap window_of (sym ew))).1,
      (
        subst (λ m. c + m ≤ 64) (sym ew) (run_fits word c hc hi),
        ap₂ (λ a b. run_word a / 2 ^ b) ew ec
            ∙ r.is,
      ),
    )

pub level_values : (word n : ℕ) → 0 < n → n ≡ level_of word → (n ≡ 1) ⊎ ((n ≡ 4) ⊎ (n ≡ 16))
unfolding level_of
level_values word n h e =
    by (eqb word 0) refl (eqb (run_word (ones word) / 2 ^ count_leading_zeros 64 word) word) refl
    (leb (ones word) 4) refl (leb (ones word) 16) refl
  where
    by : (p : Bool) → eqb word 0 ≡ p → (q : Bool)
        → eqb (run_word (ones word) / 2 ^ count_leading_zeros 64 word) word
        ≡ q → (r : Bool) → leb (ones word) 4 ≡ r → (s : Bool) → leb (ones word) 16 ≡ s
        → (n ≡ 1) ⊎ ((n ≡ 4) ⊎ (n ≡ 16))
    by true ep q eq r er s es = let z : n ≡ 0 = e ∙ simp ep in absurd (omega arith)
    by false ep false eq r er s es = inl (e ∙ simp (ep, eq))
    by false ep true eq true er s es = inl (e ∙ simp (ep, eq, er))
    by false ep true eq false er true es = inr (inl (e ∙ simp (ep, eq, er, es)))
    by false ep true eq false er false es = inr (inr (e ∙ simp (ep, eq, er, es)))

pos : (word : ℕ) → 0 < word → 0 < level_of word
unfolding level_of
pos word h =
    by (eqb word 0) refl (eqb (run_word (ones word) / 2 ^ count_leading_zeros 64 word) word)
    (leb (ones word) 4)
    (leb (ones word) 16)
  where
    by : (p : Bool) → eqb word 0 ≡ p → (q r s : Bool) → 0 < cond p 0 (cond q (cond r 1 (cond s 4 16)) 1)
    by true ep q r s = let z = eqb-true word 0 ep in absurd (omega arith)
    by false ep false r s = lit< tt
    by false ep true true s = lit< tt
    by false ep true false true = lit< tt
    by false ep true false false = lit< tt

pub level_zero : (word : ℕ) → level_of word ≡ 0 → word ≡ 0
level_zero word e =
    ⊎_elim (λ l. tiny word l) (λ l. absurd (never (level_of word) (pos word l) e)) (below_or_not word 1)
  where
    tiny : (w : ℕ) → w < 1 → w ≡ 0
    tiny w h = omega arith

    never : (n : ℕ) → 0 < n → n ≡ 0 → ⊥
    never n h e = omega arith

pub reach : (grows : Bool) (word o n count : ℕ) (at : List ℕ) → o < 64 → 0 < n
    → Covers grows word o n count at → (j : ℕ) → j < count → get_or at j 0 < 128
reach true word o n count at ho hn cov j h =
    let f = cov.inside j 0 h hn in omega (arith, f.1.0, f.1.1.1)
reach false word o n count at ho hn cov j h =
    let f = cov.inside j 0 h hn in omega (arith, f.1.0, f.1.1.1)
