-- The set cells of a row word, run after run, and a padded row through them.
use Prim.Native.Nat.{ℕ, ◌+◌, ◌-◌, ◌^◌, ◌≤◌, ◌<◌, max}
use mathlib.Core.Path.{◌≡◌, sym, ap, ◌∙◌, subst}
use mathlib.Core.Bool.{Bool, true, false, cond}
use mathlib.Core.Logic.{⊎_elim}
use native.Mathlib.Omega.{arith}
use lib.Dec.{eqb}
use borrow.Author.Tests.{eq-eqb, ne_eqb, eqb-true, eqb-false}
use Rattle.basics.specs.Bits.{bit}
use Rattle.basics.proofs.Bits.{bit_lt, bit_not}
use Rattle.basics.proofs.SliceParts.{below_or_not}
use Rattle.packedline.specs.Steps.Cells.{cell_on64, place_of, end_cell}
use Rattle.words.specs.Steps.Words.{NextCell}
use Rattle.narrow.specs.declared.Strip.{Strip}
use Rattle.narrow.specs.Steps.Strip.{place_at, OffWhere, Clear, Unmet}
use Rattle.narrow.proofs.Strips.{both_off, off_both}

is_off : (n : ℕ) → n ≡ 0 → eqb n 1 ≡ false
is_off n e = ne_eqb n 1 (λ q. absurd (omega arith))

never : (b : Bool) → b ≡ true → b ≡ false → ⊥
never b p q = let z : ◌≡◌ {A = ℕ} 0 1 = ap (λ t. cond t 0 1) (sym p ∙ q) in omega arith

-- ---- a run of set cells: from one that is set to the next that is not
module _ (word c e : ℕ) (small : word < 2 ^ 64) (hc : c < 64) (on : cell_on64 word c ≡ true)
    (next : NextCell (2 ^ 64 - 1 - word) c e) where
  over : (d : ℕ) → d < 64 → bit (2 ^ 64 - 1 - word) (63 - d) ≡ 1 - bit word (63 - d)
  over d h = bit_not 64 word (63 - d) small (omega arith)

  pub run_some : c < e
  run_some = ⊎_elim (λ l. l) (λ l. absurd (never (cell_on64 word c) on (off (same c e next.onward l))))
      (below_or_not c e)
    where
      same : (c e : ℕ) → c ≤ e → e ≤ c → e ≡ c
      same c e a b = omega arith

      off : e ≡ c → cell_on64 word c ≡ false
      off q =
          let z = eqb-true (bit (2 ^ 64 - 1 - word) (63 - e)) 1 (next.found (subst (λ n. n < 64) (sym q)
          hc)) in
          is_off (bit word (63 - c)) (turned (bit word (63 - c))
          (sym (over c hc) ∙ ap (λ n. bit (2 ^ 64 - 1 - word) (63 - n)) (sym q) ∙ z))
        where
          turned : (n : ℕ) → 1 - n ≡ 1 → n ≡ 0
          turned n h = omega arith

  pub in_run : (d : ℕ) → c ≤ d → d < e → cell_on64 word d ≡ true
  in_run d h k =
      eq-eqb (bit word (63 - d)) 1
      (set (bit word (63 - d)) (bit_lt word (63 - d))
      (λ q. eqb-false (bit (2 ^ 64 - 1 - word) (63 - d)) 1 (next.none d h k) (over d (omega (
        arith,
        next.few,
      )) ∙ q)))
    where
      set : (n : ℕ) → n < 2 → (1 - n ≡ 1 → ⊥) → n ≡ 1
      set n h f = ⊎_elim (λ l. absurd (f (omega arith))) (λ l. omega arith) (below_or_not n 1)

-- ---- the places of a run, from that of its end cell on
place_of_lem : (grows : Bool) (o c e d : ℕ) → o < 64 → e ≤ 64 → c ≤ d → d < e
    → (j : ℕ) × ((j < e - c) × (place_of grows o d ≡ place_of grows o (end_cell grows c (e - c)) + j))
place_of_lem true o c e d ho he h k = (e - 1 - d, (omega arith, omega arith))
place_of_lem false o c e d ho he h k = (d - c, (omega arith, omega arith))

cell_of_lem : (grows : Bool) (o c e j : ℕ) → o < 64 → e ≤ 64 → j < e - c
    → (d : ℕ) × ((c ≤ d) × ((d < e) × (place_of grows o d ≡ place_of grows o (end_cell grows c (e - c)) + j)))
cell_of_lem true o c e j ho he h = (e - 1 - j, (omega arith, (omega arith, omega arith)))
cell_of_lem false o c e j ho he h = (c + j, (omega arith, (omega arith, omega arith)))

-- ---- a padded row through the cells before column c
module _ (v x : Strip) (grows : Bool) (word o : ℕ) where
  abbrev pub Through : ℕ → Strip → Type 0
  Through c r = OffWhere r (λ p. (place_at v p ≡ 0) × Unmet x grows word o c p)

  pub through_none : (c : ℕ) → NextCell word 0 c → Through c v
  through_none c next p = (
    λ z. (z, λ d h on. absurd (never (cell_on64 word d) on (next.none d (omega arith) h))),
    λ f. f.0,
  )

  pub through_more : (c e n p₀ : ℕ) (r W M u : Strip) → word < 2 ^ 64 → o < 64 → c < 64
      → cell_on64 word c ≡ true → NextCell (2 ^ 64 - 1 - word) c e → NextCell word e n
      → p₀ ≡ place_of grows o (end_cell grows c (e - c)) → Through c r → OffWhere W (Clear x (e - c))
      → ((p : ℕ) → place_at M p ≡ place_at W (p + p₀))
      → ((p : ℕ) → place_at u p ≡ max (place_at r p) (place_at M p)) → Through n u
  through_more c e n p₀ r W M u small ho hc on run next ep so windows moved joined p = (
    λ z.
        let q = both_off (place_at r p) (place_at M p) (place_at u p) (joined p) z in
        let old = (so p).0 q.0 in
        let new = (windows (p + p₀)).0 (sym (moved p) ∙ q.1) in (
          old.0,
          λ d h on. ⊎_elim (λ l. old.1 d l on)
              (λ l. ⊎_elim
              (λ k. let f = place_of_lem grows o c e d ho run.few l k in
              ap (place_at x) (at_place p p₀ f.0 (place_of grows o d) (f.1.1 ∙ ap (λ n. n + f.0) (sym
              ep)))
              ∙ new f.0 f.1.0)
              (λ k. absurd (never (cell_on64 word d) on (next.none d k h)))
              (below_or_not d e))
              (below_or_not d c),
        ),
    λ f. off_both (place_at r p) (place_at M p) (place_at u p) (joined p)
        ((so p).1 (f.0, λ d h on. f.1 d (omega (arith, run.onward, next.onward)) on))
        (moved p ∙ (windows (p + p₀)).1 (λ j h.
        let g = cell_of_lem grows o c e j ho run.few h in
        sym (ap (place_at x) (at_place p p₀ j (place_of grows o g.0) (g.1.1.1 ∙ ap (λ n. n + j) (sym
        ep))))
        ∙ f.1 g.0 (omega (arith, g.1.1.0, next.onward))
        (in_run word c e small hc on run g.0 g.1.0 g.1.1.0))),
  )
    where
      at_place : (p p₀ j q : ℕ) → q ≡ p₀ + j → p + q ≡ p + p₀ + j
      at_place p p₀ j q e = omega arith
