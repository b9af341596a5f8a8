-- The cells that are taken, one after another: none, one more.
use Prim.Native.Nat.{ℕ, zero, suc, ◌+◌, ◌≤◌, ◌<◌}
use mathlib.Core.Path.{◌≡◌, refl, sym, ap, ap₂, ◌∙◌, subst}
use mathlib.Core.Bool.{Bool, true, false, cond}
use mathlib.Core.List.{List}
use mathlib.Core.Logic.{⊎_elim}
use native.Mathlib.Omega.{arith}
use native.Mathlib.Nat.{not-suc-le-zero, eq-or-lt_of_le}
use lib.ListN.{length, get_or, set, length-set}
use lib.Seq.{get_or-set_same, get_or-set_other}
use native.Mathlib.Numerals.{add-one}
use Rattle.heightsigns.specs.Steps.Taken.{taken_of, entry_of, count_of, cells_of, Taken}

module _ (grows rises : Bool) (word o : ℕ) (hs : List ℕ) (first : ℕ) where
  abbrev height : ℕ → ℕ
  height c = get_or hs (first + c) 0

  pub taken_none : (cells : List ℕ) → Taken grows rises word 0 o hs first 0 cells
  taken_none cells =
      record {
        few = omega arith;
        long = omega arith;
        inside = λ j h. absurd (not-suc-le-zero h);
        covered = λ c h. absurd (not-suc-le-zero h);
      }

  pub taken_more : (c n m v : ℕ) (cells : List ℕ) → Taken grows rises word c o hs first n cells → c <
      length cells
      → v ≡ entry_of grows o c (height c) → m ≡ n + cond (taken_of word c rises (height c)) 1 0
      → Taken grows rises word (c + 1) o hs first m (set cells n v)
  taken_more c n m v cells t small ev em = by (taken_of word c rises (height c)) refl em
    where
      before : (j : ℕ) → j < n → get_or (set cells n v) j 0 ≡ get_or cells j 0
      before j h = get_or-set_other cells n j v 0 (λ z. absurd (omega arith))

      here : get_or (set cells n v) n 0 ≡ v
      here = get_or-set_same cells n v 0 (omega (arith, t.few))

      below_one : (i n : ℕ) → i < n + 1 → i ≤ n
      below_one i n h = omega arith

      by : (b : Bool) → taken_of word c rises (height c) ≡ b → m ≡ n + cond b 1 0
          → Taken grows rises word (c + 1) o hs first m (set cells n v)
      by true q e =
          record {
            few = omega (arith, t.few);
            long = omega (arith, length-set cells n v);
            inside = λ j h. ⊎_elim
                (λ z. (c, (omega arith, (q, ap (λ j. get_or (set cells n v) j 0) z ∙ here ∙ ev))))
                (λ l. let f = t.inside j l in
                (f.0, (omega (arith, f.1.0), (f.1.1.0, before j l ∙ f.1.1.1))))
                (eq-or-lt_of_le (below_one j n (subst (λ k. j < k) e h)));
            covered = λ d h s. ⊎_elim
                (λ z. (n, (omega arith, here ∙ ev ∙ ap (λ d. entry_of grows o d (height d)) (sym z))))
                (λ l. let f = t.covered d l s in (
                  f.0,
                  (
                    omega (arith, f.1.0),
                    before f.0
                        f.1.0 ∙ f.1.1,
                  ),
                ))
                (eq-or-lt_of_le (below_one d c h));
          }
      by false q e =
          record {
            few = omega (arith, t.few);
            long = omega (arith, length-set cells n v);
            inside = λ j h.
                let l : j < n = omega arith in
                let f = t.inside j l in
                (f.0, (omega (arith, f.1.0), (f.1.1.0, before j l ∙ f.1.1.1)));
            covered = λ d h s. ⊎_elim
                (λ z. absurd (differ (sym q ∙ ap (λ d. taken_of word d rises (height d)) (sym z) ∙ s)))
                (λ l. let f = t.covered d l s in (
                  f.0,
                  (
                    omega (arith, f.1.0),
                    before f.0
                        f.1.0 ∙ f.1.1,
                  ),
                ))
                (eq-or-lt_of_le (below_one d c h));
          }
        where
          differ : false ≡ true → ⊥
          differ e = let z : ◌≡◌ {A = ℕ} 0 1 = cc in omega arith

-- ---- as the definition has them
module _ (grows rises : Bool) (word o : ℕ) (hs : List ℕ) (first : ℕ) (cells : List ℕ) where
  pub cells_long : (c : ℕ) → length (cells_of grows rises word o hs first cells c) ≡ length cells
  unfolding cells_of
  cells_long zero = refl
  cells_long (suc c) = length-set (cells_of grows rises word o hs first cells c) _ _ ∙ cells_long c

  pub cells_taken : (c : ℕ) → c ≤ length cells
      → Taken grows rises word c o hs first (count_of rises word hs first c)
      (cells_of grows rises word o hs first cells c)
  unfolding count_of cells_of
  cells_taken zero h = taken_none grows rises word o hs first cells
  cells_taken (suc c) h =
      subst
      (λ n. Taken grows rises word n o hs first (count_of rises word hs first (suc c))
      (cells_of grows rises word o hs first cells (suc c)))
      (add-one c)
      (taken_more grows rises word o hs first c (count_of rises word hs first c) _ _
      (cells_of grows rises word o hs first cells c) (cells_taken c (omega arith)) (omega (
        arith,
        cells_long
            c,
      )) refl refl)

  pub count_more : (c n k : ℕ) (g : ℕ) → n ≡ count_of rises word hs first c → g ≡ get_or hs (first + c) 0
      → k ≡ cond (taken_of word c rises g) 1 0 → n + k ≡ count_of rises word hs first (c + 1)
  unfolding count_of
  count_more c n k g en eg ek =
      ap₂ ◌+◌ en (ek ∙ ap (λ g. cond (taken_of word c rises g) 1 0) eg)
      ∙ ap (count_of rises word hs first) (sym (add-one c))

  pub cells_more : (c n v : ℕ) (l : List ℕ) → n ≡ count_of rises word hs first c
      → l ≡ cells_of grows rises word o hs first cells c → v ≡ entry_of grows o c (get_or hs (first + c) 0)
      → set l n v ≡ cells_of grows rises word o hs first cells (c + 1)
  unfolding cells_of
  cells_more c n v l en el ev =
      ap₂ (λ l n. set l n v) el en
      ∙ ap (set (cells_of grows rises word o hs first cells c) (count_of rises word hs first c)) ev
      ∙ ap (cells_of grows rises word o hs first cells) (sym (add-one c))

-- and as the code finds them
pub taken_is : (grows rises : Bool) (word wide o : ℕ) (hs : List ℕ) (first : ℕ) (cells : List ℕ) (n : ℕ)
    (l : List ℕ) → wide ≤ length cells → n ≡ count_of rises word hs first wide
    → l ≡ cells_of grows rises word o hs first cells wide → Taken grows rises word wide o hs first n l
taken_is grows rises word wide o hs first cells n l h en el =
    subst (λ n. Taken grows rises word wide o hs first n l) (sym en)
    (subst (λ l. Taken grows rises word wide o hs first (count_of rises word hs first wide) l) (sym el)
    (cells_taken grows rises word o hs first cells wide h))

-- a list that has the same numbers
pub taken_same : (grows rises : Bool) (word wide o : ℕ) (hs : List ℕ) (first n : ℕ) (cells l : List ℕ)
    → wide ≤ length l → ((j : ℕ) → j < wide → get_or l j 0 ≡ get_or cells j 0)
    → Taken grows rises word wide o hs first n cells → Taken grows rises word wide o hs first n l
taken_same grows rises word wide o hs first n cells l long same t =
    record {
      few = t.few;
      long = long;
      inside = λ j h. let f = t.inside j h in
          (f.0, (f.1.0, (f.1.1.0, same j (omega (arith, t.few)) ∙ f.1.1.1)));
      covered = λ c h s. let f = t.covered c h s in
          (f.0, (f.1.0, same f.0 (omega (arith, t.few, f.1.0)) ∙ f.1.1));
    }
