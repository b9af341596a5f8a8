-- The set cells found row by row, and counted.
use Prim.Native.Nat.{ℕ, zero, suc, ◌+◌, ◌-◌, ◌*◌, ◌^◌, ◌≤◌, ◌<◌}
use mathlib.Core.Path.{◌≡◌, refl, sym, ap, ◌∙◌, subst}
use mathlib.Core.Bool.{Bool, true, false, cond}
use mathlib.Core.List.{List}
use mathlib.Core.Logic.{◌⊎◌, inl, inr, ⊎_elim}
use native.Mathlib.Omega.{arith}
use native.Mathlib.Nat.{eq-or-lt_of_le, not-suc-le-zero, add-suc, add-zero}
use native.Mathlib.Numerals.{add-one}
use lib.Dec.{eqb, leb, ltb}
use lib.Bits.{bit_and}
use lib.Count.{ones, ones_in, ones_cat}
use lib.Pow.{shr_le}
use lib.ListN.{length, get_or, set, take, length-set}
use lib.Seq.{get_or-set_same, get_or-take, length-take-le}
use borrow.Author.Tests.{eq-eqb, ne_eqb, ltb-true, ltb-false, lt-leb, le-leb}
use Rattle.basics.specs.Bits.{bit}
use Rattle.basics.proofs.SliceParts.{below_or_not}
use Rattle.element.specs.declared.Outline.{Outline}
use Rattle.element.specs.Descriptor.{most_cells}
use Rattle.packedline.specs.Steps.Cells.{cell_on64, run_word}
use Rattle.packedline.proofs.Words.{rest_lt, rest_below, top_on, rest_top, rest_above}
use Rattle.bitrow.specs.Steps.Added.{masked_of}
use Rattle.bitrow.proofs.Cells.{masked_on, masked_off}
use Rattle.cellwise.specs.Steps.Spots.{spot_of, Cell}
use Rattle.cellwise.specs.Steps.Made.{Places}
use Rattle.cellwise.proofs.Spots.{kept, below_one, differ}
use Rattle.few.specs.Steps.Listed.{cells_in, Counted, Listed, Rowed, Inner}

-- ---- a row word cut to its element has just the set cells
pub word_masked : (word wide run : ℕ) → run ≡ run_word wide → bit_and word run ≡ masked_of word wide
unfolding masked_of
word_masked word wide run e = ap (bit_and word) e

module _ (o : Outline) (words : List ℕ) (few : o.w ≤ most_cells) (r word : ℕ)
    (is : word ≡ masked_of (get_or words r 0) o.w) where
  pub cell_of_lem : r < o.h → (c : ℕ) → c < 64 → cell_on64 word c ≡ true → Cell o words c r
  cell_of_lem hr c hc q =
      ⊎_elim
      (λ l. record {
        column = l;
        row = hr;
        set = sym (masked_on (get_or words r 0) o.w c few l) ∙ sym (ap (λ m. cell_on64 m c) is) ∙ q;
      })
      (λ l. absurd (differ q (ap (λ m. cell_on64 m c) is ∙ masked_off (get_or words r 0) o.w c l hc)))
      (below_or_not c o.w)

  pub of_cell : (c : ℕ) → Cell o words c r → cell_on64 word c ≡ true
  of_cell c s = ap (λ m. cell_on64 m c) is ∙ masked_on (get_or words r 0) o.w c few s.column ∙ s.set

-- ---- a list says the same of what is done, said in another way
module _ (grows : Bool) (w : ℕ) (o : Outline) (words : List ℕ) where
  listed_as : (D E : ℕ → ℕ → Type 0) (count : ℕ) (at : List ℕ)
      → ((c r : ℕ) → Cell o words c r → D c r → E c r) → ((c r : ℕ) → Cell o words c r → E c r → D c r)
      → Listed grows w o words D count at → Listed grows w o words E count at
  listed_as D E count at to from l =
      record {
        long = l.long;
        inside = λ few j h. let i = l.inside few j h in (
          i.0,
          (
            i.1.0,
            (
              i.1.1.0,
              (
                to i.0 i.1.0 i.1.1.0 i.1.1.1.0,
                i.1.1.1.1,
              ),
            ),
          ),
        );
        covered = λ few c r s d. l.covered few c r s (from c r s d);
      }

  pub none_listed : (at : List ℕ) → length at ≡ 16 → Rowed grows w o words 0 0 at
  unfolding Rowed
  none_listed at e =
      record {
        long = e;
        inside = λ few j h. absurd (not-suc-le-zero h);
        covered = λ few c r s d. absurd (not-suc-le-zero d);
      }

  pub rowed_long : (n count : ℕ) (at : List ℕ) → Rowed grows w o words n count at → length at ≡ 16
  unfolding Rowed
  rowed_long n count at l = l.long

  pub inner_long : (n m count : ℕ) (at : List ℕ) → Inner grows w o words n m count at → length at ≡ 16
  unfolding Inner
  inner_long n m count at l = l.long

  -- past 16 nothing is said
  pub too_many : (n count : ℕ) (at : List ℕ) → 16 < count → length at ≡ 16 → Rowed grows w o words n count at
  unfolding Rowed
  too_many n count at h e =
      record {
        long = e;
        inside = λ few j l. absurd (omega arith);
        covered = λ few c r s d. absurd (omega arith);
      }

  module _ (few : o.w ≤ most_cells) (n word : ℕ) (is : word ≡ masked_of (get_or words n 0) o.w) where
    -- a row begins with all its cells left
    pub row_begins : (count : ℕ) (at : List ℕ) → Rowed grows w o words n count at
        → Inner grows w o words n word count at
    unfolding Rowed Inner
    row_begins count at l =
        listed_as (λ c r. r < n) (λ c r. (r < n) ⊎ ((r ≡ n) × (cell_on64 word c ≡ false))) count at
        (λ c r s d. inl d)
        (λ c r s d. ⊎_elim (λ h. h)
        (λ h. absurd (differ (of_cell o words few n word is c (subst (λ m. Cell o words c m) h.0 s))
        h.1)) d) l

    -- and ends with none
    pub row_ends : (m count : ℕ) (at : List ℕ) → m ≡ 0 → Inner grows w o words n m count at
        → Rowed grows w o words (n + 1) count at
    unfolding Rowed Inner
    row_ends m count at z l =
        listed_as (λ c r. (r < n) ⊎ ((r ≡ n) × (cell_on64 m c ≡ false))) (λ c r. r < n + 1) count at
        (λ c r s d. ⊎_elim (λ h. omega arith) (λ h. omega (arith, h.0)) d)
        (λ c r s d. ⊎_elim (λ e. inr (e, none c)) (λ h. inl h) (eq-or-lt_of_le (below_one r n d))) l
      where
        none : (c : ℕ) → cell_on64 m c ≡ false
        none c =
            let b : bit m (63 - c) ≤ m = omega (arith, shr_le m (63 - c)) in
            ne_eqb (bit m (63 - c)) 1 (λ e. low (bit m (63 - c)) m e b z)
          where
            low : (n m : ℕ) → n ≡ 1 → n ≤ m → m ≡ 0 → ⊥
            low n m a b c = omega arith

    -- ---- the first cell of the rest
    module _ (row : n < o.h) (m count : ℕ) (at : List ℕ) (l : Inner grows w o words n m count at)
        (sub : (c : ℕ) → c < 64 → cell_on64 m c ≡ true → cell_on64 word c ≡ true)
        (c : ℕ) (hc : c < 64) (lo : 2 ^ (63 - c) ≤ m) (hi : m < 2 ^ (64 - c)) where
      high : m < 2 ^ (63 - c + 1)
      high = subst (λ n. m < 2 ^ n) (one c hc) hi
        where
          one : (c : ℕ) → c < 64 → 64 - c ≡ 63 - c + 1
          one c h = omega arith

      pub first_cell : Cell o words c n
      first_cell =
          cell_of_lem o words few n word is row c hc
          (sub c hc (eq-eqb (bit m (63 - c)) 1 (top_on m (63 - c) lo high)))

      same_cell : (d : ℕ) → d < 64 → (d < c) ⊎ (c < d) → cell_on64 (m - 2 ^ (63 - c)) d ≡ cell_on64 m d
      same_cell d hd s =
          ap (λ n. eqb n 1) (⊎_elim
          (λ h. rest_above m (63 - c) lo high (63 - d) (omega arith))
          (λ h. rest_below m (63 - c) lo high (63 - d) (omega arith)) s)

      apart : (d : ℕ) → (d ≡ c) ⊎ ((d < c) ⊎ (c < d))
      apart d =
          ⊎_elim (λ h. inr (inl h)) (λ h. ⊎_elim (λ e. inl (sym e)) (λ l. inr (inr l)) (eq-or-lt_of_le h))
          (below_or_not d c)

      gone : cell_on64 (m - 2 ^ (63 - c)) c ≡ false
      gone =
          ne_eqb (bit (m - 2 ^ (63 - c)) (63 - c)) 1
          (λ e. apart_one (bit (m - 2 ^ (63 - c)) (63 - c)) e (rest_top m (63 - c) lo high))
        where
          apart_one : (n : ℕ) → n ≡ 1 → n ≡ 0 → ⊥
          apart_one n a b = omega arith

      pub sub_more : (d : ℕ) → d < 64 → cell_on64 (m - 2 ^ (63 - c)) d ≡ true → cell_on64 word d ≡ true
      sub_more d hd q =
          ⊎_elim (λ e. absurd (differ (ap (cell_on64 (m - 2 ^ (63 - c))) (sym e) ∙ q) gone))
          (λ s. sub d hd (sym (same_cell d hd s) ∙ q)) (apart d)

      pub cell_more : (p k : ℕ) (u : List ℕ) → p ≡ spot_of grows w o c n
          → k ≡ cond (ltb count 16) (count + 1) 17 → u ≡ cond (ltb count 16) (set at count p) at
          → Inner grows w o words n (m - 2 ^ (63 - c)) k u
      unfolding Inner
      cell_more p k u ep ek eu = by (ltb count 16) refl
        where
          was : {r d : ℕ} → Cell o words d r → cell_on64 m d ≡ false → cell_on64 (m - 2 ^ (63 - c)) d ≡ false
          was {r} {d} s q =
              ⊎_elim (λ e. ap (cell_on64 (m - 2 ^ (63 - c))) e ∙ gone)
              (λ a. same_cell d (omega (arith, s.column)) a ∙ q) (apart d)

          by : (t : Bool) → ltb count 16 ≡ t → Inner grows w o words n (m - 2 ^ (63 - c)) k u
          by false e =
              let z : k ≡ 17 = ek ∙ ap (λ t. cond t (count + 1) 17) e in
              record {
                long = ap length (eu ∙ ap (λ t. cond t (set at count p) at) e) ∙ l.long;
                inside = λ small j h. absurd (omega arith);
                covered = λ small d r s g. absurd (omega arith);
              }
          by true e =
              let z : k ≡ count + 1 = ek ∙ ap (λ t. cond t (count + 1) 17) e in
              let q : u ≡ set at count p = eu ∙ ap (λ t. cond t (set at count p) at) e in
              let room : count < 16 = ltb-true count 16 e in
              record {
                long = ap length q ∙ length-set at count p ∙ l.long;
                inside = λ small j h. ⊎_elim
                    (λ i. (c, (n, (first_cell, (inr (refl, gone), at_new q room j i)))))
                    (λ i. let f = l.inside (omega arith) j i in (
                      f.0,
                      (
                        f.1.0,
                        (
                          f.1.1.0,
                          (
                            ⊎_elim (λ a. inl a) (λ a. inr (a.0, was f.1.1.0 a.1)) f.1.1.1.0,
                            ap (λ v. get_or v j 0) q ∙ kept at count p j i ∙ f.1.1.1.1,
                          ),
                        ),
                      ),
                    ))
                    (eq-or-lt_of_le (below_one j count (subst (λ v. j < v) z h)));
                covered = λ small d r s g. ⊎_elim
                    (λ a. old z q d r (l.covered (omega arith) d r s (inl a)))
                    (λ a. ⊎_elim
                    (λ i. (
                      count,
                      (
                        omega arith,
                        at_new q room count refl
                            ∙ ap (λ v. spot_of grows w o v n) (sym i) ∙ ap (spot_of grows w o d) (sym a.0),
                      ),
                    ))
                    (λ i. old z q d r (l.covered (omega arith) d r s
                    (inr (a.0, sym (same_cell d (omega (arith, s.column)) i) ∙ a.1)))) (apart d)) g;
              }
            where
              at_new : u ≡ set at count p → count < 16 → (j : ℕ) → j ≡ count
                  → get_or u j 0 ≡ spot_of grows w o c n
              at_new q small j e =
                  ap (λ v. get_or v j 0) q ∙ ap (λ i. get_or (set at count p) i 0) e
                  ∙ get_or-set_same at count p 0 (subst (λ v. count < v) (sym l.long) small) ∙ ep

              old : k ≡ count + 1 → u ≡ set at count p → (d r : ℕ)
                  → (j : ℕ) × ((j < count) × (get_or at j 0 ≡ spot_of grows w o d r))
                  → (j : ℕ) × ((j < k) × (get_or u j 0 ≡ spot_of grows w o d r))
              old z q d r f = (
                f.0,
                (
                  omega (arith, f.1.0),
                  ap (λ v. get_or v f.0 0) q ∙ kept at count p f.0 f.1.0 ∙ f.1.1,
                ),
              )

-- ---- the list, cut to its places
pub places_of : (grows : Bool) (w : ℕ) (o : Outline) (words : List ℕ) (m : ℕ) (at : List ℕ) → m ≤ 16
    → Rowed grows w o words o.h m at → Places grows w o words (take m at)
unfolding Rowed
places_of grows w o words m at small l =
    record {
      few = omega (arith, len);
      inside = λ j h. let k = subst (λ n. j < n) len h in
          let i = l.inside small j k in
          (i.0, (i.1.0, (i.1.1.0, get_or-take m at j 0 k ∙ i.1.1.1.1)));
      covered = λ c r s. let j = l.covered small c r s s.row in
          (j.0, (subst (λ n. j.0 < n) (sym len) j.1.0, get_or-take m at j.0 0 j.1.0 ∙ j.1.1));
    }
  where
    len : length (take m at) ≡ m
    len = length-take-le m at (omega (arith, l.long))

-- ---- how many: none, a cell more, a row more, all
pub count_row : (words : List ℕ) (wide n count word : ℕ) → word ≡ masked_of (get_or words n 0) wide
    → Counted count 0 (cells_in words wide n) → Counted count (ones word) (cells_in words wide (n + 1))
unfolding cells_in
count_row words wide n count word is so =
    let e : cells_in words wide (n + 1) ≡ cells_in words wide n + ones word = ap (cells_in words wide)
    (add-one n) ∙ ap (λ m. cells_in words wide n + ones m) (sym is) in
    record {
      exact = λ h. omega (arith, e, so.exact h);
      past = λ h. omega (arith, e, so.past h);
    }

pub count_none : (words : List ℕ) (wide : ℕ) → Counted 0 0 (cells_in words wide 0)
unfolding cells_in
count_none words wide = record { exact = λ h. refl; past = λ h. absurd (omega arith) }

pub count_more : (count m c n k : ℕ) → 2 ^ (63 - c) ≤ m → m < 2 ^ (64 - c) → c < 64
    → k ≡ cond (ltb count 16) (count + 1) 17 → Counted count (ones m) n
    → Counted k (ones (m - 2 ^ (63 - c))) n
unfolding ones ones_in
count_more count m c n k lo hi hc ek so = by (ltb count 16) refl
  where
    one : (c : ℕ) → c < 64 → 64 - c ≡ 63 - c + 1
    one c h = omega arith

    fewer : ones m ≡ 1 + ones (m - 2 ^ (63 - c))
    fewer =
        ap ones (parts (2 ^ (63 - c)) m lo)
        ∙ ones_cat (63 - c) 1 (m - 2 ^ (63 - c)) (rest_lt m (63 - c) lo (subst (λ n. m < 2 ^ n) (one c hc)
        hi))
      where
        parts : (p m : ℕ) → p ≤ m → m ≡ 1 * p + (m - p)
        parts p m h = omega arith

    by : (t : Bool) → ltb count 16 ≡ t → Counted k (ones (m - 2 ^ (63 - c))) n
    by true e =
        let z : k ≡ count + 1 = ek ∙ ap (λ t. cond t (count + 1) 17) e in
        let l = ltb-true count 16 e in
        let x = so.exact (omega arith) in
        record { exact = λ h. omega (arith, x, fewer); past = λ h. absurd (omega arith) }
    by false e =
        let z : k ≡ 17 = ek ∙ ap (λ t. cond t (count + 1) 17) e in
        let l = ltb-false count 16 e in
        record {
          exact = λ h. absurd (omega arith);
          past = λ h. ⊎_elim (λ q. so.past q) (λ q. omega (arith, so.exact q, fewer)) (below_or_not 16
              count);
        }

pub count_end : (count m n : ℕ) → m ≡ 0 → Counted count (ones m) n → Counted count 0 n
unfolding ones ones_in
count_end count m n z so =
    record { exact = λ h. omega (arith, so.exact h, none); past = λ h. so.past h }
  where
    none : ones m ≡ 0
    none = ap ones z

-- rows that follow take no cell away
count_on : (words : List ℕ) (wide n d : ℕ) → cells_in words wide n ≤ cells_in words wide (n + d)
unfolding cells_in
count_on words wide n zero = omega (arith, ap (cells_in words wide) (add-zero n))
count_on words wide n (suc d) = omega (arith, count_on words wide n d, ap (cells_in words wide) (add-suc n d))

pub count_past : (words : List ℕ) (wide n h count : ℕ) → 16 < count → n ≤ h
    → Counted count 0 (cells_in words wide n) → Counted count 0 (cells_in words wide h)
count_past words wide n h count l k so =
    let e : n + (h - n) ≡ h = omega arith in
    let q = subst (λ m. cells_in words wide n ≤ cells_in words wide m) e (count_on words wide n (h - n)) in
    record { exact = λ z. absurd (omega arith); past = λ z. omega (arith, q, so.past l) }

-- what the number says
pub few_yes : (count n : ℕ) → count ≤ 16 → Counted count 0 n → leb n 16 ≡ true
few_yes count n h so = le-leb n 16 (omega (arith, so.exact h))

pub few_no : (count n : ℕ) → 16 < count → Counted count 0 n → leb n 16 ≡ false
few_no count n h so = lt-leb n 16 (so.past h)

pub when_few : (b : Bool) (u v t : List ℕ) → b ≡ true → u ≡ v → u ≡ cond b v t
when_few b u v t e q = q ∙ sym (ap (λ b. cond b v t) e)

pub when_many : (b : Bool) (v t : List ℕ) → b ≡ false → t ≡ cond b v t
when_many b v t e = sym (ap (λ b. cond b v t) e)

-- for who asked: what the answer says of the target
pub was_few : (b r : Bool) (u v t : List ℕ) → r ≡ b → r ≡ true → u ≡ cond b v t → u ≡ v
was_few b r u v t e q is = is ∙ ap (λ b. cond b v t) (sym e ∙ q)

pub was_many : (b r : Bool) (u v t : List ℕ) → r ≡ b → r ≡ false → u ≡ cond b v t → u ≡ t
was_many b r u v t e q is = is ∙ ap (λ b. cond b v t) (sym e ∙ q)
