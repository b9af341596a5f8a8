-- The two work buffers: what one link does with them, what they hold after i links, and the loop.
use Prim.Native.Nat.{ℕ, ◌+◌, ◌-◌, ◌%◌, ◌≤◌}
use mathlib.Core.Path.{◌≡◌, refl, sym, ap, ◌∙◌}
use mathlib.Core.Bool.{Bool, true, false, cond}
use mathlib.Core.List.{List, ◌++◌}
use native.Mathlib.Omega.{arith}
use native.Mathlib.Numerals.{add-one}
use borrow.Author.Tests.{eq-eqb, ne_eqb, eqb-true, eqb-false}
use lib.Dec.{eqb}
use lib.ListN.{length, get_or, take, drop}
use lib.Seq.{take-append_seam, drop-append_seam}
use Rattle.picture.specs.declared.Depth.{Depth}
use Rattle.picture.specs.Frame.{Holds, picture_bytes, frame}
use Rattle.picture.specs.Points.{value_at}
use Rattle.picture.specs.Bytes.{Picture, bytes_of, written}
use Rattle.picture.proofs.Points.{written_same}
use Rattle.picture.proofs.Bytes.{bytes_long}
use Rattle.morphology.specs.Operations.{flat}
use Rattle.morphology.specs.Order.{Alike}
use Rattle.apply.proofs.Twice.{from_written, still_holds}
use Rattle.reach.specs.declared.Link.{Link}
use Rattle.reach.specs.Steps.Links.{empty_link, link_shape}
use Rattle.chained.specs.Run.{in_first, in_second, holding, first_after, second_after}
use Rattle.chained.specs.Steps.Buffers.{by_link, made_by, applied_to, first_by, second_by}
use Rattle.chained.proofs.Results.{made_small}

-- ---- one link, by the number of links before it
module _ (grows : Bool) (depth : Depth) (w h i : ℕ) (e : Link) (source first second u : List ℕ) where
  abbrev Left : List ℕ → List ℕ → Type 0
  Left one two =
      (one ≡ first_by grows depth w h i e source first second)
      × (two ≡ second_by grows depth w h i e first second)

  pub from_source : i ≡ 0 → u ≡ written depth (by_link grows depth w h e (value_at depth source w)) w h first
      → Left u second
  unfolding first_by second_by applied_to
  from_source z q = (simp (eq-eqb i 0 z) q, simp (eq-eqb i 0 z))

  pub from_first : (i ≡ 0 → ⊥) → i % 2 ≡ 1
      → u ≡ written depth (by_link grows depth w h e (value_at depth first w)) w h second → Left first u
  unfolding first_by second_by applied_to
  from_first z o q = (simp (ne_eqb i 0 z, eq-eqb (i % 2) 1 o), simp (ne_eqb i 0 z, eq-eqb (i % 2) 1 o) q)

  pub from_second : (i ≡ 0 → ⊥) → (i % 2 ≡ 1 → ⊥)
      → u ≡ written depth (by_link grows depth w h e (value_at depth second w)) w h first → Left u second
  unfolding first_by second_by applied_to
  from_second z o q = (simp (ne_eqb i 0 z, ne_eqb (i % 2) 1 o) q, simp (ne_eqb i 0 z, ne_eqb (i % 2) 1 o))

-- ---- a picture's own bytes
module _ (depth : Depth) (w h : ℕ) where
  pub own_bytes : (R : Picture) (t : List ℕ) (n : ℕ) → n ≡ picture_bytes depth w h
      → take n (written depth R w h t) ≡ bytes_of depth R w h
  unfolding written
  own_bytes R t n e =
      ap (λ m. take m (bytes_of depth R w h ++ drop (picture_bytes depth w h) t))
      (e ∙ sym (bytes_long depth R w h))
      ∙ take-append_seam (bytes_of depth R w h) (drop (picture_bytes depth w h) t)

  -- one picture written over another
  over : (A B : Picture) (t : List ℕ) → written depth A w h (written depth B w h t) ≡ written depth A w h t
  unfolding written
  over A B t =
      ap (λ l. bytes_of depth A w h ++ l)
      (ap (λ m. drop m (bytes_of depth B w h ++ drop (picture_bytes depth w h) t))
      (sym (bytes_long depth B w h))
      ∙ drop-append_seam (bytes_of depth B w h) (drop (picture_bytes depth w h) t))

-- ---- what the buffers hold

module _ (depth : Depth) (w h : ℕ) (result : ℕ → Picture) (i : ℕ) (t : List ℕ) where
  there : (j : ℕ) → (j ≡ 0 → ⊥) → holding depth w h result j t ≡ written depth (result j) w h t
  there j n = ap (λ b. cond b t (written depth (result j) w h t)) (ne_eqb j 0 n)

  over_any : (A : Picture) (j : ℕ)
      → written depth A w h (holding depth w h result j t) ≡ written depth A w h t
  over_any A j = by (eqb j 0)
    where
      by : (b : Bool)
          → written depth A w h (cond b t (written depth (result j) w h t)) ≡ written depth A w h t
      by true = refl
      by false = over depth w h A (result j) t

  pub over_first : (A : Picture)
      → written depth A w h (first_after depth w h result i t) ≡ written depth A w h t
  unfolding first_after
  over_first A = over_any A (in_first i)

  pub over_second : (A : Picture)
      → written depth A w h (second_after depth w h result i t) ≡ written depth A w h t
  unfolding second_after
  over_second A = over_any A (in_second i)

  odd_place : i % 2 ≡ 1 → (a b : ℕ) → cond (eqb (i % 2) 1) a b ≡ a
  odd_place o a b = ap (λ c. cond c a b) (eq-eqb (i % 2) 1 o)

  even_place : (i % 2 ≡ 1 → ⊥) → (a b : ℕ) → cond (eqb (i % 2) 1) a b ≡ b
  even_place o a b = ap (λ c. cond c a b) (ne_eqb (i % 2) 1 o)

module _ (depth : Depth) (w h : ℕ) (result : ℕ → Picture) (i : ℕ) (t : List ℕ) where
  next_odd : (i % 2 ≡ 1 → ⊥) → (i + 1) % 2 ≡ 1
  next_odd o = omega arith

  next_even : i % 2 ≡ 1 → (i + 1) % 2 ≡ 1 → ⊥
  next_even o e = omega arith

  some : i + 1 ≡ 0 → ⊥
  some e = omega arith

  back : i + 1 - 1 ≡ i
  back = omega arith

  -- after an odd number of links the last result is in the first buffer, and the next goes to the second
  module _ (o : i % 2 ≡ 1) where
    pub odd_last : first_after depth w h result i t ≡ written depth (result i) w h t
    unfolding first_after
    odd_last =
        ap (λ j. holding depth w h result j t) (odd_place depth w h result i t o i (i - 1))
        ∙ there depth w h result i t i (λ z. omega arith)

    pub odd_first : first_after depth w h result (i + 1) t ≡ first_after depth w h result i t
    unfolding first_after
    odd_first =
        ap (λ j. holding depth w h result j t)
        (even_place depth w h result (i + 1) t (next_even o) (i + 1) (i + 1 - 1)
        ∙ back ∙ sym (odd_place depth w h result i t o i (i - 1)))

    pub odd_second : second_after depth w h result (i + 1) t ≡ written depth (result (i + 1)) w h t
    unfolding second_after
    odd_second =
        ap (λ j. holding depth w h result j t)
        (even_place depth w h result (i + 1) t (next_even o) (i + 1 - 1) (i + 1))
        ∙ there depth w h result i t (i + 1) some

  -- after an even number it is in the second, or is still the source, and the next goes to the first
  module _ (o : i % 2 ≡ 1 → ⊥) where
    pub even_last : (i ≡ 0 → ⊥) → second_after depth w h result i t ≡ written depth (result i) w h t
    unfolding second_after
    even_last z =
        ap (λ j. holding depth w h result j t) (even_place depth w h result i t o (i - 1) i)
        ∙ there depth w h result i t i z

    pub even_second : second_after depth w h result (i + 1) t ≡ second_after depth w h result i t
    unfolding second_after
    even_second =
        ap (λ j. holding depth w h result j t)
        (odd_place depth w h result (i + 1) t (next_odd o) (i + 1 - 1) (i + 1)
        ∙ back ∙ sym (even_place depth w h result i t o (i - 1) i))

    pub even_first : first_after depth w h result (i + 1) t ≡ written depth (result (i + 1)) w h t
    unfolding first_after
    even_first =
        ap (λ j. holding depth w h result j t)
        (odd_place depth w h result (i + 1) t (next_odd o) (i + 1) (i + 1 - 1))
        ∙ there depth w h result i t (i + 1) some

-- ---- results that agree in the frame leave the same
module _ (depth : Depth) (w h : ℕ) (result other : ℕ → Picture) (k : ℕ) (t : List ℕ)
    (alike : (i : ℕ) → i ≤ k → Alike (frame w h) (result i) (other i)) where
  holding_alike : (i : ℕ) → i ≤ k → holding depth w h result i t ≡ holding depth w h other i t
  holding_alike i l =
      ap (λ u. cond (eqb i 0) t u)
      (written_same depth (result i) (other i) w h t (λ x y lx ly.
      alike i l (record { x = x; y = y }) (record { ping = lx; bin = ly })))

  at_most : (b : Bool) → (cond b k (k - 1) ≤ k) × (cond b (k - 1) k ≤ k)
  at_most true = (omega arith, omega arith)
  at_most false = (omega arith, omega arith)

  pub first_alike : first_after depth w h result k t ≡ first_after depth w h other k t
  unfolding first_after
  first_alike = holding_alike (in_first k) (at_most (eqb (k % 2) 1)).0

  pub second_alike : second_after depth w h result k t ≡ second_after depth w h other k t
  unfolding second_after
  second_alike = holding_alike (in_second k) (at_most (eqb (k % 2) 1)).1

-- ---- the loop

-- after i links
pub record After (grows : Bool) (depth : Depth) (w h : ℕ) (source : List ℕ) (all : List Link)
    (first₀ second₀ first second : List ℕ) (i : ℕ) : Type 0 where
  pub one : first ≡ first_after depth w h (made_by grows depth w h source all) i first₀
  pub two : second ≡ second_after depth w h (made_by grows depth w h source all) i second₀
  pub one_long : length first ≡ length first₀
  pub two_long : length second ≡ length second₀

module _ (grows : Bool) (depth : Depth) (w h : ℕ) (source : List ℕ)
    (all : List Link) (first₀ second₀ : List ℕ) where
  abbrev result : ℕ → Picture
  result = made_by grows depth w h source all

  pub after_none : After grows depth w h source all first₀ second₀ first₀ second₀ 0
  unfolding first_after second_after
  after_none = record { one = refl; two = refl; one_long = refl; two_long = refl }

  module _ (first second : List ℕ) (i : ℕ)
      (a : After grows depth w h source all first₀ second₀ first second i) where
    pub first_fits : Holds depth (length first₀) w h → Holds depth (length first) w h
    first_fits p = still_holds depth w h (length first₀) (length first) a.one_long p

    pub second_fits : Holds depth (length second₀) w h → Holds depth (length second) w h
    second_fits p = still_holds depth w h (length second₀) (length second) a.two_long p

    next : by_link grows depth w h (get_or all i empty_link) (result i) ≡ result (i + 1)
    unfolding made_by
    next = ap result (sym (add-one i))

    -- over a buffer that holds any result
    first_over : (A : Picture) → written depth A w h first ≡ written depth A w h first₀
    first_over A = ap (written depth A w h) a.one ∙ over_first depth w h result i first₀ A

    second_over : (A : Picture) → written depth A w h second ≡ written depth A w h second₀
    second_over A = ap (written depth A w h) a.two ∙ over_second depth w h result i second₀ A

    -- from the source, and from a buffer that holds result i
    first_made : (t u : List ℕ) → i ≡ 0 → u ≡ applied_to grows depth w h (get_or all i empty_link) source t
        → u ≡ written depth (result (i + 1)) w h t
    unfolding applied_to made_by
    first_made t u z e =
        e
        ∙ ap (λ j. written depth (by_link grows depth w h (get_or all i empty_link) (result j)) w h t) (sym z)
        ∙ ap (λ (A : Picture). written depth A w h t) next

    next_made : (s s₀ t u : List ℕ) → s ≡ written depth (result i) w h s₀
        → u ≡ applied_to grows depth w h (get_or all i empty_link) s t
        → u ≡ written depth (result (i + 1)) w h t
    unfolding applied_to
    next_made s s₀ t u es e =
        from_written depth w h (link_shape (get_or all i empty_link)) (result i) s s₀ t u
        (λ bit. made_small depth w h source all bit grows i) es grows flat e
        ∙ ap (λ (A : Picture). written depth A w h t) next

    pub after_more : (u v : List ℕ)
        → u ≡ first_by grows depth w h i (get_or all i empty_link) source first second
        → v ≡ second_by grows depth w h i (get_or all i empty_link) first second
        → length u ≡ length first → length v ≡ length second
        → After grows depth w h source all first₀ second₀ u v (i + 1)
    unfolding first_by second_by
    after_more u v eu ev lu lv =
        record { one = both.0; two = both.1; one_long = lu ∙ a.one_long; two_long = lv ∙ a.two_long }
      where
        by : (b c : Bool) → eqb i 0 ≡ b → eqb (i % 2) 1 ≡ c
            → u ≡ cond b (applied_to grows depth w h (get_or all i empty_link) source first)
            (cond c first (applied_to grows depth w h (get_or all i empty_link) second first))
            → v ≡ cond b second (cond c (applied_to grows depth w h
            (get_or all i empty_link) first second) second)
            → (u ≡ first_after depth w h result (i + 1) first₀)
            × (v ≡ second_after depth w h result (i + 1) second₀)
        by true c z o eu ev =
            let z = eqb-true i 0 z in
            let even : i % 2 ≡ 1 → ⊥ = λ q. omega arith in (
              first_made first u z eu ∙ first_over (result (i + 1))
                  ∙ sym (even_first depth w h result i first₀ even),
              ev ∙ a.two ∙ sym (even_second depth w h result i second₀ even),
            )
        by false true z o eu ev =
            let odd = eqb-true (i % 2) 1 o in (
              eu ∙ a.one ∙ sym (odd_first depth w h result i first₀ odd),
              next_made first first₀ second v (a.one ∙ odd_last depth w h result i first₀ odd) ev
                  ∙ second_over (result (i + 1)) ∙ sym (odd_second depth w h result i second₀ odd),
            )
        by false false z o eu ev =
            let even = eqb-false (i % 2) 1 o in (
              next_made second second₀ first u
                  (a.two ∙ even_last depth w h result i second₀ even (eqb-false i 0 z)) eu
                  ∙ first_over (result (i + 1)) ∙ sym (even_first depth w h result i first₀ even),
              ev ∙ a.two ∙ sym (even_second depth w h result i second₀ even),
            )

        both : (u ≡ first_after depth w h result (i + 1) first₀)
            × (v ≡ second_after depth w h result (i + 1) second₀)
        both = by (eqb i 0) (eqb (i % 2) 1) refl refl eu ev

    pub after_all : (links : ℕ) → i ≡ links
        → (first ≡ first_after depth w h result links first₀)
        × (second ≡ second_after depth w h result links second₀)
    after_all links e = (
      a.one ∙ ap (λ j. first_after depth w h result j first₀) e,
      a.two ∙ ap (λ j. second_after depth w h result j second₀) e,
    )
