-- The finder, by what is met first; and the part's bytes and place.
use Prim.Native.Nat.{ℕ, ◌%◌, ◌≤◌, ◌<◌}
use mathlib.Core.Path.{◌≡◌, sym, ap, subst, ◌∙◌}
use mathlib.Core.Bool.{true, false, cond, ◌&&◌}
use mathlib.Core.List.{List, []}
use borrow.Author.Tests.{le-leb, lt-leb, leb-true, eq-eqb, ne_eqb}
use lib.Dec.{leb}
use lib.ListN.{length, take}
use Rattle.basics.proofs.Tests.{both}
use Rattle.picture.specs.declared.Depth.{Depth}
use Rattle.picture.specs.Frame.{sized_frame, picture_bytes}
use Rattle.chain.specs.Reading.{counted}
use Rattle.finder.specs.Finder.{is_there, last_of, found_at, place_at}

module _ (one two : ℕ) (depth : Depth) (w h k : ℕ) where
  pub wrong_size : sized_frame w h ≡ false → false ≡ is_there one two depth w h k
  unfolding is_there
  wrong_size e = simp e

  module _ (sized : sized_frame w h ≡ true) where
    pub wrong_number : counted k ≡ false → false ≡ is_there one two depth w h k
    unfolding is_there
    wrong_number e = simp (sized, e)

    module _ (right : counted k ≡ true) (n : ℕ)
        (en : n ≡ cond (sized_frame w h) (picture_bytes depth w h) 0) where
      bytes_are : n ≡ picture_bytes depth w h
      bytes_are = en ∙ ap (λ b. cond b (picture_bytes depth w h) 0) sized

      pub first_short : one < n → false ≡ is_there one two depth w h k
      unfolding is_there
      first_short l = simp (sized, right, sym bytes_are, lt-leb n one l)

      pub second_short : n ≤ one → two < n → false ≡ is_there one two depth w h k
      unfolding is_there
      second_short f l = simp (sized, right, sym bytes_are, le-leb n one f, lt-leb n two l)

      pub both_long : n ≤ one → n ≤ two → true ≡ is_there one two depth w h k
      unfolding is_there
      both_long f s = simp (sized, right, sym bytes_are, le-leb n one f, le-leb n two s)

  -- what is known where it is there, of the number of bytes that the library works out
  module _ (there : is_there one two depth w h k ≡ true) (n : ℕ)
      (en : n ≡ cond (sized_frame w h) (picture_bytes depth w h) 0) where
    parts : (sized_frame w h && counted k ≡ true)
        × (leb (picture_bytes depth w h) one && leb (picture_bytes depth w h) two ≡ true)
    unfolding is_there
    parts = both (sized_frame w h && counted k) _ there

    pub there_bytes : n ≡ picture_bytes depth w h
    there_bytes =
        en ∙ ap (λ b. cond b (picture_bytes depth w h) 0) (both (sized_frame w h) (counted k) parts.0).0

    pub there_long : (n ≤ one) × (n ≤ two)
    there_long =
        let longs = both (leb (picture_bytes depth w h) one) (leb (picture_bytes depth w h) two) parts.1 in (
          subst (λ m. m ≤ one) (sym there_bytes) (leb-true _ _ longs.0),
          subst (λ m. m ≤ two) (sym there_bytes) (leb-true _ _ longs.1),
        )

-- the two buffers, and where they begin
module _ (first second : List ℕ) (depth : Depth) (w h k : ℕ) (one two : ℕ × ℕ) where
  abbrev pub Found : List ℕ → ℕ × ℕ → Type 0
  Found part at =
      (part ≡ found_at first second depth w h k) × (at ≡ place_at first second depth w h k one two)

  pub found_none : is_there (length first) (length second) depth w h k ≡ false → Found [] one
  unfolding found_at place_at
  found_none none = (simp none, simp none)

  module _ (there : is_there (length first) (length second) depth w h k ≡ true) (n : ℕ)
      (en : n ≡ picture_bytes depth w h) where
    pub in_first_lem : k % 2 ≡ 1 → Found (take n first) one
    unfolding found_at place_at
    in_first_lem e =
        let odd = eq-eqb (k % 2) 1 e in
        (simp (there, odd, en), simp (there, odd))

    pub in_second_lem : (k % 2 ≡ 1 → ⊥) → Found (take n second) two
    unfolding found_at place_at
    in_second_lem e =
        let even = ne_eqb (k % 2) 1 e in
        (simp (there, even, en), simp (there, even))
