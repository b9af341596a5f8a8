-- The whole picture: what its labels tell the listing, and that the listing hangs on its regions alone.
use Prim.Native.Nat.{ℕ, ◌+◌, ◌*◌, ◌≤◌, ◌<◌}
use mathlib.Core.Path.{◌≡◌, sym, ap, ap₂, ◌∙◌, subst}
use mathlib.Core.Bool.{true}
use mathlib.Core.List.{List, ◌++◌}
use native.Mathlib.Omega.{arith}
use lib.ListN.{length, take, drop, replicate, length-replicate}
use Rattle.answer.specs.declared.Told.{Told}
use Rattle.answer.specs.Answer.{plain, is_done}
use Rattle.answer.specs.Refuse.{refuse}
use Rattle.answer.specs.Lent.{unless_refused}
use Rattle.regions.specs.Limits.{most_points, most_regions}
use Rattle.regions.specs.Regions.{point_of, Firsts}
use Rattle.regions.specs.Listing.{order, order_from, listing, lines_from, inner_of, regions_of}
use Rattle.regions.specs.Steps.Union.{labelled}
use Rattle.regions.proofs.Labels.{labels_first, firsts_unique}
use Rattle.regions.proofs.Firsts.{first_low, first_twice, regions_same, listing_same}
use Rattle.regions.proofs.Walks.{length_lines}
use Rattle.regions.proofs.Once.{order_length}
use Rattle.mates.specs.Steps.Framed.{Framed}
use Rattle.nesting.specs.Nesting.{frame_tests, region_tests, nest_answer, listed, nest_left}
use Rattle.nesting.specs.Steps.Written.{put}
use Rattle.nesting.specs.Steps.Tree.{at, Labelled, Tree, Next}
use Rattle.nesting.proofs.Stores.{put_start}
use Rattle.nesting.proofs.Refused.{going}

-- ---- the gathered nodes, as a part of the array that holds them
module _ (R : ℕ → ℕ) (n k : ℕ) (l : List ℕ) (e : k ≡ length (inner_of R n))
    (t : take (length (inner_of R n)) l ≡ inner_of R n) where
  pub gathered : take k l ≡ inner_of R n
  gathered = subst (λ k. take k l ≡ inner_of R n) (sym e) t

  pub gathered_length : length (take k l) ≡ k
  gathered_length = ap length gathered ∙ sym e

-- ---- all regions, from the outer one
module _ (L I : List ℕ) (w n : ℕ) (labels : Labelled L w n) (eI : I ≡ inner_of (at L) n)
    (few : length I + 1 ≤ most_regions) where
  pub tree_of : Tree L I w n
  tree_of =
      record {
        some_pings = labels.some_pings;
        few_points = labels.few_points;
        room = labels.room;
        low = labels.low;
        inner = eI;
        few_regions = omega (arith, few);
      }

  regions_are : length (order_from (at L) w n 0 0) ≡ length I + 1
  unfolding order regions_of
  regions_are =
      order_length (at L) w n labels.low labels.twice ∙ ap (λ J. length J + 1) (sym eI)

  pub next_of : (len : ℕ) → 2 * (length I + 1) ≤ len → Next L I w n len 0 0 0
  next_of len k =
      record { region = omega arith; depth = omega arith; left = omega (arith, regions_are); places = k }

  pub listed_of : (l u : List ℕ) → 2 * (length I + 1) ≤ length l
      → u ≡ put l (2 * 0) (lines_from (at L) w n 0 0)
      → u ≡ listed (at L) w n l
  unfolding listing regions_of
  listed_of l u k e =
      let m : length (lines_from (at L) w n 0 0) ≡ 2 * (length I + 1) =
      length_lines (at L) w n (n + 1) 0 0 ∙ ap (λ k. 2 * k) regions_are in
      e ∙ put_start l (lines_from (at L) w n 0 0) (omega (arith, m))
      ∙ ap (λ j. lines_from (at L) w n 0 0 ++ drop j l) (m ∙ ap (λ J. 2 * (length J + 1)) eI)

pub regions_count : (R : ℕ → ℕ) (n k : ℕ) → k ≡ length (inner_of R n) → k + 1 ≡ regions_of R n
unfolding regions_of
regions_count R n k e = ap (λ k. k + 1) e

-- ---- the labels of a picture within the limits
abbrev blank : List ℕ
blank = replicate (most_points + 1) 0

module _ (s : List ℕ) (bytes w h : ℕ) (framed : Framed bytes w h) (L : List ℕ)
    (eL : L ≡ labelled s w h blank) where
  abbrev n : ℕ
  n = h * w

  room : h * w < length blank
  room = subst (λ m. h * w < m) (sym (length-replicate {A = ℕ} (most_points + 1) 0))
      (omega (arith, framed.few_points))

  firsts_of : Firsts w h (point_of s w) (at L)
  firsts_of =
      subst (λ L. Firsts w h (point_of s w) (at L)) (sym eL)
      (labels_first s w h blank framed.some_pings room)

  pub labelled_of : n < length L → Labelled L w n
  labelled_of k =
      record {
        some_pings = framed.some_pings;
        few_points = framed.few_points;
        room = k;
        low = first_low w h (point_of s w) (at L) firsts_of;
        twice = first_twice w h (point_of s w) (at L) firsts_of;
      }

  -- whatever gives each node the first of its region gives as many regions, and the same listing
  module _ (R : ℕ → ℕ) (f : Firsts w h (point_of s w) R) where
    same_nodes : (a : ℕ) → a ≤ n → at L a ≡ R a
    same_nodes = firsts_unique w h (point_of s w) (at L) R firsts_of f

    pub as_many : regions_of (at L) n ≡ regions_of R n
    as_many = regions_same (at L) R w n same_nodes

    pub same_list : (was : List ℕ) → listed (at L) w n was ≡ listed R w n was
    same_list was =
        ap₂ (λ X k. X ++ drop (2 * k) was) (listing_same (at L) R w n same_nodes) as_many

    module _ (d : is_done (refuse (frame_tests w h bytes) (plain 0)) ≡ true) where
      pub answer_as : (len : ℕ)
          → refuse (region_tests (regions_of (at L) n) len) (plain 0) ≡ nest_answer R w h bytes len
      answer_as len = ap (λ k. refuse (region_tests k len) (plain 0)) as_many ∙ going R w h bytes len d

      pub list_as : (was : List ℕ)
          → unless_refused (refuse (region_tests (regions_of (at L) n) (length was)) (plain 0)) was
          (listed (at L) w n was)
          ≡ nest_left R w h bytes was
      list_as was =
          ap₂ (λ (t : Told) (made : List ℕ). unless_refused t was made) (answer_as (length was))
          (same_list was)
