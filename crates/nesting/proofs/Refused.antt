-- The refusals: those known before the regions are and those known after are the tests in order.
use Prim.Native.Nat.{ℕ, ◌*◌, ◌≤◌, ◌<◌}
use mathlib.Core.Path.{◌≡◌, sym, ap, ap₂, ◌∙◌}
use mathlib.Core.Bool.{Bool, true, false, cond, not}
use native.Mathlib.Omega.{arith}
use native.Mathlib.Nat.{mul-le-mul}
use borrow.Author.Tests.{lt-ltb, le-ltb, ltb-false, eqb-true, eq-eqb, ne_eqb, not-false}
use lib.Dec.{eqb, ltb, lit<}
use Rattle.std.specs.Prelude.{Result, Ok, Err}
use Rattle.answer.specs.declared.Refusal.{Refusal}
use Rattle.answer.specs.declared.Told.{Told}
use Rattle.answer.specs.Answer.{told, plain, is_done}
use Rattle.answer.specs.Refuse.{refuse}
use Rattle.answer.proofs.Order.{Numbered, none_of}
use Rattle.answer.proofs.Variants.{ok_done, err_undone}
use Rattle.answer.proofs.Lent.{two_parts}
use Rattle.picture.specs.declared.Depth.TheVariants.{OneBit}
use Rattle.picture.specs.Frame.{sized_frame, picture_bytes}
use Rattle.picture.proofs.Sizes.{sized_tells}
use Rattle.regions.specs.Limits.{most_points, most_regions}
use Rattle.regions.specs.Listing.{regions_of}
use Rattle.mates.specs.Steps.Framed.{Framed}
use Rattle.nesting.specs.Nesting.{frame_tests, region_tests, nest_tests, nest_answer, regions_in, GivenBack}

frame_numbered : (w h n : ℕ) → Numbered (frame_tests w h n)
frame_numbered w h n = (lit< tt, (lit< tt, (lit< tt, tt)))

region_numbered : (k len : ℕ) → Numbered (region_tests k len)
region_numbered k len = (lit< tt, (lit< tt, tt))

pub nest_numbered : (R : ℕ → ℕ) (w h n len : ℕ) → Numbered (nest_tests R w h n len)
nest_numbered R w h n len = (lit< tt, (lit< tt, (lit< tt, (lit< tt, (lit< tt, tt)))))

-- ---- what is known where nothing is refused
pub framed : (w h n : ℕ) → is_done (refuse (frame_tests w h n) (plain 0)) ≡ true → Framed n w h
framed w h n e =
    let p = none_of (frame_tests w h n) (frame_numbered w h n) e in
    let s = sized_tells w h (not-false (sized_frame w h) p.0) in
    let b = picture_bytes OneBit w h in
    let q = eqb-true n b (not-false (eqb n b) p.1.0) in
    record {
      some_pings = s.some_pings;
      few_pings = s.few_pings;
      few_bins = s.few_bins;
      few_points = ltb-false most_points (h * w) p.1.1.0;
      long = omega (arith, q);
    }

pub roomy : (k len : ℕ) → is_done (refuse (region_tests k len) (plain 0)) ≡ true
    → (k ≤ most_regions) × (2 * k ≤ len)
roomy k len e =
    let p = none_of (region_tests k len) (region_numbered k len) e in
    (ltb-false most_regions k p.0, ltb-false len (2 * k) p.1.0)

-- ---- the answer of the whole, by that of the tests known before
module _ (R : ℕ → ℕ) (w h n len : ℕ) where
  abbrev before : Told
  before = refuse (frame_tests w h n) (plain 0)

  abbrev pub after : Told
  after = refuse (region_tests (regions_of R (h * w)) len) (plain 0)

  in_two : cond (is_done before) after before ≡ nest_answer R w h n len
  in_two = two_parts (frame_tests w h n) (region_tests (regions_of R (h * w)) len) (frame_numbered w h n)

  pub stopped : is_done before ≡ false → before ≡ nest_answer R w h n len
  stopped e = sym (ap (λ b. cond b after before) e) ∙ in_two

  pub going : is_done before ≡ true → after ≡ nest_answer R w h n len
  going e = sym (ap (λ b. cond b after before) e) ∙ in_two

-- ---- what comes back
module _ (answered : Told) (count : ℕ) where
  pub back_refused : (r : Result ℕ Refusal) (s : Refusal) → r ≡ Err s → told r ≡ answered
      → GivenBack answered count r
  back_refused r s p e =
      record {
        answer = e;
        regions = ap regions_in p
            ∙ sym (ap (λ b. cond b count 0) (ap is_done (sym e) ∙ err_undone r s p));
      }

  -- where a call before it, that gives nothing back, was done
  pub back_done : {A : Type 0} (a : Result A Refusal) (x : A) (m : ℕ) → a ≡ Ok x → told a ≡ answered
      → m ≡ count → GivenBack answered count (Ok m)
  unfolding told
  back_done {A = A} a x m p e k =
      record {
        answer = sym (ap (λ (a : Result A Refusal). told a) p) ∙ e;
        regions = k ∙ sym (ap (λ b. cond b count 0) (ap is_done (sym e) ∙ ok_done a x p));
      }

pub back_as : (s t : Told) (j k : ℕ) (r : Result ℕ Refusal) → s ≡ t → j ≡ k → GivenBack s j r
    → GivenBack t k r
back_as s t j k r e q g =
    record {
      answer = g.answer ∙ e;
      regions = g.regions ∙ ap₂ (λ (s : Told) (j : ℕ). cond (is_done s) j 0) e
          q;
    }

-- ---- the refusals as the code decides them
module _ (w h n : ℕ) where
  abbrev bytes : ℕ
  bytes = picture_bytes OneBit w h

  -- by its three tests
  abbrev by : Bool → Bool → Bool → Told
  by s b p = cond (not s) (plain 1) (cond (not b) (plain 2) (cond p (plain 16) (plain 0)))

  pub refused_size : sized_frame w h ≡ false → plain 1 ≡ refuse (frame_tests w h n) (plain 0)
  refused_size e = sym (ap (λ s. by s (eqb n bytes) (ltb most_points (h * w))) e)

  module _ (sized : sized_frame w h ≡ true) (b : ℕ) (eb : b ≡ cond (sized_frame w h) bytes 0) where
    bytes_are : b ≡ bytes
    bytes_are = eb ∙ ap (λ s. cond s bytes 0) sized

    pub refused_source : (n ≡ b → ⊥) → plain 2 ≡ refuse (frame_tests w h n) (plain 0)
    refused_source ne =
        sym (ap (λ s. by s (eqb n bytes) (ltb most_points (h * w))) sized
        ∙ ap (λ b. by true b (ltb most_points (h * w))) (ne_eqb n bytes (λ e. ne (e ∙ sym bytes_are))))

    module _ (whole : n ≡ b) where
      passed : refuse (frame_tests w h n) (plain 0) ≡ by true true (ltb most_points (h * w))
      passed =
          ap (λ s. by s (eqb n bytes) (ltb most_points (h * w))) sized
          ∙ ap (λ b. by true b (ltb most_points (h * w))) (eq-eqb n bytes (whole ∙ bytes_are))

      pub refused_points : most_points < h * w → plain 16 ≡ refuse (frame_tests w h n) (plain 0)
      refused_points k = sym (passed ∙ ap (by true true) (lt-ltb most_points (h * w) k))

      pub frame_passes : h * w ≤ most_points → plain 0 ≡ refuse (frame_tests w h n) (plain 0)
      frame_passes k = sym (passed ∙ ap (by true true) (le-ltb most_points (h * w) k))

  -- a frame within the limits has few points
  pub points_fit : sized_frame w h ≡ true → h * w ≤ 262144
  points_fit e =
      let s = sized_tells w h e in
      omega (arith, mul-le-mul {n₁ = h} {m₁ = w} {n₂ = 256} {m₂ = 1024} s.few_bins s.few_pings)

module _ (k len : ℕ) where
  abbrev by_regions : Bool → Bool → Told
  by_regions p q = cond p (plain 16) (cond q (plain 8) (plain 0))

  pub refused_regions : most_regions < k → plain 16 ≡ refuse (region_tests k len) (plain 0)
  refused_regions h = sym (ap (λ p. by_regions p (ltb len (2 * k))) (lt-ltb most_regions k h))

  module _ (few : k ≤ most_regions) where
    regions_passed : (q : Bool) → ltb len (2 * k) ≡ q → refuse (region_tests k len) (plain 0) ≡ by_regions
        false q
    regions_passed q e =
        ap (λ p. by_regions p (ltb len (2 * k))) (le-ltb most_regions k few) ∙ ap (by_regions false) e

    pub refused_room : len < 2 * k → plain 8 ≡ refuse (region_tests k len) (plain 0)
    refused_room h = sym (regions_passed true (lt-ltb len (2 * k) h))

    pub regions_pass : 2 * k ≤ len → plain 0 ≡ refuse (region_tests k len) (plain 0)
    regions_pass h = sym (regions_passed false (le-ltb len (2 * k) h))
