-- Request (xiv), what a call gives: its answer, the number of regions, and what the lent list holds after it.
-- R gives each node the first of its region, n bytes and `len` numbers are lent.
use Rattle.std.specs.Prelude.{ℕ, ◌*◌, ◌≡◌, cond, not, List, [], ◌∷◌, ◌++◌, eqb, ltb, length, drop}
use Rattle.std.specs.Prelude.{Result, Ok, Err}
use Rattle.answer.specs.declared.Refusal.{Refusal}
use Rattle.answer.specs.declared.Told.{Told}
use Rattle.answer.specs.Answer.{told, plain, is_done}
use Rattle.answer.specs.Refuse.{Test, refuse}
use Rattle.answer.specs.Lent.{unless_refused}
use Rattle.picture.specs.declared.Depth.TheVariants.{OneBit}
use Rattle.picture.specs.Frame.{sized_frame, picture_bytes}
use Rattle.regions.specs.Limits.{most_points, most_regions}
use Rattle.regions.specs.Regions.{point_of, Firsts}
use Rattle.regions.specs.Listing.{listing, regions_of}

-- SIZE, SOURCE, and NEST for a picture of too many points
abbrev pub frame_tests : ℕ → ℕ → ℕ → List Test
frame_tests w h n =
    (not (sized_frame w h), 1) ∷ (not (eqb n (picture_bytes OneBit w h)), 2) ∷ (ltb most_points (h * w), 16)
    ∷ []

-- NEST for more than 255 regions, then ROOM: two places of the list for each
abbrev pub region_tests : ℕ → ℕ → List Test
region_tests regions len = (ltb most_regions regions, 16) ∷ (ltb len (2 * regions), 8) ∷ []

abbrev pub nest_tests : (ℕ → ℕ) → ℕ → ℕ → ℕ → ℕ → List Test
nest_tests R w h n len = frame_tests w h n ++ region_tests (regions_of R (h * w)) len

-- the answer: the first refusal, or done
abbrev pub nest_answer : (ℕ → ℕ) → ℕ → ℕ → ℕ → ℕ → Told
nest_answer R w h n len = refuse (nest_tests R w h n len) (plain 0)

-- how many regions there are, 0 where refused
abbrev pub regions_in : Result ℕ Refusal → ℕ
regions_in (Ok n) = n
regions_in (Err r) = 0

-- what comes back: the answer, and how many regions there are
pub record GivenBack (answered : Told) (count : ℕ) (r : Result ℕ Refusal) : Type 0 where
  pub answer : told r ≡ answered
  pub regions : regions_in r ≡ cond (is_done answered) count 0

-- the list with the listing in it, and its further numbers
abbrev pub listed : (ℕ → ℕ) → ℕ → ℕ → List ℕ → List ℕ
listed R w n was = listing R w n ++ drop (2 * regions_of R n) was

-- the list afterwards: as it was where the call is refused
abbrev pub nest_left : (ℕ → ℕ) → ℕ → ℕ → ℕ → List ℕ → List ℕ
nest_left R w h n was = unless_refused (nest_answer R w h n (length was)) was (listed R w (h * w) was)

-- of the R that gives each node of the picture in the bytes s the first of its region
abbrev pub OfRegions : List ℕ → ℕ → ℕ → ((ℕ → ℕ) → Type 0) → Type 0
OfRegions s w h P = (R : ℕ → ℕ) → Firsts w h (point_of s w) R → P R
