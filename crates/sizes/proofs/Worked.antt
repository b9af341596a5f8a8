-- The spectrum of small pictures, computed: a mark cut by the frame is judged by the frame rule.
use Prim.Native.Nat.{ℕ, ◌+◌, ◌-◌, ◌*◌, ◌≤◌, ◌<◌}
use mathlib.Core.Path.{◌≡◌, refl, sym, ap, ◌∙◌}
use mathlib.Core.Bool.{true, false, ◌&&◌}
use native.Mathlib.Omega.{arith}
use lib.Dec.{T, eqb}
use Rattle.basics.specs.Tests.{all}
use Rattle.picture.specs.Frame.{Frame, frame}
use Rattle.picture.specs.Bytes.{Picture}
use Rattle.morphology.specs.Step.{Place, In}
use Rattle.morphology.specs.Operations.{flat, fold, gather, erode_by, dilate_by, erode}
use Rattle.morphology.specs.Order.{Bounded}
use Rattle.morphology.specs.Worked.{bits, seven}
use Rattle.morphology.proofs.Order.{dilate_alike, erode_bounded}
use Rattle.basics.proofs.Bits.{bit_lt}
use Rattle.sizes.specs.Spectrum.{rect, square, survived, points, survivors, sides, count_at}
use Rattle.sizes.proofs.Squares.{clipped}
use Rattle.sizes.proofs.Counts.{points_same, count_last, sum_most, count_most}

abbrev three : Frame
three = frame 3 3

bits_bounded : (F : Frame) (n : ℕ) → Bounded 1 F (bits F n)
bits_bounded F n p i =
    let l = bit_lt n (F.pings * F.bins - 1 - (p.y * F.pings + p.x)) in omega arith

-- a square no less than the frame keeps what the one of side k keeps
as_side : (F : Frame) (A : Picture) → Bounded 1 F A → (k : ℕ) → F.pings ≤ k → F.bins ≤ k
    → F.pings ≤ sides → F.bins ≤ sides
    → count_at F A sides ≡ survivors F A k
as_side F A b k hp hb hp' hb' =
    count_last F A b ∙ points_same F _ _
    (λ p i.
    dilate_alike flat F (square sides) _ _ (clipped false F sides k hp' hb' hp hb A b) p
    ∙ clipped true F sides k hp' hb' hp hb (erode 1 F (square k) A)
    (erode_bounded flat 1 F (square k) A) p i)

-- 1100000 counts at side 2, and no point of it survives side 3
at_two : T (eqb (count_at seven (bits seven 0b1100000) 2) 2
    && eqb (survivors seven (bits seven 0b1100000) 3) 0)
unfolding count_at points rect fold gather erode_by dilate_by
at_two = tt

-- 0000011 goes to the last count: what lies beyond the frame counts as full
newest : survivors seven (bits seven 0b0000011) 7 ≡ 2
unfolding points rect fold gather erode_by dilate_by
newest = refl

at_last : count_at seven (bits seven 0b0000011) sides ≡ 2
at_last =
    as_side seven _ (bits_bounded seven 0b0000011) 7 (omega arith) (omega arith) (omega arith) (omega arith)
    ∙ newest

-- so does a full frame of 3 x 3
nine : survivors three (bits three 0b111_111_111) 3 ≡ 9
unfolding points rect fold gather erode_by dilate_by
nine = refl

full : count_at three (bits three 0b111_111_111) sides ≡ 9
full =
    as_side three _ (bits_bounded three 0b111_111_111) 3 (omega arith) (omega arith) (omega arith) (omega
    arith)
    ∙ nine

-- of an empty picture every count is 0
none : Picture
none x y = 0

nothing : (F : Frame) (i : ℕ) → i < sides → count_at F none (i + 1) ≡ 0
unfolding points none
nothing F i l =
    let e = sum_most (λ y. fold ◌+◌ 0 (λ x. 0) F.pings) 0 F.bins
    (λ y ly. let m = sum_most (λ x. 0) 0 F.pings (λ x lx. omega arith) in omega arith) in
    let m = count_most F none (λ p j. omega arith) i l in
    omega arith
