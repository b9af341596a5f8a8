-- The openings are made in the first part of the scratch.
-- Then both parts are cleared.
use Prim.Native.Nat.{ℕ, ◌*◌, ◌≤◌}
use mathlib.Core.Path.{◌≡◌, sym, ap, ◌∙◌, subst}
use native.Mathlib.Omega.{arith}
use mathlib.Core.List.{List, ◌++◌}
use lib.ListN.{length, drop, take}
use lib.Seq.{length-take-le}
use Rattle.picture.specs.declared.Depth.TheVariants.{OneBit}
use Rattle.picture.specs.Frame.{picture_bytes}
use Rattle.spectrum.proofs.Counted.{few_bytes, both_long, cleared}
use Rattle.spectrum.proofs.make.Goals as goal
use Rattle.spectrum.proofs.make.Goals.{After-row_bytes}

-- the bytes of a picture, and two of them in the scratch
bytes : (c : After-row_bytes) → let a = c.args in
    a.h * c.row_bytes.result ≡ picture_bytes OneBit a.w a.h
bytes c = ap (λ r. c.args.h * r) c.row_bytes.ensures

few : (c : After-row_bytes) → c.args.h * c.row_bytes.result ≤ 32768
few c = let a = c.args in
    few_bytes a.w a.h _ c.requires.holds.few_pings c.requires.holds.few_bins (bytes c)

whole : (c : After-row_bytes) → 2 * (c.args.h * c.row_bytes.result) ≤ length c.args.scratch.now
whole c = omega (arith, bytes c, c.requires.h_in_bounds)

module _ (scratch t : List ℕ) (m : ℕ) (e : length t ≡ length (take m scratch))
    (w : 2 * m ≤ length scratch) where
  -- what the counting leaves of the first part is as long
  part_long : length t ≡ m
  part_long = e ∙ length-take-le m scratch (omega arith)

  -- and so are both parts
  stays : 2 * m ≤ length (t ++ drop m scratch)
  stays = subst (λ n. 2 * m ≤ n) (sym (both_long scratch t m part_long w)) w

pub overflow_mul-n : goal.overflow_mul-n
overflow_mul-n c = record { fits = omega (arith, few c) }

pub slice_bounds-count_sides-end : goal.slice_bounds-count_sides-end
slice_bounds-count_sides-end c =
    omega (arith, bytes (goal.at.slice_bounds-count_sides-end c).After-row_bytes, c.requires.h_in_bounds)

pub slice_bounds-count_sides-end-2 : goal.slice_bounds-count_sides-end-2
slice_bounds-count_sides-end-2 c =
    let b = (goal.at.slice_bounds-count_sides-end-2 c).After-row_bytes in
    sym (length-take-le _ c.args.scratch.now (omega (arith, bytes b, c.requires.h_in_bounds)))

pub count_sides-requires : goal.count_sides-requires
count_sides-requires c =
    let b = (goal.at.count_sides-requires c).After-row_bytes in
    record {
      holds = c.requires.holds;
      in_bounds = c.requires.in_bounds;
      t_len = length-take-le _ c.args.scratch.now (omega (arith, bytes b, c.requires.h_in_bounds)) ∙ bytes b;
    }

pub overflow_mul-m : goal.overflow_mul-m
overflow_mul-m c =
    record { fits = omega (arith, few (goal.at.overflow_mul-m c).After-row_bytes) }

pub slice_bounds-begin-end : goal.slice_bounds-begin-end
slice_bounds-begin-end c =
    stays c.args.scratch.now c.count_sides.new.t _ c.count_sides.auto.t
    (whole (goal.at.slice_bounds-begin-end c).After-row_bytes)

pub slice_bounds-begin-end-2 : goal.slice_bounds-begin-end-2
slice_bounds-begin-end-2 c =
    sym (length-take-le _ _
    (stays c.args.scratch.now c.count_sides.new.t _ c.count_sides.auto.t
    (whole (goal.at.slice_bounds-begin-end-2 c).After-row_bytes)))

pub returns : goal.returns
returns c =
    let a = c.args in let b = (goal.at.returns c).After-row_bytes in
    record {
      counts = c.count_sides.ensures;
      scratch = cleared a.scratch.now c.count_sides.new.t (a.h * c.row_bytes.result)
          (part_long a.scratch.now c.count_sides.new.t _ c.count_sides.auto.t (whole b)) (whole b) _
          (picture_bytes OneBit a.w a.h) (bytes b) c.begin.ensures;
    }
