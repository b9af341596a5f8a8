-- A row that leads to no row of the result joins nothing. Else what both lists of its cells find is joined
-- into the row that sees row v by it: `part_join`.
use Rattle.heightsigns.proofs.Line.{cells_near, cells_under}
use Rattle.freeblocks.specs.Steps.Plain.{turned_by, Under}
use Rattle.basics.proofs.SliceParts.{get_mid, put_length}
use Rattle.byheight.specs.Steps.Listed.{Side}
use Rattle.byheight.proofs.Marks.{marked_join}
use Rattle.byheight.proofs.Part.{part_out, part_join}
use Rattle.weighblocks.specs.Steps.Cells.{weighed_row, Near}
use Rattle.sourceparts.proofs.Bytes.{row_at, row_long}
use Rattle.bitrow.specs.Steps.Added.{row_in}
use Rattle.picture.proofs.Sizes.{row_room}
use Rattle.basics.proofs.Lists.{part_length}
use lib.ListN.{length, get_or, drop, length-set}
use Prim.Native.Nat.{◌+◌, ◌-◌, ◌*◌, ◌/◌, ◌≤◌, ◌<◌}
use mathlib.Core.Bool.{true, false}
use mathlib.Core.Path.{◌≡◌, sym, ap₂, ◌∙◌, subst}
use borrow.Rule.Slice.PartMut.{mid_of}
use native.Mathlib.Nat.{mul-le-mul, add-sub_cancel_left}
use native.Mathlib.Omega.{arith}
use Rattle.byheight.proofs.add_row.Goals as goal
use Rattle.byheight.proofs.add_row.Goals.{Else-h-y, Start}

room : (e : Else-h-y) → let a = e.args in
    e.source_row-y.result * a.w + a.w ≤ length a.t.now
room e = omega (
  arith,
  row_room e.args.w {y = e.source_row-y.result} {n = e.args.h} e.if-h-y.false,
  e.requires.t_len.0,
)

small : (e : Else-h-y) → let a = e.args in
    e.source_row-y.result * a.w + a.w ≤ 256 * 1024
small e = let a = e.args in
    let l = mul-le-mul {n₁ = a.h} {m₁ = a.w} {n₂ = 256} {m₂ = 1024} e.requires.ready.few_bins
    e.requires.ready.few_pings in
    omega (arith, room e, e.requires.t_len.0, l)

marked : (e : Else-h-y) → e.source_row-y.result < length e.args.marks.now
marked e = omega (arith, e.if-h-y.false, e.requires.fits.1.0, e.requires.ready.few_bins)

long : (e : Else-h-y) → let a = e.args in let y = e.source_row-y.result in
    length (mid_of (y * a.w) (y * a.w + a.w - y * a.w) a.t.now) ≡ a.w
long e = part_length e.args.t.now (e.source_row-y.result * e.args.w) e.args.w
    (room e)

origin_lt : (s : Start) → s.args.o.origin.ping.0 < 64
origin_lt s = omega (arith, s.requires.ready.column, s.requires.ready.few_wide)

-- the part of the lists that the row has, and the cells of either side that stand there
listed : (s : Start) → s.args.i * s.args.o.w + s.args.o.w ≤ 256
listed s = omega (
  arith,
  row_room s.args.o.w {y = s.args.i} {n = s.args.n} s.requires.t_len.1.1,
  s.requires.fits.0.room,
)

counted : (s : Start) → s.args.i < 64
counted s = omega (arith, s.requires.t_len.1.1, s.requires.fits.0.rows, s.requires.fits.0.high)

up : (s : Start) → let a = s.args in
    Side a.grows true a.o a.words.now a.hs.now a.from a.i a.rising.now a.ups.now
up s = s.requires.listed.up s.args.i s.requires.t_len.1.1

down : (s : Start) → let a = s.args in
    Side a.grows false a.o a.words.now a.hs.now a.from a.i a.others.now a.downs.now
down s = s.requires.listed.down s.args.i s.requires.t_len.1.1

pub source_row-y-requires : goal.source_row-y-requires
source_row-y-requires c = tt

pub returns-then-h-y : goal.returns-then-h-y
returns-then-h-y c =
    let a = c.args in record {
      marks = c.requires.fits.1;
      part = part_out a.grows a.s.now a.w a.h a.o a.words.now a.hs.now a.from a.n
          a.v.0 (a.from + a.i) _ a.t.now c.source_row-y.ensures c.if-h-y.true
          c.requires.part_2;
    }

pub overflow_mul-p : goal.overflow_mul-p
overflow_mul-p c =
    omega (
      arith,
      listed (goal.at.overflow_mul-p c).Start,
    )

pub cells_of-up-requires : goal.cells_of-up-requires
cells_of-up-requires c =
    let g = c.requires.listed in (
      omega (arith, counted (goal.at.cells_of-up-requires c).Start, g.up_counts),
      omega (
        arith,
        listed (goal.at.cells_of-up-requires c).Start,
        (up (goal.at.cells_of-up-requires c).Start).few,
        g.up_room,
      ),
    )

pub cells_of-down-requires : goal.cells_of-down-requires
cells_of-down-requires c =
    let g = c.requires.listed in (
      omega (arith, counted (goal.at.cells_of-down-requires c).Start, g.down_counts),
      omega (
        arith,
        listed (goal.at.cells_of-down-requires c).Start,
        (down (goal.at.cells_of-down-requires c).Start).few,
        g.down_room,
      ),
    )

pub overflow_mul-a : goal.overflow_mul-a
overflow_mul-a c = omega (arith, small (goal.at.overflow_mul-a c).Else-h-y)

pub overflow_add-z : goal.overflow_add-z
overflow_add-z c = omega (arith, small (goal.at.overflow_add-z c).Else-h-y)

pub bounds-marks-y : goal.bounds-marks-y
bounds-marks-y c = marked (goal.at.bounds-marks-y c).Else-h-y

pub slice_bounds-join_marked-end : goal.slice_bounds-join_marked-end
slice_bounds-join_marked-end c = room (goal.at.slice_bounds-join_marked-end c).Else-h-y

pub join_marked-requires : goal.join_marked-requires
join_marked-requires c =
    let a = c.args in
    let y = c.source_row-y.result in
    let u = c.cells_of-up.ensures in
    let d = c.cells_of-down.ensures in
    let wide = c.requires.ready.few_wide in record {
      t_len_bound = omega (arith, long (goal.at.join_marked-requires c).Else-h-y, c.requires.ready.few_pings);
      b_len = (
        c.requires.padded.values,
        (
          subst Near (sym u) (cells_near a.grows true _ _ _ _ _ _ _ wide
              (origin_lt (goal.at.join_marked-requires c).Start)
              (up (goal.at.join_marked-requires c).Start)),
          subst Near (sym d) (cells_near a.grows false _ _ _ _ _ _ _ wide
              (origin_lt (goal.at.join_marked-requires c).Start)
              (down (goal.at.join_marked-requires c).Start)),
        ),
      );
      sure = (
        λ q i h.
            let h' : i < 128 * (a.w / 128) =
            subst (λ n. i < 128 * (n / 128)) (long (goal.at.join_marked-requires c).Else-h-y) h in
            subst (λ v. 128 ≤ turned_by a.grows v)
            (sym (get_mid (y * a.w) (y * a.w + a.w - y * a.w) a.t.now i
            (omega (arith, h', add-sub_cancel_left (y * a.w) a.w))))
            (c.requires.fits.1.1 y c.if-h-y.false q i h'),
        subst (λ l. Under l 128) (sym u)
            (cells_under a.grows _ _ _ _ _ _ _ (up (goal.at.join_marked-requires c).Start)),
      );
    }

pub bounds-marks-y-2 : goal.bounds-marks-y-2
bounds-marks-y-2 c = marked (goal.at.bounds-marks-y-2 c).Else-h-y

pub shape_of-t : goal.shape_of-t
shape_of-t c =
    let a = c.args in
    let y = c.source_row-y.result in
    let j = c.join_marked in
    put_length (y * a.w) (y * a.w + a.w - y * a.w) a.t.now j.new.t
    (omega (arith, room (goal.at.shape_of-t c).Else-h-y))
    (j.auto.t ∙ long (goal.at.shape_of-t c).Else-h-y ∙ sym (add-sub_cancel_left (y * a.w) a.w))

pub shape_of-marks : goal.shape_of-marks
shape_of-marks c = length-set c.args.marks.now _ _

pub returns : goal.returns
returns c =
    let a = c.args in
    let j = c.join_marked in
    let y = c.source_row-y in
    let p = a.i * a.o.w in record {
      marks = marked_join a.grows a.w a.h a.marks.now a.t.now j.new.t y.result
          j.result c.if-h-y.false c.requires.ready.few_bins c.requires.t_len.0
          (j.auto.t ∙ long (goal.at.returns c).Else-h-y)
          j.ensures.mark c.requires.fits.1;
      part = part_join a.grows a.s.now a.w a.h a.o a.words.now a.hs.now a.from a.n
          a.v.0 (a.from + a.i) y.result a.t.now c.requires.ready.few_pings c.requires.t_len.1.0
          c.if-h-y.false (omega (arith, c.requires.t_len.1.1, c.requires.fits.0.rows))
          (omega (arith, c.requires.t_len.1.1))
          c.requires.ready.few_wide c.requires.ready.column c.requires.t_len.0 y.ensures
          a.b.now (row_in a.w a.s.now a.v.0) j.new.t
          (λ i. omega (
            arith,
            c.type_inv.b i,
          ))
          (row_at a.s.now a.w a.v.0)
          (row_long a.s.now a.w a.h a.v.0 c.requires.t_len.1.0 c.requires.ready.source)
          c.requires.padded (get_or a.ups.now a.i 0) (get_or a.downs.now a.i 0)
          (drop p a.rising.now) (drop p a.others.now) (up (goal.at.returns c).Start)
          (down (goal.at.returns c).Start)
          (j.ensures.bytes ∙ ap₂ (λ u d. weighed_row a.grows a.b.now u d
          (mid_of (y.result * a.w) (y.result * a.w + a.w - y.result * a.w) a.t.now))
          c.cells_of-up.ensures c.cells_of-down.ensures)
          c.requires.part_2;
    }
