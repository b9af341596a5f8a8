use Rattle.byheight.specs.Steps.Listed.{Listed}
use Rattle.byheight.proofs.Listed.{side_more, new_long}
use Rattle.heightsigns.specs.Steps.Taken.{Taken}
use Rattle.heightsigns.proofs.Cells.{taken_is}
use Rattle.element.specs.Descriptor.{most_cells}
use Rattle.picture.proofs.Sizes.{row_room}
use Rattle.basics.proofs.Lists.{part_length}
use lib.ListN.{length, get_or, take, drop, length-set}
use Prim.Native.Nat.{zero-le, ◌+◌, ◌-◌, ◌*◌, ◌≤◌, ◌<◌}
use mathlib.Core.Bool.{true, false}
use mathlib.Core.Path.{◌≡◌, sym, ◌∙◌, subst}
use native.Mathlib.Nat.{mul-le-mul}
use native.Mathlib.Omega.{arith}
use Rattle.byheight.proofs.list_rows.Goals as goal
use Rattle.byheight.proofs.list_rows.Goals.{In-loop-i, After-cells_both-k, After-loop-i}

-- a turn of the loop is for row r = from + i
room : (g : In-loop-i) → g.loop-i.i * g.args.o.w + g.args.o.w ≤ 256
room g =
    omega (
      arith,
      row_room g.args.o.w {y = g.loop-i.i} {n = g.args.n} g.loop-i-test.true,
      g.requires.fits.room,
    )

counted : (g : In-loop-i) → g.args.from + g.loop-i.i < g.args.o.h
counted g = omega (arith, g.loop-i-test.true, g.requires.fits.rows)

far : (g : In-loop-i) → g.args.from + g.loop-i.i < 64
far g = omega (arith, counted g, g.requires.fits.high)

few : (g : In-loop-i) → g.loop-i.i < 64
few g = omega (arith, far g)

up_counted : (g : In-loop-i) → g.loop-i.i < length g.loop-i.ups
up_counted g = omega (arith, few g, g.loop-i.invariant.1.up_counts)

down_counted : (g : In-loop-i) → g.loop-i.i < length g.loop-i.downs
down_counted g = omega (arith, few g, g.loop-i.invariant.1.down_counts)

near : (g : In-loop-i) → (g.args.from + g.loop-i.i) * g.args.o.w ≤ most_cells * most_cells
near g =
    mul-le-mul {n₁ = g.args.from + g.loop-i.i} {m₁ = g.args.o.w} {n₂ = most_cells}
    {m₂ = most_cells} (omega (arith, far g)) g.requires.fits.wide

-- the parts that the cells go to
up_in : (g : In-loop-i) → let l = g.loop-i in
    l.i * g.args.o.w + g.args.o.w ≤ length l.rising
up_in g = omega (arith, room g, g.loop-i.invariant.1.up_room)

down_in : (g : In-loop-i) → let l = g.loop-i in
    l.i * g.args.o.w + g.args.o.w ≤ length l.others
down_in g = omega (arith, room g, g.loop-i.invariant.1.down_room)

up_part : (g : In-loop-i) → let l = g.loop-i in let p = l.i * g.args.o.w in
    length (take (p + g.args.o.w - p) (drop p l.rising)) ≡ g.args.o.w
up_part g = part_length g.loop-i.rising (g.loop-i.i * g.args.o.w)
    g.args.o.w (up_in g)

down_part : (g : In-loop-i) → let l = g.loop-i in let p = l.i * g.args.o.w in
    length (take (p + g.args.o.w - p) (drop p l.others)) ≡ g.args.o.w
down_part g = part_length g.loop-i.others (g.loop-i.i * g.args.o.w)
    g.args.o.w (down_in g)

-- both sides of the row, as they are found
abbrev turn : After-cells_both-k → In-loop-i
turn c = (goal.at.After-cells_both-k c).In-loop-i

up : (c : After-cells_both-k) → let a = c.args in
    let r = a.from + c.loop-i.i in
    Taken a.grows true (get_or a.words.now r 0) a.o.w a.o.origin.ping.0 a.hs.now
    (r * a.o.w) c.cells_both-k.result.rising c.cells_both-k.new.rising
up c = let p = c.cells_both-k in
    taken_is c.args.grows true _ _ _ _ _ _ p.result.rising p.new.rising
    (omega (arith, up_part (turn c))) p.ensures.counts.0 p.ensures.up

down : (c : After-cells_both-k) → let a = c.args in
    let r = a.from + c.loop-i.i in
    Taken a.grows false (get_or a.words.now r 0) a.o.w a.o.origin.ping.0 a.hs.now
    (r * a.o.w) c.cells_both-k.result.others c.cells_both-k.new.others
down c = let p = c.cells_both-k in
    taken_is c.args.grows false _ _ _ _ _ _ p.result.others p.new.others
    (omega (arith, down_part (turn c))) p.ensures.counts.1 p.ensures.down

-- the lists as they came
abbrev entered : (c : After-loop-i) → let a = c.args in
    Listed a.grows a.o a.words.now a.hs.now a.from 0 a.rising.now a.others.now
    a.ups.now a.downs.now
entered c = c.requires.listed

pub loop-i-init : goal.loop-i-init
loop-i-init c = (zero-le, c.requires.listed)

pub overflow_add-r : goal.overflow_add-r
overflow_add-r c = omega (arith, far c)

pub overflow_mul-a : goal.overflow_mul-a
overflow_mul-a c = omega (arith, room (goal.at.overflow_mul-a c).In-loop-i)

pub overflow_add-z : goal.overflow_add-z
overflow_add-z c = omega (arith, room (goal.at.overflow_add-z c).In-loop-i)

pub offset_bounds-rising-a : goal.offset_bounds-rising-a
offset_bounds-rising-a c = omega (arith, room (goal.at.offset_bounds-rising-a c).In-loop-i)

pub slice_bounds-cells_both-end : goal.slice_bounds-cells_both-end
slice_bounds-cells_both-end c = up_in (goal.at.slice_bounds-cells_both-end c).In-loop-i

pub offset_bounds-others-a : goal.offset_bounds-others-a
offset_bounds-others-a c = omega (arith, room (goal.at.offset_bounds-others-a c).In-loop-i)

pub slice_bounds-cells_both-end-in-loop-i : goal.slice_bounds-cells_both-end-in-loop-i
slice_bounds-cells_both-end-in-loop-i c =
    down_in (goal.at.slice_bounds-cells_both-end-in-loop-i c).In-loop-i

pub offset_bounds-words-r : goal.offset_bounds-words-r
offset_bounds-words-r c = omega (arith, far (goal.at.offset_bounds-words-r c).In-loop-i)

pub bounds-words-r : goal.bounds-words-r
bounds-words-r c =
    omega (
      arith,
      counted (goal.at.bounds-words-r c).In-loop-i,
      c.requires.fits.words,
    )

pub overflow_mul-r : goal.overflow_mul-r
overflow_mul-r c = omega (arith, near (goal.at.overflow_mul-r c).In-loop-i)

pub cells_both-k-requires : goal.cells_both-k-requires
cells_both-k-requires c =
    let f = c.requires.fits in
    let g = (goal.at.cells_both-k-requires c).In-loop-i in record {
      o_lt_most_cells = (omega (arith, f.column, f.wide), (f.wide, near g));
      wide_in_bounds = (omega (arith, up_part g), omega (arith, down_part g));
    }

pub overflow_cast-ups : goal.overflow_cast-ups
overflow_cast-ups c =
    omega (
      arith,
      (up (goal.at.overflow_cast-ups c).After-cells_both-k).few,
      c.requires.fits.wide,
    )

pub bounds-ups-i : goal.bounds-ups-i
bounds-ups-i c = up_counted (turn (goal.at.bounds-ups-i c).After-cells_both-k)

pub overflow_cast-downs : goal.overflow_cast-downs
overflow_cast-downs c =
    omega (
      arith,
      (down (goal.at.overflow_cast-downs c).After-cells_both-k).few,
      c.requires.fits.wide,
    )

pub bounds-downs-i : goal.bounds-downs-i
bounds-downs-i c = down_counted (turn (goal.at.bounds-downs-i c).After-cells_both-k)

pub loop-i-smaller : goal.loop-i-smaller
loop-i-smaller c =
    omega (arith, c.loop-i-test.true)

pub loop-i-preserved : goal.loop-i-preserved
loop-i-preserved c =
    let g = turn (goal.at.loop-i-preserved c).After-cells_both-k in
    let a = c.args in
    let i = c.loop-i.i in
    let l = c.loop-i in
    let p = c.cells_both-k in
    let el : length p.new.rising ≡ a.o.w = p.auto.rising ∙ up_part g in
    let dl : length p.new.others ≡ a.o.w = p.auto.others ∙ down_part g in
    let us = up_counted g in
    let ds = down_counted g in (
      omega (arith, g.loop-i-test.true),
      record {
        up_room = new_long a.grows true a.o a.words.now a.hs.now a.from i l.rising
            l.ups p.new.rising p.result.rising (up_in g) us el l.invariant.1.up
            (up (goal.at.loop-i-preserved c).After-cells_both-k)
            ∙ l.invariant.1.up_room;
        down_room = new_long a.grows false a.o a.words.now a.hs.now a.from i l.others
            l.downs p.new.others p.result.others (down_in g) ds dl l.invariant.1.down
            (down (goal.at.loop-i-preserved c).After-cells_both-k)
            ∙ l.invariant.1.down_room;
        up_counts = length-set l.ups i p.result.rising ∙ l.invariant.1.up_counts;
        down_counts = length-set l.downs i p.result.others ∙ l.invariant.1.down_counts;
        up = side_more a.grows true a.o a.words.now a.hs.now a.from i l.rising
            l.ups p.new.rising p.result.rising (up_in g) us el l.invariant.1.up
            (up (goal.at.loop-i-preserved c).After-cells_both-k);
        down = side_more a.grows false a.o a.words.now a.hs.now a.from i l.others
            l.downs p.new.others p.result.others (down_in g) ds dl l.invariant.1.down
            (down (goal.at.loop-i-preserved c).After-cells_both-k);
      },
    )

pub shape_of-rising : goal.shape_of-rising
shape_of-rising c = c.loop-i.invariant.1.up_room ∙ sym (entered c).up_room

pub shape_of-others : goal.shape_of-others
shape_of-others c = c.loop-i.invariant.1.down_room ∙ sym (entered c).down_room

pub shape_of-ups : goal.shape_of-ups
shape_of-ups c = c.loop-i.invariant.1.up_counts ∙ sym (entered c).up_counts

pub shape_of-downs : goal.shape_of-downs
shape_of-downs c = c.loop-i.invariant.1.down_counts ∙ sym (entered c).down_counts

pub returns : goal.returns
returns c =
    let a = c.args in
    let l = c.loop-i in
    let e : l.i ≡ a.n = omega (arith, l.invariant.0, c.loop-i-test.false) in
    subst (λ i. Listed a.grows a.o a.words.now a.hs.now a.from i l.rising l.others
    l.ups l.downs) e l.invariant.1
