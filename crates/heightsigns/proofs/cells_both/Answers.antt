use Rattle.heightsigns.proofs.Cells.{cells_taken, count_more, cells_more}
use Rattle.heightsigns.specs.Steps.Taken.{taken_of, entry_of, count_of, cells_of}
use lib.ListN.{length, get_or, length-set}
use Prim.Native.Nat.{ℕ, ◌+◌, ◌*◌, ◌≤◌, ◌<◌}
use mathlib.Core.Bool.{Bool, true, false, cond}
use mathlib.Core.Path.{◌≡◌, refl, ap, ap₂, ◌∙◌}
use native.Mathlib.Omega.{arith}
use borrow.Author.Rules.{rules}
use Rattle.heightsigns.proofs.cells_both.Goals as goal
use Rattle.heightsigns.proofs.cells_both.Goals.{After-entry-k, Start}

-- as many as are taken are at most c, and so below the width while a cell is left
few : (s : Start) (rises : Bool) (n c : ℕ) → c ≤ s.args.wide
    → n ≡ count_of rises s.args.word s.args.heights.now s.args.first c → n ≤ c
few s rises n c h e = let a = s.args in
    let t = cells_taken a.grows rises a.word a.o a.heights.now a.first a.rising.now
    c (omega (arith, s.requires.wide_in_bounds.0)) in
    omega (arith, t.few)

one_at_most : (b : Bool) → cond b 1 0 ≤ 1
one_at_most true = omega arith
one_at_most false = omega arith

-- where a cell's number is stored, there is room for it
up : (c : After-entry-k) → c.loop-c.n
    < c.args.wide
up c = let l = c.loop-c in
    omega (
      arith,
      few c.before.before.before.before.before.before.before.before.before.before true l.n l.c
          l.invariant.0 l.invariant.2.0,
    )

down : (c : After-entry-k) → c.loop-c.m
    < c.args.wide
down c = let l = c.loop-c in
    omega (
      arith,
      few c.before.before.before.before.before.before.before.before.before.before false l.m l.c
          l.invariant.0 l.invariant.2.1,
    )

rooms : (c : After-entry-k)
    → let a = c.args in
    (a.wide ≤ length a.rising.now) × (a.wide ≤ length a.others.now)
rooms c = c.requires.wide_in_bounds

pub loop-c-init : goal.loop-c-init
unfolding count_of cells_of
loop-c-init c = (search rules, (refl, refl), (refl, refl), (refl, refl))

pub entry-k-requires : goal.entry-k-requires
entry-k-requires c = (c.cell_place.ensures.1, c.size_of.ensures.1)

pub offset_bounds-rising-n : goal.offset_bounds-rising-n
offset_bounds-rising-n c = omega (arith, up c, (rooms c).0, c.loop-c.invariant.1.0)

pub bounds-rising-n : goal.bounds-rising-n
bounds-rising-n c = omega (arith, up c, (rooms c).0, c.loop-c.invariant.1.0)

pub offset_bounds-others-m : goal.offset_bounds-others-m
offset_bounds-others-m c = omega (arith, down c, (rooms c).1, c.loop-c.invariant.1.1)

pub bounds-others-m : goal.bounds-others-m
bounds-others-m c = omega (arith, down c, (rooms c).1, c.loop-c.invariant.1.1)

pub overflow_add-n : goal.overflow_add-n
overflow_add-n c =
    let l = c.loop-c in
    let a = c.args in
    omega (
      arith,
      up (goal.at.overflow_add-n c).After-entry-k,
      c.takes-n.ensures,
      one_at_most (taken_of a.word l.c true c.height_at-g.result),
    )

pub overflow_add-m : goal.overflow_add-m
overflow_add-m c =
    let l = c.loop-c in
    let a = c.args in
    omega (
      arith,
      down (goal.at.overflow_add-m c).After-entry-k,
      c.takes-m.ensures,
      one_at_most (taken_of a.word l.c false c.height_at-g.result),
    )

pub loop-c-preserved : goal.loop-c-preserved
loop-c-preserved c =
    let l = c.loop-c in
    let a = c.args in
    let g = c.height_at-g.ensures in
    let k : c.entry-k.result ≡ entry_of a.grows a.o l.c
    (get_or a.heights.now (a.first + l.c) 0) = c.entry-k.ensures
    ∙ ap₂ (λ p q. 256 * q + p) c.size_of.ensures.0
    c.cell_place.ensures.0 ∙ ap (entry_of a.grows a.o l.c) g in (
      search rules,
      (simp length-set l.invariant.1.0, simp length-set l.invariant.1.1),
      (
        count_more a.grows true a.word a.o a.heights.now a.first a.rising.now
            l.c l.n _ _ l.invariant.2.0 g c.takes-n.ensures,
        count_more a.grows false a.word a.o a.heights.now a.first a.others.now
            l.c l.m _ _ l.invariant.2.1 g c.takes-m.ensures,
      ),
      (
        cells_more a.grows true a.word a.o a.heights.now a.first a.rising.now
            l.c l.n _ l.rising l.invariant.2.0 l.invariant.3.0 k,
        cells_more a.grows false a.word a.o a.heights.now a.first a.others.now
            l.c l.m _ l.others l.invariant.2.1 l.invariant.3.1 k,
      ),
    )

pub shape_of-rising : goal.shape_of-rising
shape_of-rising c = c.loop-c.invariant.1.0

pub shape_of-others : goal.shape_of-others
shape_of-others c = c.loop-c.invariant.1.1

pub returns : goal.returns
returns c =
    let a = c.args in
    let l = c.loop-c in
    let e : l.c ≡ a.wide = omega arith in record {
      counts = (
        l.invariant.2.0 ∙ ap (count_of true a.word a.heights.now a.first) e,
        l.invariant.2.1 ∙ ap (count_of false a.word a.heights.now a.first) e,
      );
      up = l.invariant.3.0 ∙ ap (cells_of a.grows true a.word a.o a.heights.now a.first
          a.rising.now) e;
      down = l.invariant.3.1 ∙ ap (cells_of a.grows false a.word a.o a.heights.now a.first
          a.others.now) e;
    }
