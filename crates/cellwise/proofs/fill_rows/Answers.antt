use Rattle.picture.proofs.Sizes.{row_room}
use Rattle.basics.proofs.Lists.{part_length}
use Rattle.cellwise.proofs.Made.{row_made}
use Rattle.cellwise.specs.Steps.Made.{Down}
use Prim.Native.Nat.{◌+◌, ◌*◌, ◌≤◌, ◌<◌}
use mathlib.Core.Path.{◌≡◌, sym, ◌∙◌, subst}
use native.Mathlib.Omega.{arith}
use lib.ListN.{length}
use Rattle.cellwise.proofs.fill_rows.Goals as goal
use Rattle.cellwise.proofs.fill_rows.Goals.{In-loop-y}

-- in the loop: row y lies in the buffer
room : (c : In-loop-y)
    → c.loop-y.y * c.args.w
    + c.args.w ≤ length c.loop-y.t
room c = let l : c.loop-y.y < c.args.h = omega (arith, c.requires.from_le_to.1) in
    omega (arith, row_room c.args.w l, c.loop-y.invariant.1.1.long)

pub loop-y-init : goal.loop-y-init
loop-y-init c = (omega arith, (c.requires.from_le_to.0, c.requires.down))

pub overflow_mul-a : goal.overflow_mul-a
overflow_mul-a c = omega (arith, room c)

pub overflow_add-z : goal.overflow_add-z
overflow_add-z c = omega (arith, room c)

pub slice_bounds-make_row-end : goal.slice_bounds-make_row-end
slice_bounds-make_row-end c = room (goal.at.slice_bounds-make_row-end c).In-loop-y

pub make_row-requires : goal.make_row-requires
make_row-requires c =
    record {
      ready = c.requires.ready;
      t_len = (
        part_length c.loop-y.t
            _ _ (room (goal.at.make_row-requires c).In-loop-y),
        omega (arith, c.requires.from_le_to.1),
      );
    }

pub loop-y-preserved : goal.loop-y-preserved
loop-y-preserved c =
    let a = c.args in
    let l = c.loop-y in
    let r = c.make_row in (
      omega (arith, l.invariant.0),
      (
        omega arith,
        row_made a.grows a.s.now a.w a.h a.o a.words.now l.t
            (λ i. let f = c.type_inv.s i in omega arith) a.first a.last l.y
            (omega (arith, c.requires.from_le_to.1)) r.new.t r.ensures l.invariant.1.1,
      ),
    )

pub shape_of-t : goal.shape_of-t
shape_of-t c = c.loop-y.invariant.1.1.long ∙ sym c.requires.down.long

pub returns : goal.returns
returns c =
    let a = c.args in
    let l = c.loop-y in
    let e : l.y ≡ a.to = omega (arith, l.invariant.1.0) in
    subst (λ y. Down a.grows a.s.now a.w a.h a.o a.words.now a.first a.last y l.t) e
    l.invariant.1.1
