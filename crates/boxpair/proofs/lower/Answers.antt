-- Stands on the padded row of what row z holds, and on its windows.
-- Row z is read before it is written: what the windows are made of is the row as it came.
use Rattle.boxrow.specs.Steps.Along.{along_at, left_along}
use Rattle.boxlaw.proofs.Padded.{side_few}
use Rattle.boxpair.proofs.Rows.{padded_as, put_one, row_in, room_in, few_in}
use Rattle.basics.specs.Bytes.{Bytes}
use Rattle.basics.specs.Lists.{firsts}
use Rattle.basics.proofs.Lists.{part_length}
use Rattle.picture.specs.Bytes.{row_of}
use Rattle.picture.specs.Frame.{row_bytes}
use Rattle.joins.specs.Steps.Joins.{depth_if}
use lib.ListN.{length, get_or}
use Prim.Native.Nat.{◌+◌, ◌*◌, ◌≤◌}
use mathlib.Core.Path.{◌≡◌, refl, sym, ap, ap₂, ◌∙◌, subst}
use native.Mathlib.Omega.{arith}
use Rattle.boxpair.proofs.lower.Goals as goal

pub overflow_add-e : goal.overflow_add-e
overflow_add-e c =
    omega (
      arith,
      few_in c.requires.box_fit c.bytes_of-n.ensures,
      c.side_of-side.ensures,
      side_few c.args.packed,
    )

pub overflow_mul-c : goal.overflow_mul-c
overflow_mul-c c =
    omega (
      arith,
      row_in c.requires.box_fit c.bytes_of-n.ensures c.args.z c.requires.z_lt_h,
    )

pub overflow_add-d : goal.overflow_add-d
overflow_add-d c =
    omega (
      arith,
      row_in c.requires.box_fit c.bytes_of-n.ensures c.args.z c.requires.z_lt_h,
    )

pub margins-requires : goal.margins-requires
margins-requires c = (
  room_in c.requires.box_fit c.bytes_of-n.ensures refl,
  few_in c.requires.box_fit c.bytes_of-n.ensures,
)

pub slice_bounds-copy_from-end : goal.slice_bounds-copy_from-end
slice_bounds-copy_from-end c =
    let room = room_in c.requires.box_fit c.bytes_of-n.ensures c.side_of-side.ensures in
    let r : c.side_of-side.result + c.bytes_of-n.result ≤ length c.margins.new.b =
    omega (arith, room, c.margins.auto.b) in r

pub copy_from-requires : goal.copy_from-requires
copy_from-requires c =
    let m = c.margins in
    let room = room_in c.requires.box_fit c.bytes_of-n.ensures c.side_of-side.ensures in
    let long = part_length m.new.b c.side_of-side.result c.bytes_of-n.result
    (omega (arith, room, m.auto.b)) in
    subst (λ k. c.args.z * c.bytes_of-n.result + k ≤ length c.args.t.now) (sym long)
    (row_in c.requires.box_fit c.bytes_of-n.ensures c.args.z c.requires.z_lt_h)

pub slice_bounds-along-end : goal.slice_bounds-along-end
slice_bounds-along-end c =
    row_in c.requires.box_fit c.bytes_of-n.ensures c.args.z c.requires.z_lt_h

pub returns : goal.returns
returns c =
    let a = c.args in
    let m = c.margins in
    let f = c.copy_from in
    let n = c.bytes_of-n.ensures in
    let k = row_bytes (depth_if a.packed) a.w in
    let room = room_in c.requires.box_fit n c.side_of-side.ensures in
    let long = part_length m.new.b c.side_of-side.result c.bytes_of-n.result
    (omega (arith, room, m.auto.b)) ∙ n in
    let row = f.ensures
    ∙ ap₂ (λ z j. firsts (λ i. get_or a.t.now (z + i) 0) j) (ap (λ j. a.z * j) n) long in
    let pad = padded_as a.packed a.grows c.bytes_of-n.result k c.side_of-side.result a.b.now
    m.new.b f.new.row (firsts (λ i. get_or a.t.now (a.z * k + i) 0) k) n c.side_of-side.ensures
    m.ensures row in record {
      row = put_one c.bytes_of-n.result k a.z a.t.now c.along.new.t _ n
          (c.along.ensures.row ∙ ap (λ x. row_of (depth_if a.packed)
          (along_at a.packed a.grows a.w a.o.origin.ping.0 a.o.w x) a.w) pad);
      left = c.along.ensures.left ∙ ap (left_along a.packed a.grows a.w a.o.origin.ping.0 a.o.w) pad;
      known = subst Bytes pad c.along.ensures.known;
    }
