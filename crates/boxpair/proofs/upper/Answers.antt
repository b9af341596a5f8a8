-- Stands on what rows y and z see, joined, on the padded row of the first, and on its windows.
-- Rows y and z lie in the target, and what is left in row y is the result's: `upper_row_lem`.
use Rattle.boxpair.specs.Steps.Put.{padded_by, upper_row}
use Rattle.boxseen.specs.Steps.Seen.{upper_at, lower_at, lower_row}
use Rattle.boxrow.specs.Steps.Along.{along_at, left_along}
use Rattle.boxlaw.proofs.Padded.{side_few}
use Rattle.boxpair.proofs.Rows.{lead_ready, padded_as, upper_row_lem, put_as, row_in, room_in, few_in}
use Rattle.basics.specs.Bytes.{Bytes}
use Rattle.basics.specs.Lists.{firsts}
use Rattle.basics.proofs.Lists.{part_length}
use Rattle.picture.specs.Bytes.{row_of}
use Rattle.picture.specs.Frame.{row_bytes}
use Rattle.joins.specs.Steps.Joins.{depth_if}
use borrow.Rule.Slice.PartMut.{put_mid, same_len_mid}
use lib.ListN.{length}
use Prim.Native.Nat.{◌+◌, ◌-◌, ◌*◌, ◌≤◌}
use mathlib.Core.Path.{◌≡◌, refl, sym, ap, ◌∙◌, subst}
use native.Mathlib.Omega.{arith}
use Rattle.boxpair.proofs.upper.Goals as goal

pub overflow_add-e : goal.overflow_add-e
overflow_add-e c =
    omega (
      arith,
      few_in c.requires.box_fit c.bytes_of-n.ensures,
      c.side_of-side.ensures,
      side_few c.args.packed,
    )

pub overflow_mul-a : goal.overflow_mul-a
overflow_mul-a c =
    omega (arith, row_in c.requires.box_fit c.bytes_of-n.ensures c.args.y (omega (arith, c.requires.y_le_z)))

pub overflow_add-m : goal.overflow_add-m
overflow_add-m c =
    omega (arith, row_in c.requires.box_fit c.bytes_of-n.ensures c.args.y (omega (arith, c.requires.y_le_z)))

pub overflow_mul-c : goal.overflow_mul-c
overflow_mul-c c =
    omega (arith, row_in c.requires.box_fit c.bytes_of-n.ensures c.args.z c.requires.y_le_z.1.1)

pub overflow_add-d : goal.overflow_add-d
overflow_add-d c =
    omega (arith, row_in c.requires.box_fit c.bytes_of-n.ensures c.args.z c.requires.y_le_z.1.1)

pub margins-requires : goal.margins-requires
margins-requires c = (
  room_in c.requires.box_fit c.bytes_of-n.ensures refl,
  few_in c.requires.box_fit c.bytes_of-n.ensures,
)

pub slice_bounds-lead-end : goal.slice_bounds-lead-end
slice_bounds-lead-end c =
    let room = room_in c.requires.box_fit c.bytes_of-n.ensures c.side_of-side.ensures in
    let r : c.side_of-side.result + c.bytes_of-n.result ≤ length c.margins.new.b =
    omega (arith, room, c.margins.auto.b) in r

pub slice_bounds-lead-end-2 : goal.slice_bounds-lead-end-2
slice_bounds-lead-end-2 c = row_in c.requires.box_fit c.bytes_of-n.ensures c.args.z c.requires.y_le_z.1.1

pub lead-requires : goal.lead-requires
lead-requires c =
    let a = c.args in
    let m = c.margins in
    let p = c.requires in
    let n = c.bytes_of-n.ensures in
    let room = room_in p.box_fit n c.side_of-side.ensures in
    lead_ready _ _ _ _ _ a.h a.o.origin.bin.0 a.o.h a.y a.z
    (part_length m.new.b c.side_of-side.result c.bytes_of-n.result (omega (arith, room, m.auto.b)))
    (part_length a.t.now (a.z * c.bytes_of-n.result) c.bytes_of-n.result
    (row_in p.box_fit n a.z p.y_le_z.1.1))
    n p.box_fit.source p.box_fit.few_bins p.box_fit.few_high p.box_fit.row p.y_le_z.0 p.y_le_z.1.0
    p.y_le_z.1.1

pub slice_bounds-along-end : goal.slice_bounds-along-end
slice_bounds-along-end c =
    let l = c.lead in
    let k = c.bytes_of-n.result in
    subst (λ m. c.args.y * k + k ≤ m)
    (sym (same_len_mid (c.args.z * k) (c.args.z * k + k - c.args.z * k) c.args.t.now
    l.new.other l.auto.other))
    (row_in c.requires.box_fit c.bytes_of-n.ensures c.args.y (omega (arith, c.requires.y_le_z)))

pub along-requires : goal.along-requires
along-requires c =
    let m = c.margins in
    let l = c.lead in
    let p = c.requires.box_fit in
    let n = c.bytes_of-n.ensures in
    let k = c.bytes_of-n.result in
    let z = c.args.z * k in
    let other = put_mid z (z + k - z) c.args.t.now l.new.other in
    record {
      some_points = p.some_pings;
      few_points = p.few_pings;
      room = same_len_mid c.side_of-side.result (c.side_of-side.result + k - c.side_of-side.result)
          m.new.b
          l.new.one l.auto.one ∙ m.auto.b ∙ p.room;
      target = part_length other (c.args.y * k) k
          (subst (λ j. c.args.y * k + k ≤ j)
          (sym (same_len_mid z (z + k - z) c.args.t.now l.new.other
          l.auto.other))
          (row_in p n c.args.y (omega (arith, c.requires.y_le_z)))) ∙ n;
      few_wide = p.few_wide;
      origin_in = p.column;
    }

pub shape_of-t : goal.shape_of-t
shape_of-t c =
    let a = c.args in
    let l = c.lead in
    let k = c.bytes_of-n.result in
    same_len_mid (a.y * k) (a.y * k + k - a.y * k)
    (put_mid (a.z * k) (a.z * k + k - a.z * k) a.t.now l.new.other)
    c.along.new.t c.along.auto.t
    ∙ same_len_mid (a.z * k) (a.z * k + k - a.z * k) a.t.now l.new.other
    l.auto.other

pub shape_of-b : goal.shape_of-b
shape_of-b c =
    let l = c.lead in
    let k = c.bytes_of-n.result in
    let f = c.side_of-side.result in
    c.along.auto.b
    ∙ same_len_mid f (f + k - f) c.margins.new.b l.new.one l.auto.one
    ∙ c.margins.auto.b

pub returns : goal.returns
unfolding lower_row upper_row
returns c =
    let a = c.args in
    let m = c.margins in
    let l = c.lead in
    let n = c.bytes_of-n.ensures in
    let room = room_in c.requires.box_fit n c.side_of-side.ensures in
    let k = row_bytes (depth_if a.packed) a.w in
    let long = part_length m.new.b c.side_of-side.result c.bytes_of-n.result
    (omega (arith, room, m.auto.b)) ∙ n in
    let pad = padded_as a.packed a.grows c.bytes_of-n.result k c.side_of-side.result a.b.now
    m.new.b l.new.one l.new.one n c.side_of-side.ensures m.ensures
    refl in
    let seen = l.ensures.first
    ∙ ap (λ j. firsts (upper_at a.packed a.grows a.s.now j a.h a.o.origin.bin.0 a.o.h
    a.y a.z) j) long in record {
      rows = put_as c.bytes_of-n.result k a.y a.z a.t.now l.new.other _
          c.along.new.t _ n
          (l.ensures.second
          ∙ ap (λ j. firsts (lower_at a.packed a.grows a.s.now j a.h a.o.origin.bin.0
          a.o.h a.y a.z) j) long)
          (c.along.ensures.row
          ∙ ap (λ x. row_of (depth_if a.packed) (along_at a.packed a.grows a.w
          a.o.origin.ping.0 a.o.w x) a.w) pad
          ∙ upper_row_lem a.packed a.grows a.s.now _ _ a.w a.h a.o a.b.now c.requires.box_fit
          a.y a.z c.requires.y_le_z.0 c.requires.y_le_z.1.0 c.requires.y_le_z.1.1 l.new.one seen
          (subst Bytes pad c.along.ensures.known));
      left = c.along.ensures.left
          ∙ ap (left_along a.packed a.grows a.w a.o.origin.ping.0 a.o.w)
          (pad ∙ ap (padded_by a.packed a.grows k a.b.now) seen);
    }
